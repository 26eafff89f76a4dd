-- What is read of the fields of a record, one field at a time.
use Rattle.std.proofs.Common.{◌≡◌, ◌∙◌, ◌≤◌, ◌<◌, ◌+◌, ◌⊎◌, inl, inr, ℕ, zero, suc, ℤ, pos, neg_ℤ, List, []}
use Rattle.std.proofs.Common.{◌∷◌, length, drop, map, None, Bool, true, false, Result, Ok, Err, IsErr, refl, sym, ap}
use Rattle.std.proofs.Common.{subst, arith, ◌<ℤ◌, ◌≤ℤ◌}
use Rattle.std.specs.Prelude.{get_or, nat_le, if◌then◌else◌, ⊤}
use Rattle.std.specs.Borrow.{Bor}
use Rattle.std.proofs.lemmas.Int.{ints}
use Rattle.std.proofs.lemmas.List.{drop_more, drop_all}
use Rattle.std.proofs.lemmas.Bool.Decides.{nat_tests}
use Rattle.hex.specs.Hex.{decode_of}
use Rattle.hex.specs.declared.error.FromHexError.{FromHexError}
use Rattle.mm_definitions.specs.Bounds.{IsLong}
use Rattle.mm_definitions.specs.Keys.{Text}
use Rattle.mm_definitions.specs.Numbers.{SpellsNumber, LeadDigits, value_from}
use Rattle.mm_definitions.specs.Reading.{ReadsTo, both_of}
use Rattle.mm_definitions.specs.Fields.{Field, OneOf, NumberFrom, BytesTo, TextOf, AnIdentifier, AContentType, AName}
use Rattle.mm_definitions.specs.Fields.{Value, Whole, Plain, HoldsValue, IsAgainst, AllHold, IsAgainstSome}
use Rattle.mm_definitions.specs.Records.{IsLeast}
use Rattle.mm_definitions.specs.Refusals.{Refusal}
use Rattle.mm_definitions.specs.declared.answers.ReadFault.{ReadFault}
use Rattle.mm_definitions.specs.declared.answers.ReadFault.TheVariants as faults

-- ---- a text spells one number
no_lead : (text : Text) (ds : List ℕ) → text ≡ 45 ∷ ds → LeadDigits text → ⊥
no_lead text ds e h = let g : LeadDigits (45 ∷ ds) = subst LeadDigits e h in absurd (omega (arith, g.0))

no_zero : (text : Text) → text ≡ 48 ∷ [] → LeadDigits text → ⊥
no_zero text e h = let g : LeadDigits (48 ∷ []) = subst LeadDigits e h in absurd (omega (arith, g.0))

zero_minus : (text : Text) (ds : List ℕ) → text ≡ 48 ∷ [] → text ≡ 45 ∷ ds → ⊥
zero_minus text ds a b = let e : 48 ≡ 45 = ap (λ l. get_or l 0 0) (sym a ∙ b) in absurd (omega (arith, e))

pub spells_one : (text : Text) (y z : ℤ) → SpellsNumber text y → SpellsNumber text z → y ≡ z
spells_one text y z (inl a) (inl b) = a.1 ∙ sym b.1
spells_one text y z (inl a) (inr (inl b)) = absurd (no_zero text a.0 b.0)
spells_one text y z (inl a) (inr (inr b)) = absurd (zero_minus text b.0 a.0 b.1)
spells_one text y z (inr (inl a)) (inl b) = absurd (no_zero text b.0 a.0)
spells_one text y z (inr (inl a)) (inr (inl b)) = a.1 ∙ sym b.1
spells_one text y z (inr (inl a)) (inr (inr b)) = absurd (no_lead text b.0 b.1 a.0)
spells_one text y z (inr (inr a)) (inl b) = absurd (zero_minus text a.0 b.0 a.1)
spells_one text y z (inr (inr a)) (inr (inl b)) = absurd (no_lead text a.0 a.1 b.0)
spells_one text y z (inr (inr a)) (inr (inr b)) =
    let same : a.0 ≡ b.0 = ap (λ l. drop 1 l) (sym a.1 ∙ b.1) in
    a.3 ∙ ap (λ ds. neg_ℤ (pos (value_from 0 ds))) same ∙ sym b.3

-- ---- no number is against a field that holds a value, and one at most against any
within_not_beyond : (low high y z : ℤ) → y ≡ z → (low ≤ℤ y) × (y ≤ℤ high) → (z <ℤ low) ⊎ (high <ℤ z) → ⊥
within_not_beyond low high y z e h (inl out) = omega (arith, ints, e, h.0, out)
within_not_beyond low high y z e h (inr out) = omega (arith, ints, e, h.1, out)

not_both : (r : Result (List ℕ) FromHexError) (bytes : List ℕ) → r ≡ Ok bytes → IsErr r → ⊥
not_both (Ok b) bytes e h = absurd (cc)
not_both (Err f) bytes e h = absurd (cc)

pub one_value : (r : Result (List ℕ) FromHexError) (a b : List ℕ) → r ≡ Ok a → r ≡ Ok b → a ≡ b
one_value r a b e f = cc

pub not_against : (f : Field) (t : Text) (v : Value) (n : ℕ) → HoldsValue f t v → IsAgainst f t n → ⊥
not_against (OneOf words) t (Plain v) n h a = a.1 h.1
not_against (OneOf words) t (Whole v) n h a = h
not_against (NumberFrom low high) t (Plain v) n h a = h
not_against (NumberFrom low high) t (Whole z) n h (inl a) = a.1 z h.0
not_against (NumberFrom low high) t (Whole z) n h (inr a) = within_not_beyond low high z a.1
    (spells_one t z a.1 h.0 a.2) h.1 a.3
not_against (BytesTo most) t (Whole v) n h a = h
not_against (BytesTo most) t (Plain v) n h (inl a) = not_both (decode_of t) v h.0 a.1
not_against (BytesTo most) t (Plain v) n h (inr a) =
    a.3 (subst (IsLong 1 most) (one_value (decode_of t) v a.1 h.0 a.2) h.1)
not_against (TextOf least most) t (Whole v) n h a = h
not_against (TextOf least most) t (Plain v) n h a = a.1 h.1
not_against AnIdentifier t (Whole v) n h a = h
not_against AnIdentifier t (Plain v) n h a = a.1 h.1
not_against AContentType t (Whole v) n h a = h
not_against AContentType t (Plain v) n h a = a.1 h.1
not_against AName t (Whole v) n h a = h
not_against AName t (Plain v) n h a = a.1 h.1

pub one_against : (f : Field) (t : Text) (n m : ℕ) → IsAgainst f t n → IsAgainst f t m → n ≡ m
one_against (OneOf words) t n m a b = a.0 ∙ sym b.0
one_against (NumberFrom low high) t n m (inl a) (inl b) = a.0 ∙ sym b.0
one_against (NumberFrom low high) t n m (inl a) (inr b) = absurd (a.1 b.1 b.2)
one_against (NumberFrom low high) t n m (inr a) (inl b) = absurd (b.1 a.1 a.2)
one_against (NumberFrom low high) t n m (inr a) (inr b) = a.0 ∙ sym b.0
one_against (BytesTo most) t n m (inl a) (inl b) = a.0 ∙ sym b.0
one_against (BytesTo most) t n m (inl a) (inr b) = absurd (not_both (decode_of t) b.1 b.2 a.1)
one_against (BytesTo most) t n m (inr a) (inl b) = absurd (not_both (decode_of t) a.1 a.2 b.1)
one_against (BytesTo most) t n m (inr a) (inr b) = a.0 ∙ sym b.0
one_against (TextOf least most) t n m a b = a.0 ∙ sym b.0
one_against AnIdentifier t n m a b = a.0 ∙ sym b.0
one_against AContentType t n m a b = a.0 ∙ sym b.0
one_against AName t n m a b = a.0 ∙ sym b.0

-- ---- one field, and then more
pub none_against : (fs : List Field) (ts : List Text) (vs : List Value) (n : ℕ) → AllHold fs ts vs
    → IsAgainstSome fs ts n → ⊥
none_against [] [] [] n h a = a
none_against [] [] (v ∷ vs) n h a = h
none_against [] (t ∷ ts) vs n h a = h
none_against (f ∷ fs) [] vs n h a = h
none_against (f ∷ fs) (t ∷ ts) [] n h a = h
none_against (f ∷ fs) (t ∷ ts) (v ∷ vs) n h (inl a) = not_against f t v n h.0 a
none_against (f ∷ fs) (t ∷ ts) (v ∷ vs) n h (inr a) = none_against fs ts vs n h.1 a

pub read_last : {A : Type 0} (value : A → Value) (f : Field) (t : Text) (a : Result A ReadFault)
    → ReadsTo (λ x. HoldsValue f t (value x)) (IsAgainst f t) a
    → ReadsTo (λ x. AllHold (f ∷ []) (t ∷ []) (value x ∷ [])) (IsLeast (IsAgainstSome (f ∷ []) (t ∷ []))) a
read_last value f t (Ok x) h = (h, tt)
read_last value f t (Err faults.Memory) h = tt
read_last value f t (Err (faults.Refused r)) h = (h.0, record { is_held = inl h.1; is_least = least })
  where
    least : (m : ℕ) → IsAgainst f t m ⊎ ⊥ → r.number ≤ m
    least m (inl b) = let e : r.number ≡ m = one_against f t r.number m h.1 b in omega (arith, e)
    least m (inr b) = absurd b

pub first_holds : (f : Field) (fs : List Field) (t : Text) (ts : List Text) (v : Value) (n : ℕ) → HoldsValue f t v
    → IsLeast (IsAgainstSome fs ts) n
    → IsLeast (IsAgainstSome (f ∷ fs) (t ∷ ts)) n
first_holds f fs t ts v n h l = record { is_held = inr l.is_held; is_least = least }
  where
    least : (m : ℕ) → IsAgainst f t m ⊎ IsAgainstSome fs ts m → n ≤ m
    least m (inl b) = absurd (not_against f t v m h b)
    least m (inr b) = l.is_least m b

pub rest_holds : (f : Field) (fs : List Field) (t : Text) (ts : List Text) (vs : List Value) (n : ℕ) → IsAgainst f t n
    → AllHold fs ts vs
    → IsLeast (IsAgainstSome (f ∷ fs) (t ∷ ts)) n
rest_holds f fs t ts vs n a h = record { is_held = inl a; is_least = least }
  where
    least : (m : ℕ) → IsAgainst f t m ⊎ IsAgainstSome fs ts m → n ≤ m
    least m (inl b) = let e : n ≡ m = one_against f t n m a b in omega (arith, e)
    least m (inr b) = absurd (none_against fs ts vs m h b)

pub first_lower : (f : Field) (fs : List Field) (t : Text) (ts : List Text) (n k : ℕ) → IsAgainst f t n
    → IsLeast (IsAgainstSome fs ts) k → n ≤ k
    → IsLeast (IsAgainstSome (f ∷ fs) (t ∷ ts)) n
first_lower f fs t ts n k a l low = record { is_held = inl a; is_least = least }
  where
    least : (m : ℕ) → IsAgainst f t m ⊎ IsAgainstSome fs ts m → n ≤ m
    least m (inl b) = let e : n ≡ m = one_against f t n m a b in omega (arith, e)
    least m (inr b) = omega (arith, low, l.is_least m b)

pub rest_lower : (f : Field) (fs : List Field) (t : Text) (ts : List Text) (n k : ℕ) → IsAgainst f t n
    → IsLeast (IsAgainstSome fs ts) k → k ≤ n
    → IsLeast (IsAgainstSome (f ∷ fs) (t ∷ ts)) k
rest_lower f fs t ts n k a l low = record { is_held = inr l.is_held; is_least = least }
  where
    least : (m : ℕ) → IsAgainst f t m ⊎ IsAgainstSome fs ts m → k ≤ m
    least m (inl b) = let e : n ≡ m = one_against f t n m a b in omega (arith, e, low)
    least m (inr b) = l.is_least m b

module _ {A B : Type 0} (value : A → Value) (values : B → List Value) (f : Field) (fs : List Field) (t : Text)
    (ts : List Text) where
  abbrev pub Reads : Result (A × B) ReadFault → Type 0
  Reads = ReadsTo (λ p. AllHold (f ∷ fs) (t ∷ ts) (value p.0 ∷ values p.1)) (IsLeast (IsAgainstSome (f ∷ fs) (t ∷ ts)))

  lower : (one other : Refusal) (least : Bool) → nat_le one.number other.number ≡ least → (one.piece ≡ None)
      × IsAgainst f t one.number
      → (other.piece ≡ None) × IsLeast (IsAgainstSome fs ts) other.number
      → Reads (Err (faults.Refused (if least then one else other)))
  lower one other true e a l = (
    a.0,
    first_lower f fs t ts one.number other.number a.1 l.1
        (grind (arith, nat_tests, e)),
  )
  lower one other false e a l = (
    l.0,
    rest_lower f fs t ts one.number other.number a.1 l.1
        (grind (arith, nat_tests, e)),
  )

  pub read_both : (a : Result A ReadFault) (b : Result B ReadFault)
      → ReadsTo (λ x. HoldsValue f t (value x)) (IsAgainst f t) a
      → ReadsTo (λ y. AllHold fs ts (values y)) (IsLeast (IsAgainstSome fs ts)) b → Reads (both_of a b)
  read_both (Ok x) (Ok y) h k = (h, k)
  read_both (Ok x) (Err faults.Memory) h k = tt
  read_both (Ok x) (Err (faults.Refused r)) h k = (k.0, first_holds f fs t ts (value x) r.number h k.1)
  read_both (Err faults.Memory) (Ok y) h k = tt
  read_both (Err faults.Memory) (Err fault) h k = tt
  read_both (Err (faults.Refused r)) (Ok y) h k = (h.0, rest_holds f fs t ts (values y) r.number h.1 k)
  read_both (Err (faults.Refused r)) (Err faults.Memory) h k = tt
  read_both (Err (faults.Refused r)) (Err (faults.Refused s)) h k = lower r s (nat_le r.number s.number) refl h k

-- a field, and a list of fields, as they were read
pub record IsField {A : Type 0} (f : Field) (t : Text) (a : Result A ReadFault) : Type 0 where
  pub value : A → Value
  pub reads : ReadsTo (λ x. HoldsValue f t (value x)) (IsAgainst f t) a

pub record AreFields {A : Type 0} (fs : List Field) (ts : List Text) (a : Result A ReadFault) : Type 0 where
  pub values : A → List Value
  pub reads : ReadsTo (λ x. AllHold fs ts (values x)) (IsLeast (IsAgainstSome fs ts)) a

abbrev pub the_last : {A : Type 0} {a : Result A ReadFault} (f : Field) (t : Text) → IsField f t a
    → AreFields (f ∷ []) (t ∷ []) a
the_last {a = a} f t h = record { values = λ x. h.value x ∷ []; reads = read_last h.value f t a h.reads }

-- as `both` answers
abbrev pub and_then : {A B : Type 0} {a : Result A ReadFault} {b : Result B ReadFault} {r : Result (A × B) ReadFault}
    {fs : List Field} {ts : List Text} (f : Field) (t : Text)
    → IsField f t a → r ≡ both_of a b → AreFields fs ts b → AreFields (f ∷ fs) (t ∷ ts) r
and_then {a = a} {b = b} {fs = fs} {ts = ts} f t h e k = record {
  values = λ p. h.value p.0 ∷ k.values p.1;
  reads = subst (Reads h.value k.values f fs t ts) (sym e) (read_both h.value k.values f fs t ts a b h.reads k.reads);
}

-- no number is below 10
at_least_ten : (f : Field) (t : Text) (n : ℕ) → IsAgainst f t n → 10 ≤ n
at_least_ten (OneOf words) t n a = omega (arith, a.0)
at_least_ten (NumberFrom low high) t n (inl a) = omega (arith, a.0)
at_least_ten (NumberFrom low high) t n (inr a) = omega (arith, a.0)
at_least_ten (BytesTo most) t n (inl a) = omega (arith, a.0)
at_least_ten (BytesTo most) t n (inr a) = omega (arith, a.0)
at_least_ten (TextOf least most) t n a = omega (arith, a.0)
at_least_ten AnIdentifier t n a = omega (arith, a.0)
at_least_ten AContentType t n a = omega (arith, a.0)
at_least_ten AName t n a = omega (arith, a.0)

pub all_at_least_ten : (fs : List Field) (ts : List Text) (n : ℕ) → IsAgainstSome fs ts n → 10 ≤ n
all_at_least_ten [] [] n a = absurd a
all_at_least_ten [] (t ∷ ts) n a = omega (arith, a)
all_at_least_ten (f ∷ fs) [] n a = omega (arith, a)
all_at_least_ten (f ∷ fs) (t ∷ ts) n (inl a) = at_least_ten f t n a
all_at_least_ten (f ∷ fs) (t ∷ ts) n (inr a) = all_at_least_ten fs ts n a

-- ---- the texts of so many fields
abbrev pub texts_of : List (Bor Text) → List Text
texts_of = map (λ f. f.now)

abbrev pub none : Bor Text
none = record { ref_ptr = (0, 0); now = [] }

abbrev pub text_at : List (Bor Text) → ℕ → Text
text_at xs i = (get_or xs i none).now

pub one_more : (xs : List (Bor Text)) (i : ℕ) → i < length xs → texts_of (drop i xs) ≡ text_at xs i
    ∷ texts_of (drop (i + 1) xs)
one_more xs i h = rw (drop_more xs i none h) refl

no_more : (xs : List (Bor Text)) (i : ℕ) → length xs ≤ i → texts_of (drop i xs) ≡ []
no_more xs i h = rw (drop_all i xs h) refl

-- so many texts, from the i-th on
abbrev pub listed : List (Bor Text) → ℕ → ℕ → List Text
listed xs i zero = []
listed xs i (suc n) = text_at xs i ∷ listed xs (i + 1) n

pub listed_from : (xs : List (Bor Text)) (i n : ℕ) → length xs ≡ i + n → texts_of (drop i xs) ≡ listed xs i n
listed_from xs i zero e = no_more xs i (omega arith)
listed_from xs i (suc n) e = one_more xs i (omega arith)
    ∙ ap (λ l. text_at xs i ∷ l) (listed_from xs (i + 1) n (omega arith))

pub texts_are : (xs : List (Bor Text)) (n : ℕ) → n ≤ length xs → length xs < n + 1 → texts_of xs ≡ listed xs 0 n
texts_are xs n a b = listed_from xs 0 n (omega arith)

-- ---- what a reader of a record answers
-- the fields are as many as the form asks, and one of them is refused
pub refuses : {A : Type 0} {fs : List Field} {r : Result A ReadFault} {fault : ReadFault} (xs : List (Bor Text)) (n : ℕ)
    → n ≤ length xs → length xs < n + 1 → r ≡ Err fault → AreFields fs (listed xs 0 n) r
    → ReadsTo {A = ⊤} (λ _. ⊤) (IsLeast (IsAgainstSome fs (texts_of xs))) (Err fault)
refuses {fs = fs} {fault = fault} xs n low high e h =
    subst (λ ts. ReadsTo {A = ⊤} (λ _. ⊤) (IsLeast (IsAgainstSome fs ts)) (Err fault)) (sym (texts_are xs n low high))
    (subst (ReadsTo (λ x. AllHold fs (listed xs 0 n) (h.values x)) (IsLeast (IsAgainstSome fs (listed xs 0 n)))) e
    h.reads)

-- the fields are those that the form asks
pub holds : {A : Type 0} {fs : List Field} {ts : List Text} {r : Result A ReadFault} {v : A} → r ≡ Ok v
    → (h : AreFields fs ts r) → AllHold fs ts (h.values v)
holds {fs = fs} {ts = ts} e h = subst (ReadsTo (λ x. AllHold fs ts (h.values x)) (IsLeast (IsAgainstSome fs ts))) e
    h.reads
