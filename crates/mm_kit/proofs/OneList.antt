-- A folder has one list.
use Rattle.std.proofs.Common.{◌≡◌, ◌∙◌, ◌⊎◌, inl, inr, ◌≤◌, ◌+◌, ◌++◌, ℕ, pos, List, [], ◌∷◌, length, Option, Some}
use Rattle.std.proofs.Common.{None, Result, Ok, Err, refl, sym, ap, subst, arith}
use Rattle.std.proofs.lemmas.Int.{ints}
use Rattle.mm_definitions.specs.Bounds.{current, IsId}
use Rattle.mm_definitions.specs.Fields.{Whole}
use Rattle.mm_definitions.specs.Records.{id_field}
use Rattle.mm_definitions.proofs.ReadingFacts.{not_against}
use Rattle.mm_laws.proofs.Spelled.{none_against_piece, one_least, one_piece}
use Rattle.mm_io.specs.Records.{Record, records_of}
use Rattle.mm_kit.specs.Entries.{HoldsAgainstEntry, IsEntry, IsEntryReadAs, entry_of, file_of, without_file}
use Rattle.mm_kit.specs.Lists.{AreEntries, IsListOf, IsListRead}
use Rattle.mm_kit.specs.declared.entries.KitEntry.{KitEntry}

-- ---- one record

one_entry : (place : ℕ) (r : Record) (a b : KitEntry) → IsEntry place r a → IsEntry place r b → a ≡ b
one_entry place [] a b h k = absurd h
one_entry place (number ∷ r) a b h k = h.5
    ∙ ap (λ q. entry_of q (file_of r)) (one_piece current (without_file r) h.3 k.3 h.4 k.4) ∙ sym k.5

in_range : (place : ℕ) → 1 ≤ place → place ≤ 4096 → IsId (pos place)
in_range place a b = (omega (arith, ints, a), omega (arith, ints, b))

-- no number is against an entry
none_against : (place : ℕ) (r : Record) (e : KitEntry) (n : ℕ) → 1 ≤ place → IsEntry place r e
    → HoldsAgainstEntry place r n → ⊥
none_against place [] e n low h k = h
none_against place (number ∷ r) e n low h (inl k) = not_against id_field number (Whole (pos place)) n
    (h.0, in_range place low h.1) k
none_against place (number ∷ r) e n low h (inr (inl k)) = none_against_piece current (without_file r) h.3 n h.4 k
none_against place (number ∷ r) e n low h (inr (inr (inl k))) = absurd (omega (arith, k.1, h.1))
none_against place (number ∷ r) e n low h (inr (inr (inr (inl k)))) = k.1 h.0
none_against place (number ∷ r) e n low h (inr (inr (inr (inr k)))) = k.1 h.2

one_reading : (place : ℕ) (r : Record) (a b : Result KitEntry ℕ) → 1 ≤ place → IsEntryReadAs place r a
    → IsEntryReadAs place r b → a ≡ b
one_reading place r (Ok a) (Ok b) low h k = ap Ok (one_entry place r a b h.1 k.1)
one_reading place r (Ok a) (Err n) low h (inl k) = absurd (none_against place r a n low h.1 k.1.is_held)
one_reading place r (Ok a) (Err n) low h (inr k) = absurd (k.0 h.0)
one_reading place r (Err n) (Ok b) low (inl h) k = absurd (none_against place r b n low k.1 h.1.is_held)
one_reading place r (Err n) (Ok b) low (inr h) k = absurd (h.0 k.0)
one_reading place r (Err n) (Err m) low (inl h) (inl k) = ap Err (one_least (HoldsAgainstEntry place r) n m h.1 k.1)
one_reading place r (Err n) (Err m) low (inl h) (inr k) = absurd (k.0 h.0)
one_reading place r (Err n) (Err m) low (inr h) (inl k) = absurd (h.0 k.0)
one_reading place r (Err n) (Err m) low (inr h) (inr k) = ap Err (h.1 ∙ sym k.1)

-- ---- the records from a place on

same_head : {A : Type 0} {x y : A} {xs ys : List A} → x ∷ xs ≡ y ∷ ys → x ≡ y
same_head e = cc

same_tail : {A : Type 0} {x y : A} {xs ys : List A} → x ∷ xs ≡ y ∷ ys → xs ≡ ys
same_tail e = cc

-- the first of these records that is refused
record IsRefusedFrom (place : ℕ) (rows : List Record) (at : ℕ × ℕ) : Type 0 where
  before : List Record
  row : Record
  after : List Record
  are : rows ≡ before ++ row ∷ after
  place_is : at.0 ≡ place + length before
  entries : List KitEntry
  read : AreEntries place before entries
  refused : IsEntryReadAs (place + length before) row (Err at.1)

abbrev ListedFrom : ℕ → List Record → Result (List KitEntry) (ℕ × ℕ) → Type 0
ListedFrom place rows (Ok entries) = AreEntries place rows entries
ListedFrom place rows (Err at) = IsRefusedFrom place rows at

-- what a list comes to, by its first record
abbrev First : ℕ → Record → List Record → Result (List KitEntry) (ℕ × ℕ) → Type 0
First place r rows (Ok []) = ⊥
First place r rows (Ok (e ∷ entries)) = IsEntryReadAs place r (Ok e) × ListedFrom (place + 1) rows (Ok entries)
First place r rows (Err at) = (IsEntryReadAs place r (Err at.1) × (at.0 ≡ place))
    ⊎ ((e : KitEntry) × IsEntryReadAs place r (Ok e) × ListedFrom (place + 1) rows (Err at))

opened_refused : (place : ℕ) (r : Record) (rows : List Record) (at : ℕ × ℕ) (before : List Record) (row : Record)
    (after : List Record) (entries : List KitEntry)
    → r ∷ rows ≡ before ++ row ∷ after → at.0 ≡ place + length before
    → AreEntries place before entries → IsEntryReadAs (place + length before) row (Err at.1)
    → First place r rows (Err at)
unfolding AreEntries
opened_refused place r rows at [] row after entries are place_is read refused =
    let here : place + length {A = Record} [] ≡ place = omega arith in
    inl (
      subst (λ x. IsEntryReadAs place x (Err at.1)) (sym (same_head are))
          (subst (λ k. IsEntryReadAs k row (Err at.1)) here refused),
      place_is ∙ here,
    )
opened_refused place r rows at (y ∷ ys) row after [] are place_is read refused = absurd read
opened_refused place r rows at (y ∷ ys) row after (e ∷ es) are place_is read refused =
    let on : place + length (y ∷ ys) ≡ place + 1 + length ys = omega arith in
    inr (
      e,
      subst (λ x. IsEntryReadAs place x (Ok e)) (sym (same_head are)) read.0,
      record {
        before = ys;
        row = row;
        after = after;
        are = same_tail are;
        place_is = place_is ∙ on;
        entries = es;
        read = read.1;
        refused = subst (λ k. IsEntryReadAs k row (Err at.1)) on refused;
      },
    )

opened : (place : ℕ) (r : Record) (rows : List Record) (list : Result (List KitEntry) (ℕ × ℕ))
    → ListedFrom place (r ∷ rows) list → First place r rows list
unfolding AreEntries
opened place r rows (Ok []) h = absurd h
opened place r rows (Ok (e ∷ es)) h = (h.0, h.1)
opened place r rows (Err at) h = opened_refused place r rows at h.before h.row h.after h.entries h.are h.place_is h.read
    h.refused

not_both : {A : Type 0} (place : ℕ) (r : Record) (e : KitEntry) (n : ℕ) → 1 ≤ place → IsEntryReadAs place r (Ok e)
    → IsEntryReadAs place r (Err n) → A
not_both place r e n low h k = absurd (let f : ◌≡◌ {A = Result KitEntry ℕ} (Ok e) (Err n) = one_reading place r (Ok e)
    (Err n) low h k in cc)

none_refused : (place : ℕ) (at : ℕ × ℕ) → IsRefusedFrom place [] at → ⊥
none_refused place at h = by h.before h.are
  where
    by : (before : List Record) → [] ≡ before ++ h.row ∷ h.after → ⊥
    by [] e = absurd (cc e)
    by (x ∷ xs) e = absurd (cc e)

one_of_each : (place : ℕ) (r : Record) (rows : List Record) → 1 ≤ place
    → ((a b : Result (List KitEntry) (ℕ × ℕ)) → ListedFrom (place + 1) rows a → ListedFrom (place + 1) rows b → a ≡ b)
    → (a b : Result (List KitEntry) (ℕ × ℕ)) → First place r rows a → First place r rows b → a ≡ b
one_of_each place r rows low more (Ok []) b h k = absurd h
one_of_each place r rows low more (Ok (e ∷ es)) (Ok []) h k = absurd k
one_of_each place r rows low more (Ok (e ∷ es)) (Ok (f ∷ fs)) h k =
    let first : e ≡ f = let g : ◌≡◌ {A = Result KitEntry ℕ} (Ok e) (Ok f) = one_reading place r (Ok e) (Ok f) low h.0
    k.0 in cc in
    let rest : es ≡ fs = let g : ◌≡◌ {A = Result (List KitEntry) (ℕ × ℕ)} (Ok es) (Ok fs) = more (Ok es) (Ok fs) h.1
    k.1 in cc in
    λ i. Ok (first i ∷ rest i)
one_of_each place r rows low more (Ok (e ∷ es)) (Err at) h (inl k) = not_both place r e at.1 low h.0 k.0
one_of_each place r rows low more (Ok (e ∷ es)) (Err at) h (inr k) =
    absurd (let g : ◌≡◌ {A = Result (List KitEntry) (ℕ × ℕ)} (Ok es) (Err at) = more (Ok es) (Err at) h.1 k.2 in cc)
one_of_each place r rows low more (Err at) (Ok []) h k = absurd k
one_of_each place r rows low more (Err at) (Ok (e ∷ es)) (inl h) k = not_both place r e at.1 low k.0 h.0
one_of_each place r rows low more (Err at) (Ok (e ∷ es)) (inr h) k =
    absurd (let g : ◌≡◌ {A = Result (List KitEntry) (ℕ × ℕ)} (Ok es) (Err at) = more (Ok es) (Err at) k.1 h.2 in cc)
one_of_each place r rows low more (Err at) (Err bt) (inl h) (inl k) =
    let number : at.1 ≡ bt.1 = let g : ◌≡◌ {A = Result KitEntry ℕ} (Err at.1) (Err bt.1) =
    one_reading place r (Err at.1) (Err bt.1) low h.0 k.0 in cc in
    let place_is : at.0 ≡ bt.0 = h.1 ∙ sym k.1 in
    λ i. Err (place_is i, number i)
one_of_each place r rows low more (Err at) (Err bt) (inl h) (inr k) = not_both place r k.0 at.1 low k.1 h.0
one_of_each place r rows low more (Err at) (Err bt) (inr h) (inl k) = not_both place r h.0 bt.1 low h.1 k.0
one_of_each place r rows low more (Err at) (Err bt) (inr h) (inr k) = more (Err at) (Err bt) h.2 k.2

one_from : (rows : List Record) (place : ℕ) → 1 ≤ place → (a b : Result (List KitEntry) (ℕ × ℕ))
    → ListedFrom place rows a → ListedFrom place rows b → a ≡ b
unfolding AreEntries
one_from [] place low (Ok []) (Ok []) h k = refl
one_from [] place low (Ok []) (Ok (f ∷ fs)) h k = absurd k
one_from [] place low (Ok (e ∷ es)) b h k = absurd h
one_from [] place low (Ok []) (Err bt) h k = absurd (none_refused place bt k)
one_from [] place low (Err at) b h k = absurd (none_refused place at h)
one_from (r ∷ rows) place low a b h k = one_of_each place r rows low (one_from rows (place + 1) (omega (arith, low))) a
    b (opened place r rows a h) (opened place r rows b k)

from_one : (rows : List Record) (list : Result (List KitEntry) (ℕ × ℕ)) → IsListRead rows list → ListedFrom 1 rows list
from_one rows (Ok entries) h = h
from_one rows (Err at) h =
    let here : at.0 ≡ 1 + length h.before = omega (arith, h.place_is) in
    record {
      before = h.before;
      row = h.row;
      after = h.after;
      are = h.are;
      place_is = here;
      entries = h.entries;
      read = h.read;
      refused = subst (λ k. IsEntryReadAs k h.row (Err at.1)) here h.refused;
    }

pub one_list : (file : Option (List ℕ)) (a b : Result (List KitEntry) (ℕ × ℕ)) → IsListOf file a → IsListOf file b
    → a ≡ b
one_list None a b h k = h ∙ sym k
one_list (Some bytes) a b (inl h) (inl k) = h.1 ∙ sym k.1
one_list (Some bytes) a b (inl h) (inr k) = absurd (omega (arith, h.0, k.0))
one_list (Some bytes) a b (inr h) (inl k) = absurd (omega (arith, h.0, k.0))
one_list (Some bytes) a b (inr h) (inr k) = one_from (records_of bytes) 1 (omega arith) a b
    (from_one (records_of bytes) a h.1) (from_one (records_of bytes) b k.1)
