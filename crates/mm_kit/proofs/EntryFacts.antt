-- The entry of a record, and the least number that is against it.
use Rattle.mm_definitions.specs.Bounds.{current}
use Rattle.std.proofs.Common.{◌≡◌, ◌∙◌, ◌⊎◌, inl, inr, ◌<◌, ◌≤◌, ℕ, ℤ, pos, ◌≤ℤ◌, List, ◌∷◌, length}
use Rattle.std.proofs.Common.{Option, Result, Ok}
use Rattle.std.proofs.Common.{Err, Bool, true, false, refl, sym, ap, subst, arith}
use Rattle.std.specs.Borrow.{Bor}
use Rattle.mm_definitions.specs.Fields.{IsAgainst, Whole}
use Rattle.mm_definitions.specs.Keys.{Text}
use Rattle.mm_definitions.specs.Numbers.{SpellsNumber}
use Rattle.mm_definitions.specs.Records.{SpellsPiece, HoldsAgainstPiece, IsLeast, id_field}
use Rattle.mm_definitions.specs.declared.commands.Piece.{Piece}
use Rattle.mm_definitions.proofs.ReadingFacts.{not_against, one_against, spells_one, texts_of, text_at}
use Rattle.mm_laws.proofs.Spelled.{none_against_piece, piece_number}
use Rattle.mm_io.specs.Records.{Record}
use Rattle.std.specs.Prelude.{nat_lt, if◌then◌else◌}
use Rattle.std.proofs.lemmas.Bool.{ltb-true, ltb-false}
use Rattle.mm_definitions.specs.Reading.{ReadsTo, refused}
use Rattle.mm_definitions.specs.declared.answers.ReadFault.{ReadFault}
use Rattle.mm_definitions.specs.declared.answers.ReadFault.TheVariants as faults
use Rattle.mm_base.proofs.RecordFacts.{first_and_rest, rest_of}
use Rattle.mm_kit.specs.declared.entries.KitEntry.{KitEntry}
use Rattle.mm_kit.specs.Entries.{HoldsAgainstEntry, IsEntry, IsLeftToAsk, entry_of, file_of, least_fault, without_file}

low_number : (word : Text) (n : ℕ) → IsAgainst id_field word n → n ≤ 11
low_number word n (inl h) = omega (arith, h.0)
low_number word n (inr h) = omega (arith, h.0)

low_piece : (r : Record) (n : ℕ) → HoldsAgainstPiece current r n → n ≤ 12
low_piece r n h = by (piece_number current r n h)
  where
    by : (n ≡ 10) ⊎ (n ≡ 11) ⊎ (n ≡ 12) → n ≤ 12
    by (inl e) = omega (arith, e)
    by (inr (inl e)) = omega (arith, e)
    by (inr (inr e)) = omega (arith, e)

module _ (place : ℕ) (word : Text) (r : Record) where
  abbrev Held : ℕ → Type 0
  Held = HoldsAgainstEntry place (word ∷ r)

  -- a number that is low enough and below those against the number and the piece is below all
  below_all : (n : ℕ) → n ≤ 54 → ((m : ℕ) → IsAgainst id_field word m → n ≤ m)
      → ((m : ℕ) → HoldsAgainstPiece current (without_file r) m → n ≤ m)
      → (m : ℕ) → Held m → n ≤ m
  below_all n low one two m (inl h) = one m h
  below_all n low one two m (inr (inl h)) = two m h
  below_all n low one two m (inr (inr (inl h))) = omega (arith, low, h.0)
  below_all n low one two m (inr (inr (inr (inl h)))) = omega (arith, low, h.0)
  below_all n low one two m (inr (inr (inr (inr h)))) = omega (arith, low, h.0)

  same_or_less : (a n m : ℕ) → n ≤ a → m ≡ a → n ≤ m
  same_or_less a n m h e = omega (arith, h, e)

  pub number_first : (a b : ℕ) → IsAgainst id_field word a → IsLeast (HoldsAgainstPiece current (without_file r)) b
      → a ≤ b → IsLeast Held a
  number_first a b h l le = record {
    is_held = inl h;
    is_least = below_all a (omega (arith, low_number word a h))
        (λ m k. same_or_less a a m (omega arith) (one_against id_field word m a k h))
        (λ m k. omega (arith, le, l.is_least m k));
  }

  pub piece_first : (a b : ℕ) → IsAgainst id_field word a → IsLeast (HoldsAgainstPiece current (without_file r)) b
      → b ≤ a → IsLeast Held b
  piece_first a b h l le = record {
    is_held = inr (inl l.is_held);
    is_least = below_all b (omega (arith, low_piece (without_file r) b l.is_held))
        (λ m k. same_or_less a b m le (one_against id_field word m a k h)) l.is_least;
  }

  module _ (z : ℤ) (spells : SpellsNumber word z) (low : pos 1 ≤ℤ z) (high : z ≤ℤ pos 9007199254740992) where
    number_free : (m : ℕ) → IsAgainst id_field word m → ⊥
    number_free m h = not_against id_field word (Whole z) m (spells, (low, high)) h

    pub piece_alone : (b : ℕ) → IsLeast (HoldsAgainstPiece current (without_file r)) b → IsLeast Held b
    piece_alone b l = record {
      is_held = inr (inl l.is_held);
      is_least = below_all b
          (omega (arith, low_piece (without_file r) b l.is_held)) (λ m k. absurd (number_free m k)) l.is_least;
    }

    module _ (q : Piece) (is : SpellsPiece current (without_file r) q) where
      pub placed_least : (n : ℕ) → IsLeftToAsk place z (file_of r) (Err n) → IsLeast Held n
      placed_least n (inl h) = record {
        is_held = inr (inr (inl h));
        is_least = below_all n (omega (arith, h.0)) (λ m k. absurd (number_free m k))
            (λ m k. absurd (none_against_piece current (without_file r) q m is k));
      }
      placed_least n (inr (inl h)) = record {
        is_held = inr (inr (inr (inl (h.0, λ s. h.2 (spells_one word z (pos place) spells s)))));
        is_least = least;
      }
        where
          least : (m : ℕ) → Held m → n ≤ m
          least m (inl k) = absurd (number_free m k)
          least m (inr (inl k)) = absurd (none_against_piece current (without_file r) q m is k)
          least m (inr (inr (inl k))) = absurd (omega (arith, k.1, h.1))
          least m (inr (inr (inr (inl k)))) = omega (arith, h.0, k.0)
          least m (inr (inr (inr (inr k)))) = omega (arith, h.0, k.0)
      placed_least n (inr (inr h)) = record {
        is_held = inr (inr (inr (inr (h.0, h.3))));
        is_least = least;
      }
        where
          least : (m : ℕ) → Held m → n ≤ m
          least m (inl k) = absurd (number_free m k)
          least m (inr (inl k)) = absurd (none_against_piece current (without_file r) q m is k)
          least m (inr (inr (inl k))) = absurd (omega (arith, k.1, h.1))
          least m (inr (inr (inr (inl k)))) = absurd (k.1 (subst (SpellsNumber word) h.2 spells))
          least m (inr (inr (inr (inr k)))) = omega (arith, h.0, k.0)

      pub placed_entry : (file : Option Text) → IsLeftToAsk place z (file_of r) (Ok file)
          → IsEntry place (word ∷ r) (entry_of q file)
      placed_entry file h = (subst (SpellsNumber word) h.1 spells, h.0, h.3, q, is, ap (entry_of q) h.2)

  pub number_alone : (a : ℕ) (q : Piece) → IsAgainst id_field word a → SpellsPiece current (without_file r) q
      → IsLeast Held a
  number_alone a q h is = record {
    is_held = inl h;
    is_least = below_all a (omega (arith, low_number word a h))
        (λ m k. same_or_less a a m (omega arith) (one_against id_field word m a k h))
        (λ m k. absurd (none_against_piece current (without_file r) q m is k));
  }

  -- whose number is refused
  pub number_refused : (n : ℕ) (piece : Result Piece ReadFault) → IsAgainst id_field word n
      → ReadsTo (SpellsPiece current (without_file r)) (IsLeast (HoldsAgainstPiece current (without_file r))) piece
      → ReadsTo {A = KitEntry} (IsEntry place (word ∷ r)) (IsLeast Held) (Err (least_fault n piece))
  number_refused n (Ok q) h reads = (refl, number_alone n q h reads)
  number_refused n (Err faults.Memory) h reads = tt
  number_refused n (Err (faults.Refused why)) h reads = by (nat_lt why.number n) refl
    where
      by : (b : Bool) → nat_lt why.number n ≡ b
          → ReadsTo {A = KitEntry} (IsEntry place (word ∷ r)) (IsLeast Held)
          (Err (if b then faults.Refused why else refused n))
      by true e = (reads.0, piece_first n why.number h reads.1 (lower (ltb-true why.number n e)))
        where
          lower : {a b : ℕ} → a < b → a ≤ b
          lower a = omega (arith, a)
      by false e = (refl, number_first n why.number h reads.1 (ltb-false why.number n e))

  -- whose number is read
  module _ (z : ℤ) (spells : SpellsNumber word z) (low : pos 1 ≤ℤ z) (high : z ≤ℤ pos 9007199254740992) where
    pub piece_refused : (fault : ReadFault)
        → ReadsTo (SpellsPiece current (without_file r)) (IsLeast (HoldsAgainstPiece current (without_file r)))
        (Err fault)
        → ReadsTo {A = KitEntry} (IsEntry place (word ∷ r)) (IsLeast Held) (Err fault)
    piece_refused faults.Memory reads = tt
    piece_refused (faults.Refused why) reads = (reads.0, piece_alone z spells low high why.number reads.1)

-- the fields behind the first are the record of the piece
pub entry_whole : (place : ℕ) (xs items : List (Bor Text)) (r : Result KitEntry ReadFault) → 1 ≤ length xs
    → items ≡ rest_of xs
    → ReadsTo (IsEntry place (text_at xs 0 ∷ texts_of items))
    (IsLeast (HoldsAgainstEntry place (text_at xs 0 ∷ texts_of items))) r
    → ReadsTo (IsEntry place (texts_of xs)) (IsLeast (HoldsAgainstEntry place (texts_of xs))) r
entry_whole place xs items r some is h =
    subst (λ ts. ReadsTo (IsEntry place ts) (IsLeast (HoldsAgainstEntry place ts)) r)
    (ap (λ l. text_at xs 0 ∷ texts_of l) is ∙ sym (first_and_rest xs some)) h
