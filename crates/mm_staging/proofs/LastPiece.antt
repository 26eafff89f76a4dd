-- The first piece by falling number is the last one, and its number is that of the pieces.
use Rattle.std.proofs.Common.{◌≡◌, ℕ, zero, suc, ℤ, pos, ◌≤ℤ◌, true, ◌&&◌, List, [], ◌∷◌, Option, Some, None, is_some}
use Rattle.std.proofs.Common.{refl, sym, ap, subst, ◌∙◌, arith}
use Rattle.std.proofs.lemmas.Int.{ints}
use Rattle.std.specs.Ordering.{is_lt, int_cmp}
use Rattle.std.specs.Int.Signed.{≤ℤ_refl}
use Rattle.std.specs.FinMap.{FinMap, get, contains_key}
use Rattle.std.proofs.lemmas.Bool.{both_ways}
use Rattle.sqlite.specs.declared.types.Value.TheVariants.{Int, Text as Words}
use Rattle.sql_forms.specs.Collation.TheVariants.{Binary}
use Rattle.sql_forms.specs.Key.{Key}
use Rattle.sql_forms.specs.Order.{value_cmp}
use Rattle.sql_forms.proofs.OrderLemmas.{value_cmp-Int}
use Rattle.sqlite.specs.Order.{Row, column}
use Rattle.sqlite.specs.Term.{Term, col}
use Rattle.sql_forms.specs.Rules.{equal}
use Rattle.sql_forms.specs.Lists.{Has as IsAmong}
use Rattle.sql_forms.proofs.ListLemmas.{some_from}
use Rattle.sql_forms.specs.Forms.{equals}
use Rattle.sql_forms.specs.Tables.{passes, FindsFirst}
use Rattle.sql_forms.specs.Maps.{Holds}
use Rattle.sql_forms.proofs.Keys.{equal_text, columns_are}
use Rattle.sql_forms.proofs.Lists.{and_true}
use Rattle.sql_forms.proofs.Orders.{by_column}
use Rattle.sql_forms.proofs.Selects.{shows}
use Rattle.mm_definitions.proofs.Integers.{not_less}
use Rattle.mm_definitions.specs.Bounds.{Profile}
use Rattle.mm_definitions.specs.Conditions.{piece_count}
use Rattle.mm_definitions.specs.Keys.{Text, same_text, PieceKey, piece, piece_cmp}
use Rattle.mm_definitions.specs.Package.{Package, PiecesPart, open_state}
use Rattle.mm_definitions.specs.Parts.{Stands}
use Rattle.mm_definitions.specs.Rules.{Meets, IsNumbered}
use Rattle.mm_definitions.proofs.Parts.{some_of, same_itself}
use Rattle.mm_definitions.proofs.KeyLaws.{texts}
use Rattle.mm_laws.proofs.Counted.{piece_count-is, one_at_least}
use Rattle.mm_laws.proofs.KindFacts.{are_same}
use Rattle.mm_store.specs.Rows.{past_rowid, StagedRow, staged_row}
use Rattle.mm_store.proofs.Keys.{same_int}
use Rattle.mm_staging.specs.States.{GivesPieceNumber, IsLast}

abbrev pub last_terms : List Term
last_terms = equals 1 0 ∷ []

abbrev pub number_term : List Term
number_term = col 1 2 ∷ []

abbrev pub falling : Key
falling = record { collation = Binary; descending = true }

abbrev pub of_edition : Text → Row
of_edition edition = Words edition ∷ []

module _ (rows : List Row) (ids : FinMap piece_cmp StagedRow) (m : PiecesPart)
    (there : (k : PieceKey) → contains_key ids k ≡ contains_key m k) (h : Holds past_rowid staged_row rows ids)
    (edition : Text) where
  tells : (r : Row) (k : PieceKey) (v : StagedRow) → past_rowid r ≡ staged_row k v
      → passes last_terms (of_edition edition) r ≡ same_text k.edition edition
  tells r k v is =
      ap (λ x. equal Binary x (Words edition) && true) (columns_are r (staged_row k v) 0 is)
      ∙ ap (λ b. b && true) (equal_text k.edition edition) ∙ and_true (same_text k.edition edition)

  numbers : (r s : Row) (k l : PieceKey) (v w : StagedRow) → past_rowid r ≡ staged_row k v
      → past_rowid s ≡ staged_row l w
      → value_cmp (column r 2) (column s 2) ≡ int_cmp k.number l.number
  numbers r s k l v w p q = ap (λ x. value_cmp x (column s 2)) (columns_are r (staged_row k v) 1 p)
      ∙ ap (value_cmp (Int k.number)) (columns_are s (staged_row l w) 1 q) ∙ value_cmp-Int k.number l.number

  -- the row of a piece of the edition
  row_at : (number : ℤ) → Stands m (piece edition number)
      → (v : StagedRow) × (r : Row) × IsAmong rows r × (passes last_terms (of_edition edition) r ≡ true)
      × (past_rowid r ≡ staged_row (piece edition number) v)
  row_at number stands =
      let v = some_of (get ids (piece edition number)) (there (piece edition number) ∙ stands) in
      let r = h.complete (piece edition number) v.0 v.1 in
      (v.0, r.0, r.1, tells r.0 (piece edition number) v.0 r.2 ∙ same_itself texts edition, r.2)

  pub last_found : (last : Option ℕ) (first : Option Row) → GivesPieceNumber last first
      → FindsFirst (passes last_terms (of_edition edition)) (by_column (col 1 2) falling (of_edition edition))
      (shows number_term (of_edition edition)) rows first
      → IsLast m edition last
  last_found None first gives finds =
      let none = subst (FindsFirst (passes last_terms (of_edition edition))
      (by_column (col 1 2) falling (of_edition edition)) (shows number_term (of_edition edition)) rows) gives finds in
      λ number stands. let r = row_at number stands in both_ways _ none
      (some_from (passes last_terms (of_edition edition)) rows r.1 r.2 r.3)
  last_found (Some last) first gives finds =
      let some = subst (FindsFirst (passes last_terms (of_edition edition))
      (by_column (col 1 2) falling (of_edition edition)) (shows number_term (of_edition edition)) rows) gives.1 finds in
      let at = h.sound some.0 some.1 in
      let edition_is : at.0.edition ≡ edition = are_same texts at.0.edition edition
      (sym (tells some.0 at.0 at.1 at.3) ∙ some.2) in
      let shown : column gives.0 0 ≡ Int at.0.number = ap (λ (r : Row). column r 0) some.3
      ∙ columns_are some.0 (staged_row at.0 at.1) 1 at.3 in
      let number_is : at.0.number ≡ pos last = same_int (sym shown ∙ gives.2) in
      let key_is : at.0 ≡ piece edition (pos last) = λ i. piece (edition_is i) (number_is i) in (
        sym (there (piece edition (pos last))) ∙ ap is_some (ap (get ids) (sym key_is) ∙ at.2),
        λ number stands.
            let r = row_at number stands in
            subst (λ z. number ≤ℤ z) number_is
            (not_less at.0.number number (sym
            (ap is_lt (numbers some.0 r.1 at.0 (piece edition number) at.1 r.0 at.3 r.4)) ∙ some.4 r.1 r.2 r.3)),
      )

-- ---- the last piece's number is that of the pieces

both_bounds : (a b : ℕ) → pos a ≤ℤ pos b → pos b ≤ℤ pos a → b ≡ a
both_bounds a b h i = omega (arith, ints)

none_below : (last : ℕ) → pos 1 ≤ℤ pos last → pos last ≤ℤ pos 0 → ⊥
none_below last h i = omega (arith, ints)

module _ (m : PiecesPart) (edition : Text) where
  counts : (n last : ℕ) → IsNumbered m edition n → IsLast m edition (Some last) → n ≡ last
  counts zero last numbered is = absurd
      (none_below last ((numbered (pos last)).0 is.0).0 ((numbered (pos last)).0 is.0).1)
  counts (suc n) last numbered is = both_bounds last (suc n) ((numbered (pos last)).0 is.0).1
      (is.1 (pos (suc n)) ((numbered (pos (suc n))).1 (one_at_least n, ≤ℤ_refl (pos (suc n)))))

  counts_none : (n : ℕ) → IsNumbered m edition n → IsLast m edition None → n ≡ 0
  counts_none zero numbered is = refl
  counts_none (suc n) numbered is =
      absurd (is (pos (suc n)) ((numbered (pos (suc n))).1 (one_at_least n, ≤ℤ_refl (pos (suc n)))))

module _ (profile : Profile) (p : Package) (edition : Text) (meets : Meets profile p)
    (open_is : get p.editions edition ≡ Some open_state) where
  pub count_is : (last : ℕ) → IsLast p.pieces edition (Some last) → piece_count p edition ≡ last
  count_is last is = let it = meets.q15.numbered edition open_is in piece_count-is p edition it.0 it.2
      ∙ counts p.pieces edition it.0 last it.2 is

  pub none_is : IsLast p.pieces edition None → piece_count p edition ≡ 0
  none_is is = let it = meets.q15.numbered edition open_is in piece_count-is p edition it.0 it.2
      ∙ counts_none p.pieces edition it.0 it.2 is
