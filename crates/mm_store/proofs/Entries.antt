-- Whether some entry of a part passes a test, from its rows.
use Rattle.std.proofs.Common.{◌≡◌, Bool, true, false, ◌&&◌, ◌||◌, List, [], ◌∷◌, Some, refl, sym, ap, ap₂, ◌∙◌}
use Rattle.std.specs.Ordering.{is_eq}
use Rattle.std.specs.declared.cmp.Ordering.{Ordering}
use Rattle.std.specs.List.{list_any}
use Rattle.std.specs.FinMap.{FinMap, get, entries}
use Rattle.std.proofs.lemmas.Bool.{both_ways, false_from_ne_true, true_from_ne_false}
use Rattle.sqlite.specs.declared.types.Value.TheVariants.{Text as Words}
use Rattle.sql_forms.specs.Collation.TheVariants.{Binary}
use Rattle.sqlite.specs.Order.{Row, column}
use Rattle.sqlite.specs.Ops.{binary, is_true, from_truth, truth, or3}
use Rattle.sqlite.specs.declared.types.Value.{Value}
use Rattle.sql_forms.proofs.OrderLemmas.{value_cmp-Text}
use Rattle.sql_forms.specs.BinaryOp.TheVariants.{Compare, Or}
use Rattle.sql_forms.specs.CompareOp.TheVariants.{Eq}
use Rattle.sql_forms.specs.Rules.{equal}
use Rattle.sql_forms.proofs.ListLemmas.{some_has, some_from}
use Rattle.sql_forms.specs.Tables.{has_key}
use Rattle.sql_forms.specs.Maps.{Holds}
use Rattle.sql_forms.proofs.Keys.{equal_text, columns_are}
use Rattle.sql_forms.proofs.Lists.{and_true}
use Rattle.mm_definitions.specs.Keys.{Text, same_text}
use Rattle.mm_definitions.specs.Parts.{some_entry}
use Rattle.mm_definitions.specs.Conditions.{is_used, is_identified}
use Rattle.mm_definitions.specs.Package.{Package}
use Rattle.mm_definitions.proofs.Parts.{IsKeyOrder, no_entry}
use Rattle.mm_definitions.proofs.KeyLaws.{texts}
use Rattle.mm_definitions.proofs.Listed.{along_entries, none_along}
use Rattle.mm_store.specs.Rows.{past_rowid, past_id, contents_row, relation_row}
use Rattle.mm_store.proofs.Keys.{columns_after}

module _ {K V : Type 0} {R : K → K → Ordering} (o : IsKeyOrder R) (part : Row → Row) (row_of : K → V → Row)
    (rows : List Row) (m : FinMap R V) (h : Holds part row_of rows m) where
  no_entries : (uses : K → V → Bool) → ((k : K) (v : V) → get m k ≡ Some v → uses k v ≡ false)
      → some_entry uses m ≡ false
  unfolding some_entry
  no_entries uses none = none_along (λ e. uses e.0 e.1) (entries m) (along_entries o (λ k v. uses k v ≡ false) m none)

  -- whether a row passes is whether some entry does
  pub some_told : (test : Row → Bool) (uses : K → V → Bool)
      → ((r : Row) (l : K) (v : V) → part r ≡ row_of l v → test r ≡ uses l v)
      → list_any test rows ≡ some_entry uses m
  some_told test uses tells = go (list_any test rows) refl
    where
      go : (b : Bool) → list_any test rows ≡ b → b ≡ some_entry uses m
      go true is =
          let r = some_has test rows is in
          let it = h.sound r.0 r.1 in
          sym (true_from_ne_false _ (λ none. both_ways _ (no_entry o uses m none it.0 it.1 it.2)
          (sym (tells r.0 it.0 it.1 it.3) ∙ r.2)))
      go false is = sym (no_entries uses (λ k v has.
          let r = h.complete k v has in
          sym (tells r.0 k v r.2) ∙ false_from_ne_true _ (λ hit. both_ways _ is (some_from test rows r.0 r.1 hit))))

-- a contents row has the identifier
pub identified_is : (p : Package) (rows : List Row) → Holds past_rowid contents_row rows p.contents
    → (identifier : Text)
    → list_any (has_key (3 ∷ []) (Words identifier ∷ [])) rows ≡ is_identified p identifier
identified_is p rows h identifier = some_told texts past_rowid contents_row rows p.contents h
    (has_key (3 ∷ []) (Words identifier ∷ [])) (λ _ c. same_text c.identifier identifier) (λ r l v is.
    ap (λ x. equal Binary x (Words identifier) && true) (columns_are r (contents_row l v) 2 is)
    ∙ ap (λ b. b && true) (equal_text v.identifier identifier) ∙ and_true _)

either_holds : (a b : Bool) → is_true (from_truth (or3 (truth (from_truth (Some a))) (truth (from_truth (Some b)))))
    ≡ (a || b)
either_holds true true = refl
either_holds true false = refl
either_holds false true = refl
either_holds false false = refl

-- one text or the other is this one
abbrev either_is : Value → Value → Value → Bool
either_is a b c = is_true (binary Or (binary (Compare Eq Binary) a c) (binary (Compare Eq Binary) b c))

either_text : (a b c : Text) → either_is (Words a) (Words b) (Words c) ≡ (same_text a c || same_text b c)
unfolding binary
either_text a b c = either_holds _ _ ∙ ap₂ (λ x y. is_eq x || is_eq y) (value_cmp-Text a c) (value_cmp-Text b c)

-- a relation has the table as an end
pub uses : (p : Package) (table : Text) (rows : List Row) → Holds past_id relation_row rows p.relations
    → list_any (λ r. either_is (column r 2) (column r 4) (Words table) && true) rows ≡ is_used p table
uses p table rows h = some_told texts past_id relation_row rows p.relations h
    (λ r. either_is (column r 2) (column r 4) (Words table) && true)
    (λ _ r. same_text r.base table || same_text r.related table) (λ r l v is.
    ap (λ x. either_is x (column r 4) (Words table) && true) (columns_after r (relation_row l v) 0 is)
    ∙ ap (λ x. either_is (Words v.base) x (Words table) && true) (columns_after r (relation_row l v) 2 is)
    ∙ ap (λ b. b && true) (either_text v.base v.related table)
    ∙ and_true _)
