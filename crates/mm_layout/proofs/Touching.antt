-- What touching a table makes of its contents row, and of no other.
use Rattle.std.proofs.Common.{◌≡◌, ℤ, Bool, true, false, ◌&&◌, not, if◌then◌else◌, List, [], ◌∷◌, Option, Some, None}
use Rattle.std.proofs.Common.{inl, inr, refl, sym, ap, subst, ◌∙◌}
use Rattle.std.specs.Ordering.{is_eq, is_ne}
use Rattle.std.specs.declared.cmp.Ordering.{Ordering}
use Rattle.std.specs.declared.cmp.Ordering.TheVariants.{Less, Equal, Greater}
use Rattle.std.specs.FinMap.{get, insert}
use Rattle.sqlite.specs.declared.types.Value.TheVariants.{Text as Words}
use Rattle.sql_forms.specs.Collation.TheVariants.{Binary}
use Rattle.sql_forms.proofs.OrderLemmas.{value_cmp-Text}
use Rattle.sqlite.specs.Order.{Row, column}
use Rattle.sqlite.specs.Ops.{binary, is_true}
use Rattle.sqlite.specs.Tree.{Trees, with_tree}
use Rattle.sql_forms.specs.BinaryOp.TheVariants.{Compare}
use Rattle.sql_forms.specs.CompareOp.TheVariants.{Ne}
use Rattle.sql_forms.specs.Rules.{equal}
use Rattle.sql_forms.specs.Lists.{Has}
use Rattle.sql_forms.specs.Tables.{with_changed}
use Rattle.sql_forms.proofs.Keys.{as_truth, columns_are}
use Rattle.sql_forms.proofs.Updates.{updated}
use Rattle.mm_store.specs.Tables.{gpkg_contents}
use Rattle.mm_definitions.specs.Keys.{Text, text_cmp, same_text}
use Rattle.mm_definitions.specs.Package.{Package, Contents}
use Rattle.mm_definitions.specs.Effects.{touch, touched_row, changed_at}
use Rattle.mm_definitions.proofs.KeyLaws.{texts}
use Rattle.mm_definitions.proofs.Parts.{same_key}
use Rattle.sql_forms.specs.Maps.{Holds}
use Rattle.mm_store.specs.Rows.{past_rowid, contents_row}
use Rattle.mm_store.specs.Stands.{Holding}
use Rattle.mm_store.proofs.Parts.{finds_some, changes}
use Rattle.mm_store.proofs.Keys as parts
use Rattle.mm_store.proofs.Keys.{by_text}
use Rattle.mm_store.proofs.Changes.{contents_sets, contents_changed}
use Rattle.mm_store.proofs.Puts.{put_contents}

ne_is : (o : Ordering) → is_ne o ≡ not (is_eq o)
ne_is Less = refl
ne_is Equal = refl
ne_is Greater = refl

-- SQL's inequality of two texts
other_text : (a b : Text) → is_true (binary (Compare Ne Binary) (Words a) (Words b)) ≡ not (same_text a b)
unfolding binary
other_text a b = as_truth _ ∙ ap is_ne (value_cmp-Text a b) ∙ ne_is (text_cmp a b)

-- a test of two parts, of which the second counts where the first passes
second : (a b d : Bool) → ((a && true) ≡ true → b ≡ d) → (a && (b && true)) ≡ ((a && true) && d)
second true true d is = is refl
second true false d is = is refl
second false b d is = refl

nested : (a b : Bool) (x y : Row) → (if a && b then x else y) ≡ (if a then (if b then x else y) else y)
nested true b x y = refl
nested false b x y = refl

same_either_way : (b : Bool) (x : Row) → (if b then x else x) ≡ x
same_either_way true x = refl
same_either_way false x = refl

-- rows that are changed to what they are
kept : (test : Row → Bool) (rows : List Row) → with_changed test (λ r. r) rows ≡ rows
kept test [] = refl
kept test (r ∷ rows) = ap (λ x. x ∷ with_changed test (λ s. s) rows) (same_either_way (test r) r)
    ∙ ap (λ rs. r ∷ rs) (kept test rows)

-- a test that narrows another by what is the same of all its rows
narrowed : (test other : Row → Bool) (change : Row → Row) (differs : Bool) (rows : List Row)
    → ((r : Row) → Has rows r → test r ≡ (other r && differs))
    → with_changed test change rows ≡ with_changed other (λ r. if differs then change r else r) rows
narrowed test other change differs [] same = refl
narrowed test other change differs (r ∷ rows) same =
    ap (λ b. (if b then change r else r) ∷ with_changed test change rows) (same r (inl refl))
    ∙ ap (λ x. x ∷ with_changed test change rows) (nested (other r) differs (change r) r)
    ∙ ap (λ rs. (if other r then (if differs then change r else r) else r) ∷ rs)
    (narrowed test other change differs rows (λ s there. same s (inr there)))

abbrev pub stamped : Text → Text → Row → Row
stamped table at = updated gpkg_contents contents_sets (Words table ∷ Words at ∷ [])

-- the row is the table's, and shows another text
abbrev pub is_to_touch : Text → Text → Row → Bool
is_to_touch table at r = equal Binary (column r 1) (Words table)
    && (is_true (binary (Compare Ne Binary) (column r 5) (Words at)) && true)

abbrev pub touched_rows : Text → Text → Trees → List Row
touched_rows table at db = with_changed (is_to_touch table at) (stamped table at) (db 1)

-- whether a contents row, if there is one, shows another text
abbrev differs_from : Text → Option Contents → Bool
differs_from at None = false
differs_from at (Some c) = not (same_text c.last_change at)

module _ (version : ℤ) (db : Trees) (p : Package) (h : Holding version db p) (table at : Text) where
  -- what a row of the table shows is what its contents tell
  shows : (r : Row) (c : Option Contents) → get p.contents table ≡ c → (v : Contents) → get p.contents table ≡ Some v
      → (s : Row)
      → past_rowid s ≡ contents_row table v → r ≡ s
      → is_true (binary (Compare Ne Binary) (column r 5) (Words at)) ≡ differs_from at c
  shows r None is v found s row same = absurd (let e : None ≡ Some v = sym is ∙ found in cc)
  shows r (Some c) is v found s row same =
      let of : v ≡ c = let e : Some v ≡ Some c = sym found ∙ is in cc in
      ap (λ (x : Row). is_true (binary (Compare Ne Binary) (column x 5) (Words at))) same
      ∙ ap (λ x. is_true (binary (Compare Ne Binary) x (Words at))) (columns_are s (contents_row table v) 4 row)
      ∙ other_text v.last_change at
      ∙ ap (λ (x : Contents). not (same_text x.last_change at)) of

  tells : (c : Option Contents) → get p.contents table ≡ c → (r : Row) → Has (db 1) r
      → is_to_touch table at r ≡ (by_text table r && differs_from at c)
  tells c is r there =
      second (equal Binary (column r 1) (Words table)) (is_true (binary (Compare Ne Binary) (column r 5) (Words at)))
      (differs_from at c)
      (λ passes.
      let f = finds_some parts.contents (db 1) p.contents h.contents table (λ (x : Row). x) r
      (r, there, passes, refl) in
      shows r c is f.0 f.1 f.2 f.3 f.4)

  rows_are : (c : Option Contents) → get p.contents table ≡ c
      → touched_rows table at db ≡ with_changed (by_text table) (λ r. if differs_from at c then stamped table at r
      else r) (db 1)
  rows_are c is = narrowed (is_to_touch table at) (by_text table) (stamped table at) (differs_from at c) (db 1)
      (tells c is)

  -- a row that shows the text already is what it would be changed to
  changed_to : (c : Contents) (r : Row) → past_rowid r ≡ contents_row table c
      → past_rowid (if differs_from at (Some c) then stamped table at r else r) ≡ contents_row table (changed_at at c)
  changed_to c r is = elim (same_key texts c.last_change at) as
      (λ _. past_rowid (if differs_from at (Some c) then stamped table at r else r) ≡ contents_row table
      (changed_at at c)) [
        | inl e ↦ ap (λ b. past_rowid (if not b then stamped table at r else r)) e.1 ∙ is
            ∙ ap (λ (t : Text). contents_row table (changed_at t c)) e.0
        | inr e ↦ ap (λ b. past_rowid (if not b then stamped table at r else r)) e.1 ∙ contents_changed table at c r is
      ]

  pub touches : Holding version (with_tree db 1 (touched_rows table at db)) (touch p table at)
  touches = go (get p.contents table) refl
    where
      go : (c : Option Contents) → get p.contents table ≡ c
          → Holding version (with_tree db 1 (touched_rows table at db)) (touched_row p table at c)
      go None is = put_contents version db p h (touched_rows table at db) p.contents
          (subst (λ rows. Holds past_rowid contents_row rows p.contents)
          (sym (rows_are None is ∙ kept (by_text table) (db 1))) h.contents)
      go (Some c) is =
          let change : Row → Row = λ r. if differs_from at (Some c) then stamped table at r else r in
          put_contents version db p h (touched_rows table at db) _
          (subst (λ rows. Holds past_rowid contents_row rows (insert p.contents table (changed_at at c)))
          (sym (rows_are (Some c) is)) (changes parts.contents (db 1) p.contents h.contents table change c
          (changed_at at c) is (changed_to c)))
