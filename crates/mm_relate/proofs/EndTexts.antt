-- What the row of a relation tells of its two ends.
use Rattle.std.proofs.Common.{◌≡◌, List, [], ◌∷◌, Option, Some, None, option_map, Result, sym, ap, subst, ◌∙◌}
use Rattle.std.specs.FinMap.{get}
use Rattle.sqlite.specs.declared.types.Value.TheVariants.{Text as Words}
use Rattle.sqlite.specs.Order.{Row, column}
use Rattle.sqlite.specs.Term.{col}
use Rattle.sql_forms.specs.Maps.{Holds}
use Rattle.sql_forms.specs.Tables.{FindsRow}
use Rattle.sql_forms.proofs.Selects.{selects_one, shows}
use Rattle.mm_store.specs.Compiled as text
use Rattle.mm_store.proofs.Selecting as statement
use Rattle.mm_definitions.specs.Keys.{Text}
use Rattle.mm_definitions.specs.Package.{Package, Relation}
use Rattle.mm_definitions.specs.declared.answers.Fault.{Fault}
use Rattle.mm_store.specs.Rows.{past_id, relation_row}
use Rattle.mm_store.proofs.Keys as parts
use Rattle.mm_store.proofs.Keys.{by_mapping, columns_after}
use Rattle.mm_store.proofs.Parts.{finds_none, finds_some}
use Rattle.mm_store.proofs.Steps.{looks_first, seen}
use Rattle.mm_relate.specs.Relations.{ends}
use Rattle.sqlite.specs.Held.{state}
use Rattle.sqlite.specs.Store.{Ghosts}
use Rattle.sqlite.specs.declared.transaction.Transaction.{Transaction}
use Rattle.mm_store.specs.Handed.{AsksFirst, Looks}

-- the first row shows the two ends of the relation, if it stands
abbrev pub EndsShown : Option Relation → Option Row → Type 0
EndsShown v None = v ≡ None
EndsShown v (Some x) = (r : Relation) × (v ≡ Some r) × (column x 0 ≡ Words r.base) × (column x 1 ≡ Words r.related)

abbrev shown_row : Text → Row → Row
shown_row mapping = shows (col 1 2 ∷ col 1 4 ∷ []) (Words mapping ∷ [])

ends_found : (p : Package) (mapping : Text) (rows : List Row) → Holds past_id relation_row rows p.relations
    → (first : Option Row)
    → FindsRow (by_mapping mapping) (shown_row mapping) rows first → EndsShown (get p.relations mapping) first
ends_found p mapping rows h None found = finds_none parts.relations rows p.relations h mapping (shown_row mapping) found
ends_found p mapping rows h (Some x) found =
    let at = finds_some parts.relations rows p.relations h mapping (shown_row mapping) x found in (
      at.0,
      at.1,
      ap (λ (r : Row). column r 0) at.4 ∙ columns_after at.2 (relation_row mapping at.0) 0 at.3,
      ap (λ (r : Row). column r 1) at.4 ∙ columns_after at.2 (relation_row mapping at.0) 2 at.3,
    )

pub ends_look : {S : Type 0} {g : Ghosts S} {a b : Transaction S} (mapping : Text) {given : Row}
    → given ≡ Words mapping ∷ [] → {result : Result (Option Row) Fault}
    → AsksFirst g a b text.ends_of_relation given (λ (it : Option Row) first. it ≡ first) result
    → Looks g a b (λ p found. EndsShown (get p.relations mapping) found) result
ends_look {g = g} {a = a} mapping {given = given} same h = looks_first h (λ x first ready shown gives.
    let read = selects_one _ _ _ _ _ _ statement.ends_of_relation _ _ ready.schema_is (Words mapping ∷ []) given same
    first shown in (
      read.0,
      λ version p h. subst (EndsShown (get p.relations mapping)) (sym gives)
          (ends_found p mapping (seen (state g a.conn.now) 10) h.relations first read.1),
    ))

pub ends_told : (v : Option Relation) (x : Row) → EndsShown v (Some x) → (one two : Text) → column x 0 ≡ Words one
    → column x 1 ≡ Words two
    → option_map ends v ≡ Some (one, two)
ends_told v x shown one two a b =
    let base : Words shown.0.base ≡ Words one = sym shown.2 ∙ a in
    let related : Words shown.0.related ≡ Words two = sym shown.3 ∙ b in
    let f : shown.0.base ≡ one = cc in
    let g : shown.0.related ≡ two = cc in
    ap (option_map ends) shown.1 ∙ (λ i. Some (f i, g i))

-- an error after a look is told as it is
