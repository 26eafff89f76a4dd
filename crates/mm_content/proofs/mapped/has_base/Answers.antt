use Rattle.std.proofs.Common.{[], ◌∷◌, refl, ◌∙◌, rules}
use Rattle.sqlite.specs.declared.types.Value.TheVariants.{Int, Text as Words}
use Rattle.sqlite.specs.Held.{state}
use Rattle.mm_definitions.specs.Keys.{Pairing}
use Rattle.mm_definitions.specs.Package.{Relation}
use Rattle.mm_store.proofs.Steps.{looks_first, seen}
use Rattle.mm_content.proofs.Joining as statement
use Rattle.mm_layout.proofs.Joined.{joins_by, base_tells}
use Rattle.mm_content.proofs.Ends.{selects_pair, some_paired}
use Rattle.mm_content.proofs.mapped.has_base.Goals as goal

pub returns : goal.returns
returns g c =
    let old = state g.S.Store c.args.tx.now.conn.now in
    let new = state g.S.Store c.exists.new.tx.conn.now in
    let table = c.args.table.now in
    let id = c.args.id in
    looks_first c.exists.ensures
    (λ x first ready shown gives.
    let read = selects_pair _ _ _ _ _ _ _ statement.has_base refl old new ready.schema_is (Words table ∷ Int id ∷ []) _
    (search rules) first shown in (
      read.0,
      λ version p h. gives ∙ some_paired p table id (seen old 10) (seen old 21) h.relations h.pairings
          (λ (v : Relation). v.base) (λ (k : Pairing). k.base_id) (joins_by 2 2 table id) (base_tells table id) first
          read.1,
    ))
