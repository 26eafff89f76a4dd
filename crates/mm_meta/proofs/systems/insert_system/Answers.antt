use Rattle.std.proofs.Common.{[], ◌∷◌, Ok, refl, rules}
use Rattle.sqlite.specs.declared.types.Value.TheVariants.{Int, Null, Text as Words}
use Rattle.sqlite.specs.Tree.{with_tree, put_row}
use Rattle.sql_forms.proofs.Inserts.{has_inserted}
use Rattle.mm_store.proofs.Inserting as statement
use Rattle.mm_store.proofs.Parts.{puts}
use Rattle.mm_store.proofs.Keys as parts
use Rattle.mm_store.proofs.Puts.{put_systems}
use Rattle.mm_store.proofs.Steps.{makes}
use Rattle.mm_meta.proofs.systems.insert_system.Goals as goal

pub returns : goal.returns
returns g c =
    let a = c.args in
    let rest = Words a.name.now ∷ Null ∷ Words a.organization.now ∷ Int a.organization_id ∷ Words a.definition.now
    ∷ Words a.description.now ∷ [] in
    makes c.run.ensures (λ db. with_tree db 0 (put_row (Int a.id ∷ rest) (db 0)))
    (λ count ready ran. has_inserted _ _ _ _ _ _ statement.insert_system _ _ ready
    (Words a.name.now ∷ Int a.id ∷ Words a.organization.now ∷ Int a.organization_id ∷ Words a.definition.now
    ∷ Words a.description.now ∷ []) _
    (Ok count) (Int a.id) rest refl refl refl (search rules) ran)
    (λ version db p rows h free. put_systems version db p h _ _
    (puts parts.systems (db 0) p.systems h.systems a.id _ (Int a.id ∷ rest) free refl
    (parts.system_fresh (db 0) p.systems h.systems a.id rest free)))
