use Rattle.std.proofs.Common.{refl, ◌&&◌, ◌||◌, sym, ap, ◌∙◌}
use Rattle.std.proofs.Math.Facts.{to_z-of_z}
use Rattle.std.specs.FinMap.{get}
use Rattle.mm_definitions.specs.Keys.{Pairing, same_text, same_number}
use Rattle.mm_definitions.specs.Package.{Relation}
use Rattle.mm_definitions.specs.Parts.{at_value, some_entry}
use Rattle.mm_content.proofs.Ends.{mapped_by}
use Rattle.mm_store.proofs.Going.{goes_on, goes_less, tells, failed}
use Rattle.mm_content.proofs.mapped.is_mapped.Goals as goal

pub returns-then-branch : goal.returns-then-branch
returns-then-branch g c =
    let table = c.args.table.now in
    let id = c.args.id in
    tells (rw (to_z-of_z c.ranges.id) at c.in_ok-has_base.ensures)
    (λ profile p says. sym (sym (mapped_by p table id)
    ∙ ap (λ b. b || some_entry (λ (k : Pairing) _. at_value (λ (r : Relation). same_text r.related table
    && same_number k.related_id id) (get p.relations k.mapping)) p.pairings) (sym says ∙ c.if-branch.true)))

pub returns-else-branch : goal.returns-else-branch
returns-else-branch g c =
    let table = c.args.table.now in
    let id = c.args.id in
    goes_less (goes_on (rw (to_z-of_z c.ranges.id) at c.in_ok-has_base.ensures)
    (rw (to_z-of_z c.ranges.id) at c.has_related.ensures))
    (λ profile p found when says. (
      refl,
      says.1
          ∙ sym (sym (mapped_by p table id)
          ∙ ap (λ b. b || some_entry (λ (k : Pairing) _. at_value (λ (r : Relation). same_text r.related table
          && same_number k.related_id id) (get p.relations k.mapping)) p.pairings) (sym says.0 ∙ c.if-branch.false)),
    ))

pub returns-in_err-has_base : goal.returns-in_err-has_base
returns-in_err-has_base g c =
    failed c.in_err-has_base.ensures c.from_residual.ensures.1
