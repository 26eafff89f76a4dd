use Rattle.std.proofs.Common.{refl, ◌||◌, sym, ap, ◌∙◌}
use Rattle.std.specs.FinMap.{contains_key}
use Rattle.mm_store.proofs.Going.{goes_on, goes_less, tells, failed}
use Rattle.mm_layout.proofs.contents.is_taken.Goals as goal

pub returns-then-branch : goal.returns-then-branch
returns-then-branch g c =
    tells c.in_ok-has_table.ensures
    (λ profile p says. sym (ap (λ b. b || contains_key p.relations c.args.name.now) (sym says ∙ c.if-branch.true)))

pub returns-else-branch : goal.returns-else-branch
returns-else-branch g c =
    goes_less (goes_on c.in_ok-has_table.ensures c.has_relation.ensures)
    (λ profile p found when says. (
      refl,
      says.1
          ∙ sym (ap (λ b. b || contains_key p.relations c.args.name.now) (sym says.0 ∙ c.if-branch.false)),
    ))

pub returns-in_err-has_table : goal.returns-in_err-has_table
returns-in_err-has_table g c =
    failed c.in_err-has_table.ensures c.from_residual.ensures.1
