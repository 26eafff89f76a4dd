use Rattle.std.proofs.Common.{Some, option_map, sym, ap, ◌∙◌}
use Rattle.std.proofs.Math.Facts.{to_z-of_z}
use Rattle.mm_definitions.specs.Package.{kind_text}
use Rattle.mm_relate.proofs.Refusing.{unregistered_end, row_end, medium_end, pyramid_end}
use Rattle.mm_store.proofs.Going.{goes_on, tells, failed}
use Rattle.mm_relate.proofs.ends.end_refusal.Goals as goal

pub returns-in_default : goal.returns-in_default
returns-in_default g c =
    tells c.in_ok-kind.ensures.told (λ profile p says. unregistered_end p c.args.table.now c.args.id
    (says ∙ ap (option_map kind_text) c.in_default.is))

pub returns-in_err-kind : goal.returns-in_err-kind
returns-in_err-kind g c =
    failed c.in_err-kind.ensures.told c.from_residual.ensures.1

pub returns-then-branch : goal.returns-then-branch
returns-then-branch g c =
    let a = c.args in
    tells (goes_on c.in_ok-kind.ensures.told (rw (to_z-of_z c.ranges.id) at c.in_ok-has_row-in-Attributes.ensures))
    (λ profile p says. row_end p a.table.now a.id
    (says.0 ∙ ap (option_map kind_text) (c.in-Some.is ∙ ap Some c.in-Attributes.is)) _ (sym says.1 ∙ c.if-branch.true))

pub returns-else-branch : goal.returns-else-branch
returns-else-branch g c =
    let a = c.args in
    tells (goes_on c.in_ok-kind.ensures.told (rw (to_z-of_z c.ranges.id) at c.in_ok-has_row-in-Attributes.ensures))
    (λ profile p says. row_end p a.table.now a.id
    (says.0 ∙ ap (option_map kind_text) (c.in-Some.is ∙ ap Some c.in-Attributes.is)) _ (sym says.1 ∙ c.if-branch.false))

pub returns-in_err-has_row-in-Attributes : goal.returns-in_err-has_row-in-Attributes
returns-in_err-has_row-in-Attributes g c =
    failed (goes_on c.in_ok-kind.ensures.told c.in_err-has_row-in-Attributes.ensures)
    c.from_residual-in_err-has_row-in-Attributes.ensures.1

pub returns-then-branch-2 : goal.returns-then-branch-2
returns-then-branch-2 g c =
    let a = c.args in
    tells (goes_on c.in_ok-kind.ensures.told (rw (to_z-of_z c.ranges.id) at c.in_ok-has_medium-in-Media.ensures))
    (λ profile p says. medium_end p a.table.now a.id
    (says.0 ∙ ap (option_map kind_text) (c.in-Some.is ∙ ap Some c.in-Media.is)) _ (sym says.1 ∙ c.if-branch-2.true))

pub returns-else-branch-2 : goal.returns-else-branch-2
returns-else-branch-2 g c =
    let a = c.args in
    tells (goes_on c.in_ok-kind.ensures.told (rw (to_z-of_z c.ranges.id) at c.in_ok-has_medium-in-Media.ensures))
    (λ profile p says. medium_end p a.table.now a.id
    (says.0 ∙ ap (option_map kind_text) (c.in-Some.is ∙ ap Some c.in-Media.is)) _ (sym says.1 ∙ c.if-branch-2.false))

pub returns-in_err-has_medium-in-Media : goal.returns-in_err-has_medium-in-Media
returns-in_err-has_medium-in-Media g c =
    failed (goes_on c.in_ok-kind.ensures.told c.in_err-has_medium-in-Media.ensures)
    c.from_residual-in_err-has_medium-in-Media.ensures.1

pub returns-in-Two : goal.returns-in-Two
returns-in-Two g c =
    let a = c.args in
    tells c.in_ok-kind.ensures.told (λ profile p says. pyramid_end p a.table.now a.id c.in-Some.kind
    (says ∙ ap (option_map kind_text) c.in-Some.is) c.in-Two.is)
