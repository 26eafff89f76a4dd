use Rattle.std.proofs.Common.{option_map, sym, ap, ◌∙◌}
use Rattle.mm_definitions.specs.Package.{kind_text}
use Rattle.mm_meta.proofs.RefusingMatrices.{matrix_25, matrix_26, matrix_30, matrix_31, matrix_32, matrix_free}
use Rattle.mm_store.proofs.Going.{goes_on, tells, failed}
use Rattle.mm_meta.proofs.matrices.matrix_refusal.Goals as goal

pub returns-in_default : goal.returns-in_default
returns-in_default g c =
    let a = c.args in
    tells c.in_ok-kind.ensures.told (λ profile p says meets. matrix_25 p a.table.now a.zoom a.matrix.now profile meets
    (says ∙ ap (option_map kind_text) c.in_default.is))

pub returns-in_err-kind : goal.returns-in_err-kind
returns-in_err-kind g c =
    failed c.in_err-kind.ensures.told c.from_residual.ensures.1

pub returns-in-None : goal.returns-in-None
returns-in-None g c =
    let a = c.args in
    tells c.in_ok-kind.ensures.told (λ profile p says meets. matrix_26 p a.table.now a.zoom a.matrix.now profile meets
    c.in-Some.kind (says ∙ ap (option_map kind_text) c.in-Some.is) c.in-None.ensures)

pub returns-then-branch : goal.returns-then-branch
returns-then-branch g c =
    let a = c.args in
    tells (goes_on c.in_ok-kind.ensures.told c.in_ok-has_matrix.ensures)
    (λ profile p says meets. matrix_30 p a.table.now a.zoom a.matrix.now profile meets c.in-Some.kind
    (says.0 ∙ ap (option_map kind_text) c.in-Some.is) c.in-Some-step_of.step c.in-Some-step_of.ensures
    (sym says.1 ∙ c.if-branch.true))

pub returns-in_err-has_matrix : goal.returns-in_err-has_matrix
returns-in_err-has_matrix g c =
    failed (goes_on c.in_ok-kind.ensures.told c.in_err-has_matrix.ensures) c.from_residual-in_err-has_matrix.ensures.1

pub returns-then-not-branch : goal.returns-then-not-branch
returns-then-not-branch g c =
    let a = c.args in
    tells (goes_on (goes_on c.in_ok-kind.ensures.told c.in_ok-has_matrix.ensures) c.in_ok-fits_pyramid.ensures)
    (λ profile p says meets. matrix_31 p a.table.now a.zoom a.matrix.now profile meets c.in-Some.kind
    (says.0.0 ∙ ap (option_map kind_text) c.in-Some.is) c.in-Some-step_of.step c.in-Some-step_of.ensures
    (sym says.0.1 ∙ c.if-branch.false) says.1.0 says.1.1 (sym says.1.2 ∙ c.if-not-branch.true))

pub returns-in_err-fits_pyramid : goal.returns-in_err-fits_pyramid
returns-in_err-fits_pyramid g c =
    failed (goes_on (goes_on c.in_ok-kind.ensures.told c.in_ok-has_matrix.ensures) c.in_err-fits_pyramid.ensures)
    c.from_residual-in_err-fits_pyramid.ensures.1

pub returns-then-branch-2 : goal.returns-then-branch-2
returns-then-branch-2 g c =
    let a = c.args in
    tells (goes_on (goes_on (goes_on c.in_ok-kind.ensures.told c.in_ok-has_matrix.ensures) c.in_ok-fits_pyramid.ensures)
    c.in_ok-suits_zooms.ensures)
    (λ profile p says meets. matrix_free p a.table.now a.zoom a.matrix.now profile meets c.in-Some.kind
    (says.0.0.0 ∙ ap (option_map kind_text) c.in-Some.is) c.in-Some-step_of.step c.in-Some-step_of.ensures
    (sym says.0.0.1 ∙ c.if-branch.false) says.0.1.0 says.0.1.1 (sym says.0.1.2 ∙ c.if-not-branch.false) says.1.0
    says.1.1 says.1.2 says.1.3 (sym says.1.4 ∙ c.if-branch-2.true))

pub returns-else-branch-2 : goal.returns-else-branch-2
returns-else-branch-2 g c =
    let a = c.args in
    tells (goes_on (goes_on (goes_on c.in_ok-kind.ensures.told c.in_ok-has_matrix.ensures) c.in_ok-fits_pyramid.ensures)
    c.in_ok-suits_zooms.ensures)
    (λ profile p says meets. matrix_32 p a.table.now a.zoom a.matrix.now profile meets c.in-Some.kind
    (says.0.0.0 ∙ ap (option_map kind_text) c.in-Some.is) c.in-Some-step_of.step c.in-Some-step_of.ensures
    (sym says.0.0.1 ∙ c.if-branch.false) says.0.1.0 says.0.1.1 (sym says.0.1.2 ∙ c.if-not-branch.false) says.1.0
    says.1.1 says.1.2 says.1.3 (sym says.1.4 ∙ c.if-branch-2.false))

pub returns-in_err-suits_zooms : goal.returns-in_err-suits_zooms
returns-in_err-suits_zooms g c =
    failed (goes_on (goes_on (goes_on c.in_ok-kind.ensures.told c.in_ok-has_matrix.ensures)
    c.in_ok-fits_pyramid.ensures) c.in_err-suits_zooms.ensures)
    c.from_residual-in_err-suits_zooms.ensures.1
