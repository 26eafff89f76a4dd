use Rattle.mm_definitions.specs.Bounds.{millimetres}
use Rattle.mm_definitions.specs.Rules.{Limits}
use Rattle.mm_store.proofs.Going.{changes_then, change_where, failed_where}
use Rattle.mm_migrate.proofs.scaling.scale_tables.Goals as goal

pub returns-in_err-scale_contents : goal.returns-in_err-scale_contents
returns-in_err-scale_contents g c =
    failed_where (change_where (λ p. Limits millimetres p) c.in_err-scale_contents.ensures
    (λ p limits. limits.contents)) c.from_residual.ensures.1
    (λ profile p it. it)

pub returns-in_err-scale_matrix_sets : goal.returns-in_err-scale_matrix_sets
returns-in_err-scale_matrix_sets g c =
    failed_where (change_where (λ p. Limits millimetres p)
    (changes_then (change_where (λ p. Limits millimetres p) c.in_ok-scale_contents.ensures
    (λ p limits. limits.contents)) c.in_err-scale_matrix_sets.ensures (λ p limits. limits.sets)) (λ p limits. limits))
    c.from_residual-in_err-scale_matrix_sets.ensures.1
    (λ profile p it. it)

pub returns : goal.returns
returns g c =
    changes_then (changes_then (change_where (λ p. Limits millimetres p) c.in_ok-scale_contents.ensures
    (λ p limits. limits.contents)) c.in_ok-scale_matrix_sets.ensures (λ p limits. limits.sets)) c.scale_matrices.ensures
    (λ p limits. limits.matrices)
