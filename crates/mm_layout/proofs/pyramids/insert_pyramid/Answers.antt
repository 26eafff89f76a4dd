use Rattle.std.proofs.Math.Facts.{to_z-of_z}
use Rattle.mm_layout.specs.Rows.{IsUnregistered}
use Rattle.mm_store.proofs.Going.{changes_then, change_where, failed_where}
use Rattle.mm_layout.proofs.pyramids.insert_pyramid.Goals as goal

pub returns-in_err-insert_pyramid_contents : goal.returns-in_err-insert_pyramid_contents
returns-in_err-insert_pyramid_contents g c =
    failed_where (change_where (IsUnregistered c.args.table.now) c.in_err-insert_pyramid_contents.ensures
    (λ p new. new.0)) c.from_residual.ensures.1
    (λ profile p it. it)

pub returns-in_err-insert_kind : goal.returns-in_err-insert_kind
returns-in_err-insert_kind g c =
    failed_where (changes_then (change_where (IsUnregistered c.args.table.now) c.in_ok-insert_pyramid_contents.ensures
    (λ p new. new.0)) c.in_err-insert_kind.ensures (λ p new. new.1)) c.from_residual-in_err-insert_kind.ensures.1
    (λ profile p it. it)

pub returns : goal.returns
returns g c =
    let r = c.ranges in
    changes_then (changes_then (change_where (IsUnregistered c.args.table.now)
    (rw (to_z-of_z r.srs) at c.in_ok-insert_pyramid_contents.ensures) (λ p new. new.0))
    (rw c.text_of_step.ensures at c.in_ok-insert_kind.ensures) (λ p new. new.1))
    (rw (to_z-of_z r.srs) at c.insert_matrix_set.ensures) (λ p new. new.2)
