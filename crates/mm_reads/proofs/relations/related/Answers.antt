use Rattle.std.proofs.Common.{sym, ◌∙◌}
use Rattle.std.proofs.Math.Facts.{to_z-of_z}
use Rattle.std.proofs.lemmas.Result.{err_from_is_err_and}
use Rattle.mm_reads.proofs.ReadingMates.{read_as, read_failed, reads_then}
use Rattle.mm_reads.proofs.relations.related.Goals as goal

pub returns-then-not-branch-clause-read : goal.returns-then-not-branch-clause-read
returns-then-not-branch-clause-read g c profile =
    rw (← c.as_str-table.ensures.text)
    (read_as profile _ _ _ _ ((rw (to_z-of_z c.ranges.id) at c.in_ok-stands.ensures.read) profile)
    (λ p says. sym says ∙ c.if-not-branch.true))

pub returns-in_err-stands-clause-read : goal.returns-in_err-stands-clause-read
returns-in_err-stands-clause-read g c profile =
    let p = err_from_is_err_and c.from_residual.result c.from_residual.ensures.1 in
    rw (p.1, p.2) (rw (← c.as_str-table.ensures.text)
    (read_failed profile _ _ _ (c.in_err-stands.ensures.read profile)))

pub returns-clause-read : goal.returns-clause-read
returns-clause-read g c profile =
    rw (← c.as_str-table.ensures.text)
    (read_as profile _ _ _ _ (reads_then profile _ _ _ _ _
    ((rw (to_z-of_z c.ranges.id) at c.in_ok-stands.ensures.read) profile)
    ((rw (to_z-of_z c.ranges.id) at c.in_ok-items.ensures.read) profile))
    (λ p says. (sym says.0 ∙ c.if-not-branch.false, says.1)))

pub returns-in_err-items-clause-read : goal.returns-in_err-items-clause-read
returns-in_err-items-clause-read g c profile =
    let p = err_from_is_err_and c.from_residual-in_err-items.result c.from_residual-in_err-items.ensures.1 in
    rw (p.1, p.2) (rw (← c.as_str-table.ensures.text)
    (read_failed profile _ _ _ (reads_then profile _ _ _ _ _ (c.in_ok-stands.ensures.read profile)
    (c.in_err-items.ensures.read profile))))
