use Rattle.std.proofs.Common.{refl, subst}
use Rattle.std.proofs.Math.Facts.{to_z-of_z}
use Rattle.mm_definitions.proofs.RefusalFacts.{refused_for, accepted_for}
use Rattle.mm_staging.specs.Places.{IsPlace}
use Rattle.mm_staging.specs.declared.staging.Place.TheVariants.{Equal, Next}
use Rattle.mm_staging.proofs.Unchanged.{applies_unchanged}
use Rattle.mm_laws.proofs.PieceReasons.{again}
use Rattle.mm_store.proofs.Applying.{declines, applies, applies_unasked, applies_not}
use Rattle.mm_staging.proofs.staging.stage_at.Goals as goal

pub returns-in-Equal : goal.returns-in-Equal
returns-in-Equal g c =
    let a = c.args in
    applies_unchanged (rw (to_z-of_z c.ranges.number) at c.in_ok-place_of.ensures)
    (λ moment profile p meets says.
    let at : IsPlace p a.edition.now a.number a.piece.now Equal = subst (IsPlace p a.edition.now a.number a.piece.now)
    c.in-Equal.is (says meets c.requires a.piece.now c.as_written-written.ensures) in
    let free = accepted_for _ at.0 in
    (free, again p a.edition.now a.number a.piece.now moment free at.1))

pub returns-in-Refused : goal.returns-in-Refused
returns-in-Refused g c =
    let a = c.args in
    rw c.refused.ensures (declines (rw (to_z-of_z c.ranges.number) at c.in_ok-place_of.ensures)
    (λ profile p meets says. refused_for _ c.in-Refused.number
    (subst (IsPlace p a.edition.now a.number a.piece.now) c.in-Refused.is
    (says meets c.requires a.piece.now c.as_written-written.ensures))))

pub returns-in_err-place_of : goal.returns-in_err-place_of
returns-in_err-place_of g c =
    applies_unasked c.in_err-place_of.ensures c.from_residual.ensures.1

pub returns : goal.returns
returns g c =
    let a = c.args in
    applies (rw (to_z-of_z c.ranges.number) at c.in_ok-place_of.ensures)
    (rw (to_z-of_z c.ranges.number, c.as_written-written.ensures) at c.in_ok-insert_piece.ensures)
    (λ moment profile p meets says. let at : IsPlace p a.edition.now a.number a.piece.now Next =
    subst (IsPlace p a.edition.now a.number a.piece.now) c.in-Next.is
    (says meets c.requires a.piece.now c.as_written-written.ensures) in (at.1, accepted_for _ at.0, refl))

pub returns-in_err-insert_piece : goal.returns-in_err-insert_piece
returns-in_err-insert_piece g c =
    let a = c.args in
    applies_not (rw (to_z-of_z c.ranges.number) at c.in_ok-place_of.ensures)
    (rw (to_z-of_z c.ranges.number) at c.in_err-insert_piece.ensures)
    (λ profile p meets says. let at : IsPlace p a.edition.now a.number a.piece.now Next =
    subst (IsPlace p a.edition.now a.number a.piece.now) c.in-Next.is
    (says meets c.requires a.piece.now c.as_written-written.ensures) in at.1)
    c.from_residual-in_err-insert_piece.ensures.1
