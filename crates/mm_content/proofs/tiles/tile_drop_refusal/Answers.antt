use Rattle.std.proofs.Common.{sym, ◌∙◌}
use Rattle.mm_content.proofs.Refusing.{tile_drop_by_kind, tile_drop_35, tile_drop_free}
use Rattle.mm_store.proofs.Going.{goes_on, tells, failed}
use Rattle.mm_content.proofs.tiles.tile_drop_refusal.Goals as goal

pub returns-in-Some : goal.returns-in-Some
returns-in-Some g c =
    let a = c.args in
    tells c.in_ok-number.ensures.told
    (λ profile p says meets. tile_drop_by_kind p a.table.now a.place.now c.in-Some.number
    (sym c.in-Some.is ∙ says meets))

pub returns-in_err-number : goal.returns-in_err-number
returns-in_err-number g c =
    failed c.in_err-number.ensures.told c.from_residual.ensures.1

pub returns-then-branch : goal.returns-then-branch
returns-then-branch g c =
    let a = c.args in
    tells (goes_on c.in_ok-number.ensures.told c.in_ok-has_tile.ensures)
    (λ profile p says meets. tile_drop_free p a.table.now a.place.now
    (sym c.in_default.is ∙ says.0 meets) (sym says.1 ∙ c.if-branch.true))

pub returns-else-branch : goal.returns-else-branch
returns-else-branch g c =
    let a = c.args in
    tells (goes_on c.in_ok-number.ensures.told c.in_ok-has_tile.ensures)
    (λ profile p says meets. tile_drop_35 p a.table.now a.place.now
    (sym c.in_default.is ∙ says.0 meets) (sym says.1 ∙ c.if-branch.false))

pub returns-in_err-has_tile : goal.returns-in_err-has_tile
returns-in_err-has_tile g c =
    failed (goes_on c.in_ok-number.ensures.told c.in_err-has_tile.ensures) c.from_residual-in_err-has_tile.ensures.1
