use Rattle.std.proofs.Common.{[], w64, sym, ◌∙◌, rules}
use Rattle.std.proofs.Math.Facts.{to_z-of_z}
use mir.Val.{SFits}
use Rattle.mm_content.proofs.Refusing.{tile_by_kind, tile_33, tile_34, tile_fits}
use Rattle.mm_store.proofs.Going.{goes_on, tells, failed}
use Rattle.mm_layout.proofs.Leaving.{leaves, leaves_then, finds_failing}
use Rattle.mm_content.proofs.tiles.tile_refusal.Goals as goal

pub returns-in-Some-clause-told : goal.returns-in-Some-clause-told
returns-in-Some-clause-told g c =
    let a = c.args in
    tells c.in_ok-number.ensures.told
    (λ profile p says meets. tile_by_kind p a.table.now a.place.now [] c.in-Some.number
    (sym c.in-Some.is ∙ says meets))

pub returns-in_err-number-clause-told : goal.returns-in_err-number-clause-told
returns-in_err-number-clause-told g c =
    failed c.in_err-number.ensures.told c.from_residual.ensures.1

pub returns-in_default-2-clause-told : goal.returns-in_default-2-clause-told
returns-in_default-2-clause-told g c =
    let a = c.args in
    tells (goes_on c.in_ok-number.ensures.told c.in_ok-width.ensures.told)
    (λ profile p says meets. tile_33 p a.table.now a.place.now []
    (sym c.in_default.is ∙ says.0 meets) (sym says.1 ∙ c.in_default-2.is))

pub returns-in_err-width-clause-told : goal.returns-in_err-width-clause-told
returns-in_err-width-clause-told g c =
    failed (goes_on c.in_ok-number.ensures.told c.in_err-width.ensures.told) c.from_residual-in_err-width.ensures.1

pub returns-then-is_outside-clause-told : goal.returns-then-is_outside-clause-told
returns-then-is_outside-clause-told g c =
    let a = c.args in
    let wide : SFits w64 c.in-Some-2.width = search rules in
    let tall : SFits w64 c.in-Some-2.height = search rules in
    let told = sym (rw (to_z-of_z wide, to_z-of_z tall) at c.is_outside.ensures) ∙ c.if-is_outside.true in
    tells (goes_on c.in_ok-number.ensures.told c.in_ok-width.ensures.told)
    (λ profile p says meets. tile_34 p a.table.now a.place.now []
    (sym c.in_default.is ∙ says.0 meets) c.in-Some-2.width c.in-Some-2.height (sym says.1 ∙ c.in-Some-2.is) told)

pub returns-else-is_outside-clause-told : goal.returns-else-is_outside-clause-told
returns-else-is_outside-clause-told g c =
    let a = c.args in
    let wide : SFits w64 c.in-Some-2.width = search rules in
    let tall : SFits w64 c.in-Some-2.height = search rules in
    let told = sym (rw (to_z-of_z wide, to_z-of_z tall) at c.is_outside.ensures) ∙ c.if-is_outside.false in
    tells (goes_on c.in_ok-number.ensures.told c.in_ok-width.ensures.told)
    (λ profile p says meets. tile_fits p a.table.now a.place.now []
    (sym c.in_default.is ∙ says.0 meets) c.in-Some-2.width c.in-Some-2.height (sym says.1 ∙ c.in-Some-2.is) told)

pub returns-in-Some-clause-leaves : goal.returns-in-Some-clause-leaves
returns-in-Some-clause-leaves g c = leaves c.in_ok-number.ensures.leaves

pub returns-in_err-number-clause-leaves : goal.returns-in_err-number-clause-leaves
returns-in_err-number-clause-leaves g c = finds_failing c.in_err-number.ensures.leaves c.from_residual.ensures.1

pub returns-in_default-2-clause-leaves : goal.returns-in_default-2-clause-leaves
returns-in_default-2-clause-leaves g c = leaves (leaves_then c.in_ok-number.ensures.leaves c.in_ok-width.ensures.leaves)

pub returns-in_err-width-clause-leaves : goal.returns-in_err-width-clause-leaves
returns-in_err-width-clause-leaves g c =
    finds_failing (leaves_then c.in_ok-number.ensures.leaves c.in_err-width.ensures.leaves)
    c.from_residual-in_err-width.ensures.1

pub returns-then-is_outside-clause-leaves : goal.returns-then-is_outside-clause-leaves
returns-then-is_outside-clause-leaves g c =
    leaves (leaves_then c.in_ok-number.ensures.leaves c.in_ok-width.ensures.leaves)

pub returns-else-is_outside-clause-leaves : goal.returns-else-is_outside-clause-leaves
returns-else-is_outside-clause-leaves g c =
    leaves (leaves_then c.in_ok-number.ensures.leaves c.in_ok-width.ensures.leaves)
