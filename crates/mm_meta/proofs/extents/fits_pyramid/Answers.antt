use Rattle.std.proofs.Common.{sym, ap, ◌∙◌, inr, refl}
use Rattle.mm_definitions.specs.Conditions.{grid, is_product}
use Rattle.mm_definitions.specs.Package.{Box}
use Rattle.std.specs.FinMap.{get}
use Rattle.mm_meta.proofs.Covering.{fits_is, set_of}
use Rattle.mm_store.proofs.Going.{tells, failed, denied}
use Rattle.mm_meta.proofs.extents.fits_pyramid.Goals as goal

pub returns-in-Some : goal.returns-in-Some
returns-in-Some g c =
    let a = c.args in
    let told = fits_is c.in-Some.extent (grid a.matrix.now) c.fits.result c.fits.ensures in
    tells c.in_ok-extent.ensures
    (λ profile p says. let set = set_of (get p.sets a.table.now) c.in-Some.extent (says ∙ c.in-Some.is) in
    (set.0, set.1, told ∙ ap (λ (b : Box). is_product b (grid a.matrix.now)) (sym set.2)))

pub returns-in-None : goal.returns-in-None
returns-in-None g c = denied c.in_ok-extent.ensures (inr refl)

pub returns-in_err-extent : goal.returns-in_err-extent
returns-in_err-extent g c =
    failed c.in_err-extent.ensures c.from_residual.ensures.1
