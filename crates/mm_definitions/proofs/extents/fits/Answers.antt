use Rattle.std.proofs.Common.{arith, ◌≡◌, pos, ◌*◌, ◌*ℤ◌, ◌-ℤ◌, to_z, of_z, sym, ap, ◌∙◌}
use Rattle.std.specs.Int.{w128}
use Rattle.std.proofs.lemmas.Int.{ints}
use Rattle.mm_definitions.proofs.extents.fits.Goals as goal

pub returns-then-across : goal.returns-then-across
returns-then-across c =
    let e = c.extent.inside in
    let m = c.args.matrix.now in
    let wide : c.distance.result ≡ e.max_x -ℤ e.min_x = omega (arith, ints) in
    let high : c.distance-2.result ≡ e.max_y -ℤ e.min_y = omega (arith, ints) in
    let broad : c.measure.result ≡ pos (m.mw * m.tw) *ℤ m.px = c.measure.ensures in
    let long : c.measure-2.result ≡ pos (m.mh * m.th) *ℤ m.py = c.measure-2.ensures in
    let same : c.distance.result ≡ c.measure.result = let h = c.is_same-across.ensures.0 c.if-across.true in omega
    (arith, ints, h) in
    rw (← c.extent.view_is) (
      λ t. record {
        across = sym wide ∙ same ∙ broad;
        down = sym high ∙ (let h = c.is_same-down.ensures.0 t in omega (arith, ints, h)) ∙ long;
      },
      λ f. c.is_same-down.ensures.1 (ap (λ z. to_z w128 (of_z w128 z)) (high ∙ f.down ∙ sym long)),
    )
