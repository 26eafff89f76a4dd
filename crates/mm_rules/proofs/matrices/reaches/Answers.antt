use Rattle.std.proofs.Common.{◌≡◌, ◌↔◌, ◌-ℤ◌, ◌*ℤ◌, IsTrue, sym, ◌∙◌, rules}
use Rattle.mm_rules.proofs.matrices.reaches.Goals as goal

pub returns-in-Some : goal.returns-in-Some
returns-in-Some c =
    let d : c.distance-wanted.result ≡ c.args.high -ℤ c.args.low = search rules in
    let m : c.in-Some.length ≡ (c.args.tiles *ℤ c.args.pixels) *ℤ c.args.size = search rules in
    let s : IsTrue c.is_same.result ↔ (c.distance-wanted.result ≡ c.in-Some.length) = search rules in
    (λ t. sym d ∙ s.0 t ∙ m, λ e. s.1 (d ∙ e ∙ sym m))
