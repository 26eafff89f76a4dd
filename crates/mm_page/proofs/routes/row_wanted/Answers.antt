use Rattle.std.proofs.Common.{ap, codes, rules, w64}
use Rattle.std.proofs.lemmas.Int.{to_z-of_z}
use mir.Val.{SFits}
use Rattle.matchit.specs.Params.{named}
use Rattle.mm_page.proofs.routes.row_wanted.Goals as goal

pub returns-in_default : goal.returns-in_default
returns-in_default g = λ t i h r. g.in_default.ensures t (h.0, ap (named (codes "table")) h.1) r.0

pub returns-in_default-number_of : goal.returns-in_default-number_of
returns-in_default-number_of g = λ t i h r. g.in_default-number_of.ensures.number i (h.0, ap (named (codes "id")) h.1) r.1 r.2

pub returns : goal.returns
returns g = λ t i h.
    let (e, name) = g.in-Some.ensures t (h.0, ap (named (codes "table")) h.1) in
    let n = g.in-Some-number_of.ensures.number i (h.0, ap (named (codes "id")) h.1) in
    let f : SFits w64 g.in-Some-number_of.id = search rules in
    rw (to_z-of_z w64 g.in-Some-number_of.id f) (e, name, n)
