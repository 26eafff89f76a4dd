use Rattle.std.proofs.Common.{ap, codes, refl, rules, w64}
use Rattle.std.proofs.lemmas.Int.{to_z-of_z}
use mir.Val.{SFits}
use Rattle.matchit.specs.Params.{named}
use Rattle.mm_page.proofs.AskFacts.{tile_only}
use Rattle.mm_page.proofs.routes.tile_wanted.Goals as goal

pub returns-in_default : goal.returns-in_default
returns-in_default g = λ t z c r h w a. g.in_default.ensures t (h.0, ap (named (codes "table")) h.1) (tile_only t z c r w h.2 h.3 h.4 a).0

pub returns-in_default-number_of : goal.returns-in_default-number_of
returns-in_default-number_of g = λ t z c r h w a.
    let n = (tile_only t z c r w h.2 h.3 h.4 a).1 in
    g.in_default-number_of.ensures.number z (h.0, ap (named (codes "z")) h.1) n.0 n.1

pub returns-in_default-number_of-2 : goal.returns-in_default-number_of-2
returns-in_default-number_of-2 g = λ t z c r h w a.
    let n = (tile_only t z c r w h.2 h.3 h.4 a).2 in
    g.in_default-number_of-2.ensures.number c (h.0, ap (named (codes "c")) h.1) n.0 n.1

pub returns-in_default-number_of-3 : goal.returns-in_default-number_of-3
returns-in_default-number_of-3 g = λ t z c r h w a.
    let n = (tile_only t z c r w h.2 h.3 h.4 a).3 in
    g.in_default-number_of-3.ensures.number r (h.0, ap (named (codes "r")) h.1) n.0 n.1

pub returns : goal.returns
returns g = λ t z c r h.
    let (e, name) = g.in-Some.ensures t (h.0, ap (named (codes "table")) h.1) in
    let nz = g.in-Some-number_of.ensures.number z (h.0, ap (named (codes "z")) h.1) in
    let nc = g.in-Some-number_of-2.ensures.number c (h.0, ap (named (codes "c")) h.1) in
    let nr = g.in-Some-number_of-3.ensures.number r (h.0, ap (named (codes "r")) h.1) in
    let at = g.in-Some-new.ensures.value in
    let fz : SFits w64 g.in-Some-number_of.zoom = search rules in
    let fc : SFits w64 g.in-Some-number_of-2.column = search rules in
    let fr : SFits w64 g.in-Some-number_of-3.row = search rules in
    rw (
      at.0,
      at.1,
      at.2,
      to_z-of_z w64 g.in-Some-number_of.zoom fz,
      to_z-of_z w64 g.in-Some-number_of-2.column fc,
      to_z-of_z w64 g.in-Some-number_of-3.row fr,
      e,
    ) (z, c, r, refl, name, nz, nc, nr)
