use Rattle.std.proofs.Common.{◌∙◌, MatchOption, subst, sym, ap, rules, w64}
use Rattle.std.proofs.lemmas.Int.{to_z-of_z}
use mir.Val.{SFits}
use Rattle.matchit.specs.Params.{AllText, walk}
use Rattle.mm_page.specs.Asked.{IsRouted, Wanted}
use Rattle.mm_page.specs.Routes.{asked}
use Rattle.mm_page.proofs.AskFacts.{ascii_text, matched, media_only, related_only, untaken}
use Rattle.mm_page.proofs.routes.find_route.Goals as goal

pub returns-in_default : goal.returns-in_default
returns-in_default g = untaken g.args.path.now (ascii_text g.args.path.now g.requires.ascii)
    (rw g.requires.routes at g.in_default.ensures.missing)

pub returns-in-Tile : goal.returns-in-Tile
returns-in-Tile g =
    let m = matched g.args.path.now _ g.requires.ascii (rw g.requires.routes at g.in-Ok.ensures.found) in
    let (t, z, c, r, is, pairs, all, pt, pz, pc, pr) = rw g.in-Tile.is at m in
    let f = g.in-Ok.found.params in
    let same = ap (λ p. walk f.pattern.now f.text.now p f.names.now 0 0) g.in-Ok.ensures.path ∙ pairs in
    let told = g.tile_wanted.ensures t z c r (subst AllText (sym same) all, same, pt, pz, pc, pr) in
    subst (λ p. MatchOption g.tile_wanted.result ((w : Wanted) → ¬ (IsRouted p w)) (λ w. IsRouted p (asked w))) (sym is)
    told

pub returns-in-Some : goal.returns-in-Some
returns-in-Some g =
    let m = matched g.args.path.now _ g.requires.ascii (rw g.requires.routes at g.in-Ok.ensures.found) in
    let (t, i, is, pairs, all, pt) = rw g.in-Media.is at m in
    let f = g.in-Ok.found.params in
    let same = ap (λ p. walk f.pattern.now f.text.now p f.names.now 0 0) g.in-Ok.ensures.path ∙ pairs in
    let (e, name, n) = g.in-Some.ensures t i (subst AllText (sym same) all, same) in
    let s : SFits w64 g.in-Some.id = search rules in
    rw (to_z-of_z w64 g.in-Some.id s, e) (i, is, name, n)

pub returns-in-None : goal.returns-in-None
returns-in-None g = λ w a.
    let m = matched g.args.path.now _ g.requires.ascii (rw g.requires.routes at g.in-Ok.ensures.found) in
    let (t, i, is, pairs, all, pt) = rw g.in-Media.is at m in
    let f = g.in-Ok.found.params in
    let same = ap (λ p. walk f.pattern.now f.text.now p f.names.now 0 0) g.in-Ok.ensures.path ∙ pairs in
    g.in-None.ensures t i (subst AllText (sym same) all, same) (media_only t i w pt (rw is at a))

pub returns-in-Some-row_wanted : goal.returns-in-Some-row_wanted
returns-in-Some-row_wanted g =
    let m = matched g.args.path.now _ g.requires.ascii (rw g.requires.routes at g.in-Ok.ensures.found) in
    let (t, i, is, pairs, all, pt) = rw g.in-Related.is at m in
    let f = g.in-Ok.found.params in
    let same = ap (λ p. walk f.pattern.now f.text.now p f.names.now 0 0) g.in-Ok.ensures.path ∙ pairs in
    let (e, name, n) = g.in-Some-row_wanted.ensures t i (subst AllText (sym same) all, same) in
    let s : SFits w64 g.in-Some-row_wanted.id = search rules in
    rw (to_z-of_z w64 g.in-Some-row_wanted.id s, e) (i, is, name, n)

pub returns-in-None-row_wanted : goal.returns-in-None-row_wanted
returns-in-None-row_wanted g = λ w a.
    let m = matched g.args.path.now _ g.requires.ascii (rw g.requires.routes at g.in-Ok.ensures.found) in
    let (t, i, is, pairs, all, pt) = rw g.in-Related.is at m in
    let f = g.in-Ok.found.params in
    let same = ap (λ p. walk f.pattern.now f.text.now p f.names.now 0 0) g.in-Ok.ensures.path ∙ pairs in
    g.in-None-row_wanted.ensures t i (subst AllText (sym same) all, same) (related_only t i w pt (rw is at a))

pub returns-in-Contents : goal.returns-in-Contents
returns-in-Contents g =
    let m = matched g.args.path.now _ g.requires.ascii (rw g.requires.routes at g.in-Ok.ensures.found) in
    rw g.in-Contents.is at m
