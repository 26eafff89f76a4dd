use Rattle.std.specs.Prelude.{⊤}
use Rattle.std.proofs.lemmas.Result.{err_from_is_err_and}
use Rattle.sqlite.specs.Held.{state}
use Rattle.mm_rules.specs.Parts.{SetExtents, ContentsExtents}
use Rattle.mm_definitions.specs.Rules.{Extents}
use Rattle.mm_walk.proofs.Compose.{goes_on, stops, gives_up}
use Rattle.mm_rules.proofs.contents.extents.Goals as goal

pub returns-then-branch : goal.returns-then-branch
returns-then-branch g c profile =
    goes_on profile (state g.S.Store c.args.conn.now) (state g.S.Store c.set_extents.new.conn)
    (state g.S.Store c.contents_extents.new.conn) (λ _. ⊤) (λ p. SetExtents p) (λ p. ContentsExtents p)
    (λ p. Extents p.contents p.sets) (λ p.
    (λ a. record { of_sets = a.0; of_contents = a.1 }, λ r. (r.of_sets, r.of_contents)))
    c.set_extents.result c.contents_extents.result c.in_ok-set_extents.was c.if-branch.true
    (c.set_extents.ensures profile) (c.contents_extents.ensures profile)

pub returns-else-branch : goal.returns-else-branch
returns-else-branch g c profile =
    stops profile (state g.S.Store c.args.conn.now) (state g.S.Store c.set_extents.new.conn) (λ _. ⊤)
    (λ p. SetExtents p) (λ p. ContentsExtents p) (λ p. Extents p.contents p.sets)
    (λ p. (λ a. record { of_sets = a.0; of_contents = a.1 }, λ r. (r.of_sets, r.of_contents)))
    c.set_extents.result c.in_ok-set_extents.was c.if-branch.false (c.set_extents.ensures profile)

pub returns-in_err-set_extents : goal.returns-in_err-set_extents
returns-in_err-set_extents g c profile =
    let p = err_from_is_err_and c.from_residual.result c.from_residual.ensures.1 in
    rw (p.1, p.2) (gives_up profile (state g.S.Store c.args.conn.now) (state g.S.Store c.set_extents.new.conn)
    (λ _. ⊤) (λ _. ⊤) (λ p. SetExtents p) (λ p. Extents p.contents p.sets) c.set_extents.result
    c.in_err-set_extents.field-0.0 c.in_err-set_extents.was (c.set_extents.ensures profile))
