use Rattle.std.specs.Prelude.{⊤}
use Rattle.std.proofs.lemmas.Result.{err_from_is_err_and}
use Rattle.sqlite.specs.Held.{state}
use Rattle.mm_rules.specs.Parts.{KindsHaveContents, SetsHaveContents}
use Rattle.mm_walk.proofs.Compose.{goes_on, stops, gives_up}
use Rattle.mm_rules.proofs.contents.have_contents.Goals as goal

pub returns-then-branch : goal.returns-then-branch
returns-then-branch g c profile =
    goes_on profile (state g.S.Store c.args.conn.now) (state g.S.Store c.kinds_have_contents.new.conn)
    (state g.S.Store c.sets_have_contents.new.conn) (λ _. ⊤) (λ p. KindsHaveContents p) (λ p. SetsHaveContents p)
    (λ p. KindsHaveContents p × SetsHaveContents p)
    (λ p. (λ a. a, λ a. a)) c.kinds_have_contents.result c.sets_have_contents.result
    c.in_ok-kinds_have_contents.was c.if-branch.true (c.kinds_have_contents.ensures profile)
    (c.sets_have_contents.ensures profile)

pub returns-else-branch : goal.returns-else-branch
returns-else-branch g c profile =
    stops profile (state g.S.Store c.args.conn.now) (state g.S.Store c.kinds_have_contents.new.conn) (λ _. ⊤)
    (λ p. KindsHaveContents p) (λ p. SetsHaveContents p) (λ p. KindsHaveContents p × SetsHaveContents p)
    (λ p. (λ a. a, λ a. a)) c.kinds_have_contents.result c.in_ok-kinds_have_contents.was c.if-branch.false
    (c.kinds_have_contents.ensures profile)

pub returns-in_err-kinds_have_contents : goal.returns-in_err-kinds_have_contents
returns-in_err-kinds_have_contents g c profile =
    let p = err_from_is_err_and c.from_residual.result c.from_residual.ensures.1 in
    rw (p.1, p.2) (gives_up profile (state g.S.Store c.args.conn.now)
    (state g.S.Store c.kinds_have_contents.new.conn) (λ _. ⊤) (λ _. ⊤) (λ p. KindsHaveContents p)
    (λ p. KindsHaveContents p × SetsHaveContents p) c.kinds_have_contents.result
    c.in_err-kinds_have_contents.field-0.0 c.in_err-kinds_have_contents.was (c.kinds_have_contents.ensures profile))
