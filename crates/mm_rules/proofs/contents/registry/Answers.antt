use Rattle.std.specs.Prelude.{⊤}
use Rattle.std.proofs.lemmas.Result.{err_from_is_err_and}
use Rattle.sqlite.specs.Held.{state}
use Rattle.mm_rules.specs.Parts.{Registered, KindsHaveContents, SetsHaveContents}
use Rattle.mm_definitions.specs.Rules.{Registry}
use Rattle.mm_walk.proofs.Compose.{goes_on, stops, gives_up}
use Rattle.mm_rules.proofs.contents.registry.Goals as goal

pub returns-then-branch : goal.returns-then-branch
returns-then-branch g c profile =
    goes_on profile (state g.S.Store c.args.conn.now) (state g.S.Store c.registered.new.conn)
    (state g.S.Store c.have_contents.new.conn) (λ _. ⊤) (λ p. Registered p)
    (λ p. KindsHaveContents p × SetsHaveContents p) (λ p. Registry p.contents p.kinds p.sets)
    (λ p. (
      λ a. record { registered = a.0; of_kinds = a.1.0; of_sets = a.1.1 },
      λ r.
          (r.registered, (r.of_kinds, r.of_sets)),
    )) c.registered.result c.have_contents.result
    c.in_ok-registered.was c.if-branch.true (c.registered.ensures profile) (c.have_contents.ensures profile)

pub returns-else-branch : goal.returns-else-branch
returns-else-branch g c profile =
    stops profile (state g.S.Store c.args.conn.now) (state g.S.Store c.registered.new.conn) (λ _. ⊤)
    (λ p. Registered p) (λ p. KindsHaveContents p × SetsHaveContents p) (λ p. Registry p.contents p.kinds p.sets)
    (λ p. (
      λ a. record { registered = a.0; of_kinds = a.1.0; of_sets = a.1.1 },
      λ r.
          (r.registered, (r.of_kinds, r.of_sets)),
    )) c.registered.result c.in_ok-registered.was
    c.if-branch.false (c.registered.ensures profile)

pub returns-in_err-registered : goal.returns-in_err-registered
returns-in_err-registered g c profile =
    let p = err_from_is_err_and c.from_residual.result c.from_residual.ensures.1 in
    rw (p.1, p.2) (gives_up profile (state g.S.Store c.args.conn.now) (state g.S.Store c.registered.new.conn)
    (λ _. ⊤) (λ _. ⊤) (λ p. Registered p) (λ p. Registry p.contents p.kinds p.sets) c.registered.result
    c.in_err-registered.field-0.0 c.in_err-registered.was (c.registered.ensures profile))
