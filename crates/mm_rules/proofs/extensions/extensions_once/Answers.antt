use Rattle.std.specs.Prelude.{⊤}
use Rattle.std.proofs.lemmas.Result.{err_from_is_err_and}
use Rattle.sqlite.specs.Held.{state}
use Rattle.mm_rules.specs.Parts.{NamedOnce, UnnamedOnce, ExtensionsOnce}
use Rattle.mm_rules.proofs.ExtensionRules.{all_once}
use Rattle.mm_walk.proofs.Compose.{goes_on, stops, gives_up}
use Rattle.mm_rules.proofs.extensions.extensions_once.Goals as goal

pub returns-then-branch : goal.returns-then-branch
returns-then-branch g c profile =
    goes_on profile (state g.S.Store c.args.conn.now) (state g.S.Store c.named_once.new.conn)
    (state g.S.Store c.unnamed_once.new.conn) (λ _. ⊤) (λ p. NamedOnce p) (λ p. UnnamedOnce p) (λ p. ExtensionsOnce p)
    (λ p. ((all_once p).0, (all_once p).1)) c.named_once.result c.unnamed_once.result c.in_ok-named_once.was
    c.if-branch.true (c.named_once.ensures profile) (c.unnamed_once.ensures profile)

pub returns-else-branch : goal.returns-else-branch
returns-else-branch g c profile =
    stops profile (state g.S.Store c.args.conn.now) (state g.S.Store c.named_once.new.conn) (λ _. ⊤) (λ p. NamedOnce p)
    (λ p. UnnamedOnce p) (λ p. ExtensionsOnce p)
    (λ p. ((all_once p).0, (all_once p).1)) c.named_once.result c.in_ok-named_once.was c.if-branch.false
    (c.named_once.ensures profile)

pub returns-in_err-named_once : goal.returns-in_err-named_once
returns-in_err-named_once g c profile =
    let p = err_from_is_err_and c.from_residual.result c.from_residual.ensures.1 in
    rw (p.1, p.2) (gives_up profile (state g.S.Store c.args.conn.now) (state g.S.Store c.named_once.new.conn)
    (λ _. ⊤) (λ _. ⊤) (λ p. NamedOnce p) (λ p. ExtensionsOnce p) c.named_once.result
    c.in_err-named_once.field-0.0 c.in_err-named_once.was (c.named_once.ensures profile))
