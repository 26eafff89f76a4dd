use Rattle.std.specs.Prelude.{⊤}
use Rattle.std.proofs.lemmas.Result.{err_from_is_err_and}
use Rattle.sqlite.specs.Held.{state}
use Rattle.mm_rules.specs.Parts.{ExtensionsOnce, GeneralExtension, MappingExtensions, ZoomExtensions}
use Rattle.mm_walk.proofs.Compose.{goes_on, stops, gives_up}
use Rattle.mm_rules.proofs.extensions.all_stand_once.Goals as goal

pub returns-then-branch : goal.returns-then-branch
returns-then-branch g c profile =
    goes_on profile (state g.S.Store c.args.conn.now) (state g.S.Store c.extensions_once.new.conn)
    (state g.S.Store c.all_stand.new.conn) (λ _. ⊤) (λ p. ExtensionsOnce p)
    (λ p. GeneralExtension p × (MappingExtensions p × ZoomExtensions p))
    (λ p. ExtensionsOnce p × (GeneralExtension p × (MappingExtensions p × ZoomExtensions p)))
    (λ p. (λ a. a, λ a. a)) c.extensions_once.result c.all_stand.result c.in_ok-extensions_once.was
    c.if-branch.true (c.extensions_once.ensures profile) (c.all_stand.ensures profile)

pub returns-else-branch : goal.returns-else-branch
returns-else-branch g c profile =
    stops profile (state g.S.Store c.args.conn.now) (state g.S.Store c.extensions_once.new.conn) (λ _. ⊤)
    (λ p. ExtensionsOnce p) (λ p. GeneralExtension p × (MappingExtensions p × ZoomExtensions p))
    (λ p. ExtensionsOnce p × (GeneralExtension p × (MappingExtensions p × ZoomExtensions p)))
    (λ p. (λ a. a, λ a. a)) c.extensions_once.result c.in_ok-extensions_once.was c.if-branch.false
    (c.extensions_once.ensures profile)

pub returns-in_err-extensions_once : goal.returns-in_err-extensions_once
returns-in_err-extensions_once g c profile =
    let p = err_from_is_err_and c.from_residual.result c.from_residual.ensures.1 in
    rw (p.1, p.2) (gives_up profile (state g.S.Store c.args.conn.now) (state g.S.Store c.extensions_once.new.conn)
    (λ _. ⊤) (λ _. ⊤) (λ p. ExtensionsOnce p) (λ p. ExtensionsOnce p
    × (GeneralExtension p × (MappingExtensions p × ZoomExtensions p))) c.extensions_once.result
    c.in_err-extensions_once.field-0.0 c.in_err-extensions_once.was (c.extensions_once.ensures profile))
