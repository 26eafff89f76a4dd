use Rattle.std.specs.Prelude.{⊤}
use Rattle.std.proofs.lemmas.Result.{err_from_is_err_and}
use Rattle.sqlite.specs.Held.{state}
use Rattle.mm_rules.specs.Parts.{ExtensionsWanted, ExtensionsOnce, GeneralExtension, MappingExtensions, ZoomExtensions}
use Rattle.mm_definitions.specs.Rules.{ExactExtensions}
use Rattle.mm_rules.proofs.ExtensionRules.{all_extensions}
use Rattle.mm_walk.proofs.Compose.{goes_on, stops, gives_up}
use Rattle.mm_rules.proofs.extensions.extensions.Goals as goal

pub returns-then-branch : goal.returns-then-branch
returns-then-branch g c profile =
    goes_on profile (state g.S.Store c.args.conn.now) (state g.S.Store c.extensions_wanted.new.conn)
    (state g.S.Store c.all_stand_once.new.conn) (λ _. ⊤) (λ p. ExtensionsWanted p)
    (λ p. ExtensionsOnce p × (GeneralExtension p × (MappingExtensions p × ZoomExtensions p)))
    (λ p. ExactExtensions p.kinds p.relations p.extensions)
    (λ p. ((all_extensions p).0, (all_extensions p).1)) c.extensions_wanted.result
    c.all_stand_once.result c.in_ok-extensions_wanted.was c.if-branch.true
    (c.extensions_wanted.ensures profile) (c.all_stand_once.ensures profile)

pub returns-else-branch : goal.returns-else-branch
returns-else-branch g c profile =
    stops profile (state g.S.Store c.args.conn.now) (state g.S.Store c.extensions_wanted.new.conn) (λ _. ⊤)
    (λ p. ExtensionsWanted p) (λ p. ExtensionsOnce p
    × (GeneralExtension p × (MappingExtensions p × ZoomExtensions p)))
    (λ p. ExactExtensions p.kinds p.relations p.extensions)
    (λ p. ((all_extensions p).0, (all_extensions p).1)) c.extensions_wanted.result
    c.in_ok-extensions_wanted.was c.if-branch.false (c.extensions_wanted.ensures profile)

pub returns-in_err-extensions_wanted : goal.returns-in_err-extensions_wanted
returns-in_err-extensions_wanted g c profile =
    let p = err_from_is_err_and c.from_residual.result c.from_residual.ensures.1 in
    rw (p.1, p.2) (gives_up profile (state g.S.Store c.args.conn.now) (state g.S.Store c.extensions_wanted.new.conn)
    (λ _. ⊤) (λ _. ⊤) (λ p. ExtensionsWanted p) (λ p. ExactExtensions p.kinds p.relations p.extensions)
    c.extensions_wanted.result c.in_err-extensions_wanted.field-0.0 c.in_err-extensions_wanted.was
    (c.extensions_wanted.ensures profile))
