use Rattle.std.specs.Prelude.{⊤}
use Rattle.std.proofs.lemmas.Result.{err_from_is_err_and}
use Rattle.sqlite.specs.Held.{state}
use Rattle.mm_rules.specs.Parts.{GeneralExtension, MappingExtensions, ZoomExtensions}
use Rattle.mm_walk.proofs.Compose.{goes_on, stops, gives_up}
use Rattle.mm_rules.proofs.extensions.all_stand.Goals as goal

pub returns-then-branch : goal.returns-then-branch
returns-then-branch g c profile =
    goes_on profile (state g.S.Store c.args.conn.now) (state g.S.Store c.general_extension.new.conn)
    (state g.S.Store c.pyramids_marked.new.conn) (λ _. ⊤) (λ p. GeneralExtension p)
    (λ p. MappingExtensions p × ZoomExtensions p)
    (λ p. GeneralExtension p × (MappingExtensions p × ZoomExtensions p))
    (λ p. (λ a. a, λ a. a)) c.general_extension.result c.pyramids_marked.result
    c.in_ok-general_extension.was c.if-branch.true (c.general_extension.ensures profile)
    (c.pyramids_marked.ensures profile)

pub returns-else-branch : goal.returns-else-branch
returns-else-branch g c profile =
    stops profile (state g.S.Store c.args.conn.now) (state g.S.Store c.general_extension.new.conn) (λ _. ⊤)
    (λ p. GeneralExtension p) (λ p. MappingExtensions p × ZoomExtensions p)
    (λ p. GeneralExtension p × (MappingExtensions p × ZoomExtensions p))
    (λ p. (λ a. a, λ a. a)) c.general_extension.result c.in_ok-general_extension.was c.if-branch.false
    (c.general_extension.ensures profile)

pub returns-in_err-general_extension : goal.returns-in_err-general_extension
returns-in_err-general_extension g c profile =
    let p = err_from_is_err_and c.from_residual.result c.from_residual.ensures.1 in
    rw (p.1, p.2) (gives_up profile (state g.S.Store c.args.conn.now) (state g.S.Store c.general_extension.new.conn)
    (λ _. ⊤) (λ _. ⊤) (λ p. GeneralExtension p)
    (λ p. GeneralExtension p × (MappingExtensions p × ZoomExtensions p)) c.general_extension.result
    c.in_err-general_extension.field-0.0 c.in_err-general_extension.was (c.general_extension.ensures profile))
