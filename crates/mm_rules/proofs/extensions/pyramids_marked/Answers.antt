use Rattle.std.specs.Prelude.{⊤}
use Rattle.std.proofs.lemmas.Result.{err_from_is_err_and}
use Rattle.sqlite.specs.Held.{state}
use Rattle.mm_rules.specs.Parts.{MappingExtensions, ZoomExtensions}
use Rattle.mm_walk.proofs.Compose.{goes_on, stops, gives_up}
use Rattle.mm_rules.proofs.extensions.pyramids_marked.Goals as goal

pub returns-then-branch : goal.returns-then-branch
returns-then-branch g c profile =
    goes_on profile (state g.S.Store c.args.conn.now) (state g.S.Store c.mapping_extensions.new.conn)
    (state g.S.Store c.zoom_extensions.new.conn) (λ _. ⊤) (λ p. MappingExtensions p) (λ p. ZoomExtensions p)
    (λ p. MappingExtensions p × ZoomExtensions p) (λ p. (λ a. a, λ a. a)) c.mapping_extensions.result
    c.zoom_extensions.result c.in_ok-mapping_extensions.was c.if-branch.true
    (c.mapping_extensions.ensures profile) (c.zoom_extensions.ensures profile)

pub returns-else-branch : goal.returns-else-branch
returns-else-branch g c profile =
    stops profile (state g.S.Store c.args.conn.now) (state g.S.Store c.mapping_extensions.new.conn) (λ _. ⊤)
    (λ p. MappingExtensions p) (λ p. ZoomExtensions p) (λ p. MappingExtensions p × ZoomExtensions p)
    (λ p. (λ a. a, λ a. a)) c.mapping_extensions.result c.in_ok-mapping_extensions.was c.if-branch.false
    (c.mapping_extensions.ensures profile)

pub returns-in_err-mapping_extensions : goal.returns-in_err-mapping_extensions
returns-in_err-mapping_extensions g c profile =
    let p = err_from_is_err_and c.from_residual.result c.from_residual.ensures.1 in
    rw (p.1, p.2) (gives_up profile (state g.S.Store c.args.conn.now) (state g.S.Store c.mapping_extensions.new.conn)
    (λ _. ⊤) (λ _. ⊤) (λ p. MappingExtensions p) (λ p. MappingExtensions p × ZoomExtensions p)
    c.mapping_extensions.result c.in_err-mapping_extensions.field-0.0 c.in_err-mapping_extensions.was
    (c.mapping_extensions.ensures profile))
