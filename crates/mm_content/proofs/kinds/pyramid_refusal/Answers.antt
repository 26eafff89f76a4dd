use Rattle.std.proofs.Common.{option_map, sym, ap, ◌∙◌}
use Rattle.mm_definitions.specs.Package.{kind_text, is_pyramid}
use Rattle.mm_content.proofs.Refusing.{kind_25, pyramid_26, pyramid_free}
use Rattle.mm_store.proofs.Going.{tells, failed}
use Rattle.mm_layout.proofs.Leaving.{leaves, finds_failing}
use Rattle.mm_content.proofs.kinds.pyramid_refusal.Goals as goal

pub returns-in_default-clause-told : goal.returns-in_default-clause-told
returns-in_default-clause-told g c =
    let a = c.args in
    tells c.in_ok-kind.ensures.told
    (λ profile p says meets. kind_25 p a.table.now profile meets (is_pyramid p.kinds a.table.now)
    (says ∙ ap (option_map kind_text) c.in_default.is))

pub returns-in_err-kind-clause-told : goal.returns-in_err-kind-clause-told
returns-in_err-kind-clause-told g c =
    failed c.in_err-kind.ensures.told c.from_residual.ensures.1

pub returns-then-is_tiled-clause-told : goal.returns-then-is_tiled-clause-told
returns-then-is_tiled-clause-told g c =
    let a = c.args in
    tells c.in_ok-kind.ensures.told
    (λ profile p says meets. pyramid_free p a.table.now profile meets c.in-Some.kind
    (says ∙ ap (option_map kind_text) c.in-Some.is) (sym c.is_tiled.ensures ∙ c.if-is_tiled.true))

pub returns-else-is_tiled-clause-told : goal.returns-else-is_tiled-clause-told
returns-else-is_tiled-clause-told g c =
    let a = c.args in
    tells c.in_ok-kind.ensures.told
    (λ profile p says meets. pyramid_26 p a.table.now profile meets c.in-Some.kind
    (says ∙ ap (option_map kind_text) c.in-Some.is) (sym c.is_tiled.ensures ∙ c.if-is_tiled.false))

pub returns-in_default-clause-leaves : goal.returns-in_default-clause-leaves
returns-in_default-clause-leaves g c = leaves c.in_ok-kind.ensures.leaves

pub returns-in_err-kind-clause-leaves : goal.returns-in_err-kind-clause-leaves
returns-in_err-kind-clause-leaves g c = finds_failing c.in_err-kind.ensures.leaves c.from_residual.ensures.1

pub returns-then-is_tiled-clause-leaves : goal.returns-then-is_tiled-clause-leaves
returns-then-is_tiled-clause-leaves g c = leaves c.in_ok-kind.ensures.leaves

pub returns-else-is_tiled-clause-leaves : goal.returns-else-is_tiled-clause-leaves
returns-else-is_tiled-clause-leaves g c = leaves c.in_ok-kind.ensures.leaves
