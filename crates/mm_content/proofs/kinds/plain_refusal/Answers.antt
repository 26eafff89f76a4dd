use Rattle.std.proofs.Common.{option_map, sym, ap, ◌∙◌}
use Rattle.mm_definitions.specs.Effects.{plain_kind}
use Rattle.mm_definitions.specs.Package.{kind_text, has_kind}
use Rattle.mm_content.proofs.Refusing.{kind_25, plain_26, plain_free}
use Rattle.mm_store.proofs.Going.{tells, failed}
use Rattle.mm_layout.proofs.Leaving.{leaves, finds_failing}
use Rattle.mm_content.proofs.kinds.plain_refusal.Goals as goal

pub returns-in_default-clause-told : goal.returns-in_default-clause-told
returns-in_default-clause-told g c =
    let a = c.args in
    tells c.in_ok-kind.ensures.told
    (λ profile p says meets. kind_25 p a.table.now profile meets (has_kind p.kinds a.table.now (plain_kind a.asked))
    (says ∙ ap (option_map kind_text) c.in_default.is))

pub returns-in_err-kind-clause-told : goal.returns-in_err-kind-clause-told
returns-in_err-kind-clause-told g c =
    failed c.in_err-kind.ensures.told c.from_residual.ensures.1

pub returns-then-suits-clause-told : goal.returns-then-suits-clause-told
returns-then-suits-clause-told g c =
    let a = c.args in
    tells c.in_ok-kind.ensures.told
    (λ profile p says meets. plain_free p a.table.now profile meets c.in-Some.kind
    (says ∙ ap (option_map kind_text) c.in-Some.is) a.asked (sym c.suits.ensures ∙ c.if-suits.true))

pub returns-else-suits-clause-told : goal.returns-else-suits-clause-told
returns-else-suits-clause-told g c =
    let a = c.args in
    tells c.in_ok-kind.ensures.told
    (λ profile p says meets. plain_26 p a.table.now profile meets c.in-Some.kind
    (says ∙ ap (option_map kind_text) c.in-Some.is) a.asked (sym c.suits.ensures ∙ c.if-suits.false))

pub returns-in_default-clause-leaves : goal.returns-in_default-clause-leaves
returns-in_default-clause-leaves g c = leaves c.in_ok-kind.ensures.leaves

pub returns-in_err-kind-clause-leaves : goal.returns-in_err-kind-clause-leaves
returns-in_err-kind-clause-leaves g c = finds_failing c.in_err-kind.ensures.leaves c.from_residual.ensures.1

pub returns-then-suits-clause-leaves : goal.returns-then-suits-clause-leaves
returns-then-suits-clause-leaves g c = leaves c.in_ok-kind.ensures.leaves

pub returns-else-suits-clause-leaves : goal.returns-else-suits-clause-leaves
returns-else-suits-clause-leaves g c = leaves c.in_ok-kind.ensures.leaves
