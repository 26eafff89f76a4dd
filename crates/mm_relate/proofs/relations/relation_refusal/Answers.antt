use Rattle.std.proofs.Common.{option_map, sym, ap, ◌∙◌}
use Rattle.mm_definitions.specs.Package.{kind_text}
use Rattle.mm_relate.proofs.Refusing.{relation_25_base, relation_25_related, relation_43, relation_47, relation_free}
use Rattle.mm_store.proofs.Going.{goes_on, tells, failed}
use Rattle.mm_relate.proofs.relations.relation_refusal.Goals as goal

pub returns-in_default : goal.returns-in_default
returns-in_default g c =
    let a = c.args in
    tells c.in_ok-based.ensures.told
    (λ profile p says meets. relation_25_base profile p meets a.mapping.now a.base.now a.related.now a.name
    (says ∙ ap (option_map kind_text) c.in_default.is))

pub returns-in_err-based : goal.returns-in_err-based
returns-in_err-based g c =
    failed c.in_err-based.ensures.told c.from_residual.ensures.1

pub returns-in_default-2 : goal.returns-in_default-2
returns-in_default-2 g c =
    let a = c.args in
    tells (goes_on c.in_ok-based.ensures.told c.in_ok-other.ensures.told)
    (λ profile p says meets. relation_25_related profile p meets a.mapping.now a.base.now a.related.now a.name
    c.in-Some.based (says.0 ∙ ap (option_map kind_text) c.in-Some.is)
    (says.1 ∙ ap (option_map kind_text) c.in_default-2.is))

pub returns-in_err-other : goal.returns-in_err-other
returns-in_err-other g c =
    failed (goes_on c.in_ok-based.ensures.told c.in_err-other.ensures.told) c.from_residual-in_err-other.ensures.1

pub returns-then-branch : goal.returns-then-branch
returns-then-branch g c =
    let a = c.args in
    tells (goes_on (goes_on c.in_ok-based.ensures.told c.in_ok-other.ensures.told) c.in_ok-is_taken.ensures)
    (λ profile p says meets. relation_43 profile p meets a.mapping.now a.base.now a.related.now a.name c.in-Some.based
    (says.0.0 ∙ ap (option_map kind_text) c.in-Some.is) c.in-Some-2.other
    (says.0.1 ∙ ap (option_map kind_text) c.in-Some-2.is) (sym says.1 ∙ c.if-branch.true))

pub returns-in_err-is_taken : goal.returns-in_err-is_taken
returns-in_err-is_taken g c =
    failed (goes_on (goes_on c.in_ok-based.ensures.told c.in_ok-other.ensures.told) c.in_err-is_taken.ensures)
    c.from_residual-in_err-is_taken.ensures.1

pub returns-then-suits : goal.returns-then-suits
returns-then-suits g c =
    let a = c.args in
    tells (goes_on (goes_on c.in_ok-based.ensures.told c.in_ok-other.ensures.told) c.in_ok-is_taken.ensures)
    (λ profile p says meets. relation_free profile p meets a.mapping.now a.base.now a.related.now a.name c.in-Some.based
    (says.0.0 ∙ ap (option_map kind_text) c.in-Some.is) c.in-Some-2.other
    (says.0.1 ∙ ap (option_map kind_text) c.in-Some-2.is) (sym says.1 ∙ c.if-branch.false)
    (sym c.suits.ensures ∙ c.if-suits.true))

pub returns-else-suits : goal.returns-else-suits
returns-else-suits g c =
    let a = c.args in
    tells (goes_on (goes_on c.in_ok-based.ensures.told c.in_ok-other.ensures.told) c.in_ok-is_taken.ensures)
    (λ profile p says meets. relation_47 profile p meets a.mapping.now a.base.now a.related.now a.name c.in-Some.based
    (says.0.0 ∙ ap (option_map kind_text) c.in-Some.is) c.in-Some-2.other
    (says.0.1 ∙ ap (option_map kind_text) c.in-Some-2.is) (sym says.1 ∙ c.if-branch.false)
    (sym c.suits.ensures ∙ c.if-suits.false))
