use Rattle.std.proofs.Common.{sym, refl, ◌∙◌}
use Rattle.mm_definitions.proofs.RefusalFacts.{refused_for, accepted_for}
use Rattle.mm_relate.proofs.Refusing.{relation_drop_44, relation_drop_free}
use Rattle.mm_store.proofs.Going.{changes_then}
use Rattle.mm_store.proofs.Applying.{declines, applies, applies_unasked, applies_not}
use Rattle.mm_relate.proofs.relations.drop_relation.Goals as goal

pub returns-then-not-branch : goal.returns-then-not-branch
returns-then-not-branch g c =
    let mapping = c.as_str-mapping.result.now in
    rw (← c.as_str-mapping.ensures.text) (rw c.refused.ensures (declines c.in_ok-has_relation.ensures
    (λ profile p meets says. refused_for _ 44 (relation_drop_44 p mapping (sym says ∙ c.if-not-branch.true)))))

pub returns-in_err-has_relation : goal.returns-in_err-has_relation
returns-in_err-has_relation g c =
    rw (← c.as_str-mapping.ensures.text) (applies_unasked c.in_err-has_relation.ensures c.from_residual.ensures.1)

pub returns-in_err-delete_relation : goal.returns-in_err-delete_relation
returns-in_err-delete_relation g c =
    rw (← c.as_str-mapping.ensures.text) (applies_not c.in_ok-has_relation.ensures c.in_err-delete_relation.ensures
    (λ profile p meets says. tt) c.from_residual-in_err-delete_relation.ensures.1)

pub returns : goal.returns
returns g c =
    let mapping = c.as_str-mapping.result.now in
    rw (← c.as_str-mapping.ensures.text)
    (applies c.in_ok-has_relation.ensures
    (changes_then c.in_ok-delete_relation.ensures c.in_ok-delete_related_row.ensures (λ p any. tt))
    (λ moment profile p meets says.
    (tt, accepted_for _ (relation_drop_free p mapping (sym says ∙ c.if-not-branch.false)), refl)))

pub returns-in_err-delete_related_row : goal.returns-in_err-delete_related_row
returns-in_err-delete_related_row g c =
    rw (← c.as_str-mapping.ensures.text)
    (applies_not c.in_ok-has_relation.ensures
    (changes_then c.in_ok-delete_relation.ensures c.in_err-delete_related_row.ensures (λ p any. tt))
    (λ profile p meets says. tt) c.from_residual-in_err-delete_related_row.ensures.1)
