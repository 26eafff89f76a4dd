use Rattle.std.proofs.Common.{Some, option_map, string_bytes, sym, ap, ◌∙◌, inr, refl}
use Rattle.mm_store.proofs.Going.{tells, failed, denied}
use Rattle.mm_layout.proofs.Leaving.{leaves, finds_failing, finds_untold}
use Rattle.mm_layout.proofs.kinds.kind_of.Goals as goal

pub returns-in-Some-named-clause-told : goal.returns-in-Some-named-clause-told
returns-in-Some-named-clause-told g c =
    tells c.in_ok-text.ensures.told (λ profile p says. says ∙ ap (option_map string_bytes) c.in-Some.is
    ∙ ap Some (sym c.as_str.ensures.value ∙ c.in-Some-named.ensures))

pub returns-in-Some-named-clause-leaves : goal.returns-in-Some-named-clause-leaves
returns-in-Some-named-clause-leaves g c = leaves c.in_ok-text.ensures.leaves

pub returns-in-Some-clause-told : goal.returns-in-Some-clause-told
returns-in-Some-clause-told g c = denied c.in_ok-text.ensures.told (inr refl)

pub returns-in-Some-clause-leaves : goal.returns-in-Some-clause-leaves
returns-in-Some-clause-leaves g c = finds_untold c.in_ok-text.ensures.leaves (inr refl)

pub returns-clause-told : goal.returns-clause-told
returns-clause-told g c =
    tells c.in_ok-text.ensures.told (λ profile p says. says ∙ ap (option_map string_bytes) c.in-None.is)

pub returns-clause-leaves : goal.returns-clause-leaves
returns-clause-leaves g c = leaves c.in_ok-text.ensures.leaves

pub returns-in_err-text-clause-told : goal.returns-in_err-text-clause-told
returns-in_err-text-clause-told g c =
    failed c.in_err-text.ensures.told c.from_residual.ensures.1

pub returns-in_err-text-clause-leaves : goal.returns-in_err-text-clause-leaves
returns-in_err-text-clause-leaves g c = finds_failing c.in_err-text.ensures.leaves c.from_residual.ensures.1
