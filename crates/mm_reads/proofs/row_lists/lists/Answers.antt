use Rattle.std.proofs.Common.{option_map, sym, ap, ◌∙◌}
use Rattle.mm_definitions.specs.Keys.{same_text}
use Rattle.mm_definitions.specs.Parts.{at_value}
use Rattle.mm_definitions.specs.Package.{kind_text}
use Rattle.mm_definitions.specs.declared.commands.Kind.TheVariants.{Attributes}
use Rattle.mm_store.proofs.Going.{tells, failed}
use Rattle.mm_reads.proofs.row_lists.lists.Goals as goal

pub returns-in-Some : goal.returns-in-Some
returns-in-Some g c =
    tells c.in_ok-kind.ensures.told (λ profile p says. c.is_attributes.ensures
    ∙ sym (ap (at_value (same_text (kind_text Attributes))) (says ∙ ap (option_map kind_text) c.in-Some.is)))

pub returns-in-None : goal.returns-in-None
returns-in-None g c =
    tells c.in_ok-kind.ensures.told (λ profile p says. sym
    (ap (at_value (same_text (kind_text Attributes))) (says ∙ ap (option_map kind_text) c.in-None.is)))

pub returns-in_err-kind : goal.returns-in_err-kind
returns-in_err-kind g c =
    failed c.in_err-kind.ensures.told c.from_residual.ensures.1
