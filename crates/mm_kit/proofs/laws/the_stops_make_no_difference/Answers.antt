use Rattle.std.proofs.Common.{◌≡◌, ap}
use Rattle.mm_definitions.specs.Package.{Package}
use Rattle.mm_definitions.specs.Step.{step}
use Rattle.mm_definitions.specs.declared.commands.Command.TheVariants as commands
use Rattle.mm_kit.proofs.LawFacts.{by_any_stops}
use Rattle.mm_kit.proofs.laws.the_stops_make_no_difference.Goals as goal

pub returns : goal.returns
returns c = λ name kit p q r stops others moment h k one two.
    let same : q ≡ r = by_any_stops name kit p q r stops others h k one two in
    (same, ap (λ (x : Package). step x (commands.Publish name) moment) same)
