-- The package after a command that writes a text as last_change, whatever the text is.
use Rattle.mm_definitions.specs.Keys.{Text}
use Rattle.mm_definitions.specs.Package.{Package}
use Rattle.mm_definitions.specs.Step.{refusal, done, unless_refused}
use Rattle.mm_definitions.specs.declared.commands.Command.{Command}

abbrev pub step_at : Package → Command → Text → Package
step_at p c at = unless_refused (refusal p c) (done p c at) p
