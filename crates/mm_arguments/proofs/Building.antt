-- The command line is the one that its definition names.
use Rattle.std.proofs.Common.{◌≡◌, ◌∙◌, ◌||◌, true, refl, ap, ap₂}
use Rattle.clap.specs.Simple.{app_of, app_of_fields}
use Rattle.clap.specs.Words.{AddsArg, AddsSubcommand, App, Rule, is_simple, is_simple_and_free, with_rule}
use Rattle.clap.specs.Words.{with_subcommand}
use Rattle.clap.specs.declared.builder.arg.Arg.{Arg}
use Rattle.clap.specs.declared.builder.command.Command.{Command}
use Rattle.clap.specs.declared.builder.command.Command.TheOpen.{Command-F}
use Rattle.clap.specs.declared.builder.command.Command.TheViews.{out-Command as fields_of}
use Rattle.clap.proofs.OnLiterals.{clap_on_literals}
use Rattle.mm_arguments.specs.CommandLine.{IsArgument, IsCommand, command_line}

-- words of help leave a command's rules as they are
pub worded : {app : App} (c new : Command) {f : Command-F Command} → IsCommand app c → fields_of new ≡ f
    → app_of_fields f ≡ app_of c → f.has_globals ≡ (fields_of c).has_globals → IsCommand app new
worded c new is same rules globals = (
  ap app_of_fields same ∙ rules ∙ is.0,
  ap (λ (f : Command-F Command). f.has_globals) same ∙ globals ∙ is.1,
)

pub adds : (old sub : App) (c s new : Command) → IsCommand old c → IsCommand sub s → AddsSubcommand c s new
    → IsCommand (with_subcommand old sub.top) new
adds old sub c s new old_is sub_is added = (
  added.shape sub_is.1 ∙ ap₂ with_subcommand old_is.0 (ap (λ (a : App). a.top) sub_is.0),
  added.globals ∙ ap₂ (λ x y. x || y) old_is.1 sub_is.1,
)

pub takes : (app : App) (rule : Rule) (c new : Command) (a : Arg) → IsCommand app c → IsArgument rule a
    → AddsArg c a new
    → IsCommand (with_rule app rule) new
takes app rule c new a is a_is added = (
  added.shape a_is.1 ∙ ap₂ with_rule is.0 a_is.0,
  added.globals ∙ ap₂ (λ x y. x || y) is.1 a_is.1,
)

pub is_simple_line : is_simple command_line ≡ true
unfolding clap_on_literals
is_simple_line = refl

pub is_free_line : is_simple_and_free command_line ≡ true
unfolding clap_on_literals
is_free_line = refl
