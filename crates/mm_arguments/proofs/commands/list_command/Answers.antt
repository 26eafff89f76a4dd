use Rattle.std.proofs.Common.{refl, codes}
use Rattle.std.proofs.lemmas.Result.{IfOk-weaker}
use Rattle.clap.specs.Words.{new_app}
use Rattle.mm_arguments.specs.CommandLine.{IsCommand}
use Rattle.mm_arguments.proofs.Building.{takes, worded}
use Rattle.mm_arguments.proofs.commands.list_command.Goals as goal

pub returns : goal.returns
returns c =
    let shown = worded _ _ (c.new.ensures.app, c.new.ensures.local) c.about.ensures refl refl in
    let named : IsCommand (new_app (codes "list")) c.after_help.result = worded _ _ shown c.after_help.ensures refl refl in
    IfOk-weaker c.arg.result _ _ (λ whole added. takes _ _ _ _ _ named c.file_argument.ensures added) c.arg.ensures
