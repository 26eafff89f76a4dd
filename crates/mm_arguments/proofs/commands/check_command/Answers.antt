use Rattle.std.proofs.Common.{refl, codes}
use Rattle.std.proofs.lemmas.Result.{IfOk-weaker}
use Rattle.clap.specs.Words.{new_app}
use Rattle.mm_arguments.specs.CommandLine.{IsCommand}
use Rattle.mm_arguments.proofs.Building.{takes, worded}
use Rattle.mm_arguments.proofs.commands.check_command.Goals as goal

pub returns : goal.returns
returns c =
    let shown = worded _ _ (worded _ _ (c.new.ensures.app, c.new.ensures.local) c.about.ensures refl refl)
    c.after_help.ensures refl refl in
    let named : IsCommand (new_app (codes "check")) c.after_long_help.result = worded _ _ shown c.after_long_help.ensures refl refl in
    let with_file = takes _ _ _ _ _ named c.file_argument.ensures c.in_ok-arg.ensures in
    IfOk-weaker c.arg-2.result _ _ (λ whole added. takes _ _ _ _ _ with_file c.progress_argument.ensures added)
    c.arg-2.ensures
