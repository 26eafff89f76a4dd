use Rattle.std.proofs.Common.{refl, codes}
use Rattle.std.proofs.lemmas.Result.{IfOk-weaker}
use Rattle.clap.specs.Words.{new_app}
use Rattle.mm_arguments.specs.CommandLine.{IsCommand}
use Rattle.mm_arguments.proofs.Building.{takes, worded}
use Rattle.mm_arguments.proofs.commands.desk_command.Goals as goal

pub returns : goal.returns
returns c =
    let shown = worded _ _ (worded _ _ (c.new.ensures.app, c.new.ensures.local) c.about.ensures refl refl)
    c.after_help.ensures refl refl in
    let named : IsCommand (new_app (codes "desk")) c.after_long_help.result = worded _ _ shown c.after_long_help.ensures refl refl in
    let with_file = takes _ _ _ _ _ named c.file_argument.ensures c.in_ok-arg.ensures in
    let with_port = takes _ _ _ _ _ with_file c.port_argument.ensures c.in_ok-arg-2.ensures in
    let with_count = takes _ _ _ _ _ with_port c.count_argument.ensures c.in_ok-arg-3.ensures in
    let with_page = takes _ _ _ _ _ with_count c.page_argument.ensures c.in_ok-arg-4.ensures in
    IfOk-weaker c.arg-5.result _ _ (λ whole added. takes _ _ _ _ _ with_page c.progress_argument.ensures added)
    c.arg-5.ensures
