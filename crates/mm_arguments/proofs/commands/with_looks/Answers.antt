use Rattle.std.proofs.lemmas.Result.{IfOk-weaker}
use Rattle.mm_arguments.proofs.Building.{adds}
use Rattle.mm_arguments.proofs.commands.with_looks.Goals as goal

pub returns : goal.returns
returns c =
    let with_check = adds _ _ _ _ _ c.in_ok-with_changes.ensures c.in_ok-check_command.ensures
    c.in_ok-subcommand.ensures in
    let with_list = adds _ _ _ _ _ with_check c.in_ok-list_command.ensures c.in_ok-subcommand-2.ensures in
    IfOk-weaker c.subcommand-3.result _ _ (λ whole added. adds _ _ _ _ _ with_list c.in_ok-show_command.ensures added)
    c.subcommand-3.ensures
