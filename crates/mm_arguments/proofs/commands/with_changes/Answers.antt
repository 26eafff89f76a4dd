use Rattle.std.proofs.lemmas.Result.{IfOk-weaker}
use Rattle.mm_arguments.proofs.Building.{adds}
use Rattle.mm_arguments.proofs.commands.with_changes.Goals as goal

pub returns : goal.returns
returns c =
    let with_init = adds _ _ _ _ _ c.program_command.ensures c.in_ok-init_command.ensures c.in_ok-subcommand.ensures in
    let with_run = adds _ _ _ _ _ with_init c.in_ok-run_command.ensures c.in_ok-subcommand-2.ensures in
    IfOk-weaker c.subcommand-3.result _ _ (λ whole added. adds _ _ _ _ _ with_run c.in_ok-kit_command.ensures added)
    c.subcommand-3.ensures
