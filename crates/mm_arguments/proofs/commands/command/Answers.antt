use Rattle.std.proofs.lemmas.Result.{IfOk-weaker}
use Rattle.mm_arguments.proofs.Building.{adds}
use Rattle.mm_arguments.proofs.commands.command.Goals as goal

pub returns : goal.returns
returns c =
    let with_serve = adds _ _ _ _ _ c.in_ok-with_looks.ensures c.in_ok-serve_command.ensures
    c.in_ok-subcommand.ensures in
    let with_desk = adds _ _ _ _ _ with_serve c.in_ok-desk_command.ensures c.in_ok-subcommand-2.ensures in
    let with_migrate = adds _ _ _ _ _ with_desk c.in_ok-migrate_command.ensures c.in_ok-subcommand-3.ensures in
    IfOk-weaker c.subcommand-4.result _ _
    (λ whole added. adds _ _ _ _ _ with_migrate c.in_ok-explain_command.ensures added) c.subcommand-4.ensures
