use Rattle.std.proofs.Common.{false}
use Rattle.mm_recovery.proofs.Crashed.{keeps_left}
use Rattle.mm_recovery.proofs.files.let_go.Goals as goal

pub returns : goal.returns
returns g c = keeps_left c.args.conn false c.let_go.result c.let_go.ensures
