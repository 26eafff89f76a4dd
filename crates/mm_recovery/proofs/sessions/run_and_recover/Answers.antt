use Rattle.std.proofs.lemmas.Result.{IfOk-weaker, IfErr-weaker}
use Rattle.mm_recovery.proofs.Crashed.{still_left}
use Rattle.mm_recovery.proofs.Ran.{run_adopts, run_declines}
use Rattle.mm_recovery.proofs.sessions.run_and_recover.Goals as goal

pub returns-clause-recovered : goal.returns-clause-recovered
returns-clause-recovered g c =
    let left = still_left _ c.let_go.result c.crash_files-left.result c.crash_files-left.ensures.no_more
    c.crash_files-left.ensures.clean (rw c.close.ensures at c.let_go.ensures) in
    IfOk-weaker c.adopt_left-again.result _ _
    (λ again adopts. run_adopts _ _ _ c.args.session.conn c.run_list-ran.new.self.conn _ _ _ _ c.run_list-ran.result
    (c.run_list-ran.ensures.runs.session, c.run_list-ran.ensures.settled.done, c.run_list-ran.ensures.settled.stopped)
    c.crash_files-left.result left again.conn adopts)
    c.adopt_left-again.ensures.recovered

pub returns-clause-not_recovered : goal.returns-clause-not_recovered
returns-clause-not_recovered g c =
    let left = still_left _ c.let_go.result c.crash_files-left.result c.crash_files-left.ensures.no_more
    c.crash_files-left.ensures.clean (rw c.close.ensures at c.let_go.ensures) in
    IfErr-weaker c.adopt_left-again.result _ _
    (λ e declined. run_declines _ _ _ c.args.session.conn c.run_list-ran.new.self.conn _ _ _ _ c.run_list-ran.result
    (c.run_list-ran.ensures.runs.session, c.run_list-ran.ensures.settled.done, c.run_list-ran.ensures.settled.stopped)
    c.crash_files-left.result left e declined)
    c.adopt_left-again.ensures.declined

pub returns-clause-is_open : goal.returns-clause-is_open
returns-clause-is_open g c =
    let left = still_left _ c.let_go.result c.crash_files-left.result c.crash_files-left.ensures.no_more
    c.crash_files-left.ensures.clean (rw c.close.ensures at c.let_go.ensures) in
    IfOk-weaker c.adopt_left-again.result _ _ (λ again adopts. (adopts _ left).is_open)
    c.adopt_left-again.ensures.recovered
