use Rattle.std.proofs.Common.{arith}
use Rattle.std.specs.Str.{IsAscii}
use Rattle.mm_page.proofs.AskFacts.{asks_ascii}
use Rattle.mm_page.proofs.routes.read_path.Goals as goal

pub returns-then-not-is_ascii-clause-wanted : goal.returns-then-not-is_ascii-clause-wanted
returns-then-not-is_ascii-clause-wanted c = λ w a.
    let other : ¬ (IsAscii c.args.path.now) =
    (λ h. let q = c.if-not-is_ascii.ensures.cases in omega (arith, q.1, h q.0)) in
    other (asks_ascii c.args.path.now w a)
