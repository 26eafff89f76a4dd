use Rattle.std.proofs.Common.{drop, take, refl, sym}
use Rattle.std.proofs.lemmas.List.{take-append-drop}
use Rattle.mm_reads.proofs.listing.send_line.Goals as goal

pub returns-in-Cut-clause-sent : goal.returns-in-Cut-clause-sent
returns-in-Cut-clause-sent g c =
    let cut = c.in-Cut.ensures.sent in (
      refl,
      cut.0,
      (
        take cut.1 c.args.line.now,
        drop cut.1 c.args.line.now,
        sym (take-append-drop cut.1 c.args.line.now),
        cut.3,
      ),
    )
