use Rattle.std.proofs.lemmas.Bool.{and_parts, and_from}
use Rattle.mm_recovery.proofs.files.crash_files.Goals as goal

pub returns-clause-one : goal.returns-clause-one
returns-clause-one g c = (c.crash.ensures.left, c.crash-2.ensures.left)

pub returns-clause-no_more : goal.returns-clause-no_more
returns-clause-no_more g c image may = (c.crash.ensures.crash _ may.0, c.crash-2.ensures.crash _ may.1)

pub returns-clause-clean : goal.returns-clause-clean
returns-clause-clean g c clean =
    and_from _ _ (c.crash.ensures.clean (and_parts _ _ clean).0) (c.crash-2.ensures.clean (and_parts _ _ clean).1)
