use Rattle.std.proofs.Common.{refl, sym, take, drop}
use Rattle.std.proofs.lemmas.List.{take-append-drop}
use Rattle.mm_desk.proofs.sending.sent.Goals as goal

pub returns-in-Cut-clause-told : goal.returns-in-Cut-clause-told
returns-in-Cut-clause-told g c =
    let (failed, k, less, front) = rw c.in-Cut.is at c.send.ensures.sent in
    (refl, failed, take k c.args.bytes.now, drop k c.args.bytes.now, sym (take-append-drop k c.args.bytes.now), front)
