use Rattle.mm_work.proofs.tell.tell_stop.Goals as goal

pub returns-in-NotPackage-clause-told : goal.returns-in-NotPackage-clause-told
returns-in-NotPackage-clause-told g c =
    rw c.in-NotPackage.is
    (rw (c.as_slice.ensures.value, c.numbered_line-line.ensures, c.number.ensures) at
    c.tell_bytes-in-NotPackage.ensures.told)
