use Rattle.mm_work.proofs.imports.tell_staged.Goals as goal

pub returns-in-Complete-clause-told : goal.returns-in-Complete-clause-told
returns-in-Complete-clause-told g c =
    rw c.in-Complete.is (rw (c.as_slice.ensures.value, c.complete_line-line.ensures) at c.tell_bytes.ensures.told)

pub returns-in-Refused-clause-told : goal.returns-in-Refused-clause-told
returns-in-Refused-clause-told g c =
    rw c.in-Refused.is
    (rw (c.as_slice-in-Refused.ensures.value, c.refused_line-line.ensures) at c.tell_bytes-in-Refused.ensures.told)
