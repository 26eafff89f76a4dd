use Rattle.mm_work.proofs.pages.tell_list_fault.Goals as goal

pub returns-clause-told : goal.returns-clause-told
returns-clause-told g c =
    rw (c.as_slice.ensures.value, c.numbered_line-line.ensures, c.number.ensures.number) at c.is_printed.ensures.told
