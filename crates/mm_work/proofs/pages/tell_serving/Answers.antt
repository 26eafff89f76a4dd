use Rattle.mm_work.proofs.pages.tell_serving.Goals as goal

pub returns-clause-told : goal.returns-clause-told
returns-clause-told g c = rw (c.as_slice.ensures.value, c.serving_line-line.ensures) at c.is_printed.ensures.told
