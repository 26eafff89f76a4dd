use Rattle.mm_page.proofs.responses.response.Goals as goal

pub returns : goal.returns
returns c = rw (c.as_str.ensures, c.reason_of.ensures) at c.joined.ensures
