use Rattle.mm_page.specs.Responses.{reason}
use Rattle.mm_page.proofs.responses.bad_request.Goals as goal

pub returns : goal.returns
unfolding reason
returns c = c.response.ensures
