use Rattle.mm_page.proofs.PageFacts.{page_one}
use Rattle.mm_page.proofs.serving.one_page.Goals as goal

pub returns : goal.returns
returns c = page_one
