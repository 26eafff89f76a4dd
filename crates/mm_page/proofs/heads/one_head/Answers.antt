use Rattle.httparse.proofs.GrammarLemmas.{request_unique}
use Rattle.mm_page.proofs.heads.one_head.Goals as goal

pub returns : goal.returns
returns c limit room input h k a b = (request_unique input h k a.rest b.rest a.reads b.reads).0
