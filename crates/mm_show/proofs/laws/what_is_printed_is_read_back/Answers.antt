use Rattle.mm_show.proofs.ReadBack.{read_back}
use Rattle.mm_show.proofs.laws.what_is_printed_is_read_back.Goals as goal

pub returns : goal.returns
returns c = read_back
