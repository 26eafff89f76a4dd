use Rattle.clap.specs.Words.{found_of}
use Rattle.mm_arguments.proofs.Reading.{word_read}
use Rattle.mm_arguments.proofs.requests.word_of.Goals as goal

pub returns : goal.returns
returns c = word_read (found_of c.args.matches.now) c.args.id.now c.get_str.result c.get_str.ensures
