use Rattle.std.proofs.Common.{rules, ◌≡◌, false, is_some}
use Rattle.clap.specs.Words.{found_of, matched_of}
use Rattle.mm_arguments.proofs.Reading.{absent}
use Rattle.mm_arguments.proofs.requests.maybe_word.Goals as goal

pub returns-then-not-contains_id : goal.returns-then-not-contains_id
returns-then-not-contains_id c =
    let none : is_some (matched_of (found_of c.args.matches.now) c.args.id.now) ≡ false = search rules in
    absent (found_of c.args.matches.now) c.args.id.now none
