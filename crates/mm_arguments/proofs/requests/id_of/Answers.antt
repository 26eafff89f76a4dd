use Rattle.std.proofs.Common.{rules, ◌≡◌, ◌∙◌, false, is_some, codes, w64}
use Rattle.std.specs.Str.Parse.{ExplainsSignedError, HasSignedDigitsIfOk, ParsesSigned}
use Rattle.std.proofs.Math.Facts.{to_z-of_z}
use mir.Val.{SFits}
use Rattle.clap.specs.Words.{found_of, matched_of}
use Rattle.mm_arguments.proofs.Reading.{absent, number_read}
use Rattle.mm_arguments.proofs.requests.id_of.Goals as goal

pub returns-then-not-contains_id-clause-given : goal.returns-then-not-contains_id-clause-given
returns-then-not-contains_id-clause-given c =
    let none : is_some (matched_of (found_of c.args.matches.now) (codes "ID")) ≡ false = search rules in
    absent (found_of c.args.matches.now) (codes "ID") none

pub returns-clause-given : goal.returns-clause-given
returns-clause-given c =
    let read = number_read (λ bs r. ParsesSigned w64 10 bs r × ExplainsSignedError 10 bs r × HasSignedDigitsIfOk bs r)
    (found_of c.args.matches.now) (codes "ID") c.get_one.result c.in-Some.id c.in-Some.is c.get_one.ensures.none c.get_one.ensures.value in
    let fits : SFits w64 c.in-Some.id = search rules in
    (read.0, read.1, read.2.0.0.0, to_z-of_z fits ∙ read.2.0.1)
