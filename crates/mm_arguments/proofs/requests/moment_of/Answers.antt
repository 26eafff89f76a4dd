use Rattle.std.proofs.Common.{rules, ◌≡◌, ◌∙◌, false, is_some, codes, w64}
use Rattle.std.specs.Str.Parse.{ExplainsSignedError, HasSignedDigitsIfOk, ParsesSigned}
use Rattle.std.proofs.lemmas.Int.{to_z-of_z}
use mir.Val.{SFits}
use Rattle.clap.specs.Words.{found_of, matched_of}
use Rattle.mm_arguments.proofs.Reading.{absent, number_read}
use Rattle.mm_arguments.proofs.requests.moment_of.Goals as goal

pub returns-then-not-contains_id : goal.returns-then-not-contains_id
returns-then-not-contains_id c =
    let none : is_some (matched_of (found_of c.args.matches.now) (codes "at")) ≡ false = search rules in
    absent (found_of c.args.matches.now) (codes "at") none

pub returns-in-Some-new : goal.returns-in-Some-new
returns-in-Some-new c =
    let read = number_read (λ bs r. ParsesSigned w64 10 bs r × ExplainsSignedError 10 bs r × HasSignedDigitsIfOk bs r)
    (found_of c.args.matches.now) (codes "at") c.get_one.result c.in-Some.milliseconds c.in-Some.is c.get_one.ensures.none c.get_one.ensures.value in
    let fits : SFits w64 c.in-Some.milliseconds = search rules in
    let value = simp to_z-of_z at c.in-Some-new.ensures.value in
    (read.0, read.1, read.2.0.0.0, value ∙ read.2.0.1)
