use Rattle.std.proofs.Common.{◌≢◌, refl, rules}
use Rattle.std.proofs.lemmas.Bool.{ne_eqb}
use Rattle.mm_desk.specs.Responses.{status_words}
use Rattle.mm_desk.proofs.responses.refusal.Goals as goal

pub returns-in-400 : goal.returns-in-400
unfolding status_words
returns-in-400 c = rw c.in-400.is refl

pub returns-in-403 : goal.returns-in-403
unfolding status_words
returns-in-403 c = rw c.in-403.is refl

pub returns-in-404 : goal.returns-in-404
unfolding status_words
returns-in-404 c = rw c.in-404.is refl

pub returns-in-405 : goal.returns-in-405
unfolding status_words
returns-in-405 c = rw c.in-405.is refl

pub returns-in-411 : goal.returns-in-411
unfolding status_words
returns-in-411 c = rw c.in-411.is refl

pub returns-in-413 : goal.returns-in-413
unfolding status_words
returns-in-413 c = rw c.in-413.is refl

pub returns-in_default : goal.returns-in_default
unfolding status_words
returns-in_default c =
    let a : c.args.status ≢ 400 = search rules in
    let b : c.args.status ≢ 403 = search rules in
    let d : c.args.status ≢ 404 = search rules in
    let e : c.args.status ≢ 405 = search rules in
    let f : c.args.status ≢ 411 = search rules in
    let h : c.args.status ≢ 413 = search rules in
    rw (
      ne_eqb c.args.status 400 a,
      ne_eqb c.args.status 403 b,
      ne_eqb c.args.status 404 d,
      ne_eqb c.args.status 405 e,
      ne_eqb c.args.status 411 f,
      ne_eqb c.args.status 413 h,
    ) refl
