-- How calls that are lent a transaction make a command. Each lemma speaks of words.
use Rattle.std.proofs.Common.{◌≡◌, ℕ, Some, None, Result, Ok, Err, ap, ◌∙◌}
use Rattle.std.specs.Prelude.{⊤, IsErrAnd}
use Rattle.sqlite.specs.Store.{Ghosts}
use Rattle.sqlite.specs.declared.transaction.Transaction.{Transaction}
use Rattle.mm_definitions.specs.Bounds.{Profile}
use Rattle.mm_definitions.specs.Package.{Package}
use Rattle.mm_definitions.specs.Rules.{Meets}
use Rattle.mm_definitions.specs.Stamp.{stamp}
use Rattle.mm_definitions.specs.Step.{refusal, done, unless_refused}
use Rattle.mm_definitions.specs.declared.answers.Fault.{Fault}
use Rattle.mm_definitions.specs.declared.answers.Outcome.{Outcome}
use Rattle.mm_definitions.specs.declared.answers.Outcome.TheVariants.{Done, Refused}
use Rattle.mm_definitions.specs.Refusals.{Refusal}
use Rattle.mm_definitions.specs.declared.commands.Command.{Command}
use Rattle.mm_store.specs.Handed.{Goes, ChangesWhere, Applies}
use Rattle.mm_store.proofs.Going.{goes_then, goes_given, goes_as, failed, failed_where}

module _ {S : Type 0} {g : Ghosts S} {c : Command} where
  -- what was asked finds the refusal
  pub declines : {T : Type 0} {a b : Transaction S} {Says : Profile → Package → T → Type 0} {x : T} {why : Refusal}
      → Goes g a b (λ profile p. ⊤) (λ p it. p) Says (Ok x)
      → ((profile : Profile) (p : Package) → Meets profile p → Says profile p x → refusal p c ≡ Some why)
      → Applies g a b c (Ok (Refused why))
  declines h finds = record {
    goes = λ moment. goes_as (goes_given h (λ profile p meets. tt))
        (λ profile p meets says. let f = finds profile p meets says in
        (ap (λ r. unless_refused r (done p c (stamp moment)) p) f, f));
  }

  pub applies_unasked : {T : Type 0} {a b : Transaction S} {one : Package → T → Package}
      {Says : Profile → Package → T → Type 0} {e : Fault} {r : Result Outcome Fault}
      → Goes g a b (λ profile p. ⊤) one Says (Err e) → IsErrAnd r (λ f. f ≡ e) → Applies g a b c r
  applies_unasked h is = record { goes = λ moment. failed h is }

  -- it finds none, and the change is made
  module _ {T U : Type 0} {a b d : Transaction S} {Says : Profile → Package → T → Type 0} {When : Package → Type 0}
      {change : Package → Package} {x : T} where
    pub applies : {u : U} → Goes g a b (λ profile p. ⊤) (λ p it. p) Says (Ok x) → ChangesWhere g b d When change (Ok u)
        → ((moment : ℕ) (profile : Profile) (p : Package) → Meets profile p → Says profile p x → When p
        × (refusal p c ≡ None) × (done p c (stamp moment) ≡ change p)) → Applies g a d c (Ok Done)
    applies h k finds = record {
      goes = λ moment.
          goes_as (goes_then (goes_given {When = Meets} h (λ profile p meets. tt)) k
          (λ profile p meets says. (finds moment profile p meets says).0))
          (λ profile p meets says. let f = finds moment profile p meets says.0 in
          (ap (λ r. unless_refused r (done p c (stamp moment)) p) f.1 ∙ f.2, f.1));
    }

    pub applies_not : {e : Fault} {r : Result Outcome Fault} → Goes g a b (λ profile p. ⊤) (λ p it. p) Says (Ok x)
        → ChangesWhere g b d {T = U} When change (Err e)
        → ((profile : Profile) (p : Package) → Meets profile p → Says profile p x → When p) → IsErrAnd r (λ f. f ≡ e)
        → Applies g a d c r
    applies_not h k finds is = record {
      goes = λ moment. failed_where (goes_then (goes_given {When = Meets} h (λ profile p meets. tt)) k finds) is
          (λ profile p meets. meets);
    }
