-- How calls that are lent a transaction make a command that writes a text as last_change. Each lemma speaks of words.
use Rattle.std.proofs.Common.{◌≡◌, Some, None, Result, Ok, Err, ap, ◌∙◌}
use Rattle.std.specs.Prelude.{⊤, IsErrAnd}
use Rattle.sqlite.specs.Store.{Ghosts}
use Rattle.sqlite.specs.declared.transaction.Transaction.{Transaction}
use Rattle.mm_definitions.specs.Bounds.{Profile}
use Rattle.mm_definitions.specs.Keys.{Text}
use Rattle.mm_definitions.specs.Package.{Package}
use Rattle.mm_definitions.specs.Rules.{Meets}
use Rattle.mm_definitions.specs.Step.{refusal, done, step, unless_refused}
use Rattle.mm_definitions.specs.declared.answers.Fault.{Fault}
use Rattle.mm_definitions.specs.declared.answers.Outcome.{Outcome}
use Rattle.mm_definitions.specs.declared.answers.Outcome.TheVariants.{Done, Refused}
use Rattle.mm_definitions.specs.Refusals.{Refusal}
use Rattle.mm_definitions.specs.declared.commands.Command.{Command}
use Rattle.mm_store.specs.Handed.{Goes, ChangesWhere, Applies}
use Rattle.mm_store.proofs.Going.{goes_then, goes_given, goes_less, goes_as, failed, failed_where}
use Rattle.mm_layout.specs.Stamped.{step_at}
use Rattle.mm_layout.specs.Handed.{Lends, LendsWhere, LendsUnstamped}

module _ {S : Type 0} {g : Ghosts S} where
  -- what was asked finds no refusal, and the changes make the command
  pub does : {T : Type 0} {a b : Transaction S} {one : Package → T → Package} {Says : Profile → Package → T → Type 0}
      {c : Command} {at : Text} {x : T} → Goes g a b (λ profile p. ⊤) one Says (Ok x)
      → ((profile : Profile) (p : Package) → Meets profile p → Says profile p x → (refusal p c ≡ None)
      × (done p c at ≡ one p x)) → Lends g a b c at (Ok Done)
  does {c = c} {at = at} h finds =
      record {
        goes = goes_as (goes_given h (λ profile p meets. tt))
            (λ profile p meets says. let f = finds profile p meets says in (
              ap (λ r. unless_refused r (done p c at) p) f.0
                  ∙ f.1,
              f.0,
            ));
      }

  pub refuses : {T : Type 0} {a b : Transaction S} {Says : Profile → Package → T → Type 0} {c : Command} {at : Text}
      {x : T} {why : Refusal} → Goes g a b (λ profile p. ⊤) (λ p it. p) Says (Ok x)
      → ((profile : Profile) (p : Package) → Meets profile p → Says profile p x → refusal p c ≡ Some why)
      → Lends g a b c at (Ok (Refused why))
  refuses {c = c} {at = at} h finds =
      record {
        goes = goes_as (goes_given h (λ profile p meets. tt))
            (λ profile p meets says. let f = finds profile p meets says in
            (ap (λ r. unless_refused r (done p c at) p) f, f));
      }

  pub command_failed : {T : Type 0} {a b : Transaction S} {one : Package → T → Package}
      {Says : Profile → Package → T → Type 0} {c : Command} {at : Text} {e : Fault} {r : Result Outcome Fault}
      → Goes g a b (λ profile p. ⊤) one Says (Err e) → IsErrAnd r (λ f. f ≡ e) → Lends g a b c at r
  command_failed h is = record { goes = failed h is }

  -- the look finds no refusal, and the change is made
  module _ {T U : Type 0} {a b d : Transaction S} {Says : Profile → Package → T → Type 0} {When : Package → Type 0}
      {change : Package → Package} {x : T} {c : Command} {at : Text} where
    pub lends : {u : U} → Goes g a b (λ profile p. ⊤) (λ p it. p) Says (Ok x) → ChangesWhere g b d When change (Ok u)
        → ((profile : Profile) (p : Package) → Meets profile p → Says profile p x → When p × (refusal p c ≡ None)
        × (done p c at ≡ change p)) → Lends g a d c at (Ok Done)
    lends h k finds = record {
      goes = goes_as (goes_then (goes_given {When = Meets} h (λ profile p meets. tt)) k
          (λ profile p meets says. (finds profile p meets says).0))
          (λ profile p meets says. let f = finds profile p meets says.0 in
          (ap (λ r. unless_refused r (done p c at) p) f.1 ∙ f.2, f.1));
    }

    pub lends_not : {e : Fault} {r : Result Outcome Fault} → Goes g a b (λ profile p. ⊤) (λ p it. p) Says (Ok x)
        → ChangesWhere g b d {T = U} When change (Err e)
        → ((profile : Profile) (p : Package) → Meets profile p → Says profile p x → When p) → IsErrAnd r (λ f. f ≡ e)
        → Lends g a d c at r
    lends_not h k finds is = record {
      goes = failed_where (goes_then (goes_given {When = Meets} h (λ profile p meets. tt)) k finds) is
          (λ profile p meets. meets);
    }

  -- ---- the same command, told in other words

  pub unstamped_anywhere : {a b : Transaction S} {When : Package → Type 0} {c : Command} {at : Text}
      {r : Result Outcome Fault} → LendsUnstamped g a b c r → LendsWhere g a b When c at r
  unstamped_anywhere {at = at} h = record { goes = goes_given (h.goes at) (λ profile p it. it.0) }

  -- a command that writes no last_change does at any text what it does at a moment
  pub at_any : {a b : Transaction S} {c : Command} {at : Text} {r : Result Outcome Fault} → Applies g a b c r
      → ((p : Package) → step_at p c at ≡ step p c 0) → Lends g a b c at r
  at_any h same = record { goes = goes_less (h.goes 0) (λ profile p it meets says. (same p, says)) }

  pub unstamped : {a b : Transaction S} {c : Command} {r : Result Outcome Fault} → Applies g a b c r
      → ((text : Text) (p : Package) → step_at p c text ≡ step p c 0) → LendsUnstamped g a b c r
  unstamped h same = record { goes = λ text. goes_less (h.goes 0) (λ profile p it meets says. (same text p, says)) }
