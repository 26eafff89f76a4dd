-- A command that is done, or refused, is tried: after a refusal nothing is said of the transaction any more.
use Rattle.std.proofs.Common.{◌≡◌, ℕ, Result, Ok, Err, IfOk, IsTrue, sym, ap}
use Rattle.sqlite.specs.Held.{state}
use Rattle.sqlite.specs.State.{State}
use Rattle.sqlite.specs.Store.{Ghosts}
use Rattle.sqlite.specs.declared.transaction.Transaction.{Transaction}
use Rattle.mm_definitions.specs.Bounds.{current}
use Rattle.mm_definitions.specs.Keys.{Text}
use Rattle.mm_definitions.specs.Package.{Package}
use Rattle.mm_definitions.specs.Rules.{Meets}
use Rattle.mm_definitions.specs.Step.{refusal, step}
use Rattle.mm_definitions.specs.declared.answers.Fault.{Fault}
use Rattle.mm_definitions.specs.declared.answers.Outcome.{Outcome}
use Rattle.mm_definitions.specs.declared.answers.Outcome.TheVariants.{Done, Refused}
use Rattle.mm_definitions.specs.declared.commands.Command.{Command}
use Rattle.mm_laws.proofs.OneStamp.{stamp_only}
use Rattle.mm_store.specs.Handed.{Goes, Applies}
use Rattle.mm_store.specs.Shapes as shape
use Rattle.mm_store.specs.Shapes.{IsTried, refused_as}
use Rattle.mm_store.specs.Stands.{Ground, StandsInside}
use Rattle.mm_store.proofs.Going.{goes_less}
use Rattle.mm_layout.specs.Handed.{Lends}
use Rattle.mm_layout.specs.Stamped.{step_at}
use Rattle.mm_core.specs.Handed.{TriesCommand}

told : (s : State) (ground : Ground) (p : Package) (c : Command) (moment : ℕ) (r : Result Outcome Fault)
    → IfOk r (λ it. IsTrue s.is_open × StandsInside current s ground (step p c moment) × (refusal p c ≡ refused_as it))
    → shape.Tries current s ground p (refusal p c) (step p c moment) r
told s ground p c moment (Ok Done) h = (h.2, h.0, h.1)
told s ground p c moment (Ok (Refused why)) h = h.2
told s ground p c moment (Err e) h = tt

tried : {S : Type 0} {g : Ghosts S} {a b : Transaction S} {c : Command} {r : Result Outcome Fault} (moment : ℕ)
    → Goes g a b Meets (λ p it. step p c moment) (λ profile p it. refusal p c ≡ refused_as it) r
    → IsTried current c moment (state g a.conn.now) (state g b.conn.now) r
tried {g = g} {b = b} {c = c} {r = r} moment h = record {
  survives = h.survives;
  on = λ clean ground p it. h.on clean current ground p it.inside it.meets;
  tries = λ clean ground p it. told (state g b.conn.now) ground p c moment r
      (h.comes clean current ground p it.inside it.meets);
  faults = h.faults;
}

module _ {S : Type 0} {g : Ghosts S} {a b : Transaction S} {c : Command} {at : Text} {r : Result Outcome Fault} where
  pub tries : Lends g a b c at r → TriesCommand g a b c at r
  tries h = record {
    same = h.goes.same;
    tried = λ moment stamped. tried {c = c} moment
        (goes_less h.goes (λ profile p it meets says.
        (ap (λ text. step_at p c text) (sym (stamp_only moment at stamped)), says)));
  }

  pub tries_unstamped : Applies g a b c r → TriesCommand g a b c at r
  tries_unstamped h = record { same = (h.goes 0).same; tried = λ moment stamped. tried {c = c} moment (h.goes moment) }
