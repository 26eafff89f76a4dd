-- A transaction that an edition is published in and that is rolled back.
use Rattle.std.proofs.Common.{◌≡◌, ℕ, true, Result, Ok, Err, refl, arith}
use Rattle.sqlite.specs.State.{State, HasCleanDisk, IsRolledBack}
use Rattle.sqlite.specs.Held.{Held, state}
use Rattle.sqlite.specs.Store.{Ghosts}
use Rattle.mm_definitions.specs.Bounds.{Profile}
use Rattle.mm_definitions.specs.Keys.{Text}
use Rattle.mm_definitions.specs.Package.{Package}
use Rattle.mm_definitions.specs.Rules.{Meets}
use Rattle.mm_definitions.specs.Step.{refusal, step}
use Rattle.mm_definitions.specs.declared.answers.Fault.{Fault}
use Rattle.mm_definitions.specs.declared.answers.Outcome.{Outcome}
use Rattle.mm_definitions.specs.declared.answers.Outcome.TheVariants.{Done, Refused}
use Rattle.mm_definitions.specs.declared.commands.Command.TheVariants as commands
use Rattle.mm_store.specs.Seen.{IsSeenAs}
use Rattle.mm_store.specs.Stands.{ground_of}
use Rattle.mm_store.specs.Statements.{CommitsNothing}
use Rattle.mm_store.specs.Shapes.{ComesTo, IsTried, Tries}
use Rattle.mm_store.proofs.Seen.{seen_back, settled_still}
use Rattle.mm_store.proofs.Transactions.{rolled_quiet}
use Rattle.mm_edition.specs.Quiet.{IsQuiet}
use Rattle.mm_edition.specs.Rehearsals.{TellsRefusal, IsRehearsal}

module _ {S : Type 0} (g : Ghosts S) (was now : Held S) (begun : now ≡ record was { in_transaction = true })
    (ended last : State) (profile : Profile) (edition : Text) (moment : ℕ)
    (result : Result Outcome Fault)
    (tried : IsTried profile (commands.Publish edition) moment (state g now) ended result)
    (two : CommitsNothing ended last) (undone : HasCleanDisk last → IsRolledBack ended last) where
  put : (p : Package) → Meets profile p → IsSeenAs profile (state g was) p
      → ComesTo profile (state g now) (ground_of (state g was)) p
  put p meets seen = record {
    meets = meets;
    inside = rw begun (record { mode = refl; back = λ is_open. (refl, is_open); reads = seen.reads });
  }

  tells : (p next : Package) (r : Result Outcome Fault)
      → Tries profile ended (ground_of (state g was)) p (refusal p (commands.Publish edition)) next r
      → TellsRefusal p edition r
  tells p next (Ok Done) h = h.0
  tells p next (Ok (Refused why)) h = h
  tells p next (Err fault) h = tt

  still : HasCleanDisk last → (p : Package) → Meets profile p → IsSeenAs profile (state g was) p
      → IsSeenAs profile last p
  still clean p meets seen =
      seen_back g was now begun ended last profile p seen (undone clean)
      (tried.on (omega (arith, two.clean)) (ground_of (state g was)) p (put p meets seen))

  pub rehearsed : IsRehearsal profile edition (state g was) last result
  rehearsed = record {
    survives = rolled_quiet g was now begun ended last tried.survives two;
    seen = still;
    settled = λ clean p meets it. settled_still profile (state g was) last p
        (rolled_quiet g was now begun ended last tried.survives two) clean (still clean p meets) it;
    answers = λ clean p meets seen.
        tells p (step p (commands.Publish edition) moment) result
        (tried.tries (omega (arith, two.clean)) (ground_of (state g was)) p (put p meets seen));
    faults = tried.faults;
  }

-- it commits nothing, at whatever text
module _ {S : Type 0} (g : Ghosts S) (was now : Held S) (begun : now ≡ record was { in_transaction = true })
    (ended last : State) (result : Result Outcome Fault) (quiet : IsQuiet (state g now) ended result)
    (two : CommitsNothing ended last) where
  pub rehearsed_quiet : IsQuiet (state g was) last result
  rehearsed_quiet = record {
    survives = rolled_quiet g was now begun ended last quiet.survives two;
    faults = quiet.faults;
  }
