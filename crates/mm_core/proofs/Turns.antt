-- One command in one transaction: how its ends are reached.
use Rattle.std.proofs.Common.{◌≡◌, ◌⊎◌, inl, inr, ℕ, true, false, Some, None, Result, Ok, Err, IfErr, IsTrue, refl, sym}
use Rattle.std.proofs.Common.{ap, subst, arith}
use Rattle.std.proofs.Math.Nat.{le_refl}
use Rattle.sqlite.specs.Tree.{Trees}
use Rattle.sqlite.specs.State.{State, HasCleanDisk, Survives, Shows, IsRolledBack}
use Rattle.sqlite.specs.Held.{Held, state}
use Rattle.sqlite.specs.Store.{Ghosts}
use Rattle.sqlite.proofs.StateLemmas.{survives_then, survives_weaker}
use Rattle.sqlite.proofs.Callers.{survives_begin}
use Rattle.mm_definitions.specs.Bounds.{current}
use Rattle.mm_definitions.specs.Package.{Package}
use Rattle.mm_definitions.specs.Step.{refusal, step}
use Rattle.mm_definitions.specs.declared.answers.Answer.TheVariants as answer
use Rattle.mm_definitions.specs.declared.answers.Fault.{Fault}
use Rattle.mm_definitions.specs.declared.answers.Outcome.{Outcome}
use Rattle.mm_definitions.specs.declared.answers.Outcome.TheVariants.{Done, Refused}
use Rattle.mm_definitions.specs.Refusals.{Refusal}
use Rattle.mm_definitions.specs.Keys.{Text}
use Rattle.mm_definitions.specs.declared.commands.Command.{Command}
use Rattle.mm_definitions.specs.declared.commands.Command.TheVariants as commands
use Rattle.mm_laws.proofs.Closed.{rehearse_same}
use Rattle.mm_store.specs.Seen.{IsSeenAs}
use Rattle.mm_store.specs.Stands.{ground_of, StandsInside, IsSettled}
use Rattle.mm_definitions.specs.Faults.{IsStoreFault}
use Rattle.mm_store.specs.Statements.{CommitsNothing}
use Rattle.mm_store.specs.Shapes.{ComesTo, IsTried}
use Rattle.mm_store.proofs.Seen.{seen_back, seen_of, settled_still}
use Rattle.mm_store.proofs.Transactions.{OnlyCommitted, settles, rolled_quiet}
use Rattle.mm_edition.specs.Rehearsals.{IsRehearsal}
use Rattle.mm_core.specs.Applied.{IsAppliedTo, IsSeenFor, IsSettledFor, IsStepOf, StandsForCurrent}

-- what is settled for a package is seen as it
seen_for : (s : State) (p : Package) → IsSettledFor s p → IsSeenFor s p
seen_for s p it = record { seen = seen_of current s p it.settled; meets = it.meets }

module _ {S : Type 0} (g : Ghosts S) (was now : Held S) (begun : now ≡ record was { in_transaction = true })
    (ended last : State)
    (c : Command) (moment : ℕ) (result : Result Outcome Fault)
    (tried : IsTried current c moment (state g now) ended result) where
  abbrev old : State
  old = state g was

  put : (p : Package) → IsSeenFor old p → ComesTo current (state g now) (ground_of old) p
  put p it = record {
    meets = it.meets;
    inside = rw begun (record { mode = refl; back = λ is_open. (refl, is_open); reads = it.seen.reads });
  }

  module _ (is : result ≡ Ok Done) where
    done : HasCleanDisk ended → (p : Package) → IsSeenFor old p
        → (refusal p c ≡ None) × IsTrue ended.is_open × StandsInside current ended (ground_of old) (step p c moment)
    done clean p it = (rw is at tried.tries) clean (ground_of old) p (put p it)

    commits : Survives ended last (λ db. db ≡ ended.now.trees) → Survives old last (IsStepOf old c moment)
    commits h = survives_begin g was last (IsStepOf old c moment)
        (rw begun at (survives_then (state g now) ended last _ _ (IsStepOf old c moment) (λ _ db none. absurd none)
        (λ clean db same p it. let its = done (omega (arith, h.clean)) p it in
        (its.0, subst (λ t. StandsForCurrent t (step p c moment)) (sym same) (its.2.reads its.1).stands)) tried.survives
        h))

    pub committed : OnlyCommitted last → Survives ended last (λ db. db ≡ ended.now.trees)
        → (HasCleanDisk last → Shows ended last ended.now ended.now false)
        → IsAppliedTo c moment old last answer.Ok
    committed law h shows = record {
      survives = commits h;
      stays_open = λ clean lasting. (shows clean).is_open;
      seen = λ clean p it. let now = made clean p it in
          (now.0, seen_of current last (step p c moment) now.1, λ lasting. now.1);
      answers = λ clean p it. made clean p (seen_for old p it);
    }
      where
        made : HasCleanDisk last → (p : Package) → IsSeenFor old p → (refusal p c ≡ None)
            × IsSettled current last (step p c moment)
        made clean p it = let its = done (omega (arith, h.clean)) p it in
            (its.0, settles current ended last (ground_of old) (step p c moment) law (shows clean) its.2)

    pub in_doubt : (fault : Fault) → Survives ended last (λ db. db ≡ ended.now.trees)
        → IsAppliedTo c moment old last (answer.Fault fault)
    in_doubt fault h = record {
      survives = commits h;
      stays_open = λ clean. tt;
      seen = λ clean p it. tt;
      answers = λ clean p it db may. elim ((commits h).crash clean db may)
          [ inl before ↦ inl (it.settled.left db before) | inr new ↦ inr (new p (seen_for old p it)) ];
    }

  -- a transaction that is rolled back leaves what was left before
  module _ (two : CommitsNothing ended last) where
    quiet : CommitsNothing old last
    quiet = rolled_quiet g was now begun ended last tried.survives two

    left_before : HasCleanDisk last → (p : Package) → IsSettledFor old p → (db : Trees) → last.may_leave db
        → StandsForCurrent db p
    left_before clean p it db may = elim (quiet.crash clean db may)
        [ inl before ↦ it.settled.left db before | inr none ↦ absurd none ]

    pub refused : (why : Refusal) → result ≡ Ok (Refused why) → (HasCleanDisk last → IsRolledBack ended last)
        → IsAppliedTo c moment old last (answer.Refused why)
    refused why is undone = record {
      survives = quiet;
      stays_open = λ clean. tt;
      seen = λ clean p it. (told clean p it, still clean p it);
      answers = λ clean p it. (
        told clean p (seen_for old p it),
        settled_still current old last p quiet clean
            (λ seen. still clean p (record { seen = seen; meets = it.meets })) it.settled,
      );
    }
      where
        told : HasCleanDisk last → (p : Package) → IsSeenFor old p → refusal p c ≡ Some why
        told clean p it = (rw is at tried.tries) (omega (arith, two.clean)) (ground_of old) p (put p it)

        still : HasCleanDisk last → (p : Package) → IsSeenFor old p → IsSeenAs current last p
        still clean p it = seen_back g was now begun ended last current p it.seen (undone clean)
            (tried.on (omega (arith, two.clean)) (ground_of old) p (put p it))

    pub gave_up : (fault : Fault) → IsAppliedTo c moment old last (answer.Fault fault)
    gave_up fault = record {
      survives = survives_weaker old last (λ _. ⊥) (IsStepOf old c moment) (λ _ db none. absurd none) quiet;
      stays_open = λ clean. tt;
      seen = λ clean p it. tt;
      answers = λ clean p it db may. inl (left_before clean p it db may);
    }

-- a command that is given up before its transaction begins
pub not_begun : (before : State) (c : Command) (moment : ℕ) (fault : Fault)
    → IsAppliedTo c moment before before (answer.Fault fault)
not_begun before c moment fault = record {
  survives = record {
    clean = le_refl _;
    shield = λ s. s;
    counts = le_refl _;
    limit = refl;
    closes = λ clean is_open. inl is_open;
    crash = λ clean db may. inl may;
  };
  stays_open = λ clean. tt;
  seen = λ clean p it. tt;
  answers = λ clean p it db may. inl (it.settled.left db may);
}

-- a fault of the store is 90 or 91
pub store_fault : (result : Result Outcome Fault) (fault : Fault) → result ≡ Err fault → IfErr result IsStoreFault
    → (fault.0 ≡ 90) ⊎ (fault.0 ≡ 91)
store_fault result fault is h = either (rw is at h)
  where
    either : IsStoreFault fault → (fault.0 ≡ 90) ⊎ (fault.0 ≡ 91)
    either (inl e) = inl (ap (λ (f : Fault). f.0) e)
    either (inr e) = inr (ap (λ (f : Fault). f.0) e)

-- ---- a rehearsal

module _ (old new : State) (edition : Text) (moment : ℕ) (result : Result Outcome Fault) where
  quietly : IsRehearsal current edition old new result
      → Survives old new (IsStepOf old (commands.Rehearse edition) moment)
  quietly it = survives_weaker old new (λ _. ⊥) (IsStepOf old (commands.Rehearse edition) moment)
      (λ _ db none. absurd none) it.survives

  pub rehearsed_well : result ≡ Ok Done → IsRehearsal current edition old new result
      → IsAppliedTo (commands.Rehearse edition) moment old new answer.Ok
  rehearsed_well is it = record {
    survives = quietly it;
    stays_open = λ clean lasting. absurd (let e : true ≡ false = lasting in cc);
    seen = λ clean p ready. (
      (rw is at it.answers) clean p ready.meets ready.seen,
      subst (IsSeenAs current new) (sym (rehearse_same p edition moment)) (it.seen clean p ready.meets ready.seen),
      λ lasting. absurd (let e : true ≡ false = lasting in cc),
    );
    answers = λ clean p ready. (
      (rw is at it.answers) clean p ready.meets (seen_of current old p ready.settled),
      subst (IsSettled current new) (sym (rehearse_same p edition moment))
          (it.settled clean p ready.meets ready.settled),
    );
  }

  pub rehearsed_refused : (why : Refusal) → result ≡ Ok (Refused why) → IsRehearsal current edition old new result
      → IsAppliedTo (commands.Rehearse edition) moment old new (answer.Refused why)
  rehearsed_refused why is it = record {
    survives = it.survives;
    stays_open = λ clean. tt;
    seen = λ clean p ready. (
      (rw is at it.answers) clean p ready.meets ready.seen,
      it.seen clean p ready.meets
          ready.seen,
    );
    answers = λ clean p ready. (
      (rw is at it.answers) clean p ready.meets (seen_of current old p ready.settled),
      it.settled clean p ready.meets ready.settled,
    );
  }

  pub rehearsed_in_vain : (fault : Fault) → IsRehearsal current edition old new result
      → IsAppliedTo (commands.Rehearse edition) moment old new (answer.Fault fault)
  rehearsed_in_vain fault it = record {
    survives = quietly it;
    stays_open = λ clean. tt;
    seen = λ clean p ready. tt;
    answers = λ clean p ready db may. inl ((it.settled clean p ready.meets ready.settled).left db may);
  }
