-- The one commit of `init`.
use Rattle.std.proofs.Common.{◌≡◌, inl, inr, false, true, Result, Ok, Err, OnOk, IfErr, IsTrue, refl, sym, subst, arith}
use Rattle.sqlite.specs.State.{State, HasCleanDisk, Survives, Shows}
use Rattle.sqlite.specs.Held.{Held, state}
use Rattle.sqlite.specs.Store.{Ghosts}
use Rattle.sqlite.proofs.StateLemmas.{survives_then, survives_weaker}
use Rattle.sqlite.proofs.Callers.{survives_begin}
use Rattle.mm_store.specs.Made.{first_tables}
use Rattle.mm_definitions.specs.Bounds.{Profile}
use Rattle.mm_definitions.specs.Opening.{opening}
use Rattle.mm_definitions.specs.declared.answers.Fault.{Fault}
use Rattle.mm_definitions.specs.Faults.{IsStoreFault}
use Rattle.mm_store.specs.Stands.{StandsFor, ground_of, StandsInside, IsSettled}
use Rattle.mm_store.specs.Statements.{CommitsNothing}
use Rattle.mm_store.proofs.Transactions.{OnlyCommitted, settles}
use Rattle.mm_meta.specs.Opening.{HasTables, IsBlank, IsBareAt, IsMaking, MakesNoneAgain, IsInit}

module _ (profile : Profile) {S : Type 0} (g : Ghosts S) (was now : Held S)
    (begun : now ≡ record was { in_transaction = true }) (ended last : State) where
  abbrev old : State
  old = state g was

  begins_blank : IsBlank old → IsBareAt (first_tables 0) (state g now) (ground_of old)
  begins_blank it = rw begun (record {
    mode = refl;
    back = λ is_open. (refl, is_open);
    bare = λ up. record { schema_is = it.schema_is up; empty = tt };
  })

  -- each database that may be left was there before, or stands for the opening package
  whole : (result : Result (Unit {0}) Fault)
      → Survives old last (λ db. IsBlank old → StandsFor profile.version db opening)
      → (HasCleanDisk last → OnOk result (IsTrue last.is_open))
      → (HasCleanDisk last → IsBlank old → OnOk result (IsSettled profile last opening))
      → (HasTables old → CommitsNothing old last) → IfErr result IsStoreFault
      → IsInit profile old last result
  whole result survives is_open made stays faults = record {
    survives = survives;
    is_open = is_open;
    made = made;
    left = λ clean it db may. elim (survives.crash clean db may)
        [ inl before ↦ inl (it.left db before) | inr new ↦ inr (new it) ];
    stays = stays;
    faults = faults;
  }

  module _ {T : Type 0} (t : T) (making : IsMaking (first_tables 0) (state g now) ended profile opening (Ok t))
      (h : Survives ended last (λ db. db ≡ ended.now.trees))
      (again : MakesNoneAgain (state g now) ended (Ok t)) where
    done : HasCleanDisk ended → IsBlank old → IsTrue ended.is_open × StandsInside profile ended (ground_of old) opening
    done clean it = making.made clean (ground_of old) (begins_blank it)

    commits : Survives old last (λ db. IsBlank old → StandsFor profile.version db opening)
    commits = survives_begin g was last _
        (rw begun at (survives_then (state g now) ended last _ _
        (λ db. IsBlank old → StandsFor profile.version db opening) (λ _ db none. absurd none)
        (λ clean db same it. let its = done (omega (arith, h.clean)) it in subst
        (λ t. StandsFor profile.version t opening) (sym same) (its.1.reads its.0).stands) making.survives h))

    -- where the tables stand already there is no commit
    none_committed : HasTables old → CommitsNothing old last
    none_committed has = survives_weaker old last _ (λ _. ⊥)
        (λ clean db may. again (omega (arith, clean, h.clean)) (rw begun refl) (rw begun has)) commits

    pub init_made : OnlyCommitted last → (HasCleanDisk last → Shows ended last ended.now ended.now false)
        → IsInit profile old last (Ok tt)
    init_made law shows = whole (Ok tt) commits (λ clean. (shows clean).is_open)
        (λ clean it. settles profile ended last (ground_of old) opening law (shows clean)
        (done (omega (arith, h.clean)) it).1) none_committed tt

    pub init_in_doubt : (fault : Fault) → IsStoreFault fault → IsInit profile old last (Err fault)
    init_in_doubt fault is = whole (Err fault) commits (λ clean. tt) (λ clean it. tt) none_committed is
