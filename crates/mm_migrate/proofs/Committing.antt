-- The one commit of a change of the unit.
use Rattle.std.proofs.Common.{◌≡◌, inl, inr, false, true, Result, Ok, Err, OnOk, IfErr, IsTrue, refl, sym, subst, arith}
use Rattle.sqlite.specs.State.{State, HasCleanDisk, Survives, Shows}
use Rattle.sqlite.specs.Held.{Held, state}
use Rattle.sqlite.specs.Store.{Ghosts}
use Rattle.sqlite.proofs.StateLemmas.{survives_then}
use Rattle.sqlite.proofs.Callers.{survives_begin}
use Rattle.mm_definitions.specs.Bounds.{millimetres, micrometres}
use Rattle.mm_definitions.specs.Package.{Package}
use Rattle.mm_definitions.specs.Rules.{Limits}
use Rattle.mm_definitions.specs.declared.answers.Fault.{Fault}
use Rattle.mm_definitions.specs.Scale.{scale}
use Rattle.mm_definitions.specs.Faults.{IsStoreFault}
use Rattle.mm_store.specs.Stands.{StandsFor, ground_of, StandsInside, IsSettled}
use Rattle.mm_store.specs.Statements.{CommitsNothing}
use Rattle.mm_store.proofs.Seen.{seen_of}
use Rattle.mm_store.proofs.Transactions.{OnlyCommitted, settles}
use Rattle.mm_migrate.specs.Moves.{IsScaling, IsRescaled, MayScale}

module _ {S : Type 0} (g : Ghosts S) (was now : Held S) (begun : now ≡ record was { in_transaction = true })
    (ended last : State) where
  abbrev old : State
  old = state g was

  inside : (p : Package) → MayScale old p → StandsInside millimetres (state g now) (ground_of old) p
  inside p it = rw begun (record { mode = refl; back = λ is_open. (refl, is_open); reads = it.0.reads })

  whole : (result : Result (Unit {0}) Fault)
      → Survives old last (λ db. (p : Package) → MayScale old p → StandsFor micrometres.version db (scale p))
      → (HasCleanDisk last → OnOk result (IsTrue last.is_open))
      → (HasCleanDisk last → (p : Package) → MayScale old p → OnOk result (IsSettled micrometres last (scale p)))
      → IfErr result IsStoreFault → IsRescaled old last result
  whole result survives is_open done faults = record {
    survives = survives;
    is_open = is_open;
    done = done;
    left = λ clean p it limits db may. elim (survives.crash clean db may)
        [ inl before ↦ inl (it.left db before) | inr new ↦ inr (new p (seen_of millimetres old p it, limits)) ];
    faults = faults;
  }

  -- the transaction was rolled back
  pub undone : {T : Type 0} (fault : Fault)
      → IsScaling millimetres micrometres (state g now) ended (λ p. Limits millimetres p) scale {T = T} (Err fault)
      → CommitsNothing ended last
      → IsRescaled old last (Err fault)
  undone fault moved h =
      whole (Err fault) (survives_begin g was last _
      (rw begun at (survives_then (state g now) ended last _ _
      (λ db. (p : Package) → MayScale old p → StandsFor micrometres.version db (scale p)) (λ _ db none. absurd none)
      (λ _ db none. absurd none) moved.survives h)))
      (λ clean. tt) (λ clean p it. tt) moved.faults

  module _ {T : Type 0} (t : T) (moved : IsScaling millimetres micrometres (state g now) ended
      (λ p. Limits millimetres p) scale (Ok t)) (h : Survives ended last (λ db. db ≡ ended.now.trees)) where
    done : HasCleanDisk ended → (p : Package) → MayScale old p → IsTrue ended.is_open
        × StandsInside micrometres ended (ground_of old) (scale p)
    done clean p it = moved.made clean (ground_of old) p (inside p it) it.1

    commits : Survives old last (λ db. (p : Package) → MayScale old p → StandsFor micrometres.version db (scale p))
    commits = survives_begin g was last _
        (rw begun at (survives_then (state g now) ended last _ _
        (λ db. (p : Package) → MayScale old p → StandsFor micrometres.version db (scale p)) (λ _ db none. absurd none)
        (λ clean db same p it. let its = done (omega (arith, h.clean)) p it in subst
        (λ t. StandsFor micrometres.version t (scale p)) (sym same) (its.1.reads its.0).stands) moved.survives h))

    pub committed : OnlyCommitted last → (HasCleanDisk last → Shows ended last ended.now ended.now false)
        → IsRescaled old last (Ok tt)
    committed law shows = whole (Ok tt) commits (λ clean. (shows clean).is_open)
        (λ clean p it. settles micrometres ended last (ground_of old) (scale p) law (shows clean)
        (done (omega (arith, h.clean)) p it).1) tt

    pub in_doubt : (fault : Fault) → IsStoreFault fault → IsRescaled old last (Err fault)
    in_doubt fault is = whole (Err fault) commits (λ clean. tt) (λ clean p it. tt) is
