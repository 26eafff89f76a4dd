-- How one attempt follows another, and what is one. Each lemma speaks of words.
use Rattle.std.proofs.Common.{◌≡◌, Result, Ok, Err, inr, refl, ◌∙◌, arith}
use Rattle.std.specs.Prelude.{⊤, IsErrAnd, IsTrue}
use Rattle.sqlite.specs.Held.{state}
use Rattle.sqlite.specs.Store.{Ghosts}
use Rattle.sqlite.specs.declared.transaction.Transaction.{Transaction}
use Rattle.mm_definitions.specs.Bounds.{Profile}
use Rattle.mm_definitions.specs.Package.{Package}
use Rattle.mm_definitions.specs.declared.answers.Fault.{Fault}
use Rattle.mm_store.specs.Stands.{Ground, StandsInside}
use Rattle.mm_definitions.specs.Faults.{store}
use Rattle.mm_store.specs.Handed.{Goes}
use Rattle.mm_store.proofs.Going.{told}
use Rattle.mm_store.proofs.Quiet.{quiet_then}
use Rattle.mm_edition.specs.Turns.{Known, Said, Attempts}

module _ {S : Type 0} {g : Ghosts S} where
  pub attempts : {T : Type 0} {a b : Transaction S} {When : Known} {one : Package → T → Package}
      {Says : Profile → Package → T → Type 0} {r : Result T Fault}
      → Goes g a b When one Says r
      → Attempts g a b When (λ profile s ground p it. IsTrue s.is_open × StandsInside profile s ground (one p it)
      × Says profile p it) r
  attempts h = record { same = h.same; survives = h.survives; on = h.on; tells = h.comes; faults = h.faults }

  module _ {T U V : Type 0} {a b c : Transaction S} {When Where : Known} {Says : Said T} {More : Said U} {Less : Said V}
      {x : T} where
    -- an attempt that comes to its end, behind another
    pub attempts_then : {y : U} {z : V} → Attempts g a b When Says (Ok x) → Attempts g b c Where More (Ok y)
        → ((profile : Profile) (ground : Ground) (p : Package) → When profile p
        → Says profile (state g b.conn.now) ground p x
        → (q : Package) × StandsInside profile (state g b.conn.now) ground q × Where profile q
        × (More profile (state g c.conn.now) ground q y → Less profile (state g c.conn.now) ground p z))
        → Attempts g a c When Less (Ok z)
    attempts_then h k leads = record {
      same = k.same ∙ h.same;
      survives = quiet_then _ _ _ h.survives k.survives;
      on = λ clean profile ground p it when.
          let mid = leads profile ground p when (h.tells (omega (arith, k.survives.clean)) profile ground p it when) in
          k.on clean profile ground mid.0 mid.1 mid.2;
      tells = λ clean profile ground p it when.
          let mid = leads profile ground p when (h.tells (omega (arith, k.survives.clean)) profile ground p it when) in
          mid.3 (k.tells clean profile ground mid.0 mid.1 mid.2);
      faults = tt;
    }

    -- the exit of a `?` behind an attempt
    pub attempts_failed : {e : Fault} {r : Result V Fault}
        → Attempts g a b When Says (Ok x) → Attempts g b c Where More (Err e) → IsErrAnd r (λ f. f ≡ e)
        → ((profile : Profile) (ground : Ground) (p : Package) → When profile p
        → Says profile (state g b.conn.now) ground p x
        → (q : Package) × StandsInside profile (state g b.conn.now) ground q × Where profile q)
        → Attempts g a c When Less r
    attempts_failed {e = e} {r = r} h k is leads = record {
      same = k.same ∙ h.same;
      survives = quiet_then _ _ _ h.survives k.survives;
      on = λ clean profile ground p it when.
          let mid = leads profile ground p when (h.tells (omega (arith, k.survives.clean)) profile ground p it when) in
          k.on clean profile ground mid.0 mid.1 mid.2;
      tells = λ clean profile ground p it when. (told _ r e is k.faults).0;
      faults = (told (λ _. ⊤) r e is k.faults).1;
    }

  -- a first attempt, told in other words
  pub attempts_as : {T V : Type 0} {a b : Transaction S} {When Where : Known} {Says : Said T} {Less : Said V} {x : T}
      {z : V}
      → Attempts g a b When Says (Ok x) → ((profile : Profile) (p : Package) → Where profile p → When profile p)
      → ((profile : Profile) (ground : Ground) (p : Package) → Where profile p → Says profile (state g b.conn.now)
      ground p x
      → Less profile (state g b.conn.now) ground p z)
      → Attempts g a b Where Less (Ok z)
  attempts_as h so tells = record {
    same = h.same;
    survives = h.survives;
    on = λ clean profile ground p it when. h.on clean profile ground p it (so profile p when);
    tells = λ clean profile ground p it when. tells profile ground p when
        (h.tells clean profile ground p it (so profile p when));
    faults = tt;
  }

  -- the exit of a `?` at a first attempt
  pub attempts_not : {T V : Type 0} {a b : Transaction S} {When Where : Known} {Says : Said T} {Less : Said V}
      {e : Fault} {r : Result V Fault}
      → Attempts g a b When Says (Err e) → IsErrAnd r (λ f. f ≡ e)
      → ((profile : Profile) (p : Package) → Where profile p → When profile p)
      → Attempts g a b Where Less r
  attempts_not {e = e} {r = r} h is so = record {
    same = h.same;
    survives = h.survives;
    on = λ clean profile ground p it when. h.on clean profile ground p it (so profile p when);
    tells = λ clean profile ground p it when. (told _ r e is h.faults).0;
    faults = (told (λ _. ⊤) r e is h.faults).1;
  }

  -- a fault of no call
  pub attempts_fault : {T V : Type 0} {a b : Transaction S} {When : Known} {Says : Said T} {Less : Said V} {x : T}
      → Attempts g a b When Says (Ok x) → Attempts g a b When Less (Err store)
  attempts_fault h = record {
    same = h.same;
    survives = h.survives;
    on = h.on;
    tells = λ clean profile ground p it when. tt;
    faults = inr refl;
  }
