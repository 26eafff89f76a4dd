-- What an adopted session is settled for, and why a package that was left is never declined.
use Rattle.std.proofs.Common.{◌≡◌, Bool, true, false, inl, inr, refl, sym, subst, arith}
use Rattle.std.proofs.lemmas.Bool.{both_ways}
use Rattle.std.proofs.Math.Logic.{∥∥₁_elim, ∥∥₁_map}
use Rattle.sqlite.specs.State.{State, HasCleanDisk}
use Rattle.mm_store.proofs.Seen.{seen_of}
use Rattle.mm_definitions.specs.Bounds.{current}
use Rattle.mm_definitions.specs.Package.{Package}
use Rattle.mm_definitions.specs.Rules.{Meets}
use Rattle.mm_definitions.specs.declared.answers.Open.{Open}
use Rattle.mm_definitions.specs.declared.answers.Open.TheVariants as opens
use Rattle.mm_core.proofs.Failing.{none_fails}
use Rattle.mm_core.specs.Adopted.{IsAdopted, IsNotAdopted, Declines}
use Rattle.mm_core.specs.Applied.{StandsForCurrent}
use Rattle.mm_store.specs.Stands.{IsSettled}
use Rattle.mm_recovery.specs.Found.{FindsCommitted, FindsLeft, IsFoundAlone}
use Rattle.mm_recovery.specs.Recovered.{IsHandedBack, IsFault, IsKeptOn, IsRecovered, IsRedeclined, IsReopened}
use Rattle.mm_recovery.specs.Recovered.{IsSoundOn, LeavesPackages}

abbrev pub is_fault : Open → Bool
is_fault (opens.Fault fault) = true
is_fault _ = false

pub none_is_declined : (p : Package) (why : Open) → Meets current p → Declines p why → is_fault why ≡ false → ⊥
none_is_declined p (opens.Rule k) m it other = none_fails p k m it
none_is_declined p (opens.Fault fault) m it other = both_ways true other refl
none_is_declined p (opens.Version version) m it other = it
none_is_declined p opens.NoProfile m it other = it
none_is_declined p opens.BadProfile m it other = it
none_is_declined p opens.BadBlobs m it other = it

-- a connection that is declined is as it was opened
kept_on : (mid new : State) (why : Open) → IsFoundAlone mid → IsNotAdopted mid new why → HasCleanDisk new
    → IsKeptOn new mid.committed.trees why
kept_on mid new why found declined clean = record {
  only = λ other may. elim (declined.survives.crash clean other may)
      [ inl before ↦ found.only other before | inr none ↦ absurd none ];
  settled = λ profile p stands. declined.settled clean profile p (found.settled profile p stands);
  declines = λ p stands. declined.declines clean p (seen_of current _ p (found.settled current p stands));
  none = λ empty. declined.none clean (found.blank empty);
}

-- ---- files that were lost

pub recovers_by : (old mid new : State) → FindsLeft old mid → IsAdopted mid new → IsRecovered old new
recovers_by old mid new finds adopted =
    let early : HasCleanDisk new → HasCleanDisk mid = λ clean. omega (arith, clean, adopted.survives.clean) in
    record {
      clean = λ clean. finds.clean (early clean);
      is_open = adopted.is_open;
      found = λ clean. ∥∥₁_map (finds.found (early clean)) (λ may. (
        mid.committed.trees,
        may,
        λ (p : Package) (stands : StandsForCurrent mid.committed.trees p).
            let was = (finds.is (early clean)).settled current p stands in
            (adopted.settled clean p was, adopted.meets clean p (seen_of current _ p was)),
      ));
    }

-- one that is declined was at fault, where packages were left
module _ (old mid new : State) (finds : FindsLeft old mid) where
  never : (why : Open) → IsNotAdopted mid new why → is_fault why ≡ false → HasCleanDisk new → LeavesPackages old → ⊥
  never why declined other clean left =
      let early : HasCleanDisk mid = omega (arith, clean, declined.survives.clean) in
      ∥∥₁_elim (finds.found early) (λ a b. absurd a) (λ may.
      let it = left mid.committed.trees may in
      none_is_declined it.0 why it.2
      (declined.declines clean it.0 (seen_of current _ it.0 ((finds.is early).settled current it.0 it.1))) other)

  declines : (why : Open) → IsNotAdopted mid new why → HasCleanDisk new → LeavesPackages old → IsFault why
  declines (opens.Fault fault) declined clean left = declined.profile clean
  declines (opens.Rule k) declined clean left = never (opens.Rule k) declined refl clean left
  declines (opens.Version version) declined clean left = never (opens.Version version) declined refl clean left
  declines opens.NoProfile declined clean left = never opens.NoProfile declined refl clean left
  declines opens.BadProfile declined clean left = never opens.BadProfile declined refl clean left
  declines opens.BadBlobs declined clean left = never opens.BadBlobs declined refl clean left

  pub declines_by : (why : Open) → new.in_transaction ≡ false → IsNotAdopted mid new why → IsHandedBack old new why
  declines_by why idle declined =
      let early : HasCleanDisk new → HasCleanDisk mid = λ clean. omega (arith, clean, declined.survives.clean) in
      record {
        mode = idle;
        clean = λ clean. finds.clean (early clean);
        found = λ clean. ∥∥₁_map (finds.found (early clean))
            (λ may. (mid.committed.trees, may, kept_on mid new why (finds.is (early clean)) declined clean));
        faults = declines why declined;
      }

-- ---- files that were closed

pub reopens_by : (old mid new : State) → FindsCommitted old mid → IsAdopted mid new → IsReopened old new
reopens_by old mid new finds adopted =
    let early : HasCleanDisk new → HasCleanDisk mid = λ clean. omega (arith, clean, adopted.survives.clean) in
    let again : HasCleanDisk new → (p : Package) → StandsForCurrent old.committed.trees p → IsSoundOn new p =
    λ clean p stands.
    let was = (finds.is (early clean)).settled current p
    (subst (λ db. StandsForCurrent db p) (sym (finds.found (early clean))) stands) in
    (adopted.settled clean p was, adopted.meets clean p (seen_of current _ p was)) in
    record {
      clean = λ clean. finds.clean (early clean);
      is_open = adopted.is_open;
      settled = again;
      kept = λ clean p (was : IsSettled current old p). again clean p (was.back (finds.was_open (early clean))).stands;
    }

module _ (old mid new : State) (finds : FindsCommitted old mid) where
  refuses : (why : Open) → IsNotAdopted mid new why → is_fault why ≡ false → HasCleanDisk new → (p : Package)
      → StandsForCurrent old.committed.trees p
      → Meets current p → ⊥
  refuses why declined other clean p stands meets =
      let early : HasCleanDisk mid = omega (arith, clean, declined.survives.clean) in
      let was = (finds.is early).settled current p
      (subst (λ db. StandsForCurrent db p) (sym (finds.found early)) stands) in
      none_is_declined p why meets (declined.declines clean p (seen_of current _ p was)) other

  refused_for : (why : Open) → IsNotAdopted mid new why → HasCleanDisk new → (p : Package)
      → StandsForCurrent old.committed.trees p → Meets current p
      → IsFault why
  refused_for (opens.Fault fault) declined clean p stands meets = declined.profile clean
  refused_for (opens.Rule k) declined clean p stands meets = refuses (opens.Rule k) declined refl clean p stands meets
  refused_for (opens.Version version) declined clean p stands meets =
      refuses (opens.Version version) declined refl clean p stands meets
  refused_for opens.NoProfile declined clean p stands meets = refuses opens.NoProfile declined refl clean p stands meets
  refused_for opens.BadProfile declined clean p stands meets =
      refuses opens.BadProfile declined refl clean p stands meets
  refused_for opens.BadBlobs declined clean p stands meets = refuses opens.BadBlobs declined refl clean p stands meets

  pub redeclines_by : (why : Open) → new.in_transaction ≡ false → IsNotAdopted mid new why → IsRedeclined old new why
  redeclines_by why idle declined =
      let early : HasCleanDisk new → HasCleanDisk mid = λ clean. omega (arith, clean, declined.survives.clean) in
      record {
        mode = idle;
        clean = λ clean. finds.clean (early clean);
        was_open = λ clean. finds.was_open (early clean);
        found = λ clean. subst (λ db. IsKeptOn new db why) (finds.found (early clean))
            (kept_on mid new why (finds.is (early clean)) declined clean);
        faults = refused_for why declined;
      }
