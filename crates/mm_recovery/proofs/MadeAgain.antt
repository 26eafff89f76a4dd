-- A package that is made, or found, where a making was stopped.
use Rattle.std.proofs.Common.{◌≡◌, ◌⊎◌, ℕ, ap, false, inl, inr, refl, subst, arith}
use Rattle.std.proofs.Math.Logic.{∥∥₁_elim, ∥∥₁_map}
use Rattle.sqlite_disk.specs.declared.Disk.{Ghosts}
use Rattle.sqlite_disk.specs.declared.Files.{Files}
use Rattle.sqlite.specs.State.{State, HasCleanDisk, Survives}
use Rattle.sqlite.proofs.StateLemmas.{survives_then, survives_weaker}
use Rattle.mm_store.proofs.Seen.{seen_of}
use Rattle.mm_store.proofs.Quiet.{quiet_then}
use Rattle.mm_definitions.specs.Bounds.{Profile, current}
use Rattle.mm_definitions.specs.Opening.{opening}
use Rattle.mm_definitions.specs.Package.{Package}
use Rattle.mm_definitions.specs.declared.answers.Fault.{Fault}
use Rattle.mm_definitions.specs.declared.answers.Open.{Open}
use Rattle.mm_definitions.specs.declared.answers.Open.TheVariants as opens
use Rattle.mm_laws.proofs.Opened.{opened}
use Rattle.mm_definitions.specs.Faults.{IsStoreFault}
use Rattle.mm_store.specs.Seen.{IsSeenAs}
use Rattle.mm_store.specs.Stands.{IsSettled}
use Rattle.mm_store.specs.Statements.{CommitsNothing}
use Rattle.mm_core.specs.Opening.{IsBlank, HasTables}
use Rattle.mm_core.specs.Adopted.{IsAdopted, IsNotAdopted, TellsProfile}
use Rattle.mm_core.specs.Sessions.{MayMake, IsCreated, IsNotCreated}
use Rattle.mm_recovery.specs.Found.{FindsLeft}
use Rattle.mm_recovery.specs.Made.{AreNew, FindsNoTable, IsMadeOn, LeavesNoMore, OnlyStoreFault, IsMadeOrFound}
use Rattle.mm_recovery.specs.Made.{IsNeither, IsMadeAgain, IsStoppedAgain}
use Rattle.mm_recovery.specs.Recovered.{IsFault}
use Rattle.mm_recovery.proofs.Recovering.{is_fault, none_is_declined}

-- ---- new files

pub store_fault : (fault : Fault) → (fault.0 ≡ 90) ⊎ (fault.0 ≡ 91) → IsStoreFault fault
store_fault fault (inl memory) = inl (ap (λ (n : ℕ). record { 0 = n }) memory)
store_fault fault (inr store) = inr (ap (λ (n : ℕ). record { 0 = n }) store)

module _ {D : Type 0} (g : Ghosts D) (files : Files D) (mid new : State) (finds : FindsNoTable g files mid) where
  pub made_on : IsCreated mid new → IsMadeOn g files new
  made_on it =
      record {
        is_open = it.is_open;
        settled = λ clean are. it.settled clean (finds.blank (omega (arith, clean, it.survives.clean)) are);
      }

  pub left_on : IsNotCreated mid new → HasCleanDisk new → AreNew g files → LeavesNoMore new
  left_on it clean are = it.left clean (finds.blank (omega (arith, clean, it.survives.clean)) are)

-- ---- a connection that is adopted, or on which a package is made

quietly : (old new : State) → CommitsNothing old new → Survives old new (MayMake old)
quietly old new h = survives_weaker old new (λ _. ⊥) (MayMake old) (λ _ db none. absurd none) h

pub found_by : (old new : State) → IsAdopted old new → IsMadeOrFound old new
found_by old new it = record {
  survives = quietly old new it.survives;
  is_open = it.is_open;
  made = λ clean blank. absurd (it.some clean blank);
  found = λ clean p s. (it.settled clean p s, it.meets clean p (seen_of current _ p s));
  stays = λ _ _ _. it.survives;
}

-- a connection with no table is declined for want of a profile, or at a fault
only_fault : (old new : State) (why : Open) → TellsProfile old new why → OnlyStoreFault why
only_fault old new (opens.Fault fault) it = it
only_fault old new opens.NoProfile it = tt
only_fault old new (opens.Version version) it = tt
only_fault old new opens.BadProfile it = tt
only_fault old new opens.BadBlobs it = tt
only_fault old new (opens.Rule rule) it = tt

other_is_fault : (old new : State) (why : Open) → IsNotAdopted old new why → (why ≡ opens.NoProfile → ⊥)
    → HasCleanDisk new → IsBlank old → IsFault why
other_is_fault old new (opens.Fault fault) it other clean blank = it.profile clean
other_is_fault old new opens.NoProfile it other clean blank = absurd (other refl)
other_is_fault old new (opens.Version version) it other clean blank = absurd (it.none clean blank)
other_is_fault old new opens.BadProfile it other clean blank = absurd (it.none clean blank)
other_is_fault old new opens.BadBlobs it other clean blank = absurd (it.none clean blank)
other_is_fault old new (opens.Rule rule) it other clean blank = absurd (it.none clean blank)

pub declined_by : (old new : State) (why : Open) → IsNotAdopted old new why → (why ≡ opens.NoProfile → ⊥)
    → IsNeither old new why
declined_by old new why it other = record {
  survives = quietly old new it.survives;
  faults = λ clean. only_fault old new why (it.profile clean);
  none = other_is_fault old new why it other;
  left = λ clean blank db may. elim (it.survives.crash clean db may)
      [ inl before ↦ inl (blank.left db before) | inr none ↦ absurd none ];
  settled = λ clean p s. (it.settled clean current p s, it.declines clean p (seen_of current _ p s));
  stays = λ _ _ _. it.survives;
}

-- what commits nothing on a clean disk commits nothing
quiet_where : (old new : State) → Survives old new (MayMake old) → (HasCleanDisk new → CommitsNothing old new)
    → CommitsNothing old new
quiet_where old new h quiet = record {
  clean = h.clean;
  shield = h.shield;
  counts = h.counts;
  limit = h.limit;
  closes = h.closes;
  crash = λ clean. (quiet clean).crash clean;
}

module _ (old mid new : State) (declined : IsNotAdopted old mid opens.NoProfile) where
  survived : Survives mid new (MayMake mid) → Survives old new (MayMake old)
  survived h =
      survives_then old mid new _ _ (MayMake old) (λ _ db none. absurd none)
      (λ clean db may blank. may (declined.none (omega (arith, clean, h.clean)) blank)) declined.survives h

  -- where it read as a package its tables stand, and nothing is made
  none_made : Survives mid new (MayMake mid) → (HasTables mid → CommitsNothing mid new)
      → (profile : Profile) (p : Package) → IsSeenAs profile old p
      → CommitsNothing old new
  none_made h stays profile p seen =
      let tables : HasCleanDisk new → HasTables mid =
      λ clean up. ((declined.seen (omega (arith, clean, h.clean)) profile p seen).reads up).schema_is in
      quiet_then old mid new declined.survives (quiet_where mid new h (λ clean. stays (tables clean)))

  pub made_by : IsCreated mid new → IsMadeOrFound old new
  made_by it =
      let early : HasCleanDisk new → HasCleanDisk mid = λ clean. omega (arith, clean, it.survives.clean) in
      record {
        survives = survived it.survives;
        is_open = it.is_open;
        made = λ clean blank. it.settled clean (declined.none (early clean) blank);
        found = λ clean p s. absurd (declined.declines (early clean) p (seen_of current _ p s));
        stays = none_made it.survives it.stays;
      }

  pub not_made_by : (fault : Fault) → IsStoreFault fault → IsNotCreated mid new → IsNeither old new (opens.Fault fault)
  not_made_by fault told it =
      let early : HasCleanDisk new → HasCleanDisk mid = λ clean. omega (arith, clean, it.survives.clean) in
      record {
        survives = survived it.survives;
        faults = λ clean. told;
        none = λ clean blank. told;
        left = λ clean blank. it.left clean (declined.none (early clean) blank);
        settled = λ clean p s. absurd (declined.declines (early clean) p (seen_of current _ p s));
        stays = none_made it.survives it.stays;
      }

module _ (old mid new : State) (why : Open) (is : why ≡ opens.NoProfile) (declined : IsNotAdopted old mid why) where
  pub made_where_none : IsCreated mid new → IsMadeOrFound old new
  made_where_none it = made_by old mid new (subst (λ w. IsNotAdopted old mid w) is declined) it

  pub not_made_where_none : (fault : Fault) → (fault.0 ≡ 90) ⊎ (fault.0 ≡ 91) → IsNotCreated mid new
      → IsNeither old new (opens.Fault fault)
  not_made_where_none fault told it =
      not_made_by old mid new (subst (λ w. IsNotAdopted old mid w) is declined) fault (store_fault fault told) it

-- ---- a making that was stopped, and what is then made or found

module _ (old mid : State) (finds : FindsLeft old mid) where
  stopped_or_made : HasCleanDisk mid → LeavesNoMore old → ∥ (IsBlank mid ⊎ IsSettled current mid opening) ∥₁
  stopped_or_made clean left = ∥∥₁_map (finds.found clean) (λ may. elim (left mid.committed.trees may) [
    | inl none ↦ inl ((finds.is clean).blank none)
    | inr made ↦ inr ((finds.is clean).settled current opening made)
  ])

  module _ (new : State) where
    pub made_again : IsMadeOrFound mid new → IsMadeAgain old new
    made_again it =
        let early : HasCleanDisk new → HasCleanDisk mid = λ clean. omega (arith, clean, it.survives.clean) in
        record {
          clean = λ clean. finds.clean (early clean);
          is_open = it.is_open;
          settled = λ clean left. ∥∥₁_map (stopped_or_made (early clean) left) (λ was. elim was [
            | inl none ↦ it.made clean none
            | inr made ↦ (it.found clean opening made).0
          ]);
        }

    none_declined : (why : Open) → IsNeither mid new why → is_fault why ≡ false → (IsFault why → ⊥) → HasCleanDisk new
        → LeavesNoMore old → ⊥
    none_declined why it other bare clean left =
        ∥∥₁_elim (stopped_or_made (omega (arith, clean, it.survives.clean)) left) (λ a b. absurd a) (λ was. elim was [
          | inl none ↦ bare (it.none clean none)
          | inr made ↦ none_is_declined opening why (opened current) (it.settled clean opening made).1 other
        ])

    only_faults : (why : Open) → IsNeither mid new why → HasCleanDisk new → LeavesNoMore old → IsFault why
    only_faults (opens.Fault fault) it clean left = it.faults clean
    only_faults (opens.Rule rule) it clean left = none_declined (opens.Rule rule) it refl (λ e. e) clean left
    only_faults (opens.Version version) it clean left =
        none_declined (opens.Version version) it refl (λ e. e) clean left
    only_faults opens.NoProfile it clean left = none_declined opens.NoProfile it refl (λ e. e) clean left
    only_faults opens.BadProfile it clean left = none_declined opens.BadProfile it refl (λ e. e) clean left
    only_faults opens.BadBlobs it clean left = none_declined opens.BadBlobs it refl (λ e. e) clean left

    pub stopped_again : (why : Open) → IsNeither mid new why → IsStoppedAgain old new why
    stopped_again why it =
        let early : HasCleanDisk new → HasCleanDisk mid = λ clean. omega (arith, clean, it.survives.clean) in
        record {
          clean = λ clean. finds.clean (early clean);
          faults = only_faults why it;
          left = λ clean left. ∥∥₁_map (stopped_or_made (early clean) left) (λ was. elim was [
            | inl none ↦ it.left clean none
            | inr made ↦ (λ db may. inr ((it.settled clean opening made).0.left db may))
          ]);
        }
