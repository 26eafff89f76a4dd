-- What is told of work on a file that was done, or was not.
use Rattle.std.proofs.Common.{◌≡◌, ◌⊎◌, ℕ, Bool, true, Option, Result, Ok, Err, IfOk, IfErr, inl, inr}
use Rattle.std.proofs.Common.{arith, refl, sym, ap, subst}
use Rattle.std.specs.Prelude.{◌==◌, ◌≢◌, not}
use Rattle.sqlite_disk.specs.declared.Disk.{Ghosts}
use Rattle.sqlite.specs.Tree.{Trees}
use Rattle.sqlite.specs.Recovery.{Image}
use Rattle.mm_definitions.specs.Keys.{Text}
use Rattle.mm_definitions.specs.Streams.{Written}
use Rattle.mm_definitions.specs.declared.answers.Fault.{Fault}
use Rattle.mm_files.specs.declared.left.Left.{Left}
use Rattle.mm_files.specs.declared.left.Left.TheVariants as left
use Rattle.mm_work.specs.Told.{IsTold, stop_status, stop_text}
use Rattle.mm_work.specs.declared.stop.Stop.{Stop}
use Rattle.mm_work.specs.declared.stop.Stop.TheVariants as stops
use Rattle.mm_program.specs.Desks.{IsKey, IsSeated, TellsSeat}
use Rattle.mm_program.specs.Files.{IsUndone, StopsStore, WorkEnds, WorksOnFile}
use Rattle.mm_program.specs.Served.{EndsWell, PrintsNothing, ServiceEnds}
use Rattle.mm_program.specs.Stops.{StopsAny, StopsCheck, StopsNew, StopsOld}
use Rattle.mm_program.specs.Told.{IsOutcome, TellsWork}
use Rattle.mm_program.specs.Worked.{ShowingEnds, StatusEnds, closes_done, closes_run}

-- what holds of each thing that the work comes to, and of each cause for which it is not done, holds of what is told
ended : {D S T : Type 0} {g : Ghosts D} (IsCause : Stop → Type 0)
    (comes_to : Written → Written → Result T Stop → Type 0) (closes : Result T Stop → Bool) (old new : Written)
    (Holds : Result T Stop → Type 0)
    → ((done : Result T Stop) → comes_to old new done → Holds done)
    → ((why : Stop) → IsCause why → IsUndone comes_to closes old new why → Holds (Err why))
    → (done : Result T Stop) (rest : Left D S g) → WorkEnds IsCause comes_to closes old new done rest → Holds done
ended IsCause comes_to closes old new Holds did off done (left.Worked opened) it = did done it
ended IsCause comes_to closes old new Holds did off done (left.Untouched start) (why, is, cause, undone) =
    subst Holds (sym is) (off why cause undone)
ended IsCause comes_to closes old new Holds did off done left.Unopened (why, is, cause, undone) =
    subst Holds (sym is) (off why cause undone)
ended IsCause comes_to closes old new Holds did off done (left.Refused rest) (why, is, cause, undone) =
    subst Holds (sym is) (off why cause undone)
ended IsCause comes_to closes old new Holds did off done (left.Unclosed rest) (why, is, cause, undone) =
    subst Holds (sym is) (off why cause undone)

-- ---- why it was not done

old_check : (why : Stop) → StopsOld why → StopsCheck why
old_check stops.NotEmpty it = it
old_check (stops.NotPackage cause) it = tt
old_check (stops.Rule rule) it = tt
old_check (stops.Fault fault) it = tt

stops_new : (done : Result (Unit {0}) Stop) → IfErr done StopsStore → IfErr done StopsNew
stops_new (Ok done) it = tt
stops_new (Err stops.NotEmpty) it = absurd it
stops_new (Err (stops.NotPackage cause)) it = absurd it
stops_new (Err (stops.Rule rule)) it = absurd it
stops_new (Err (stops.Fault fault)) (inl memory) = inl (ap (λ (f : Fault). f.0) memory)
stops_new (Err (stops.Fault fault)) (inr store) = inr (inl (ap (λ (f : Fault). f.0) store))

any_fault : (why : Stop) → StopsAny why → stop_status why ≡ 3
any_fault stops.NotEmpty it = absurd it
any_fault (stops.NotPackage cause) it = absurd it
any_fault (stops.Rule rule) it = absurd it
any_fault (stops.Fault fault) it = refl

-- nothing was printed, or it is a fault
untold : {Done : Type 0} (comes_to : Written → Written → Done → Type 0) (closes : Done → Bool) (old new : Written)
    (why : Stop) → IsUndone comes_to closes old new why → (new ≡ old) ⊎ (stop_status why ≡ 3)
untold comes_to closes old new why (inl same) = inl same
untold comes_to closes old new why (inr it) = inr (any_fault why it.0)

not_three : (n : ℕ) → not (n == 3) ≡ true → n ≢ 3
not_three n is same = let e : not (3 == 3) ≡ true = subst (λ k. not (k == 3) ≡ true) same is in cc

same_failed : (old new : Written) → new ≡ old → new.failed ≡ old.failed
same_failed old new same = ap (λ (w : Written). w.failed) same

nothing : (old new : Written) → new ≡ old → PrintsNothing old new
nothing old new same = (ap (λ (w : Written). w.contents) same, same_failed old new same)

-- ---- what it came to where it was done, by what it comes to

module _ (Serves : Written → Written → ℕ → Type 0) (old new : Written) where
  ends_well : (done : Result ℕ Stop) → ServiceEnds Serves old new done → closes_run done ≡ true
      → EndsWell Serves old new
  ends_well (Ok status) it closed = (status, not_three status closed, it.0.2)
  ends_well (Err why) it closed = cc

  ended_well : (why : Stop) → IsUndone (ServiceEnds Serves) closes_run old new why
      → PrintsNothing old new ⊎ EndsWell Serves old new
  ended_well why (inl same) = inl (nothing old new same)
  ended_well why (inr (stops, done, came, closed)) = inr (ends_well done came closed)

-- ---- what is told of each work

module _ {D S T : Type 0} {g : Ghosts D} {image : Image} {path : Text} {IsCause : Stop → Type 0}
    {tells : Trees → Written → Written → Result T Stop → Type 0}
    {leaves : Trees → Trees → Written → Written → Result T Stop → Type 0} {closes : Result T Stop → Bool}
    {old new : Written} {done : Result T Stop} {rest : Left D S g} where
  -- what holds of each thing that the work comes to, and of each cause for which it is not done, holds of what is told
  told_of : (comes_to : Written → Written → Result T Stop → Type 0) (Holds : Result T Stop → Type 0)
      → ((done : Result T Stop) → comes_to old new done → Holds done)
      → ((why : Stop) → IsCause why → IsUndone comes_to closes old new why → Holds (Err why))
      → WorksOnFile g image path IsCause comes_to tells leaves closes old new done rest → Holds done
  told_of comes_to Holds did off it =
      ended IsCause comes_to closes old new Holds did off done rest it.ended

module _ {D S : Type 0} {g : Ghosts D} {image : Image} {path : Text} {old new : Written} {rest : Left D S g} where
  module _ {tells : Trees → Written → Written → Result (Unit {0}) Stop → Type 0}
      {leaves : Trees → Trees → Written → Written → Result (Unit {0}) Stop → Type 0}
      {done : Result (Unit {0}) Stop} where
    -- a making
    pub made : WorksOnFile g image path StopsNew (λ held holds done. IfErr done StopsStore) tells leaves closes_done
        old new done rest → IfErr done StopsNew
    made it = told_of (λ held holds done. IfErr done StopsStore) (λ done. IfErr done StopsNew) stops_new
        (λ why is undone. is) it

    -- a check, or a migration
    pub checked : WorksOnFile g image path StopsOld (λ held holds done. IfErr done StopsCheck) tells leaves closes_done
        old new done rest → IfErr done StopsCheck
    checked it = told_of (λ held holds done. IfErr done StopsCheck) (λ done. IfErr done StopsCheck) (λ done is. is)
        (λ why is undone. old_check why is) it

  -- work that has a status
  module _ {T : Type 0} {comes_to : Written → Written → Result T Stop → Type 0}
      {tells : Trees → Written → Written → Result T Stop → Type 0}
      {leaves : Trees → Trees → Written → Written → Result T Stop → Type 0} {closes : Result T Stop → Bool}
      {done : Result T Stop} where
    pub has_status : (status : T → ℕ)
        → ((old new : Written) (done : Result T Stop) → comes_to old new done → StatusEnds status old new done)
        → WorksOnFile g image path StopsOld comes_to tells leaves closes old new done rest
        → StatusEnds status old new done
    has_status status ends it = told_of comes_to (StatusEnds status old new) (λ done is. ends old new done is)
        (λ why is undone. (tt, untold comes_to closes old new why undone)) it

-- ---- a page that is served, or a desk

module _ (Serves : Written → Written → ℕ → Type 0) where
  pub service_ends : (old new : Written) (done : Result ℕ Stop) → ServiceEnds Serves old new done
      → StatusEnds (λ status. status) old new done
  service_ends old new (Ok status) it = ((it.0.0, it.0.1), tt)
  service_ends old new (Err why) it = (tt, inl it.1)

  -- it was there, with its status; or why it was not is told
  abbrev pub TellsServing : Written → Written → ℕ → Type 0
  TellsServing old new result =
      Serves old new result
      ⊎ ((why : Stop) × (between : Written) × (PrintsNothing old between ⊎ EndsWell Serves old between)
      × IsTold between new (stop_text why) (stop_status why) result)

  module _ (old new : Written) (result : ℕ) where
    HasServed : Written → Result ℕ Stop → Type 0
    HasServed between done =
        IfOk done (Serves old between) × IfErr done (λ why. PrintsNothing old between ⊎ EndsWell Serves old between)

    has_served : (between : Written) (done : Result ℕ Stop) → ServiceEnds Serves old between done
        → HasServed between done
    unfolding HasServed
    has_served between (Ok status) it = (it.0.2, tt)
    has_served between (Err why) it = (tt, inl (nothing old between it.1))

    serves : (between : Written) (done : Result ℕ Stop) → HasServed between done
        → IsOutcome (λ (status : ℕ). status) between new done result → TellsServing old new result
    unfolding HasServed
    serves between (Ok status) it (same, is) =
        inl (subst (λ (r : ℕ). Serves old new r) (sym is) (subst (λ (w : Written). Serves old w status) same it.0))
    serves between (Err why) it told = inr (why, between, it.1, told)

    pub service_tells : {D S : Type 0} (g : Ghosts D) (image : Image) (path : Text) (left : Left D S g)
        (tells : Trees → Written → Result ℕ Stop → Type 0)
        (leaves : Trees → Trees → Written → Result ℕ Stop → Type 0)
        → TellsWork g image path old new result left (λ (status : ℕ). status) (ServiceEnds Serves) tells leaves
        closes_run → TellsServing old new result
    unfolding HasServed
    service_tells g image path left tells leaves (between, outcome, ends, (undone, is), unprinted, files) =
        serves between outcome
        (ended StopsOld (ServiceEnds Serves) closes_run old between (HasServed between)
        (λ done came. has_served between done came)
        (λ why cause undone. (tt, ended_well Serves old between why undone)) outcome left ends) is

-- ---- rows of a table

pub showing_ends : (old new : Written) (done : Result ℕ Stop) → ShowingEnds old new done
    → StatusEnds (λ status. status) old new done
showing_ends old new (Ok status) ((few, same), it) = ((omega (arith, few), inr same), tt)
showing_ends old new (Err why) it = (tt, it.1)

-- ---- a desk by a key

pub seats : (port count : ℕ) (key : Text) (table : Option Text) (old new : Written) (result : ℕ) → IsKey key
    → TellsServing (IsSeated port count key table) old new result → TellsSeat port count table old new result
seats port count key table old new result is (inl seated) = inr (inl (key, is, seated))
seats port count key table old new result is (inr (why, between, inl none, told)) =
    inr (inr (why, between, inl none, told))
seats port count key table old new result is (inr (why, between, inr was, told)) =
    inr (inr (why, between, inr (key, is, was), told))
