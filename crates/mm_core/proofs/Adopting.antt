-- A connection that is looked at and then checked reads as it did before, and is settled where it was.
use Rattle.std.proofs.Common.{◌≡◌, inl, inr, Result, Ok, Err, refl, sym}
use Rattle.std.proofs.Common.{subst, arith}
use Rattle.sqlite.specs.State.{State, HasCleanDisk, IsUnchanged}
use Rattle.mm_definitions.specs.Bounds.{Profile, current}
use Rattle.mm_definitions.specs.Package.{Package}
use Rattle.mm_definitions.specs.declared.answers.Open.{Open}
use Rattle.mm_definitions.specs.declared.answers.Open.TheVariants as opens
use Rattle.mm_store.specs.Stands.{ReadsAs, IsSettled}
use Rattle.mm_store.proofs.Asking.{told_fault}
use Rattle.mm_store.specs.Seen.{IsSeenAs}
use Rattle.mm_store.proofs.Seen.{settled_still}
use Rattle.mm_store.proofs.Quiet.{quiet_then}
use Rattle.mm_meta.specs.Opening.{IsBlank}
use Rattle.mm_store.specs.Statements.{CommitsNothing}
use Rattle.mm_meta.specs.Look.{AnswersLook, FindsNone, IsLooked, Agrees, ShowsProfile}
use Rattle.mm_meta.proofs.Looking.{shows_profile, still_blank}
use Rattle.mm_walk.proofs.Resting.{seen_still}
use Rattle.mm_check.specs.Checked.{IsChecked, Judged, NoNumber, OnlyStoreFaults}
use Rattle.mm_check.specs.Form.{TellsForm}
use Rattle.mm_check.proofs.Reading.{told_as_before}
use Rattle.mm_core.specs.Adopted.{IsAdopted, WasAdopted, IsOfThisVersion, Declines, DeclinesNone, TellsProfile}
use Rattle.mm_core.specs.Adopted.{IsNotAdopted}

-- so it is known of it later
pub was_adopted : (old mid new : State) → IsAdopted old mid → (HasCleanDisk new → HasCleanDisk mid) → WasAdopted old new
was_adopted old mid new it early = record {
  row = λ clean. it.row (early clean);
  some = λ clean. it.some (early clean);
  profile = λ clean. it.profile (early clean);
  blobs = λ clean. it.blobs (early clean);
  meets = λ clean. it.meets (early clean);
}

module _ (old new : State) {result : Result (Unit {0}) Open} (looked : IsLooked old new result)
    (clean : HasCleanDisk new) where
  looked_seen : (profile : Profile) (p : Package) → IsSeenAs profile old p → IsSeenAs profile new p
  looked_seen profile p = seen_still profile old new p (looked.rests clean)

-- what commits nothing and reads as before is settled as before
settled_as : (old new : State) → CommitsNothing old new
    → (HasCleanDisk new → (profile : Profile) (p : Package) → IsSeenAs profile old p → IsSeenAs profile new p)
    → HasCleanDisk new → (profile : Profile) (p : Package) → IsSettled profile old p → IsSettled profile new p
settled_as old new quiet same clean profile p it = settled_still profile old new p quiet clean (same clean profile p) it

none_declined : (old new : State) (why : Open) → IsLooked old new (Err why) → HasCleanDisk new → IsBlank old
    → FindsNone old new (Err why)
    → DeclinesNone new why
none_declined old new opens.NoProfile looked clean it same = still_blank old new looked.survives same clean it
none_declined old new (opens.Fault fault) looked clean it same = tt
none_declined old new (opens.Version version) looked clean it same = absurd same
none_declined old new opens.BadProfile looked clean it same = absurd same
none_declined old new opens.BadBlobs looked clean it same = absurd same
none_declined old new (opens.Rule rule) looked clean it same = absurd same

-- ---- a package that reads under a version and passes the look is of this profile

same_seen : (profile : Profile) (s : State) (p : Package) → profile.version ≡ current.version → IsSeenAs profile s p
    → IsSeenAs current s p
same_seen profile s p is it = record {
  mode = it.mode;
  back = λ up. subst (λ v. ReadsAs v s.committed p) is (it.back up);
  reads = λ up. subst (λ v. ReadsAs v s.now p) is (it.reads up);
}

seen_same : (profile : Profile) (s : State) (p : Package) → profile.version ≡ current.version → IsSeenAs current s p
    → IsSeenAs profile s p
seen_same profile s p is it = record {
  mode = it.mode;
  back = λ up. subst (λ v. ReadsAs v s.committed p) (sym is) (it.back up);
  reads = λ up. subst (λ v. ReadsAs v s.now p) (sym is) (it.reads up);
}

-- ---- the profile's row stopped it

profile_told : (old new : State) (why : Open) → AnswersLook old new (Err why) → TellsProfile old new why
profile_told old new (opens.Version version) it = it
profile_told old new opens.NoProfile it = it
profile_told old new opens.BadProfile it = it
profile_told old new opens.BadBlobs (inl it) = absurd it.3
profile_told old new opens.BadBlobs (inr it) = absurd it.2
profile_told old new (opens.Rule rule) (inl it) = absurd it.3
profile_told old new (opens.Rule rule) (inr it) = absurd it.2
profile_told old new (opens.Fault fault) (inl it) = inl it.3
profile_told old new (opens.Fault fault) (inr it) = told_fault it.0 fault it.2.1

declined : (p : Package) (why : Open) → Agrees current.version (Err why) → Declines p why
declined p (opens.Version version) it = absurd (it.1 refl)
declined p opens.NoProfile it = absurd it
declined p opens.BadProfile it = absurd it
declined p opens.BadBlobs it = absurd it
declined p (opens.Rule rule) it = absurd it
declined p (opens.Fault fault) it = tt

-- the look tells nothing of the blobs
form_untold : (old new : State) (why : Open) → AnswersLook old new (Err why) → TellsForm old (Err why)
form_untold old new (opens.Version version) it = tt
form_untold old new opens.NoProfile it = tt
form_untold old new opens.BadProfile it = tt
form_untold old new opens.BadBlobs (inl it) = absurd it.3
form_untold old new opens.BadBlobs (inr it) = absurd it.2
form_untold old new (opens.Rule rule) (inl it) = absurd it.3
form_untold old new (opens.Rule rule) (inr it) = absurd it.2
form_untold old new (opens.Fault fault) it = tt

pub look_failed : (old new : State) (why : Open) → IsLooked old new (Err why) → IsNotAdopted old new why
look_failed old new why looked = record {
  survives = looked.survives;
  profile = λ clean. profile_told old new why (looked.answers clean);
  blobs = λ clean. form_untold old new why (looked.answers clean);
  seen = looked_seen old new looked;
  settled = settled_as old new looked.survives (looked_seen old new looked);
  declines = λ clean p s. declined p why (looked.agrees clean current.version p s.reads);
  none = λ clean it. none_declined old new why looked clean it (looked.none clean it);
}

-- ---- the package was checked

unchanged_by : (old new : State) → AnswersLook old new (Ok tt) → IsUnchanged old new
unchanged_by old new (inl it) = it.2
unchanged_by old new (inr it) = absurd it.2

module _ (old mid new : State) (looked : IsLooked old mid (Ok tt)) {r : Result (Unit {0}) Open}
    (checked : IsChecked current mid new r) where
  before : HasCleanDisk new → HasCleanDisk mid
  before clean = omega (arith, clean, checked.survives.clean)

  was_seen : HasCleanDisk new → (p : Package) → IsSeenAs current old p → IsSeenAs current mid p
  was_seen clean p s = looked_seen old mid looked (before clean) current p s

  checked_seen : HasCleanDisk new → (profile : Profile) (p : Package) → IsSeenAs profile old p → IsSeenAs profile new p
  checked_seen clean profile p s =
      let is = looked.agrees (before clean) profile.version p s.reads in
      seen_same profile new p is
      (checked.seen clean p (was_seen clean p (same_seen profile old p is s)))

  checked_quiet : CommitsNothing old new
  checked_quiet = quiet_then old mid new looked.survives checked.survives

  told_of : HasCleanDisk new → TellsForm old r
  told_of clean = told_as_before old mid (unchanged_by old mid (looked.answers (before clean))) r (checked.blobs clean)

-- what a check tells that failed is told of a connection that is not adopted
declines_as : (p : Package) (why : Open) → Judged current p (Err why) → Declines p why
declines_as p (opens.Rule rule) it = it
declines_as p (opens.Fault fault) it = tt
declines_as p opens.BadBlobs it = absurd it
declines_as p (opens.Version version) it = absurd it
declines_as p opens.NoProfile it = absurd it
declines_as p opens.BadProfile it = absurd it

profile_as : (old new : State) (why : Open) → NoNumber (Err why) → OnlyStoreFaults (Err why)
    → ShowsProfile current.version old → IsOfThisVersion old → TellsProfile old new why
profile_as old new opens.BadBlobs none faults row is = (row, is)
profile_as old new (opens.Rule rule) none faults row is = (row, is)
profile_as old new (opens.Fault fault) none faults row is = faults
profile_as old new (opens.Version version) none faults row is = absurd none
profile_as old new opens.NoProfile none faults row is = absurd none
profile_as old new opens.BadProfile none faults row is = absurd none

module _ (old mid new : State) (looked : IsLooked old mid (Ok tt)) where
  pub adopts : IsChecked current mid new (Ok tt) → IsAdopted old new
  adopts checked =
      let early = before old mid new looked checked in
      record {
        survives = checked_quiet old mid new looked checked;
        is_open = checked.is_open;
        row = λ clean. shows_profile old mid (looked.answers (early clean));
        some = λ clean it. looked.none (early clean) it;
        profile = λ clean. looked.agrees (early clean);
        blobs = told_of old mid new looked checked;
        seen = λ clean. checked_seen old mid new looked checked clean current;
        settled = λ clean. settled_as old new (checked_quiet old mid new looked checked)
            (checked_seen old mid new looked checked) clean current;
        meets = λ clean p s. checked.says clean p (was_seen old mid new looked checked clean p s);
      }

  pub check_fails : (why : Open) → IsChecked current mid new (Err why) → IsNotAdopted old new why
  check_fails why checked =
      let early = before old mid new looked checked in
      record {
        survives = checked_quiet old mid new looked checked;
        profile = λ clean. profile_as old new why checked.no_number checked.faults
            (shows_profile old mid (looked.answers (early clean))) (looked.agrees (early clean));
        blobs = told_of old mid new looked checked;
        seen = checked_seen old mid new looked checked;
        settled = settled_as old new (checked_quiet old mid new looked checked)
            (checked_seen old mid new looked checked);
        declines = λ clean p s. declines_as p why
            (checked.says clean p (was_seen old mid new looked checked clean p s));
        none = λ clean it. absurd (looked.none (early clean) it);
      }
