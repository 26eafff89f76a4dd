-- How a migration comes to its ends.
use Rattle.std.proofs.Common.{◌≡◌, ◌≢◌, inl, inr, Result, Ok, Err, OnOk, refl, sym, ap, subst, ◌∙◌, arith}
use Rattle.sqlite.specs.Tree.{Trees}
use Rattle.sqlite.specs.State.{State, HasCleanDisk, Survives, IsUnchanged}
use Rattle.sqlite.proofs.StateLemmas.{survives_then, survives_weaker}
use Rattle.mm_definitions.specs.Bounds.{Profile, millimetres, micrometres}
use Rattle.mm_definitions.specs.Package.{Package}
use Rattle.mm_definitions.specs.declared.answers.Fault.{Fault}
use Rattle.mm_definitions.specs.declared.answers.Open.{Open}
use Rattle.mm_definitions.specs.declared.answers.Open.TheVariants as opens
use Rattle.mm_definitions.specs.Scale.{scale}
use Rattle.mm_laws.proofs.Scaled.{scaled}
use Rattle.mm_store.specs.Stands.{StandsFor, ReadsAs, IsSettled}
use Rattle.mm_store.specs.Statements.{CommitsNothing}
use Rattle.mm_store.proofs.Asking.{told_fault}
use Rattle.mm_store.specs.Seen.{IsSeenAs}
use Rattle.mm_store.proofs.Seen.{seen_of, settled_still}
use Rattle.mm_store.proofs.Quiet.{quiet_then}
use Rattle.mm_meta.specs.Look.{AnswersLook, IsLooked, Agrees, ShowsProfile}
use Rattle.mm_meta.proofs.Looking.{asked_still}
use Rattle.mm_check.specs.Form.{TellsForm}
use Rattle.mm_check.proofs.Reading.{told_as_before}
use Rattle.mm_migrate.specs.Moves.{MayScale, IsRescaled}
use Rattle.mm_migrate.specs.Migrations.{Adopts, Migrates, AdoptsSeen, MigratesSeen, ShowsEither, TellsNumber}
use Rattle.mm_migrate.specs.Migrations.{MayCommitScaled, IsMigration, IsOlder}
use Rattle.mm_check.specs.Checked.{Judged, IsChecked, NoNumber, OnlyStoreFaults}

-- ---- what may be left

abbrev Scaled : State → Trees → Type 0
Scaled old db = (p : Package) → MayScale old p → StandsFor micrometres.version db (scale p)

left_before : (profile : Profile) (old new : State) (p : Package) → CommitsNothing old new → HasCleanDisk new
    → IsSettled profile old p → (db : Trees)
    → new.may_leave db → StandsFor profile.version db p
left_before profile old new p quiet clean it db may = elim (quiet.crash clean db may)
    [ inl before ↦ it.left db before | inr none ↦ absurd none ]

unchanged_seen : (profile : Profile) (old new : State) (p : Package) → IsUnchanged old new → IsSeenAs profile old p
    → IsSeenAs profile new p
unchanged_seen profile old new p same it = let shows = same.0 in record {
  mode = shows.mode ∙ it.mode;
  back = λ up. subst (λ db. ReadsAs profile.version db p) (sym shows.committed_is) (it.back shows.was_open);
  reads = λ up. subst (λ db. ReadsAs profile.version db p) (sym shows.now_is) (it.reads shows.was_open);
}

unchanged_settled : (profile : Profile) (old new : State) (p : Package) → CommitsNothing old new → HasCleanDisk new
    → IsUnchanged old new
    → IsSettled profile old p → IsSettled profile new p
unchanged_settled profile old new p quiet clean same it = settled_still profile old new p quiet clean
    (unchanged_seen profile old new p same) it

-- ---- a package in millimetres

module _ (old mid : State) where
  quietly : CommitsNothing old mid → Survives old mid (Scaled old)
  quietly h = survives_weaker old mid (λ _. ⊥) (Scaled old) (λ _ db none. absurd none) h

  stopped_by : (why : Open) (p : Package) → CommitsNothing old mid → HasCleanDisk mid → IsSettled millimetres old p
      → IsSettled millimetres mid p
      → Judged millimetres p (Err why) → Migrates p mid (Err why)
  stopped_by (opens.Rule rule) p quiet clean was it judged = (it, judged)
  stopped_by (opens.Fault fault) p quiet clean was it judged =
      λ db may. inl (left_before millimetres old mid p quiet clean was db may)
  stopped_by (opens.Version version) p quiet clean was it judged = absurd judged
  stopped_by opens.NoProfile p quiet clean was it judged = absurd judged
  stopped_by opens.BadProfile p quiet clean was it judged = absurd judged
  stopped_by opens.BadBlobs p quiet clean was it judged = absurd judged

  stopped_seen : (why : Open) (p : Package) → IsSeenAs millimetres mid p → Judged millimetres p (Err why)
      → MigratesSeen p mid (Err why)
  stopped_seen (opens.Rule rule) p it judged = (it, judged)
  stopped_seen (opens.Fault fault) p it judged = tt
  stopped_seen (opens.Version version) p it judged = absurd judged
  stopped_seen opens.NoProfile p it judged = absurd judged
  stopped_seen opens.BadProfile p it judged = absurd judged
  stopped_seen opens.BadBlobs p it judged = absurd judged

  pub stopped : (why : Open) → IsChecked millimetres old mid (Err why) → IsOlder old mid (Err why)
  stopped why it = record {
    survives = quietly it.survives;
    is_open = λ clean. tt;
    refused = λ _. it.survives;
    migrates = λ clean p s. stopped_by why p it.survives clean s (it.settled clean p s)
        (it.says clean p (seen_of millimetres old p s));
    migrates_seen = λ clean p s. stopped_seen why p (it.seen clean p s) (it.says clean p s);
    blobs = it.blobs;
    no_number = it.no_number;
    faults = it.faults;
  }

  module _ (new : State) (checked : IsChecked millimetres old mid (Ok tt)) where
    may : HasCleanDisk mid → (p : Package) → MayScale old p → MayScale mid p
    may clean p it = (checked.seen clean p it.0, it.1)

    survived : Survives mid new (Scaled mid) → Survives old new (Scaled old)
    survived h = survives_then old mid new _ _ (Scaled old) (λ _ db none. absurd none)
        (λ clean db it p s. it p (may (omega (arith, clean, h.clean)) p s)) checked.survives h

    limits : HasCleanDisk mid → (p : Package) → IsSeenAs millimetres old p → MayScale old p
    limits clean p s = (s, (checked.says clean p s).q16)

    scales : IsRescaled mid new (Ok tt) → HasCleanDisk new → (p : Package) → IsSeenAs millimetres old p
        → MigratesSeen p new (Ok tt)
    scales it clean p s =
        let early : HasCleanDisk mid = omega (arith, clean, it.survives.clean) in
        (it.done clean p (may early p (limits early p s)), scaled p (checked.says early p s))

    pub done : IsRescaled mid new (Ok tt) → IsOlder old new (Ok tt)
    done it = record {
      survives = survived it.survives;
      is_open = it.is_open;
      refused = λ none. absurd none;
      migrates = λ clean p s. scales it clean p (seen_of millimetres old p s);
      migrates_seen = scales it;
      blobs = λ clean. checked.blobs (omega (arith, clean, it.survives.clean));
      no_number = tt;
      faults = tt;
    }

    pub in_doubt : (fault : Fault) → IsRescaled mid new (Err fault) → IsOlder old new (Err (opens.Fault fault))
    in_doubt fault it = record {
      survives = survived it.survives;
      is_open = λ clean. tt;
      refused = λ none. absurd none;
      migrates = λ clean p s.
          let early : HasCleanDisk mid = omega (arith, clean, it.survives.clean) in
          it.left clean p (checked.settled early p s) (limits early p (seen_of millimetres old p s)).1;
      migrates_seen = λ clean p s. tt;
      blobs = λ clean. tt;
      no_number = tt;
      faults = it.faults;
    }

-- ---- by what the look at the profile's row answers

committing_nothing : (old new : State) → CommitsNothing old new → Survives old new (MayCommitScaled old)
committing_nothing old new h = survives_weaker old new (λ _. ⊥) (MayCommitScaled old) (λ _ db none. absurd none) h

when_ok : {P : Type 0} (result : Result (Unit {0}) Open) → P → OnOk result P
when_ok (Ok u) it = it
when_ok (Err why) it = tt

other_versions : millimetres.version ≡ micrometres.version → ⊥
other_versions e = absurd (cc)

module _ (old mid : State) where
  in_micrometres : (result : Result (Unit {0}) Open) (new : State) (p : Package) → CommitsNothing old new
      → HasCleanDisk new
      → IsSettled micrometres old p → IsSettled micrometres new p → Judged micrometres p result → Adopts p new result
  in_micrometres (Ok u) new p quiet clean was it judged = (it, judged)
  in_micrometres (Err (opens.Rule rule)) new p quiet clean was it judged = (it, judged)
  in_micrometres (Err (opens.Fault fault)) new p quiet clean was it judged = left_before micrometres old new p quiet
      clean was
  in_micrometres (Err (opens.Version version)) new p quiet clean was it judged = absurd judged
  in_micrometres (Err opens.NoProfile) new p quiet clean was it judged = absurd judged
  in_micrometres (Err opens.BadProfile) new p quiet clean was it judged = absurd judged
  in_micrometres (Err opens.BadBlobs) new p quiet clean was it judged = absurd judged

  seen_in_micrometres : (result : Result (Unit {0}) Open) (new : State) (p : Package) → IsSeenAs micrometres new p
      → Judged micrometres p result
      → AdoptsSeen p new result
  seen_in_micrometres (Ok u) new p it judged = (it, judged)
  seen_in_micrometres (Err (opens.Rule rule)) new p it judged = (it, judged)
  seen_in_micrometres (Err (opens.Fault fault)) new p it judged = tt
  seen_in_micrometres (Err (opens.Version version)) new p it judged = absurd judged
  seen_in_micrometres (Err opens.NoProfile) new p it judged = absurd judged
  seen_in_micrometres (Err opens.BadProfile) new p it judged = absurd judged
  seen_in_micrometres (Err opens.BadBlobs) new p it judged = absurd judged

  no_telling : (new : State) (result : Result (Unit {0}) Open) → NoNumber result → ShowsEither old
      → TellsNumber old new result
  no_telling new (Ok u) h shows = shows
  no_telling new (Err (opens.Version version)) h shows = absurd h
  no_telling new (Err opens.NoProfile) h shows = absurd h
  no_telling new (Err opens.BadProfile) h shows = absurd h
  no_telling new (Err opens.BadBlobs) h shows = shows
  no_telling new (Err (opens.Rule rule)) h shows = shows
  no_telling new (Err (opens.Fault fault)) h shows = tt

  shows_current : AnswersLook old mid (Ok tt) → ShowsProfile micrometres.version old
  shows_current (inl it) = (it.0, asked_still old mid it.0 it.1, it.3)
  shows_current (inr it) = absurd it.2

  unchanged_well : AnswersLook old mid (Ok tt) → IsUnchanged old mid
  unchanged_well (inl a) = a.2
  unchanged_well (inr a) = absurd a.2

  looked_well : IsLooked old mid (Ok tt) → HasCleanDisk mid → (p : Package) → IsSettled micrometres old p
      → IsSettled micrometres mid p
  looked_well looked clean p it = unchanged_settled micrometres old mid p looked.survives clean
      (unchanged_well (looked.answers clean)) it

  seen_well : IsLooked old mid (Ok tt) → HasCleanDisk mid → (p : Package) → IsSeenAs micrometres old p
      → IsSeenAs micrometres mid p
  seen_well looked clean p it = unchanged_seen micrometres old mid p (unchanged_well (looked.answers clean)) it

  pub adopted : (new : State) (result : Result (Unit {0}) Open) → IsLooked old mid (Ok tt)
      → IsChecked micrometres mid new result → IsMigration old new result
  adopted new result looked checked =
      let quiet = quiet_then old mid new looked.survives checked.survives in
      let early : HasCleanDisk new → HasCleanDisk mid = λ clean. omega (arith, clean, checked.survives.clean) in
      record {
        survives = committing_nothing old new quiet;
        is_open = checked.is_open;
        refused = λ _. quiet;
        adopts = λ clean p s. let it = looked_well looked (early clean) p s in in_micrometres result new p quiet clean s
            (checked.settled clean p it) (checked.says clean p (seen_of micrometres mid p it));
        adopts_seen = λ clean p s. let it = seen_well looked (early clean) p s in seen_in_micrometres result new p
            (checked.seen clean p it) (checked.says clean p it);
        migrates = λ clean p s. absurd (other_versions (looked.agrees (early clean) millimetres.version p s.reads));
        migrates_seen = λ clean p s. absurd
            (other_versions (looked.agrees (early clean) millimetres.version p s.reads));
        tells = λ clean. no_telling new result checked.no_number (inl (shows_current (looked.answers (early clean))));
        some = λ clean. when_ok result (λ blank. looked.none (early clean) blank);
        profile = λ clean. when_ok result (λ version p reads. inl (looked.agrees (early clean) version p reads));
        blobs = λ clean. told_as_before old mid (unchanged_well (looked.answers (early clean))) result
            (checked.blobs clean);
        faults = λ clean. checked.faults;
      }

  shows_version : AnswersLook old mid (Err (opens.Version millimetres.version)) → ShowsProfile millimetres.version old
  shows_version (inl it) = (it.0, asked_still old mid it.0 it.1, it.3.0)
  shows_version (inr it) = absurd it.2

  unchanged_older : AnswersLook old mid (Err (opens.Version millimetres.version)) → IsUnchanged old mid
  unchanged_older (inl a) = a.2
  unchanged_older (inr a) = absurd a.2

  looked_older : IsLooked old mid (Err (opens.Version millimetres.version)) → HasCleanDisk mid → (p : Package)
      → IsSettled millimetres old p
      → IsSettled millimetres mid p
  looked_older looked clean p it = unchanged_settled millimetres old mid p looked.survives clean
      (unchanged_older (looked.answers clean)) it

  seen_older : IsLooked old mid (Err (opens.Version millimetres.version)) → HasCleanDisk mid → (p : Package)
      → IsSeenAs millimetres old p
      → IsSeenAs millimetres mid p
  seen_older looked clean p it = unchanged_seen millimetres old mid p (unchanged_older (looked.answers clean)) it

  pub older : (new : State) (why : Open) (result : Result (Unit {0}) Open) → IsLooked old mid (Err why)
      → why ≡ opens.Version millimetres.version
      → IsOlder mid new result → IsMigration old new result
  older new why result looked is it =
      let at : IsLooked old mid (Err (opens.Version millimetres.version)) = subst (λ w. IsLooked old mid (Err w)) is
      looked in
      let early : HasCleanDisk new → HasCleanDisk mid = λ clean. omega (arith, clean, it.survives.clean) in
      record {
        survives = survives_then old mid new _ _ (MayCommitScaled old) (λ _ db none. absurd none)
            (λ clean db all. (
              shows_version (at.answers (early_from it clean)),
              λ p s. all p
                  (seen_older at (early_from it clean) p s.0, s.1),
            )) at.survives it.survives;
        is_open = it.is_open;
        refused = λ is. quiet_then old mid new at.survives (it.refused is);
        adopts = λ clean p s. absurd (other_versions (at.agrees (early clean) micrometres.version p s.reads).0);
        migrates = λ clean p s. it.migrates clean p (looked_older at (early clean) p s);
        adopts_seen = λ clean p s. absurd (other_versions (at.agrees (early clean) micrometres.version p s.reads).0);
        migrates_seen = λ clean p s. it.migrates_seen clean p (seen_older at (early clean) p s);
        tells = λ clean. no_telling new result it.no_number (inr (shows_version (at.answers (early clean))));
        some = λ clean. when_ok result (λ blank. at.none (early clean) blank);
        profile = λ clean. when_ok result (λ version p reads. inr (sym (at.agrees (early clean) version p reads).0));
        blobs = λ clean. told_as_before old mid (unchanged_older (at.answers (early clean))) result (it.blobs clean);
        faults = λ clean. it.faults;
      }
    where
      early_from : IsOlder mid new result → HasCleanDisk new → HasCleanDisk mid
      early_from it clean = omega (arith, clean, it.survives.clean)

  -- ---- any other answer of the look

  told : (why : Open) → why ≢ opens.Version millimetres.version → AnswersLook old mid (Err why)
      → TellsNumber old mid (Err why)
  told (opens.Version version) other it = (it, λ e. other (ap opens.Version e))
  told opens.NoProfile other it = it
  told opens.BadProfile other it = it
  told opens.BadBlobs other (inl it) = absurd it.3
  told opens.BadBlobs other (inr it) = absurd it.2
  told (opens.Rule rule) other (inl it) = absurd it.3
  told (opens.Rule rule) other (inr it) = absurd it.2
  told (opens.Fault fault) other it = tt

  not_adopted : (why : Open) (p : Package) → CommitsNothing old mid → HasCleanDisk mid → IsSettled micrometres old p
      → Agrees micrometres.version (Err why) → Adopts p mid (Err why)
  not_adopted (opens.Version version) p quiet clean s it = absurd (it.1 refl)
  not_adopted opens.NoProfile p quiet clean s it = absurd it
  not_adopted opens.BadProfile p quiet clean s it = absurd it
  not_adopted opens.BadBlobs p quiet clean s it = absurd it
  not_adopted (opens.Rule rule) p quiet clean s it = absurd it
  not_adopted (opens.Fault fault) p quiet clean s it = left_before micrometres old mid p quiet clean s

  not_migrated : (why : Open) (p : Package) → why ≢ opens.Version millimetres.version → CommitsNothing old mid
      → HasCleanDisk mid
      → IsSettled millimetres old p → Agrees millimetres.version (Err why) → Migrates p mid (Err why)
  not_migrated (opens.Version version) p other quiet clean s it = absurd (other (ap opens.Version it.0))
  not_migrated opens.NoProfile p other quiet clean s it = absurd it
  not_migrated opens.BadProfile p other quiet clean s it = absurd it
  not_migrated opens.BadBlobs p other quiet clean s it = absurd it
  not_migrated (opens.Rule rule) p other quiet clean s it = absurd it
  not_migrated (opens.Fault fault) p other quiet clean s it =
      λ db may. inl (left_before millimetres old mid p quiet clean s db may)

  not_adopted_seen : (why : Open) (p : Package) → Agrees micrometres.version (Err why) → AdoptsSeen p mid (Err why)
  not_adopted_seen (opens.Version version) p it = absurd (it.1 refl)
  not_adopted_seen opens.NoProfile p it = absurd it
  not_adopted_seen opens.BadProfile p it = absurd it
  not_adopted_seen opens.BadBlobs p it = absurd it
  not_adopted_seen (opens.Rule rule) p it = absurd it
  not_adopted_seen (opens.Fault fault) p it = tt

  not_migrated_seen : (why : Open) (p : Package) → why ≢ opens.Version millimetres.version
      → Agrees millimetres.version (Err why)
      → MigratesSeen p mid (Err why)
  not_migrated_seen (opens.Version version) p other it = absurd (other (ap opens.Version it.0))
  not_migrated_seen opens.NoProfile p other it = absurd it
  not_migrated_seen opens.BadProfile p other it = absurd it
  not_migrated_seen opens.BadBlobs p other it = absurd it
  not_migrated_seen (opens.Rule rule) p other it = absurd it
  not_migrated_seen (opens.Fault fault) p other it = tt

  fault_told : (why : Open) → AnswersLook old mid (Err why) → OnlyStoreFaults (Err why)
  fault_told (opens.Version version) it = tt
  fault_told opens.NoProfile it = tt
  fault_told opens.BadProfile it = tt
  fault_told opens.BadBlobs it = tt
  fault_told (opens.Rule rule) it = tt
  fault_told (opens.Fault fault) (inl it) = inl it.3
  fault_told (opens.Fault fault) (inr it) = told_fault it.0 fault it.2.1

  -- the look tells nothing of the blobs
  form_untold : (why : Open) → AnswersLook old mid (Err why) → TellsForm old (Err why)
  form_untold (opens.Version version) it = tt
  form_untold opens.NoProfile it = tt
  form_untold opens.BadProfile it = tt
  form_untold opens.BadBlobs (inl it) = absurd it.3
  form_untold opens.BadBlobs (inr it) = absurd it.2
  form_untold (opens.Rule rule) (inl it) = absurd it.3
  form_untold (opens.Rule rule) (inr it) = absurd it.2
  form_untold (opens.Fault fault) it = tt

  pub refused : (why : Open) → IsLooked old mid (Err why) → why ≢ opens.Version millimetres.version
      → IsMigration old mid (Err why)
  refused why looked other = record {
    survives = committing_nothing old mid looked.survives;
    is_open = λ clean. tt;
    refused = λ _. looked.survives;
    adopts = λ clean p s. not_adopted why p looked.survives clean s (looked.agrees clean micrometres.version p s.reads);
    migrates = λ clean p s. not_migrated why p other looked.survives clean s
        (looked.agrees clean millimetres.version p s.reads);
    adopts_seen = λ clean p s. not_adopted_seen why p (looked.agrees clean micrometres.version p s.reads);
    migrates_seen = λ clean p s. not_migrated_seen why p other (looked.agrees clean millimetres.version p s.reads);
    tells = λ clean. told why other (looked.answers clean);
    some = λ clean. tt;
    profile = λ clean. tt;
    blobs = λ clean. form_untold why (looked.answers clean);
    faults = λ clean. fault_told why (looked.answers clean);
  }
