-- What work leaves of a database, and tells of it, by what becomes of the connection that was just opened.
use Rattle.std.proofs.Common.{◌≡◌, ◌⊎◌, ℕ, ◌+◌, List, Option, Result, Ok, Err, IfErr, IfOk, false, inl, inr, refl, subst, sym}
use Rattle.std.specs.Io.KnownBytes.{Appends}
use Rattle.sqlite.specs.Tree.{Trees}
use Rattle.sqlite.specs.State.{State, HasCleanDisk}
use Rattle.mm_store.proofs.Seen.{seen_of}
use Rattle.mm_definitions.specs.Bounds.{current, micrometres, millimetres}
use Rattle.mm_definitions.specs.Keys.{Text}
use Rattle.mm_definitions.specs.Package.{Package}
use Rattle.mm_definitions.specs.Streams.{Written}
use Rattle.mm_definitions.specs.declared.answers.Fault.{Fault}
use Rattle.mm_definitions.specs.declared.answers.KitFault.{KitFault}
use Rattle.mm_definitions.specs.declared.answers.Open.{Open}
use Rattle.mm_definitions.specs.declared.answers.Open.TheVariants as opens
use Rattle.mm_definitions.specs.declared.answers.Staged.{Staged}
use Rattle.mm_store.specs.Seen.{IsSeenAs}
use Rattle.mm_store.specs.Stands.{IsSettled}
use Rattle.mm_store.specs.Statements.{CommitsNothing}
use Rattle.mm_store.proofs.Quiet.{quiet_then}
use Rattle.mm_core.proofs.Adopting.{was_adopted}
use Rattle.mm_core.specs.Adopted.{IsAdopted, WasAdopted}
use Rattle.mm_core.specs.Applied.{StandsForCurrent}
use Rattle.mm_core.specs.Sessions.{IsCreated, IsNotCreated}
use Rattle.mm_run.specs.Runs.{OnSound}
use Rattle.mm_run.proofs.Reports.{stops-behind}
use Rattle.mm_kit.specs.Folders.{Files}
use Rattle.mm_kit.specs.Imports.{IsImportAnswered, IsImportKept, IsImportStopped, OnKit}
use Rattle.mm_core.specs.Migrations.{Adopts, IsMigration, Migrates}
use Rattle.mm_core.specs.Opening.{HasNoTable, IsBlank}
use Rattle.mm_core.specs.Viewers.{IsOn}
use Rattle.mm_core.specs.Writing.{IsBegun, ListingTellsWriter}
use Rattle.mm_work.specs.Declined.{IsDeclined, stop_of}
use Rattle.mm_work.specs.Imports.{IsImport}
use Rattle.mm_work.specs.Ran.{IsListRun}
use Rattle.mm_work.specs.declared.stop.Stop.{Stop}
use Rattle.mm_work.specs.declared.stop.Stop.TheVariants as stops
use Rattle.mm_files.specs.Worked.{IsJustOpened}
use Rattle.mm_program.specs.Left.{IsImportOf, LeavesImport, LeavesMade, LeavesMigrated, LeavesSame, RanTo, StaysFor}
use Rattle.mm_program.specs.Left.{StaysIn, TellsDeclined, TellsMigrated, TellsServed, TellsText, WasFoundWell}
use Rattle.mm_core.proofs.Opened.{nothing_less, opened_blank, opened_settles}

-- ---- a run

pub ran_to : (p : Package) (moment : ℕ) (bytes : List ℕ) (end : State) (old new : Written) (status : ℕ) (after : Trees)
    → end.may_leave after → IsListRun p moment bytes end old new status → RanTo p moment bytes after old new status
ran_to p moment bytes end old new status after may (inl (t, it, is)) = inl (
  t,
  record {
    readings = it.readings;
    read = it.read;
    text = it.text;
    counted = it.counted;
    all = it.all;
    written = it.written;
    stands = (it.stands.0.left after may, it.stands.1);
    left = λ db same. it.left db (subst end.may_leave (sym same) may);
  },
  is,
)
ran_to p moment bytes end old new status after may (inr (e, it, is)) = inr (
  e,
  record {
    readings = it.readings;
    read = it.read;
    text = it.text;
    counted = it.counted;
    session = stops-behind p moment it.readings (e.tally.accepted + e.tally.refused) _ _ _ _
        (λ (q : Package) (works : IsSettled current end q). works.left after may) (λ _. tt) it.session;
    left = λ db same. it.left db (subst end.may_leave (sym same) may);
  },
  is,
)

-- ---- a migration

stays_for : (p : Package) (new : State) (after : Trees) → new.may_leave after → (cause : Open)
    → Adopts p new (Err cause) → StaysFor p after cause
stays_for p new after may (opens.Rule rule) it = (it.0.left after may, it.1)
stays_for p new after may (opens.Fault fault) it = it after may
stays_for p new after may (opens.Version version) it = it
stays_for p new after may opens.NoProfile it = it
stays_for p new after may opens.BadProfile it = it
stays_for p new after may opens.BadBlobs it = it

stays_in : (p : Package) (new : State) (after : Trees) → new.may_leave after → (cause : Open)
    → Migrates p new (Err cause) → StaysIn p after cause
stays_in p new after may (opens.Rule rule) it = (it.0.left after may, it.1)
stays_in p new after may (opens.Fault fault) it = it after may
stays_in p new after may (opens.Version version) it = it
stays_in p new after may opens.NoProfile it = it
stays_in p new after may opens.BadProfile it = it
stays_in p new after may opens.BadBlobs it = it

-- ---- each, of a connection that was just opened where it was clean, and is clean

module _ (old new : State) (fresh : HasCleanDisk old → IsJustOpened old) (clean : HasCleanDisk new) where
  settles : (HasCleanDisk new → HasCleanDisk old) → (p : Package) → StandsForCurrent old.committed.trees p
      → IsSettled current old p
  settles was p stands = opened_settles old (fresh (was clean)) current p stands

  was_clean : CommitsNothing old new → HasCleanDisk old
  was_clean quiet = nothing_less _ _ quiet.clean clean

  same_by : (after : Trees) → HasCleanDisk old → (old.may_leave after ⊎ ⊥) → after ≡ old.committed.trees
  same_by after was (inl may) = (fresh was).2 after may
  same_by after was (inr none) = absurd none

  -- where nothing was committed all is as it was
  pub leaves_same : CommitsNothing old new → (after : Trees) → new.may_leave after
      → LeavesSame old.committed.trees after
  leaves_same quiet after may = same_by after (was_clean quiet) (quiet.crash clean after may)

  -- why a package is not adopted
  pub tells_declined : (why : Stop) → IsDeclined old new why → TellsDeclined old.committed.trees why
  tells_declined why declined p stands = (
    declined.0,
    declined.1.declines clean p
        (seen_of current _ p (settles (λ c. nothing_less _ _ declined.1.survives.clean c) p stands)),
    declined.2,
  )

  -- one that was adopted
  pub found_well : (HasCleanDisk new → HasCleanDisk old) → WasAdopted old new → WasFoundWell old.committed.trees
  found_well was it = record {
    some = λ none. it.some clean (opened_blank old (fresh (was clean)) none);
    profile = λ version p stands. it.profile clean version p
        (opened_settles old (fresh (was clean)) (record current { version = version }) p stands).reads;
    meets = λ p stands. it.meets clean p (seen_of current _ p (settles was p stands));
  }

  pub found_adopted : IsAdopted old new → WasFoundWell old.committed.trees
  found_adopted it = found_well (λ is. nothing_less _ _ it.survives.clean is) (was_adopted old new new it (λ is. is))

  -- ---- a making
  blank : HasCleanDisk old → HasNoTable old.committed.trees → IsBlank old
  blank was none = opened_blank old (fresh was) none

  pub leaves_made : (done : Unit {0}) → IsCreated old new → (after : Trees) → new.may_leave after
      → LeavesMade old.committed.trees after (Ok done)
  leaves_made done it after may none =
      (it.settled clean (blank (nothing_less _ _ it.survives.clean clean) none)).left after may

  pub leaves_unmade : (why : Stop) → IsNotCreated old new → (after : Trees) → new.may_leave after
      → LeavesMade old.committed.trees after (Err why)
  leaves_unmade why it after may none = it.left clean (blank (nothing_less _ _ it.survives.clean clean) none) after may

  -- ---- a migration
  pub tells_migrated : (done : Unit {0}) → IsMigration old new (Ok tt) → TellsMigrated old.committed.trees (Ok done)
  tells_migrated done it =
      let opened = fresh (nothing_less _ _ it.survives.clean clean) in (
        λ none. it.some clean (opened_blank old opened none),
        λ version p stands. it.profile clean version p
            (opened_settles old opened (record current { version = version }) p stands).reads,
      )

  pub leaves_migrated : (done : Unit {0}) → IsMigration old new (Ok tt) → (after : Trees) → new.may_leave after
      → LeavesMigrated old.committed.trees after (Ok done)
  leaves_migrated done it after may =
      let opened = fresh (nothing_less _ _ it.survives.clean clean) in (
        λ p stands. let adopted = it.adopts clean p (opened_settles old opened micrometres p stands) in
            (adopted.0.left after may, adopted.1),
        λ p stands. let scaled = it.migrates clean p (opened_settles old opened millimetres p stands) in
            (scaled.0.left after may, scaled.1),
      )

  pub leaves_unmigrated : (cause : Open) → IsMigration old new (Err cause) → (after : Trees) → new.may_leave after
      → LeavesMigrated old.committed.trees after (Err (stop_of cause))
  leaves_unmigrated cause it after may =
      let opened = fresh (nothing_less _ _ it.survives.clean clean) in (
        λ p stands. (
          cause,
          stays_for p new after may cause (it.adopts clean p (opened_settles old opened micrometres p stands)),
          refl,
        ),
        λ p stands. (
          cause,
          stays_in p new after may cause (it.migrates clean p (opened_settles old opened millimetres p stands)),
          refl,
        ),
      )

  -- ---- an import
  module _ (name : Text) (p : Package) (after : Trees) (may : new.may_leave after) where
    kept_left : (import : Result Staged KitFault)
        → IsImportKept name p (λ q. IsSettled current new q) (λ db. new.may_leave db) StandsForCurrent import
        → IsImportKept name p (λ q. StandsForCurrent after q) (λ db. db ≡ after) StandsForCurrent import
    kept_left (Ok answer) (q, sound, keeps) = (q, (sound.0.left after may, sound.1), keeps)
    kept_left (Err stopped) it = λ db same. it db (subst new.may_leave (sym same) may)

    imported_left : (files : Files) (import : Result Staged KitFault) → IsImport files name p new import
        → IsImportOf files name p after import
    imported_left files (Ok answer) it = record {
      list = it.list;
      read = it.read;
      edition = it.edition;
      stands = it.stands;
      answer_is = it.answer_is;
      next = it.next;
      sound = (it.sound.0.left after may, it.sound.1);
      grows = it.grows;
      has = it.has;
    }
    imported_left files (Err stopped) it = λ db same. it db (subst new.may_leave (sym same) may)

-- ---- a session that was adopted

module _ (old mid : State) (fresh : HasCleanDisk old → IsJustOpened old) (adopted : IsAdopted old mid)
    (early : HasCleanDisk mid) where
  pub was_well : WasFoundWell old.committed.trees
  was_well = found_adopted old mid fresh early adopted

  pub settled_for : (p : Package) → StandsForCurrent old.committed.trees p → IsSettled current mid p
  settled_for p stands =
      adopted.settled early p (settles old mid fresh early (λ c. nothing_less _ _ adopted.survives.clean c) p stands)

-- ---- an import

import_of : (clean : Type 0) (told : Option Files) (name : Text) (new : State) (settled : Package → Type 0)
    (import : Result Staged KitFault)
    → IfOk import
    (λ a. OnKit clean settled told (λ files p. IsImportAnswered files name p (λ q. IsSettled current new q) a))
    → IfErr import
    (λ e. OnKit clean settled told
    (λ files p. IsImportStopped files name p (λ db. new.may_leave db) StandsForCurrent e.staged))
    → OnKit clean settled told (λ files p. IsImport files name p new import)
import_of clean told name new settled (Ok answer) answered stopped = answered
import_of clean told name new settled (Err fault) answered stopped = stopped

module _ (old mid new : State) (fresh : HasCleanDisk old → IsJustOpened old) (adopted : IsAdopted old mid)
    (was : HasCleanDisk new → HasCleanDisk mid) (clean : HasCleanDisk new) where
  pub leaves_import : (told : Option Files) (name : Text) (import : Result Staged KitFault)
      → IfOk import (λ a. OnKit (HasCleanDisk new) (λ p. IsSettled current mid p) told
      (λ files p. IsImportAnswered files name p (λ q. IsSettled current new q) a))
      → IfErr import (λ e. OnKit (HasCleanDisk new) (λ p. IsSettled current mid p) told
      (λ files p. IsImportStopped files name p (λ db. new.may_leave db) StandsForCurrent e.staged))
      → OnSound (HasCleanDisk new) (λ p. IsSettled current mid p)
      (λ p. IsImportKept name p (λ q. IsSettled current new q) (λ db. new.may_leave db) StandsForCurrent import)
      → (after : Trees) → new.may_leave after → LeavesImport told name old.committed.trees after (Ok import)
  leaves_import told name import answered stopped kept after may p stands meets =
      let settled = settled_for old mid fresh adopted (was clean) p stands in record {
        kept = kept_left old new fresh clean name p after may import (kept clean p (settled, meets));
        imported = λ files is. imported_left old new fresh clean name p after may files import
            (import_of _ _ _ _ _ import answered stopped clean p (settled, meets) files is);
      }

-- ---- a session that changed nothing

tells_served : (found : Trees) (served : Result ℕ Stop) → WasFoundWell found
    → IfErr served (λ why. why ≡ stops.Fault (record { 0 = 96 })) → TellsServed found served
tells_served found (Ok status) well unbound = well
tells_served found (Err why) well unbound = λ p stands. inr (well.meets p stands, unbound)

module _ (old mid new : State) (fresh : HasCleanDisk old → IsJustOpened old) (clean : HasCleanDisk new)
    (adopted : IsAdopted old mid) (quiet : CommitsNothing mid new) where
  early : HasCleanDisk mid
  early = nothing_less _ _ quiet.clean clean

  well : WasFoundWell old.committed.trees
  well = was_well old mid fresh adopted early

  -- it reads as a package that the database stands for
  pub seen_for : (p : Package) → StandsForCurrent old.committed.trees p → IsSeenAs current mid p
  seen_for p stands = seen_of current mid p (settled_for old mid fresh adopted early p stands)

  pub on_for : (p : Package) → StandsForCurrent old.committed.trees p → IsOn false mid new p
  on_for p stands works = (clean, well.meets p stands, seen_for p stands)

  pub leaves_service : (after : Trees) → new.may_leave after → LeavesSame old.committed.trees after
  leaves_service = leaves_same old new fresh clean (quiet_then old mid new adopted.survives quiet)

  pub tells_service : (served : Result ℕ Stop) → IfErr served (λ why. why ≡ stops.Fault (record { 0 = 96 }))
      → TellsServed old.committed.trees served
  tells_service served unbound = tells_served _ served well unbound

  -- ---- a text
  pub tells_text : {T : Type 0} (text : Package → Text) (came : Package → T) (held holds : Written) (it : T)
      → ((p : Package) → StandsForCurrent old.committed.trees p
      → Appends held.contents holds.contents (text p) × (it ≡ came p))
      → TellsText text came old.committed.trees held holds (Ok it)
  tells_text text came held holds it told = (well, told)

  pub tells_cut : {T : Type 0} (text : Package → Text) (came : Package → T) (held holds : Written) (fault : Fault)
      → ((p : Package) → StandsForCurrent old.committed.trees p → IsBegun held.contents holds.contents (text p))
      → ListingTellsWriter held.failed holds.failed (Err fault)
      → TellsText text came old.committed.trees held holds (Err (stops.Fault fault))
  tells_cut text came held holds fault begun writer p stands =
      inr (well.meets p stands, begun p stands, (fault, writer, refl))
