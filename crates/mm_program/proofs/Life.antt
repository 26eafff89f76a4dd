-- From one run of the program to the next.
use Rattle.std.proofs.Common.{arith, ◌≡◌, ℕ, List, [], ◌∷◌, Option, Some, Result, Ok, Err, Bool, IfErr, inl, inr}
use Rattle.std.proofs.Common.{refl, sym, subst}
use Rattle.std.specs.Prelude.{⊤, true}
use Rattle.std.proofs.Math.Logic.{∥∥₁_elim, ∥∥₁_map}
use Rattle.sqlite_disk.specs.declared.Disk.{Ghosts}
use Rattle.sqlite.specs.Tree.{Trees}
use Rattle.sqlite.specs.Recovery.{Image}
use Rattle.sqlite.specs.Files.{HoldsDatabase}
use Rattle.sqlite.specs.WalFiles.{outcomes}
use Rattle.sqlite.specs.WalReads.{AreClean}
use Rattle.sqlite.proofs.ListingLemmas.{empty_is_sound}
use Rattle.mm_definitions.specs.Bounds.{current}
use Rattle.mm_definitions.specs.Keys.{Text}
use Rattle.mm_definitions.specs.Opening.{opening}
use Rattle.mm_definitions.specs.Package.{Package}
use Rattle.mm_definitions.specs.Rules.{Meets}
use Rattle.mm_definitions.specs.Streams.{Written}
use Rattle.mm_definitions.specs.declared.answers.Open.{Open}
use Rattle.mm_definitions.specs.declared.answers.Open.TheVariants as opens
use Rattle.mm_laws.proofs.Opened.{opened}
use Rattle.mm_core.proofs.Failing.{none_fails}
use Rattle.mm_core.specs.Adopted.{Declines}
use Rattle.mm_core.specs.Applied.{StandsForCurrent}
use Rattle.mm_definitions.specs.declared.answers.KitFault.{KitFault}
use Rattle.mm_definitions.specs.declared.answers.Staged.{Staged}
use Rattle.mm_definitions.specs.declared.answers.Staged.TheVariants.{Complete, Refused}
use Rattle.mm_kit.specs.Folders.{Files}
use Rattle.mm_kit.specs.Imports.{HasAnswered, IsImportAnswered}
use Rattle.mm_kit.specs.Lists.{IsKitList}
use Rattle.mm_kit.specs.declared.entries.KitEntry.{KitEntry}
use Rattle.mm_store.proofs.Single.{stands_once}
use Rattle.mm_files.specs.Worked.{IsLeftOpen}
use Rattle.mm_files.specs.declared.left.Opened.{Opened}
use Rattle.mm_files.specs.declared.left.Unclosed.{Unclosed}
use Rattle.mm_work.specs.Declined.{stop_of}
use Rattle.mm_work.specs.Told.{stop_status}
use Rattle.mm_work.specs.declared.stop.Stop.{Stop}
use Rattle.mm_work.specs.declared.stop.Stop.TheVariants as stops
use Rattle.mm_program.specs.Files.{OffClose, OnOpened, WereBare}
use Rattle.mm_program.specs.Desks.{LeavesDesk}
use Rattle.mm_program.specs.Left.{IsDeclinedFor, LeavesFine, LeavesImport, LeavesMade, LeavesRun, LeavesSame, RanTo}
use Rattle.mm_program.specs.Left.{StaysFor, TellsChecked}
use Rattle.mm_program.specs.Life.{AreMade, Deed, IsLife, IsPartOf, Leads, LeavesBy, LivesOn, DeedMakes, MakesAttended}
use Rattle.mm_program.specs.Life.{HoldsKit, MakesBy, MakesImport, Ran, Use, Looks, Runs, Attends, Imports, Migrates}
use Rattle.mm_program.specs.Worked.{closes_done}

-- what is left of files that were worked on, by what they held
module _ {D T : Type 0} (g : Ghosts D) (image : Image) (path : Text) (tells : Trees → Result T Stop → Type 0)
    (leaves : Trees → Trees → Result T Stop → Type 0)
    (closes : Result T Stop → Bool) (done : Result T Stop) (opened : Opened D) where
  pub leads_on : OnOpened g image path tells leaves closes done opened → AreClean g opened.files.log opened.files.db
      → (next : Image) → outcomes g opened.files.log opened.files.db next
      → Leads (λ found after. leaves found after done) image next
  leads_on on clean next may db holds =
      let (found, is, told, left) = on.1 clean in
      ∥∥₁_map (left next may) (λ it.
      let r : (after : Trees) × leaves db after done × HoldsDatabase next after =
      (it.0, subst (λ t. leaves t it.0 done) (is.holds db holds) it.1, it.2.both) in r)

-- what is left of files that could not be closed behind work that came to its end, where the store was open still
module _ {D T : Type 0} (g : Ghosts D) (image : Image) (path : Text) (tells : Trees → Result T Stop → Type 0)
    (leaves : Trees → Trees → Result T Stop → Type 0)
    (closes : Result T Stop → Bool) (why : Stop) (it : Unclosed D g) where
  pub leads_unclosed : OffClose g image path tells leaves closes why it → (next : Image) → IsLeftOpen g it next
      → (done : Result T Stop) × (closes done ≡ true) × Leads (λ found after. leaves found after done) image next
  leads_unclosed off next on =
      let (done, ended, all) = off.2 in
      let (found, is, told, left) = all on.clean in (
        done,
        ended,
        λ db holds. ∥∥₁_elim (left next on.left) squash₁ (λ x. ∥∥₁_map (x.2.holds on.up) (λ held.
            let r : (after : Trees) × leaves db after done × HoldsDatabase next after =
            (x.0, subst (λ t. leaves t x.0 done) (is.holds db holds) x.1, held) in r)),
      )

-- ---- a life

-- the package that a run has left, and that it is the one of a first part
part_by : (p : Package) (moment : ℕ) (bytes : List ℕ) (after : Trees) (old new : Written) (status : ℕ)
    (ran : RanTo p moment bytes after old new status)
    → (q : Package) × StandsForCurrent after q × Meets current q × IsPartOf p moment bytes after old new status q ran
part_by p moment bytes after old new status (inl (t, all, is)) =
    let (q, stands, part, meets) = all.left after refl in (q, stands, meets, part)
part_by p moment bytes after old new status (inr (e, some, is)) =
    let (q, stands, part, meets) = some.left after refl in (q, stands, meets, part)

makes_by : (r : Ran) (done : Result ℕ Stop) (db after : Trees) (p : Package) → StandsForCurrent db p → Meets current p
    → LeavesRun (Some r.bytes) r.moment db after r.old r.new done
    → (q : Package) × StandsForCurrent after q × Meets current q × MakesBy r done p q
makes_by r (Ok status) db after p stands meets leaves =
    let ran = (leaves p stands meets).1 r.bytes refl in
    let (q, now, still, part) = part_by p r.moment r.bytes after r.old r.new status ran in
    (q, now, still, record { after = after; ran = ran; part = part })
makes_by r (Err why) db after p stands meets same =
    (p, subst (λ t. StandsForCurrent t p) (sym same) stands, meets, refl)

-- of a list that was read: where all was complete, it is a kit's, and its pieces are the edition's
holds_kit : (files : Files) (name : Text) (p q : Package) (n : ℕ) (list : Result (List KitEntry) (ℕ × ℕ))
    → IsKitList files list → HasAnswered files name list p q (Complete n) → HoldsKit files name q (Ok (Complete n))
holds_kit files name p q n (Ok entries) read has = (entries, read, has)
holds_kit files name p q n (Err at) read has = absurd has

-- so of the one package that the database stands for
holds_all : (files : Files) (name : Text) (p q : Package) (after : Trees) (n : ℕ) → StandsForCurrent after q
    → IsImportAnswered files name p (λ r. StandsForCurrent after r) (Complete n)
    → HoldsKit files name q (Ok (Complete n))
holds_all files name p q after n stands it =
    subst (λ r. HoldsKit files name r (Ok (Complete n))) (stands_once current.version after it.next q it.sound.0 stands)
    (holds_kit files name p it.next n it.list it.read it.has)

import_makes : (told : Option Files) (name : Text) (done : Result (Result Staged KitFault) Stop) (db after : Trees)
    (p : Package) → StandsForCurrent db p
    → Meets current p → LeavesImport told name db after done
    → (q : Package) × StandsForCurrent after q × Meets current q × MakesImport told name done p q
import_makes told name (Ok (Ok (Complete n))) db after p stands meets leaves =
    let it = leaves p stands meets in
    let (q, sound, keeps) = it.kept in
    (q, sound.0, sound.1, (keeps, λ files is. holds_all files name p q after n sound.0 (it.imported files is)))
import_makes told name (Ok (Ok (Refused place number))) db after p stands meets leaves =
    let (q, sound, keeps) = (leaves p stands meets).kept in (q, sound.0, sound.1, (keeps, λ files is. tt))
import_makes told name (Ok (Err stopped)) db after p stands meets leaves =
    let (q, now, still, keeps) = (leaves p stands meets).kept after refl in (q, now, still, (keeps, λ files is. tt))
import_makes told name (Err why) db after p stands meets same =
    (p, subst (λ t. StandsForCurrent t p) (sym same) stands, meets, refl)

still_there : (p : Package) (after : Trees) (cause : Open) → StaysFor p after cause → StandsForCurrent after p
still_there p after (opens.Rule rule) it = it.0
still_there p after (opens.Fault fault) it = it
still_there p after (opens.Version version) it = absurd it
still_there p after opens.NoProfile it = absurd it
still_there p after opens.BadProfile it = absurd it
still_there p after opens.BadBlobs it = absurd it

migration_makes : (done : Result (Unit {0}) Stop) (after : Trees) (p : Package) → LeavesFine p after done
    → StandsForCurrent after p
migration_makes (Ok done) after p it = it.0
migration_makes (Err why) after p it = still_there p after it.0 it.1

attends_makes : (done : Result ℕ Stop) (db after : Trees) (p : Package) → StandsForCurrent db p → Meets current p
    → LeavesDesk db after done
    → (q : Package) × StandsForCurrent after q × Meets current q × MakesAttended done p q
attends_makes (Ok status) db after p stands meets leaves =
    let it = leaves p stands meets in
    (it.last, it.stands, it.meets, (it.visits, it.calls, it.kept, it.sitting, it.part))
attends_makes (Err why) db after p stands meets same =
    (p, subst (λ t. StandsForCurrent t p) (sym same) stands, meets, refl)

makes : (did : Deed) (db after : Trees) (p : Package) → StandsForCurrent db p → Meets current p → LeavesBy did db after
    → (q : Package) × StandsForCurrent after q × Meets current q × DeedMakes did p q
makes Looks db after p stands meets same = (p, subst (λ t. StandsForCurrent t p) (sym same) stands, meets, refl)
makes (Runs r) db after p stands meets leaves = makes_by r r.done db after p stands meets leaves
makes (Attends done) db after p stands meets leaves = attends_makes done db after p stands meets leaves
makes (Imports i) db after p stands meets leaves = import_makes i.told i.name i.done db after p stands meets leaves
makes (Migrates done) db after p stands meets leaves =
    (p, migration_makes done after p (leaves.0 p stands), meets, refl)

lives_further : (next : Image) (used : Use) (uses : List Use) (p q : Package) → DeedMakes used.did p q → Meets current q
    → LivesOn next q uses
    → LivesOn next p (used ∷ uses)
unfolding AreMade
lives_further next used uses p q made meets it = record {
  database = it.database;
  kept = it.kept;
  holds = it.holds;
  stands = it.stands;
  meets = it.meets;
  made = (q, made, meets, it.made);
}

pub lives_on : (uses : List Use) (image next : Image) → IsLife image uses next → (db : Trees) (p : Package)
    → HoldsDatabase image db
    → StandsForCurrent db p → Meets current p
    → ∥ LivesOn next p uses ∥₁
unfolding IsLife AreMade
lives_on [] image next same db p holds stands meets =
    ∣ record {
      database = db;
      kept = p;
      holds = subst (λ i. HoldsDatabase i db) (sym same) holds;
      stands = stands;
      meets = meets;
      made = refl;
    } ∣₁
lives_on (used ∷ uses) image next (leads, life) db p holds stands meets = ∥∥₁_elim (leads db holds) squash₁ (λ it.
    let (q, now, still, made) = makes used.did db it.0 p stands meets it.1 in
    ∥∥₁_map (lives_on uses used.left next life it.0 q it.2 now still) (lives_further next used uses p q made still))

-- ---- how it begins

module _ {D : Type 0} (g : Ghosts D) (image : Image) (path : Text) (opened_at : Opened D)
    (none : WereBare g image opened_at)
    (on : OnOpened g image path (λ found done. ⊤) LeavesMade closes_done (Ok tt) opened_at)
    (clean : AreClean g opened_at.files.log opened_at.files.db) where
  begins : (next : Image) → outcomes g opened_at.files.log opened_at.files.db next
      → ∥ ((after : Trees) × StandsForCurrent after opening × HoldsDatabase next after) ∥₁
  begins next may =
      let (found, is, told, left) = on.1 clean in
      ∥∥₁_map (left next may) (λ it.
      let r : (after : Trees) × StandsForCurrent after opening × HoldsDatabase next after =
      (it.0, it.1 ∣ empty_is_sound found (is.nothing (inl (inl (none clean).1))) ∣₁, it.2.both) in r)

  pub begins_life : (first : Image) → outcomes g opened_at.files.log opened_at.files.db first
      → (uses : List Use) (next : Image)
      → IsLife first uses next → ∥ LivesOn next opening uses ∥₁
  begins_life first may uses next life =
      ∥∥₁_elim (begins first may) squash₁ (λ it. lives_on uses first next life it.0 opening it.2 it.1 (opened current))

-- ---- how it is checked

fault_alone : (p : Package) (cause : Open) → Meets current p → Declines p cause → stop_status (stop_of cause) ≡ 3
fault_alone p (opens.Rule k) m it = absurd (none_fails p k m it)
fault_alone p (opens.Fault fault) m it = refl
fault_alone p (opens.Version version) m it = absurd it
fault_alone p opens.NoProfile m it = absurd it
fault_alone p opens.BadProfile m it = absurd it
fault_alone p opens.BadBlobs m it = absurd it

declined_by_fault : (p : Package) (why : Stop) → Meets current p → IsDeclinedFor p why → stop_status why ≡ 3
declined_by_fault p why meets (cause, declines, is) =
    subst (λ w. stop_status w ≡ 3) (sym is) (fault_alone p cause meets declines)

four : ◌≡◌ {A = ℕ} 4 3 → ⊥
four same = omega (arith, same)

only_fault : (why : Stop) → ∥ (stop_status why ≡ 3) ∥₁ → stop_status why ≡ 3
only_fault (stops.Fault fault) some = refl
only_fault stops.NotEmpty some = absurd (∥∥₁_elim some (λ a b. absurd a) four)
only_fault (stops.NotPackage number) some = absurd (∥∥₁_elim some (λ a b. absurd a) four)
only_fault (stops.Rule number) some = absurd (∥∥₁_elim some (λ a b. absurd a) four)

pub checked : {D : Type 0} (g : Ghosts D) (image : Image) (path : Text) (opened_at : Opened D) (p : Package)
    (uses : List Use) (done : Result (Unit {0}) Stop)
    → ∥ LivesOn image p uses ∥₁
    → OnOpened g image path TellsChecked (λ found after it. LeavesSame found after) closes_done done opened_at
    → AreClean g opened_at.files.log opened_at.files.db → IfErr done (λ why. stop_status why ≡ 3)
checked g image path opened_at p uses (Ok done) lives on clean = tt
checked g image path opened_at p uses (Err why) lives on clean =
    let (found, is, told, left) = on.1 clean in
    only_fault why
    (∥∥₁_map lives
    (λ it. declined_by_fault it.kept why it.meets
    (told it.kept (subst (λ t. StandsForCurrent t it.kept) (sym (is.holds it.database it.holds)) it.stands))))
