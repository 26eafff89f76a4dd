-- What is left of a connection's files.
use Rattle.std.proofs.Common.{arith, ◌≡◌, Bool, true, false, IsTrue, refl, subst, sym}
use Rattle.std.proofs.Math.Logic.{∥∥₁_elim, ∥∥₁_map}
use Rattle.sqlite_disk.specs.declared.Disk.{Ghosts}
use Rattle.sqlite_disk.specs.declared.Files.{Files}
use Rattle.sqlite_wal.specs.Reads.{AreClean}
use Rattle.sqlite_wal.specs.Recovery.{Image}
use Rattle.sqlite_wal.specs.Files.{outcomes}
use Rattle.sqlite_wal.proofs.LogLemmas.{SeenMayStay}
use Rattle.sqlite_pool.specs.Pool as pool
use Rattle.sqlite_store.specs.declared.store.FileStore.{FileStore}
use Rattle.sqlite_store.specs.FileStore as file
use Rattle.sqlite_store.specs.Laws.{stays_at}
use Rattle.sqlite_store.specs.Listing.{IsOurs}
use Rattle.sqlite_pool.proofs.StateLemmas.{size_is_allowed}
use Rattle.sqlite_pool.proofs.ResealLemmas.{adopts_of}
use Rattle.sqlite.specs.Held.{Held, AreDatabases}
use Rattle.sqlite.specs.Tree.{Trees}
use Rattle.sqlite.specs.Files.{file_state, HoldsDatabase}
use Rattle.sqlite.specs.Closing.{IsCopied}
use Rattle.sqlite_trees.specs.View.{IsClean, IsQuiet}
use Rattle.sqlite_trees.proofs.Doubt.{no_doubt}
use Rattle.sqlite.specs.State.{State, HasCleanDisk}
use Rattle.sqlite.proofs.Theorems.{opens_again}
use Rattle.mm_definitions.specs.Streams.{Written}
use Rattle.mm_files.specs.Worked.{EndedOn, HasCleanFiles, HoldsAfter, HoldsStill, KeepsLeft, KeepsStill, WorkedOn}

never : IsTrue false → ⊥
never lie = cc

-- of files that are not closed nothing is said of the one alone
holds_both : (image : Image) (db : Trees) → HoldsDatabase image db → HoldsAfter false image db
holds_both image db holds = record { both = holds; alone = λ closed. absurd (never closed) }

module _ {D : Type 0} {g : Ghosts D} where
  -- a store has no doubt of its disk where its two files have none
  pub clean_by : (it : FileStore D g) → AreClean g (file.files it).0 (file.files it).1 → IsTrue (file.view it).is_clean
  unfolding pool.state pool.files
  clean_by it clean = clean

  -- what a crash of its two files may leave is what it may leave
  pub left_by : (it : FileStore D g) (image : Image) → AreClean g (file.files it).0 (file.files it).1
      → outcomes g (file.files it).0 (file.files it).1 image → (file.state it).may_leave image
  unfolding pool.state pool.files
  left_by it image clean may = (clean, may)

  pub kept_as_it_is : (conn : Held (FileStore D g)) (last : FileStore D g) (files : Files D)
      → (files.log, files.db) ≡ file.files last
      → (IsClean (file.view last) → IsTrue (file.view last).is_numbered)
      → (IsClean (file.view last) → AreDatabases (file.recovers last))
      → IsQuiet file.view file.faults file.recovers file.is_shielded conn.store last
      → KeepsLeft g (file_state conn) false files
  kept_as_it_is conn last files are numbered sound quiet =
      let was = λ (clean : AreClean g files.log files.db). subst (λ (f : D × D). AreClean g f.0 f.1) are clean in
      let calm = λ (clean : AreClean g files.log files.db). no_doubt _ (clean_by last (was clean)) in
      record {
        was_clean = λ clean. omega (arith, quiet.clean, calm clean);
        left = λ clean left may. ∥∥₁_map
            (opens_again last (numbered (calm clean)) (sound (calm clean)) left
            (left_by last left (was clean) (subst (λ (f : D × D). outcomes g f.0 f.1 left) are may)))
            (λ found. let r : (after : Trees) × (file_state conn).may_leave after × HoldsAfter false left after =
            (found.0, quiet.outcomes _ found.1, holds_both left found.0 found.2) in r);
      }

  -- Each image that a crash may leave reads as a database of those that the store allows; where its trees are numbered
  -- it holds it.
  reads_again : (it : FileStore D g) (is_open : Bool) → (IsTrue is_open → IsTrue (file.view it).is_numbered)
      → AreDatabases (file.recovers it)
      → (left : Image) → (file.state it).may_leave left
      → ∥ ((db : Trees) × file.recovers it db × HoldsStill is_open left db) ∥₁
  reads_again it is_open numbered sound left may = ∥∥₁_elim it.safe squash₁ (λ all.
      let found = all left may in
      let db = file.reading it found.0 in
      let allowed : file.recovers it db = (left, found.0, may, ∣ found.1 ∣₁, refl) in
      let schema = sound db allowed in
      ∥∥₁_elim (size_is_allowed it.pool) squash₁
      (λ size. ∥∥₁_map found.2 (λ ours. let r : (x : Trees) × file.recovers it x × HoldsStill is_open left x = (
        db,
        allowed,
        record {
          reads = ∣ record {
            size = (file.state it).page_size;
            pages = found.0;
            wanted = file.schema_in it found.0;
            found = adopts_of _ left found.0 found.1;
            ours = record { file = ours.file; numbered = λ lie. absurd (never lie) };
            reads = refl;
            sound = λ other same. sound other (subst (file.recovers it) (sym same) allowed);
          } ∣₁;
          holds = λ on. ∣ (
            (file.state it).page_size,
            size,
            record {
              pages = found.0;
              wanted = file.schema_in it found.0;
              schema = schema.0;
              found = adopts_of _ left found.0 found.1;
              reads = refl;
              sound = schema.1;
              ours = subst (λ b. IsOurs (file.state it).page_size b (file.schema_in it found.0) found.0) (numbered on)
                  ours;
            },
          ) ∣₁;
        },
      ) in r)))

  pub kept_still : (conn : Held (FileStore D g)) (last : FileStore D g)
      → (IsClean (file.view last) → IsTrue (file.view last).is_open → IsTrue (file.view last).is_numbered)
      → (IsClean (file.view last) → AreDatabases (file.recovers last))
      → (IsClean (file.view last) → HasCleanDisk (file_state conn))
      → ((db : Trees) → file.recovers last db → (file_state conn).may_leave db)
      → KeepsStill g (file_state conn) last
  kept_still conn last numbered sound was_clean fewer =
      let calm = λ (clean : HasCleanFiles g last). no_doubt _ (clean_by last clean) in
      record {
        was_clean = λ clean. was_clean (calm clean);
        left = λ clean left may. ∥∥₁_map
            (reads_again last (file.view last).is_open (numbered (calm clean)) (sound (calm clean)) left
            (left_by last left clean may))
            (λ found. let r : (after : Trees) × (file_state conn).may_leave after
            × HoldsStill (file.view last).is_open left after =
            (found.0, fewer _ found.1, found.2) in r);
      }

  pub kept_by_copy : (conn : Held (FileStore D g)) (files : Files D) → SeenMayStay g
      → (AreClean g files.log files.db → IsCopied conn files)
      → KeepsLeft g (file_state conn) true files
  kept_by_copy conn files stays copied = record {
    was_clean = λ clean. (copied clean).was_clean;
    left = λ clean left may. ∥∥₁_map ((copied clean).left left may).both
        (λ holds. let r : (after : Trees) × (file_state conn).may_leave after × HoldsAfter true left after = (
          (file_state conn).committed.trees,
          stays_at conn.store stays (copied clean).was_open,
          record { both = holds; alone = λ closed. ((copied clean).left left may).alone },
        ) in r);
  }

module _ {D Done : Type 0} {g : Ghosts D} {tells : Trees → Written → Written → Done → Type 0}
    {leaves : Trees → Trees → Written → Written → Done → Type 0} {old new : Written} (before after : State) where
  pub worked_on : (closes closed : Bool) (files : Files D) (done : Done) → closed ≡ closes
      → KeepsLeft g after closed files
      → (HasCleanDisk after → HasCleanDisk before)
      → (HasCleanDisk after → tells before.committed.trees old new done)
      → (HasCleanDisk after → (db : Trees) → after.may_leave db → leaves before.committed.trees db old new done)
      → WorkedOn g tells leaves closes old new files done before
  worked_on closes closed files done is keeps cleaned told worked =
      let kept = subst (λ c. KeepsLeft g after c files) is keeps in record {
        was_clean = λ clean. cleaned (kept.was_clean clean);
        told = λ clean. told (kept.was_clean clean);
        left = λ clean left may. ∥∥₁_map (kept.left clean left may)
            (λ found. let r : (db : Trees) × leaves before.committed.trees db old new done × HoldsAfter closes left db =
            (found.0, worked (kept.was_clean clean) found.0 found.1, found.2) in r);
      }

  pub ended_on : (closes : Done → Bool) (store : FileStore D g) (done : Done) → true ≡ closes done
      → KeepsStill g after store
      → (HasCleanDisk after → HasCleanDisk before)
      → (HasCleanDisk after → tells before.committed.trees old new done)
      → (HasCleanDisk after → (db : Trees) → after.may_leave db → leaves before.committed.trees db old new done)
      → EndedOn g tells leaves closes old new store before
  ended_on closes store done is kept cleaned told worked = record {
    done = done;
    ended = sym is;
    was_clean = λ clean. cleaned (kept.was_clean clean);
    told = λ clean. told (kept.was_clean clean);
    left = λ clean left may. ∥∥₁_map (kept.left clean left may)
        (λ found. let r : (db : Trees) × leaves before.committed.trees db old new done
        × HoldsStill (file.view store).is_open left db =
        (found.0, worked (kept.was_clean clean) found.0 found.1, found.2) in r);
  }
