-- What a store's files hold, and what the next open finds in them.
use Rattle.std.proofs.Common.{◌∙◌, Bool, true, refl, subst, sym}
use Rattle.std.proofs.Math.Logic.{∥∥₁_elim, ∥∥₁_map}
use Rattle.sqlite_disk.specs.declared.Disk.{Ghosts}
use Rattle.sqlite_disk.specs.declared.Files.{Files}
use Rattle.sqlite_wal.specs.Reads.{AreClean}
use Rattle.sqlite_wal.proofs.LogLemmas.{SeenMayStay}
use Rattle.sqlite_store.specs.declared.store.FileStore.{FileStore}
use Rattle.sqlite_store.specs.FileStore as file
use Rattle.sqlite_store.specs.Laws.{settled_at}
use Rattle.sql_forms.specs.Props.{Trees-set}
use Rattle.sqlite.specs.Closing.{IsCopied}
use Rattle.sqlite.specs.Held.{Held}
use Rattle.sqlite.specs.Files.{file_state, IsOpened, Finds, image_of}
use Rattle.sqlite.specs.State.{HasCleanDisk}
use Rattle.mm_files.specs.Worked.{KeepsLeft}
use Rattle.mm_files.proofs.Kept.{kept_by_copy}
use Rattle.mm_recovery.specs.Found.{AreClosed, AreLeftBy, FindsClosedIn, FindsLeftIn, IsFoundAlone, LeaveNoMore}
use Rattle.mm_core.proofs.Opened.{IsFresh, opened_blank, opened_settles}

module _ {D : Type 0} {g : Ghosts D} where
  -- nothing but the last commit may be left by a connection that was just opened
  pub is_fresh : (conn : Held (FileStore D g)) → SeenMayStay g → IsOpened conn → IsFresh (file_state conn)
  is_fresh conn stays opened = (opened.0, opened.1, λ db may. settled_at conn.store stays db opened.0.is_open may)

  -- ---- files that are let go or closed

  -- what is kept of files that were let go
  pub keeps_left : (old : Held (FileStore D g)) (closed : Bool) (files : Files D)
      → KeepsLeft g (file_state old) closed files
      → AreLeftBy old files
  keeps_left old closed files kept = record {
    clean = kept.was_clean;
    hold = λ clean image may. ∥∥₁_map (kept.left clean image may) (λ found. (found.0, found.1, found.2.both));
  }

  pub are_closed : (stays : SeenMayStay g) (old : Held (FileStore D g)) (files : Files D)
      → (AreClean g files.log files.db → IsCopied old files) → AreClosed old files
  are_closed stays old files copied = record {
    was_open = λ clean. (copied clean).was_open;
    hold = λ clean image may. ∥∥₁_map ((copied clean).left image may).both
        (λ held. ((file_state old).committed.trees, refl, held));
    left = keeps_left old true files (kept_by_copy old files stays copied);
  }

  -- ---- what an open finds in them

  pub is_found : (stays : SeenMayStay g) (new : Held (FileStore D g)) → IsOpened new → IsFoundAlone (file_state new)
  is_found stays new opened = record {
    is_open = opened.0.is_open;
    only = (is_fresh new stays opened).2;
    settled = opened_settles (file_state new) (is_fresh new stays opened);
    blank = opened_blank (file_state new) (is_fresh new stays opened);
  }

  module _ (stays : SeenMayStay g) (new : Held (FileStore D g)) (files : Files D)
      (opened : HasCleanDisk (file_state new) → IsOpened new)
      (finds : HasCleanDisk (file_state new) → Finds files new) where
    pub finds_left : FindsLeftIn files new
    finds_left old left = record {
      clean = λ clean. left.clean (finds clean).honest;
      found = λ clean. ∥∥₁_map (left.hold (finds clean).honest (image_of g files) (stays files.log, stays files.db))
          (λ held. subst (λ db. (file_state old).may_leave db) (sym ((finds clean).holds held.0 held.2)) held.1);
      is = λ clean. is_found stays new (opened clean);
    }

    pub finds_closed : FindsClosedIn files new
    finds_closed old closed = record {
      clean = λ clean. closed.left.clean (finds clean).honest;
      was_open = λ clean. closed.was_open (finds clean).honest;
      found = λ clean. ∥∥₁_elim (closed.hold (finds clean).honest (image_of g files) (stays files.log, stays files.db))
          (Trees-set _ _) (λ held. (finds clean).holds held.0 held.2 ∙ held.1);
      is = λ clean. is_found stays new (opened clean);
    }

  -- files that may leave no more still hold what those held
  pub still_left : (old : Held (FileStore D g)) (files later : Files D) → LeaveNoMore g files later
      → (AreClean g later.log later.db → AreClean g files.log files.db) → AreLeftBy old files → AreLeftBy old later
  still_left old files later no_more calm left =
      record {
        clean = λ clean. left.clean (calm clean);
        hold = λ clean image may. left.hold (calm clean) image (no_more image may);
      }
