-- Files that are new, and what an open of them finds.
use Rattle.std.proofs.Common.{inl, inr}
use Rattle.sqlite_disk.specs.declared.Disk.{Ghosts}
use Rattle.sqlite_disk.specs.declared.Files.{Files}
use Rattle.sql_forms.specs.Tree.{Trees}
use Rattle.sqlite_store.specs.declared.store.FileStore.{FileStore}
use Rattle.sqlite.specs.Held.{Held}
use Rattle.sqlite.specs.Files.{file_state, image_of, AreFound, IsOpened, Finds}
use Rattle.sqlite.specs.State.{HasCleanDisk}
use Rattle.sqlite.proofs.ListingLemmas.{empty_is_sound}
use Rattle.sqlite_wal.proofs.LogLemmas.{SeenMayStay}
use Rattle.mm_core.specs.Opening.{HasNoTable}
use Rattle.mm_recovery.specs.Made.{AreNew, FindsNoTable}
use Rattle.mm_core.proofs.Opened.{opened_blank}
use Rattle.mm_files.proofs.Nothing.{nothing_found}
use Rattle.mm_recovery.proofs.Crashed.{is_fresh}

module _ {D : Type 0} (g : Ghosts D) where
  new_found : (files : Files D) (db : Trees) → AreNew g files → AreFound g files db → HasNoTable db
  new_found files db (inl nothing) found = ∣ empty_is_sound db (nothing_found (image_of g files) db nothing found) ∣₁
  new_found files db (inr none) found = none db found

  pub finds_no_table : (files : Files D) (new : Held (FileStore D g)) → SeenMayStay g
      → (HasCleanDisk (file_state new) → IsOpened new)
      → (HasCleanDisk (file_state new) → Finds files new) → FindsNoTable g files (file_state new)
  finds_no_table files new stays opened finds = record {
    is_open = λ clean. (opened clean).0.is_open;
    blank = λ clean are. opened_blank (file_state new) (is_fresh new stays (opened clean))
        (new_found files _ are (finds clean).reads);
  }
