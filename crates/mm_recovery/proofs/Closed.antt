-- Why no session has begun on files that were closed.
use Rattle.std.proofs.Common.{Result, Ok, Err, IfErr}
use Rattle.sqlite_disk.specs.declared.Disk.{Ghosts}
use Rattle.sqlite_disk.specs.declared.Files.{Files}
use Rattle.sqlite_store.specs.declared.store.FileStore.{FileStore}
use Rattle.sqlite.specs.Held.{Held}
use Rattle.mm_recovery.specs.Found.{AreClosed}
use Rattle.mm_recovery.specs.Recovered.{DeclinesClosed, DeclinesLeft, IsNotReopened}
use Rattle.mm_recovery.specs.Stops.{IsNotClosed}
use Rattle.mm_recovery.specs.declared.stops.NotBegun.{NotBegun}
use Rattle.mm_recovery.specs.declared.stops.NotBegun.TheVariants as begun
use Rattle.mm_recovery.specs.declared.stops.Stopped.{Stopped}
use Rattle.mm_recovery.proofs.Stopping.{clean_left}

pub both_errors : {T E : Type 0} (r : Result T E) (P Q S : E → Type 0) → ((e : E) → P e → Q e → S e) → IfErr r P
    → IfErr r Q → IfErr r S
both_errors (Ok x) P Q S so p q = tt
both_errors (Err e) P Q S so p q = so e p q

module _ {D : Type 0} {g : Ghosts D} (old : Held (FileStore D g)) where
  pub not_reopened : (files : Files D) (e : NotBegun D g) → AreClosed old files → DeclinesLeft files e
      → DeclinesClosed files e → IsNotReopened old e
  not_reopened files (begun.Unopened stop) closed left again =
      (left.0.fault, λ honest. left.1 old closed.left (honest files.log files.db) (clean_left honest stop.rest))
  not_reopened files (begun.Declined conn why) closed left again = again old closed

  pub close_stopped : (stop : Stopped D g) → IsNotClosed old stop → IsNotReopened old (begun.Unopened stop)
  close_stopped stop it = (it.fault, λ _. it.left)
