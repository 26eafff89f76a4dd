-- What is left of files that could not be opened or closed.
use Rattle.std.proofs.Common.{arith, ◌≡◌, ◌⊎◌, ◌∙◌, false, ap, inl, inr, subst, sym}
use Rattle.std.proofs.Math.Logic.{∥∥₁_map}
use Rattle.sqlite_disk.specs.Disk.{MoreFaults}
use Rattle.sqlite_disk.specs.declared.Disk.{Ghosts}
use Rattle.sqlite_disk.specs.declared.Files.{Files}
use Rattle.sqlite_wal.proofs.LogLemmas.{SeenMayStay}
use Rattle.sqlite_store.specs.Unopened as unopened
use Rattle.sqlite_store.specs.declared.store.FileStore.{FileStore}
use Rattle.sqlite_store.specs.FileStore as file
use Rattle.sql_forms.specs.Tree.{Trees}
use Rattle.sql_forms.specs.View.{IsClean}
use Rattle.sql_forms.proofs.Doubt.{no_doubt}
use Rattle.sql_forms.specs.StoreError.{StoreError}
use Rattle.sql_forms.specs.StoreError.TheVariants as causes
use Rattle.sqlite.proofs.OpenLemmas.{pool_files}
use Rattle.sqlite.specs.Held.{Held}
use Rattle.sqlite.specs.Files.{file_state, image_of, FailsToClose, FailsToOpenAs, FailsToOpenFiles, IsCleanLeft}
use Rattle.sqlite.specs.Files.{IsClosed, LeavesFiles}
use Rattle.sqlite.specs.declared.error.Error.{Error}
use Rattle.sqlite.specs.declared.file.Leftover.{Leftover}
use Rattle.sqlite.specs.declared.file.Leftover.TheVariants as left
use Rattle.mm_definitions.specs.declared.answers.Fault.{Fault}
use Rattle.mm_definitions.specs.Faults.{memory, store}
use Rattle.mm_store.specs.Faults.{told_as}
use Rattle.mm_recovery.specs.Found.{HoldOneOf}
use Rattle.mm_recovery.specs.Stops.{HasCause, IsNotClosed, IsNotOpened, LeadsBack, LeadsTo, TellsNoLie}
use Rattle.mm_recovery.specs.declared.stops.Stopped.{Stopped}
use Rattle.mm_store.proofs.Asking.{told_fault}
use Rattle.mm_core.proofs.Opened.{nothing_less}
use Rattle.mm_files.proofs.Kept.{clean_by}

-- 90 is not 91
other_fault : memory ≡ store → ⊥
other_fault same = omega (arith, ap (λ (f : Fault). f.0) same)

module _ {D : Type 0} {g : Ghosts D} where
  pub leads_to : (stays : SeenMayStay g) (P : Trees → Type 0) (files : Files D) (rest : Leftover D g)
      → HoldOneOf g P files → LeavesFiles files rest
      → LeadsTo P rest
  leads_to stays P files (left.Files now) hold leaves = λ image may. hold image (leaves image may)
  leads_to stays P files (left.Unopened now) hold leaves = ∣ (files, hold, leaves) ∣₁
  leads_to stays P files (left.Store now) hold leaves =
      λ db may. ∥∥₁_map (hold (image_of g files) (stays files.log, stays files.db))
      (λ held. subst P (sym ((leaves db may).1 held.0 held.2)) held.1)

  -- the kit's error, told as 91, is not want of memory
  pub caused : (files : Files D) (rest : Leftover D g) (kind : StoreError) (error : Error) → told_as error ≡ store
      → FailsToOpenAs kind files rest error → HasCause files rest
  caused files rest kind error is (inl want) = absurd (other_fault (ap told_as (sym want) ∙ is))
  caused files rest kind error is (inr (inl refused)) = inl refused.1
  caused files rest kind error is (inr (inr (inl fault))) = inr (inl fault.1)
  caused files rest kind error is (inr (inr (inr full))) = inr (inr full.1)

  -- what is left is clean on a disk that tells no lie
  pub clean_left : TellsNoLie g → (rest : Leftover D g) → IsCleanLeft rest
  clean_left honest (left.Files now) = honest now.log now.db
  clean_left honest (left.Unopened now) =
      (pool_files now.pool).1 ∙ honest (unopened.files_of now).0 (unopened.files_of now).1
  clean_left honest (left.Store now) = clean_by now (honest (file.files now).0 (file.files now).1)

  pub close_caused : (old : Held (FileStore D g)) (last : FileStore D g) (error : Error) → told_as error ≡ store
      → FailsToClose old last error
      → ((file_state old).is_open ≡ false) ⊎ MoreFaults (file_state old).faults (file.faults last)
  close_caused old last error is (causes.OutOfMemory, same, excused, tells) =
      absurd (other_fault (ap told_as (sym same) ∙ is))
  close_caused old last error is (causes.Io, same, excused, tells) = inr excused
  close_caused old last error is (causes.Corrupt, same, excused, tells) = inr excused
  close_caused old last error is (causes.Full, same, excused, tells) = inr excused
  close_caused old last error is (causes.Broken, same, excused, tells) = excused
  close_caused old last error is (causes.Unstorable, same, excused, tells) = absurd excused

  pub not_closed : (old : Held (FileStore D g)) (last : FileStore D g) (error : Error) (stop : Stopped D g)
      → stop.fault ≡ told_as error
      → stop.rest ≡ left.Store last
      → IsClosed old last → (IsClean (file.view last) → FailsToClose old last error) → IsNotClosed old stop
  not_closed old last error stop told is closed fails =
      subst (λ (s : Stopped D g). IsNotClosed old s) (sym (alike stop is)) (record {
        fault = told_fault error stop.fault told;
        clean = λ clean. nothing_less _ _ closed.quiet.clean (no_doubt _ clean);
        cause = λ store clean. close_caused old last error (sym told ∙ store) (fails (no_doubt _ clean));
        left = λ db may. ∣ closed.quiet.outcomes db may ∣₁;
      })
    where
      alike : (s : Stopped D g) → s.rest ≡ left.Store last → s ≡ record { fault = s.fault; rest = left.Store last }
      alike s same = ap (λ (r : Leftover D g). record { fault = s.fault; rest = r }) same

  pub not_opened : (stays : SeenMayStay g) (files : Files D) (rest : Leftover D g) (error : Error) (stop : Stopped D g)
      → stop.fault ≡ told_as error
      → stop.rest ≡ rest
      → (IsCleanLeft rest → FailsToOpenFiles files rest error) → (IsCleanLeft rest → LeavesFiles files rest)
      → IsNotOpened files stop
  not_opened stays files rest error stop told is cause unharmed =
      let clean_so = λ (clean : IsCleanLeft stop.rest). subst (λ (r : Leftover D g). IsCleanLeft r) is clean in
      record {
        fault = told_fault error stop.fault told;
        cause = λ store clean. subst (λ (r : Leftover D g). HasCause files r) (sym is)
            (caused files rest _ error (sym told ∙ store) (cause (clean_so clean)));
        unharmed = λ clean. subst (λ (r : Leftover D g). LeavesFiles files r) (sym is) (unharmed (clean_so clean));
      }

  pub leads_back : (stays : SeenMayStay g) (files : Files D) (stop : Stopped D g) → IsNotOpened files stop
      → LeadsBack files stop
  leads_back stays files stop it old left calm clean =
      leads_to stays _ files stop.rest (left.hold calm) (it.unharmed clean)
