-- What an import tells of its folder.
use Rattle.std.proofs.Common.{◌≡◌, ◌≢◌, ◌∙◌, ◌⊎◌, inl, inr, ℕ, Bool, true, false, Option, Some, None, Result, Ok, Err}
use Rattle.std.proofs.Common.{IfOk, IfErr, IfSome, refl, sym, ap, arith}
use Rattle.std.specs.Prelude.{◌==◌, ◌||◌}
use Rattle.std.proofs.lemmas.Bool.{ne_eqb}
use Rattle.mm_run.specs.Applied.{IsApplyFault}
use Rattle.mm_kit.specs.Folders.{Files, is_own, fault_number}
use Rattle.mm_definitions.specs.declared.answers.Fault.{Fault}
use Rattle.mm_definitions.specs.declared.answers.KitFault.{KitFault}
use Rattle.mm_definitions.specs.declared.answers.Staged.{Staged}
use Rattle.mm_kit.specs.Imports.{ImportEnded, ImportTellsReopening, IsKitFault}
use Rattle.mm_kit.specs.declared.folders.FolderFault.{FolderFault}
use Rattle.mm_kit.specs.declared.folders.FolderFault.TheVariants.{Memory, Failed}

-- it has not failed by a read that was answered
pub as_before : (before : Bool) → (before || false) ≡ before
as_before true = refl
as_before false = refl

-- a fault of the folder is told by its number
pub told : (before failed : Bool) (fault : FolderFault) (n : ℕ) → n ≡ fault_number fault
    → failed ≡ (before || is_own fault) → failed ≡ (before || (n == 96))
told before failed Memory n is fails = rw is fails
told before failed Failed n is fails = rw is fails

pub kit_fault : (fault : FolderFault) (n : ℕ) → n ≡ fault_number fault → IsKitFault n
kit_fault Memory n is = inl is
kit_fault Failed n is = inr (inr (inr is))

not_96 : (n m : ℕ) → n ≡ m → (m ≡ 96 → ⊥) → (n == 96) ≡ false
not_96 n m is other = ne_eqb n 96 (λ e. absurd (other (sym is ∙ e)))

-- a fault of the editor is none of the folder
pub no_folders : (n : ℕ) → IsApplyFault n → (n == 96) ≡ false
no_folders n (inl is) = not_96 n 90 is (λ e. absurd (omega (arith, e)))
no_folders n (inr (inl is)) = not_96 n 91 is (λ e. absurd (omega (arith, e)))
no_folders n (inr (inr is)) = not_96 n 92 is (λ e. absurd (omega (arith, e)))

pub still_told : (before failed : Bool) (n : ℕ) → IsApplyFault n → failed ≡ before → failed ≡ (before || (n == 96))
still_told before failed n fault same = rw (no_folders n fault) (same ∙ sym (as_before before))

pub desk_fault : (n : ℕ) → IsApplyFault n → IsKitFault n
desk_fault n (inl is) = inl is
desk_fault n (inr (inl is)) = inr (inl is)
desk_fault n (inr (inr is)) = inr (inr (inl is))

pub folder_no_92 : (fault : FolderFault) (n : ℕ) → n ≡ fault_number fault → n ≡ 92 → ⊥
folder_no_92 Memory n is e = absurd (omega (arith, is))
folder_no_92 Failed n is e = absurd (omega (arith, is))

-- ---- what is told of an editor that has failed

-- one that answers how an edition stands has not
pub works : {T : Type 0} {W : Type 0} (failed : Bool) (found : T)
    → (failed ≡ true → ◌≡◌ {A = Result T Fault} (Ok found) (Err (record { 0 = 92 })) × W) → failed ≡ false
works true found ended = absurd (let e = (ended refl).0 in cc)
works false found ended = refl

pub asked-tells : (before failed : Bool) (same : Type 0) → before ≡ false → failed ≡ before → (failed ≡ before)
    × (before ≡ true → same)
asked-tells before failed same is stays = (stays, λ was. absurd (let e : false ≡ true = sym is ∙ was in cc))

pub staged-tells : (r : Result Staged KitFault) (before failed : Bool) (same : Type 0) → before ≡ false
    → IfOk r (λ a. failed ≡ false)
    → IfErr r (λ e. (e.fault.0 ≢ 92) × (e.fault.0 ≡ 96 → failed ≡ false))
    → ImportTellsReopening before failed same r
staged-tells (Ok a) before failed same is working fault = asked-tells before failed same is (working ∙ sym is)
staged-tells (Err e) before failed same is working fault =
    (λ q. absurd (fault.0 q), λ q. fault.1 q ∙ sym is, λ was. absurd (let f : false ≡ true = sym is ∙ was in cc))

-- a fault of telling how an edition stands: 92 where the editor has failed, and else 90 or 91
module _ {T : Type 0} (fault : Fault) (same : Type 0) where
  pub asked_fault : (before : Bool)
      → (before ≡ true → ◌≡◌ {A = Result T Fault} (Err fault) (Err (record { 0 = 92 })) × same)
      → (before ≡ false → (fault.0 ≡ 90) ⊎ (fault.0 ≡ 91)) → IsApplyFault fault.0
  asked_fault true ended faults = let number : fault ≡ record { 0 = 92 } = cc ((ended refl).0) in inr
      (inr (ap (λ (x : Fault). x.0) number))
  asked_fault false ended faults = elim (faults refl) [ inl e ↦ inl e | inr e ↦ inr (inl e) ]

  pub asked-ended : (before : Bool)
      → (before ≡ true → ◌≡◌ {A = Result T Fault} (Err fault) (Err (record { 0 = 92 })) × same) → before ≡ true
      → ◌≡◌ {A = Result Staged KitFault} (Err (record { fault = fault; staged = 0 }))
      (Err (record { fault = record { 0 = 92 }; staged = 0 }))
  asked-ended before ended was = let number : fault ≡ record { 0 = 92 } = cc ((ended was).0) in ap
      (λ (f : Fault). Err (record { fault = f; staged = 0 })) number

  pub fails-tells : (before failed : Bool)
      → (before ≡ true → ◌≡◌ {A = Result T Fault} (Err fault) (Err (record { 0 = 92 })) × same)
      → (before ≡ false → (fault.0 ≡ 90) ⊎ (fault.0 ≡ 91))
      → failed ≡ before → ImportTellsReopening before failed same (Err (record { fault = fault; staged = 0 }))
  fails-tells true failed ended faults stays = (λ q. refl, λ q. stays, λ was. ((ended refl).1, refl))
  fails-tells false failed ended faults stays = (
    λ q. absurd (elim (faults refl) [ inl e ↦ omega arith | inr e ↦ omega arith ]),
    λ q. stays,
    λ was. absurd
        (let e : false ≡ true = was in cc),
  )

-- a fault of the folder before anything is asked
pub folder-tells : (fault : FolderFault) (f : Fault) → f.0 ≡ fault_number fault → (failed : Bool) (same : Type 0) → same
    → ImportTellsReopening failed failed same (Err (record { fault = f; staged = 0 }))
folder-tells fault f is failed same here = (λ q. absurd (folder_no_92 fault f.0 is q), λ q. refl, λ was. (here, refl))

-- ---- an import on an editor that has failed

pub never_so : {R : Type 0} (failed : Bool) → failed ≡ false → failed ≡ true → R
never_so failed is was = absurd (let e : false ≡ true = sym is ∙ was in cc)

-- what the folder tells
pub where_told : (told : Option Files) (P : Files → Type 0) → ((files : Files) → told ≡ Some files → P files)
    → IfSome told P
where_told None P h = tt
where_told (Some files) P h = h files refl

pub folder-ended : (fault : FolderFault) (f : Fault) (told : Option Files) → f.0 ≡ fault_number fault
    → ImportEnded told (Err (record { fault = f; staged = 0 }))
folder-ended Memory f told is = (refl, inl is)
folder-ended Failed f told is = (refl, inr (inl is))
