-- From the bytes of an entry to the blob that it names.
use Rattle.std.proofs.Common.{◌≡◌, ℤ, Option, Some, None, option_map, refl}
use Rattle.sqlite.specs.State.{State}
use Rattle.mm_definitions.specs.Bounds.{Profile}
use Rattle.mm_definitions.specs.Package.{Package}
use Rattle.mm_store.specs.Kept.{no_spare}
use Rattle.mm_store.specs.Stands.{Ground}
use Rattle.mm_store.specs.Rows.{MediumRow}
use Rattle.mm_definitions.proofs.Parts.{same_some}
use Rattle.mm_blobs.specs.Entries.{spare_freed}
use Rattle.mm_blobs.specs.Views.{View, IsSeen}

-- the package is so, and the blob that went may be spared
abbrev pub HasNamed : Profile → State → (Package → Package) → Option ℤ → {T : Type 0} → Ground → View → T → View
    → Type 0
HasNamed profile now next stands base x t y = (y.content ≡ next x.content)
    × IsSeen (spare_freed stands no_spare) profile now base y

abbrev pub HasDone : Profile → State → (Package → Package) → {T : Type 0} → Ground → View → T → View → Type 0
HasDone profile now next base x t y = (y.content ≡ next x.content) × IsSeen no_spare profile now base y

-- an entry that stands, from the blob that it names
pub stands_at : (o : Option MediumRow) (id : ℤ) → option_map (λ (m : MediumRow). m.blob) o ≡ Some id → (i : MediumRow)
    × (o ≡ Some i) × (i.blob ≡ id)
stands_at None id e = absurd (let f : ◌≡◌ {A = Option ℤ} None (Some id) = e in cc)
stands_at (Some i) id e = (i, refl, same_some e)

pub stands_none : (o : Option MediumRow) → option_map (λ (m : MediumRow). m.blob) o ≡ None → o ≡ None
stands_none None e = refl
stands_none (Some i) e = absurd (let f : ◌≡◌ {A = Option ℤ} (Some i.blob) None = e in cc)
