-- A piece that names a blob, or none.
use Rattle.std.proofs.Common.{◌≡◌, ◌≢◌, ◌&&◌, ℤ, true, Option, Some, None, refl, sym, ap}
use Rattle.sqlite.specs.declared.types.Value.TheVariants.{Int}
use Rattle.sqlite.specs.Kind.TheVariants.{Integer}
use Rattle.sqlite.specs.Values.{or_null}
use Rattle.sql_forms.proofs.Casts.{is_of}
use Rattle.mm_definitions.specs.Package.{PieceRow}
use Rattle.mm_definitions.proofs.Parts.{not_none}
use Rattle.mm_store.specs.Blobs.{Shelf, Told}
use Rattle.mm_store.specs.Kept.{Spare, piece_id, piece_with}
use Rattle.mm_store.specs.Rows.{maybe, StagedRow}
use Rattle.mm_blobs.proofs.Keeping.{but_other}
use Rattle.mm_staging.specs.Kept.{spare_named}

pub or_maybe : (o : Option ℤ) → or_null Int o ≡ maybe o
or_maybe None = refl
or_maybe (Some id) = refl

-- a number or nothing fits a column of numbers, the last one
pub typed_maybe : (o : Option ℤ) → (is_of Integer (maybe o) && true) ≡ true
typed_maybe None = refl
typed_maybe (Some id) = refl

-- where another blob is named, what was spared still is
pub still_spared : (o : Option ℤ) (spare : Spare) (z : ℤ) → spare z ≡ true → o ≢ Some z → spare_named o spare z ≡ true
still_spared None spare z is other = is
still_spared (Some id) spare z is other = but_other spare id z (λ e. other (ap Some (sym e))) is

-- a free place names nothing
pub no_piece_named : {A : Type 0} (o : Option StagedRow) (i : StagedRow) → o ≡ None → o ≡ Some i → A
no_piece_named o i none some = absurd (not_none some none)

-- no piece stands where the package has none
pub untold : (shelf : Shelf) (o : Option StagedRow) (entry : Option PieceRow) → Told piece_id piece_with shelf o entry
    → entry ≡ None → o ≡ None
untold shelf None entry told none = refl
untold shelf (Some i) entry told none = absurd (not_none told.2 none)
