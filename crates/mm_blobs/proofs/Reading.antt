-- The bytes of a blob, from the row that shows them.
use Rattle.std.proofs.Common.{◌≡◌, ℕ, ℤ, List, [], ◌∷◌, Option, Some, None, option_map, sym, ap, subst, ◌∙◌}
use Rattle.sqlite.specs.declared.types.Value.TheVariants.{Blob as Bytes}
use Rattle.sqlite.specs.Order.{Row, column}
use Rattle.sqlite.specs.Term.{col}
use Rattle.sql_forms.specs.Tables.{FindsRow}
use Rattle.sql_forms.specs.Maps.{Holds}
use Rattle.sql_forms.proofs.Selects.{shows}
use Rattle.mm_store.specs.Rows.{whole}
use Rattle.mm_store.specs.Blobs.{Blob, Shelf, blob_row, bytes_at}
use Rattle.mm_store.proofs.Parts.{finds_none, finds_some}
use Rattle.mm_store.proofs.Keys as parts
use Rattle.mm_store.proofs.Keys.{by_number}
use Rattle.mm_blobs.specs.Moves.{ShowsBytes}

module _ (rows : List Row) (shelf : Shelf) (h : Holds whole blob_row rows shelf) (id : ℤ) (params : Row) where
  by_row : (first : Option Row) → FindsRow (by_number id) (shows (col 1 3 ∷ []) params) rows first
      → ShowsBytes (bytes_at shelf id) first
  by_row None found = ap (option_map (λ (b : Blob). b.bytes))
      (finds_none parts.blobs rows shelf h id (shows (col 1 3 ∷ []) params) found)
  by_row (Some row) found =
      let at = finds_some parts.blobs rows shelf h id (shows (col 1 3 ∷ []) params) row found in (
        at.0.bytes,
        ap (option_map (λ (b : Blob). b.bytes)) at.1,
        ap (λ (r : Row). column r 0) at.4
            ∙ ap (λ (r : Row). column r 3) at.3,
      )

  pub bytes_found : (x first : Option Row) → x ≡ first
      → FindsRow (by_number id) (shows (col 1 3 ∷ []) params) rows first → ShowsBytes (bytes_at shelf id) x
  bytes_found x first gives found = subst (ShowsBytes (bytes_at shelf id)) (sym gives) (by_row first found)

-- the bytes that a row shows are those of the blob
pub bytes_told : (bytes : Option (List ℕ)) (row : Row) (told : List ℕ) → ShowsBytes bytes (Some row)
    → column row 0 ≡ Bytes told → bytes ≡ Some told
bytes_told bytes row told shown is =
    let e : Bytes shown.0 ≡ Bytes told = sym shown.2 ∙ is in
    let same : shown.0 ≡ told = cc in
    shown.1 ∙ ap Some same
