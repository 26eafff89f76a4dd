-- A blob whose bytes a command puts.
use Rattle.std.specs.Prelude.{◌≡◌, ℕ, ℤ, List, Some}
use Rattle.mm_store.specs.Blobs.{Shelf, bytes_at}

-- the blob of the id stands on the shelf, and has these bytes
abbrev pub HasBytes : ℤ → List ℕ → Shelf → Type 0
HasBytes blob bytes shelf = bytes_at shelf blob ≡ Some bytes
