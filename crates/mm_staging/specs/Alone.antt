-- Which blobs the pieces of an edition leave unnamed, or to other pieces, when they go.
use Rattle.std.specs.Prelude.{ℤ}
use Rattle.mm_definitions.specs.Keys.{Text}
use Rattle.mm_store.specs.Blobs.{NamesBlob}
use Rattle.mm_store.specs.Kept.{Kept, tile_id, medium_id}
use Rattle.mm_store.specs.Removals.{FreedByEdition}

-- a piece that goes with the edition names the blob, and no tile and no medium does
abbrev pub FreedByPiecesAlone : Text → Kept → ℤ → Type 0
FreedByPiecesAlone name kept id = FreedByEdition name kept id × ¬ NamesBlob tile_id kept.tiles id
    × ¬ NamesBlob medium_id kept.media id
