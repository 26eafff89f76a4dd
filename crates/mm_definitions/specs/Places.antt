-- The place of a tile.
use Rattle.std.specs.Prelude.{pos}
use Rattle.mm_definitions.specs.Keys.{Text, TileKey, tile}
use Rattle.mm_definitions.specs.declared.places.TilePlace.{TilePlace}

-- the key of the tile at a place of a table
abbrev pub tile_at : Text → TilePlace → TileKey
tile_at table place = tile table (pos place.zoom) (pos place.column) (pos place.row)
