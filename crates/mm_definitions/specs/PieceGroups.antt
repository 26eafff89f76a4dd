-- The pieces in groups, by what they change.
use Rattle.std.specs.Prelude.{Bool, true, false}
use Rattle.mm_definitions.specs.declared.commands.Piece.{Piece}
use Rattle.mm_definitions.specs.declared.commands.Piece.TheVariants.{Tile, TileDrop, Row, RowDrop, Media, MediaDrop}
use Rattle.mm_definitions.specs.declared.commands.Piece.TheVariants.{Map, MapDrop, Matrix}

-- it changes a tile
abbrev pub changes_tile : Piece → Bool
changes_tile (Tile table place bytes) = true
changes_tile (TileDrop table place) = true
changes_tile _ = false

-- it changes an attribute row or a medium
abbrev pub changes_item : Piece → Bool
changes_item (Row table id title note amount) = true
changes_item (RowDrop table id) = true
changes_item (Media table id content_type bytes) = true
changes_item (MediaDrop table id) = true
changes_item _ = false

-- it changes a mapping row
abbrev pub changes_mapping : Piece → Bool
changes_mapping (Map mapping base_id related_id) = true
changes_mapping (MapDrop mapping base_id related_id) = true
changes_mapping _ = false

-- it puts a matrix
abbrev pub puts_matrix : Piece → Bool
puts_matrix (Matrix table zoom m) = true
puts_matrix _ = false
