-- For which numbered reasons a command is refused. The reasons are a set: the least number is the answer.
use Rattle.std.specs.Prelude.{ℕ, ◌+◌, length, ◌==◌, ℤ, pos, ◌+ℤ◌, ◌-ℤ◌, ◌*ℤ◌, Bool, not, cond, ◌&&◌, ◌||◌, List, []}
use Rattle.std.specs.Prelude.{◌∷◌, Option, Some, None, min, int_lt, int_le, codes}
use Rattle.std.specs.FinMap.{get, contains_key, entries, retain_keys}
use Rattle.mm_definitions.specs.Keys.{Text, same_text, same_number, level, item, Pairing, pairing, PieceKey}
use Rattle.mm_definitions.specs.Keys.{piece}
use Rattle.mm_definitions.specs.Parts.{some_entry, at_value}
use Rattle.mm_definitions.specs.Places.{tile_at}
use Rattle.mm_definitions.specs.Pieces.{piece_row, same_piece}
use Rattle.mm_definitions.specs.Bounds.{MostPieces}
use Rattle.mm_definitions.specs.Package.{Package, Box, Grid, PieceRow, has_kind, is_pyramid, open_state}
use Rattle.mm_definitions.specs.declared.commands.Kind.{Kind}
use Rattle.mm_definitions.specs.declared.commands.Kind.TheVariants as kinds
use Rattle.mm_definitions.specs.declared.commands.Piece.{Piece}
use Rattle.mm_definitions.specs.declared.commands.RelationName.{RelationName}
use Rattle.mm_definitions.specs.declared.commands.RelationName.TheVariants as names
use Rattle.mm_definitions.specs.declared.commands.Matrix.{Matrix}
use Rattle.mm_definitions.specs.declared.commands.Command.{Command}
use Rattle.mm_definitions.specs.declared.commands.Command.TheVariants as commands
use Rattle.mm_definitions.specs.declared.commands.Piece.TheVariants as pieces
use Rattle.mm_definitions.specs.declared.commands.Piece.TheVariants.{Tile, TileDrop, Row, RowDrop, Media, MediaDrop}
use Rattle.mm_definitions.specs.declared.commands.Piece.TheVariants.{Map, MapDrop}
use Rattle.mm_definitions.specs.declared.places.TilePlace.{TilePlace}
use Rattle.mm_definitions.specs.declared.refusals.TheConstants.{SYSTEM_EXISTS, NO_SYSTEM, GEOGRAPHIC_SYSTEM}
use Rattle.mm_definitions.specs.declared.refusals.TheConstants.{TABLE_NAME_TAKEN, IDENTIFIER_TAKEN, NO_TABLE}
use Rattle.mm_definitions.specs.declared.refusals.TheConstants.{ANOTHER_KIND, EMPTY_EXTENT, MATRIX_EXISTS}
use Rattle.mm_definitions.specs.declared.refusals.TheConstants.{NOT_THE_PRODUCT, PIXEL_SIZES_OUT_OF_ORDER, NO_MATRIX}
use Rattle.mm_definitions.specs.declared.refusals.TheConstants.{OUTSIDE_MATRIX, NO_TILE, NO_ROW, NO_MEDIA_ITEM}
use Rattle.mm_definitions.specs.declared.refusals.TheConstants.{STILL_MAPPED, MAPPING_NAME_TAKEN, NO_RELATION}
use Rattle.mm_definitions.specs.declared.refusals.TheConstants.{MAPPING_ROW_EXISTS, NO_MAPPING_ROW, UNSUITED_KINDS}
use Rattle.mm_definitions.specs.declared.refusals.TheConstants.{USED_BY_A_RELATION, EDITION_EXISTS, NO_EDITION}
use Rattle.mm_definitions.specs.declared.refusals.TheConstants.{NOT_THE_NEXT_PIECE, TOO_MANY_PIECES}
use Rattle.mm_definitions.specs.declared.refusals.TheConstants.{PUBLISHED_ALREADY}

-- numbered reasons, each with whether it holds
abbrev pub Reasons : Type 0
Reasons = List (ℕ × Bool)

-- the smaller of two numbers that may be absent
abbrev pub smaller : Option ℕ → Option ℕ → Option ℕ
smaller None n = n
smaller (Some m) None = Some m
smaller (Some m) (Some n) = Some (min m n)

-- the least number of those that hold, if one holds
abbrev pub least : Reasons → Option ℕ
least [] = None
least (r ∷ rs) = smaller (cond r.1 (Some r.0) None) (least rs)

-- no contents row has the table
abbrev pub no_table : Package → Text → ℕ × Bool
no_table p table = (NO_TABLE, not (contains_key p.contents table))

-- the table stands, and is of none of these kinds
abbrev pub of_another_kind : Package → Text → Bool → ℕ × Bool
of_another_kind p table suits = (ANOTHER_KIND, contains_key p.contents table && not suits)

-- the mapping row's relation has this item as an end
abbrev pub joins_item : Package → Text → ℤ → Pairing → Bool
joins_item p table id k = at_value (λ r. (same_text r.base table && same_number k.base_id id)
    || (same_text r.related table && same_number k.related_id id)) (get p.relations k.mapping)

-- a mapping row has this item as an end
abbrev pub is_mapped : Package → Text → ℤ → Bool
is_mapped p table id = some_entry (λ k _. joins_item p table id k) p.pairings

-- an end of this kind stands as a table, and has no such item
abbrev pub lacks_row : Package → Text → ℤ → Bool
lacks_row p table id = has_kind p.kinds table kinds.Attributes && not (contains_key p.rows (item table id))

-- the same of an end of kind `media`
abbrev pub lacks_medium : Package → Text → ℤ → Bool
lacks_medium p table id = has_kind p.kinds table kinds.Media && not (contains_key p.media (item table id))

-- the column or the row lies beyond the last of the matrix
abbrev pub outside : ℤ → ℤ → Grid → Bool
outside column row g = int_le g.matrix_width column || int_le g.matrix_height row

-- ---- matrices
-- the numbers of a matrix, as its row holds them
abbrev pub grid : Matrix → Grid
grid m = record {
  matrix_width = pos m.mw;
  matrix_height = pos m.mh;
  tile_width = pos m.tw;
  tile_height = pos m.th;
  pixel_x_size = m.px;
  pixel_y_size = m.py;
}

-- both across and down the extent is exactly the tiles of the matrix, times the pixels of a tile, times the pixel size
abbrev pub is_product : Box → Grid → Bool
is_product b g =
    same_number (b.max_x -ℤ b.min_x) ((g.matrix_width *ℤ g.tile_width) *ℤ g.pixel_x_size)
    && same_number (b.max_y -ℤ b.min_y) ((g.matrix_height *ℤ g.tile_height) *ℤ g.pixel_y_size)

-- the second has smaller pixels
abbrev pub is_finer : Grid → Grid → Bool
is_finer g h = int_lt h.pixel_x_size g.pixel_x_size && int_lt h.pixel_y_size g.pixel_y_size

-- the first has pixels twice as large
abbrev pub is_double : Grid → Grid → Bool
is_double g h = same_number g.pixel_x_size (pos 2 *ℤ h.pixel_x_size)
    && same_number g.pixel_y_size (pos 2 *ℤ h.pixel_y_size)

-- whether two matrices of one pyramid suit each other, the first at the lower zoom; halved where the pyramid is of kind
-- `two`
abbrev pub suits_above : Bool → ℤ → Grid → ℤ → Grid → Bool
suits_above halved low g high h = is_finer g h && (not (halved && same_number high (low +ℤ pos 1)) || is_double g h)

-- the two matrices suit each other, whichever is at the lower zoom; at equal zooms any two do
abbrev pub suits : Bool → ℤ → Grid → ℤ → Grid → Bool
suits halved zoom g other h = (not (int_lt zoom other) || suits_above halved zoom g other h)
    && (not (int_lt other zoom) || suits_above halved other h zoom g)

-- some other zoom of the table has a matrix that this one doesn't suit
abbrev pub clashes : Package → Text → ℤ → Grid → Bool
clashes p table zoom g = some_entry
    (λ k h. same_text k.table table && not (suits (has_kind p.kinds table kinds.Two) zoom g k.zoom h)) p.matrices

-- ---- pieces
-- the numbers that may hold against a piece of an edition, each with whether it does
abbrev pub piece_reasons : Package → Piece → Reasons
piece_reasons p (Tile table place bytes) =
    no_table p table ∷ of_another_kind p table (is_pyramid p.kinds table)
    ∷ (NO_MATRIX, is_pyramid p.kinds table && not (contains_key p.matrices (level table (pos place.zoom))))
    ∷ (
      OUTSIDE_MATRIX,
      at_value (outside (pos place.column) (pos place.row)) (get p.matrices (level table (pos place.zoom))),
    ) ∷ []
piece_reasons p (TileDrop table place) =
    no_table p table ∷ of_another_kind p table (is_pyramid p.kinds table)
    ∷ (NO_TILE, is_pyramid p.kinds table && not (contains_key p.tiles (tile_at table place)))
    ∷ []
piece_reasons p (Row table id title note amount) =
    no_table p table ∷ of_another_kind p table (has_kind p.kinds table kinds.Attributes) ∷ []
piece_reasons p (RowDrop table id) =
    no_table p table ∷ of_another_kind p table (has_kind p.kinds table kinds.Attributes)
    ∷ (NO_ROW, has_kind p.kinds table kinds.Attributes && not (contains_key p.rows (item table id)))
    ∷ (STILL_MAPPED, is_mapped p table id) ∷ []
piece_reasons p (Media table id content_type bytes) =
    no_table p table ∷ of_another_kind p table (has_kind p.kinds table kinds.Media) ∷ []
piece_reasons p (MediaDrop table id) =
    no_table p table ∷ of_another_kind p table (has_kind p.kinds table kinds.Media)
    ∷ (NO_MEDIA_ITEM, has_kind p.kinds table kinds.Media && not (contains_key p.media (item table id)))
    ∷ (STILL_MAPPED, is_mapped p table id) ∷ []
piece_reasons p (Map mapping base_id related_id) =
    (NO_ROW, at_value (λ r. lacks_row p r.base base_id || lacks_row p r.related related_id) (get p.relations mapping))
    ∷ (
      NO_MEDIA_ITEM,
      at_value (λ r. lacks_medium p r.base base_id || lacks_medium p r.related related_id)
          (get p.relations mapping),
    )
    ∷ (NO_RELATION, not (contains_key p.relations mapping))
    ∷ (MAPPING_ROW_EXISTS, contains_key p.pairings (pairing mapping base_id related_id)) ∷ []
piece_reasons p (MapDrop mapping base_id related_id) =
    (NO_RELATION, not (contains_key p.relations mapping))
    ∷ (
      NO_MAPPING_ROW,
      contains_key p.relations mapping
          && not (contains_key p.pairings (pairing mapping base_id related_id)),
    ) ∷ []
piece_reasons p (pieces.Matrix table zoom matrix) =
    no_table p table ∷ of_another_kind p table (is_pyramid p.kinds table)
    ∷ (MATRIX_EXISTS, is_pyramid p.kinds table && contains_key p.matrices (level table (pos zoom)))
    ∷ (
      NOT_THE_PRODUCT,
      is_pyramid p.kinds table && at_value (λ s. not (is_product s.box (grid matrix)))
          (get p.sets table),
    )
    ∷ (PIXEL_SIZES_OUT_OF_ORDER, is_pyramid p.kinds table && clashes p table (pos zoom) (grid matrix)) ∷ []

-- ---- relations
-- the text by which a relation of this name is kept
abbrev pub relation_text : RelationName → Text
relation_text names.Media = codes "media"
relation_text names.SimpleAttributes = codes "simple_attributes"

-- the kind that a relation of this name asks of its related table
abbrev pub related_kind : RelationName → Kind
related_kind names.Media = kinds.Media
related_kind names.SimpleAttributes = kinds.Attributes

-- the table is of kind `attributes` or `media`, as the base of a relation has to be
abbrev pub is_plain : Package → Text → Bool
is_plain p table = has_kind p.kinds table kinds.Attributes || has_kind p.kinds table kinds.Media

-- a table or mapping has the name
abbrev pub is_taken : Package → Text → Bool
is_taken p name = contains_key p.contents name || contains_key p.relations name

-- a contents row has the identifier
abbrev pub is_identified : Package → Text → Bool
is_identified p identifier = some_entry (λ _ c. same_text c.identifier identifier) p.contents

-- a relation has the table as base or related
abbrev pub is_used : Package → Text → Bool
is_used p table = some_entry (λ _ r. same_text r.base table || same_text r.related table) p.relations

-- ---- editions
-- the edition stands and is open
abbrev pub is_open : Package → Text → Bool
is_open p edition = at_value (same_text open_state) (get p.editions edition)

-- the edition's pieces, in rising number
abbrev pub pieces_of : Package → Text → List (PieceKey × PieceRow)
pieces_of p edition = entries (retain_keys p.pieces (λ k. same_text k.edition edition))

-- how many pieces the edition has
abbrev pub piece_count : Package → Text → ℕ
piece_count p edition = length (pieces_of p edition)

-- the piece that stands in the edition under this number equals this one
abbrev pub has_equal_piece : Package → Text → ℤ → Piece → Bool
has_equal_piece p edition number q = at_value (same_piece (piece_row q)) (get p.pieces (piece edition number))

-- every reason but that a piece is refused
abbrev pub own_reasons : Package → Command → Reasons
own_reasons p (commands.Srs id name organization organization_id definition description) =
    (SYSTEM_EXISTS, contains_key p.systems id) ∷ []
own_reasons p (commands.Pyramid table identifier srs min_x min_y max_x max_y step) =
    (NO_SYSTEM, not (contains_key p.systems srs))
    ∷ (GEOGRAPHIC_SYSTEM, same_number srs (pos 0) || same_number srs (pos 4326))
    ∷ (TABLE_NAME_TAKEN, is_taken p table)
    ∷ (IDENTIFIER_TAKEN, is_identified p identifier)
    ∷ (EMPTY_EXTENT, int_le max_x min_x || int_le max_y min_y) ∷ []
own_reasons p (commands.Table table kind identifier) =
    (TABLE_NAME_TAKEN, is_taken p table) ∷ (IDENTIFIER_TAKEN, is_identified p identifier) ∷ []
own_reasons p (commands.Drop table) =
    no_table p table ∷ (USED_BY_A_RELATION, is_used p table) ∷ []
own_reasons p (commands.Relation mapping base related name) =
    (NO_TABLE, not (contains_key p.contents base) || not (contains_key p.contents related))
    ∷ (MAPPING_NAME_TAKEN, is_taken p mapping)
    ∷ (
      UNSUITED_KINDS,
      contains_key p.contents base && contains_key p.contents related
          && not (is_plain p base && has_kind p.kinds related (related_kind name)),
    ) ∷ []
own_reasons p (commands.RelationDrop mapping) =
    (NO_RELATION, not (contains_key p.relations mapping)) ∷ []
own_reasons p (commands.Edition name) =
    (EDITION_EXISTS, contains_key p.editions name) ∷ []
own_reasons p (commands.Discard name) =
    (NO_EDITION, not (contains_key p.editions name))
    ∷ (PUBLISHED_ALREADY, contains_key p.editions name && not (is_open p name)) ∷ []
own_reasons p (commands.Stage edition number q) =
    (NO_EDITION, not (contains_key p.editions edition))
    ∷ (
      NOT_THE_NEXT_PIECE,
      is_open p edition && (int_lt (pos (piece_count p edition + 1)) number
          || (int_le number (pos (piece_count p edition)) && not (has_equal_piece p edition number q))),
    )
    ∷ (
      TOO_MANY_PIECES,
      is_open p edition && same_number number (pos (piece_count p edition + 1))
          && (piece_count p edition == MostPieces),
    )
    ∷ (PUBLISHED_ALREADY, contains_key p.editions edition && not (is_open p edition)) ∷ []
own_reasons p (commands.Publish edition) =
    (NO_EDITION, not (contains_key p.editions edition))
    ∷ (PUBLISHED_ALREADY, contains_key p.editions edition && not (is_open p edition)) ∷ []
own_reasons p (commands.Rehearse edition) =
    (NO_EDITION, not (contains_key p.editions edition))
    ∷ (PUBLISHED_ALREADY, contains_key p.editions edition && not (is_open p edition)) ∷ []
own_reasons p (commands.Edit q) = piece_reasons p q

-- for what a tile is not put at a place, whatever its bytes are
abbrev pub tile_reasons : Text → TilePlace → Package → Reasons
tile_reasons table place p = piece_reasons p (Tile table place [])
