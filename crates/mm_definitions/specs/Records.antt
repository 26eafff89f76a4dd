-- The text of a record: which fields spell which command, and which numbers hold against fields that spell none.
use Rattle.std.specs.Prelude.{◌≡◌, ℕ, ◌-◌, ◌≤◌, pos, negsuc, neg_ℤ, List, [], ◌∷◌, ◌++◌, Option, Some, None}
use Rattle.std.specs.Prelude.{if◌then◌else◌, bytes_eq, codes}
use Rattle.mm_definitions.specs.declared.refusals.TheConstants.{NO_SUCH_RECORD}
use Rattle.mm_definitions.specs.Keys.{Text}
use Rattle.mm_definitions.specs.Bounds.{Profile, LastZoom, MostTiles, MostPixels, LastId, MostAmount, MostTileBytes}
use Rattle.mm_definitions.specs.Bounds.{MostMediaBytes, MostTextBytes, MostDefinitionBytes}
use Rattle.mm_definitions.specs.Fields.{Field, OneOf, NumberFrom, BytesTo, TextOf, AnIdentifier, AContentType, AName}
use Rattle.mm_definitions.specs.Fields.{Value, Whole, Plain, AllHold, IsAgainstSome}
use Rattle.mm_definitions.specs.Package.{kind_text}
use Rattle.mm_definitions.specs.Effects.{step_kind, plain_kind}
use Rattle.mm_definitions.specs.Conditions.{relation_text}
use Rattle.mm_definitions.specs.declared.commands.Matrix.{Matrix}
use Rattle.mm_definitions.specs.declared.commands.Piece.{Piece}
use Rattle.mm_definitions.specs.declared.commands.Piece.TheVariants as pieces
use Rattle.mm_definitions.specs.declared.commands.Piece.TheVariants.{Tile, TileDrop, Row, RowDrop, Media, MediaDrop}
use Rattle.mm_definitions.specs.declared.commands.Piece.TheVariants.{Map, MapDrop}
use Rattle.mm_definitions.specs.declared.commands.Command.{Command}
use Rattle.mm_definitions.specs.declared.commands.Command.TheVariants as commands
use Rattle.mm_definitions.specs.declared.places.TilePlace.{TilePlace}

-- ---- the records of pieces, without the word that they begin with
-- the number of a row, a medium or a piece
abbrev pub id_field : Field
id_field = NumberFrom (pos 1) (pos LastId)

-- a zoom level
abbrev pub zoom_field : Field
zoom_field = NumberFrom (pos 0) (pos LastZoom)

-- a column or row of tiles
abbrev pub place_field : Field
place_field = NumberFrom (pos 0) (pos (MostTiles - 1))

-- the amount of an attribute row
abbrev pub amount_field : Field
amount_field = NumberFrom (neg_ℤ (pos MostAmount)) (pos MostAmount)

-- a system's description, a row's title, a row's note
abbrev pub remark_field : Field
remark_field = TextOf 0 MostTextBytes

-- what the fields of a record hold, one after another
abbrev pub Form : Type 0
Form = List Field

-- a tile: pyramid, zoom, column, row and bytes
abbrev pub tile_form : Form
tile_form = AName ∷ zoom_field ∷ place_field ∷ place_field ∷ BytesTo MostTileBytes ∷ []

-- a tile to be removed: pyramid, zoom, column and row
abbrev pub tile_drop_form : Form
tile_drop_form = AName ∷ zoom_field ∷ place_field ∷ place_field ∷ []

-- an attribute row: table, number, title, note and amount
abbrev pub row_form : Form
row_form = AName ∷ id_field ∷ remark_field ∷ remark_field ∷ amount_field ∷ []

-- a row or media item, by its table and number
abbrev pub item_form : Form
item_form = AName ∷ id_field ∷ []

-- a medium: table, number, content type and bytes
abbrev pub media_form : Form
media_form = AName ∷ id_field ∷ AContentType ∷ BytesTo MostMediaBytes ∷ []

-- a mapping row: mapping, and the numbers of the base and the related item
abbrev pub map_form : Form
map_form = AName ∷ id_field ∷ id_field ∷ []

-- the width or height of a pixel, in the profile's unit
abbrev pub pixel_size : Profile → Field
pixel_size profile = NumberFrom (pos 1) (pos profile.pixel_size)

-- the width or height of a matrix, in tiles
abbrev pub matrix_side : Field
matrix_side = NumberFrom (pos 1) (pos MostTiles)

-- the width or height of a tile, in pixels
abbrev pub tile_side : Field
tile_side = NumberFrom (pos 1) (pos MostPixels)

-- the width and height of a matrix in tiles, of a tile in pixels, and of a pixel
abbrev pub grid_form : Profile → Form
grid_form profile = matrix_side ∷ matrix_side ∷ tile_side ∷ tile_side ∷ pixel_size profile ∷ pixel_size profile ∷ []

-- a matrix: pyramid, zoom, and the six numbers of the matrix
abbrev pub matrix_form : Profile → Form
matrix_form profile = AName ∷ zoom_field ∷ grid_form profile

-- the nine words that a piece begins with, each with the form of what follows it
abbrev pub piece_forms : Profile → List (Text × Form)
piece_forms profile =
    (codes "tile", tile_form) ∷ (codes "tile-drop", tile_drop_form) ∷ (codes "row", row_form) ∷ (codes "row-drop", item_form)
    ∷ (codes "media", media_form) ∷ (codes "media-drop", item_form) ∷ (codes "map", map_form)
    ∷ (codes "map-drop", map_form) ∷ (codes "matrix", matrix_form profile) ∷ []

-- ---- the records of the other commands
-- a coordinate in the profile's unit
abbrev pub coordinate : Profile → Field
coordinate profile = NumberFrom (neg_ℤ (pos profile.coordinate)) (pos profile.coordinate)

-- the kind of a pyramid
abbrev pub step_words : Field
step_words = OneOf (codes "two" ∷ codes "other" ∷ [])

-- the kind of a table that is no pyramid
abbrev pub kind_words : Field
kind_words = OneOf (codes "attributes" ∷ codes "media" ∷ [])

-- the name of a relation
abbrev pub relation_words : Field
relation_words = OneOf (codes "media" ∷ codes "simple_attributes" ∷ [])

-- the name of a reference system, or its organization
abbrev pub system_name : Field
system_name = TextOf 1 MostTextBytes

-- the definition of a reference system
abbrev pub definition_field : Field
definition_field = TextOf 1 MostDefinitionBytes

-- a system as a pyramid names it: the given ones too
abbrev pub named_system : Field
named_system = NumberFrom (negsuc 0) (pos LastId)

-- a reference system: number, name, organization, number at the organization, definition and description
abbrev pub srs_form : Form
srs_form = id_field ∷ system_name ∷ system_name ∷ id_field ∷ definition_field ∷ remark_field ∷ []

-- a pyramid: name, identifier, system, extent as min_x, min_y, max_x and max_y, and kind
abbrev pub pyramid_form : Profile → Form
pyramid_form profile =
    AName ∷ AnIdentifier ∷ named_system ∷ coordinate profile ∷ coordinate profile ∷ coordinate profile
    ∷ coordinate profile
    ∷ step_words ∷ []

-- a table that is no pyramid: name, kind and identifier
abbrev pub table_form : Form
table_form = AName ∷ kind_words ∷ AnIdentifier ∷ []

-- a relation: mapping, base table, related table and relation name
abbrev pub relation_form : Form
relation_form = AName ∷ AName ∷ AName ∷ relation_words ∷ []

-- a table, a mapping or an edition
abbrev pub name_form : Form
name_form = AName ∷ []

-- the words of all other commands but `stage`, each with the form of what follows it
abbrev pub other_forms : Profile → List (Text × Form)
other_forms profile =
    (codes "srs", srs_form) ∷ (codes "pyramid", pyramid_form profile) ∷ (codes "table", table_form) ∷ (codes "drop", name_form)
    ∷ (codes "relation", relation_form) ∷ (codes "relation-drop", name_form) ∷ (codes "edition", name_form) ∷ (codes "discard", name_form)
    ∷ (codes "publish", name_form) ∷ (codes "rehearse", name_form) ∷ []

-- ---- the form of a record: what its fields after the first word hold, if that word is known
-- the form that a list has under a word, if it has one
abbrev pub form_of : List (Text × Form) → Text → Option Form
form_of [] word = None
form_of (entry ∷ entries) word = if bytes_eq word entry.0 then Some entry.1 else form_of entries word

-- the form of the record of a piece, by its word
abbrev pub piece_form : Profile → List Text → Option Form
piece_form profile [] = None
piece_form profile (word ∷ texts) = form_of (piece_forms profile) word

-- a `stage` record is an edition, a number and the record of a piece, whose word is known already
abbrev pub with_piece : Option Form → Text → Option Form
with_piece None word = None
with_piece (Some form) word = Some (AName ∷ id_field ∷ OneOf (word ∷ []) ∷ form)

-- the form of a `stage` record, by the fields after that word, of which the third is the piece's word
abbrev pub stage_form : Profile → List Text → Option Form
stage_form profile (edition ∷ number ∷ word ∷ texts) = with_piece (form_of (piece_forms profile) word) word
stage_form profile _ = None

-- the form of the record of a command, by its word, and of `stage` by the piece's word too
abbrev pub record_form : Profile → List Text → Option Form
record_form profile [] = None
record_form profile (word ∷ texts) = if bytes_eq word (codes "stage") then stage_form profile texts else form_of
    (piece_forms profile ++ other_forms profile) word

-- ---- the record that a command is spelled by
-- the word that the record of a piece begins with
abbrev pub piece_word : Piece → Text
piece_word (Tile table place bytes) = codes "tile"
piece_word (TileDrop table place) = codes "tile-drop"
piece_word (Row table id title note amount) = codes "row"
piece_word (RowDrop table id) = codes "row-drop"
piece_word (Media table id content_type bytes) = codes "media"
piece_word (MediaDrop table id) = codes "media-drop"
piece_word (Map mapping base_id related_id) = codes "map"
piece_word (MapDrop mapping base_id related_id) = codes "map-drop"
piece_word (pieces.Matrix table zoom matrix) = codes "matrix"

-- the six numbers of a matrix, in the order of its record
abbrev pub matrix_values : Matrix → List Value
matrix_values m = Whole (pos m.mw) ∷ Whole (pos m.mh) ∷ Whole (pos m.tw) ∷ Whole (pos m.th) ∷ Whole m.px ∷ Whole m.py
    ∷ []

-- the three numbers of a place, in the order of its records
abbrev pub place_values : TilePlace → List Value
place_values place = Whole (pos place.zoom) ∷ Whole (pos place.column) ∷ Whole (pos place.row) ∷ []

-- the values of a piece's fields after its word
abbrev pub piece_values : Piece → List Value
piece_values (Tile table place bytes) = Plain table ∷ place_values place ++ Plain bytes ∷ []
piece_values (TileDrop table place) = Plain table ∷ place_values place
piece_values (Row table id title note amount) = Plain table ∷ Whole id ∷ Plain title ∷ Plain note ∷ Whole amount ∷ []
piece_values (RowDrop table id) = Plain table ∷ Whole id ∷ []
piece_values (Media table id content_type bytes) = Plain table ∷ Whole id ∷ Plain content_type ∷ Plain bytes ∷ []
piece_values (MediaDrop table id) = Plain table ∷ Whole id ∷ []
piece_values (Map mapping base_id related_id) = Plain mapping ∷ Whole base_id ∷ Whole related_id ∷ []
piece_values (MapDrop mapping base_id related_id) = Plain mapping ∷ Whole base_id ∷ Whole related_id ∷ []
piece_values (pieces.Matrix table zoom matrix) = Plain table ∷ Whole (pos zoom) ∷ matrix_values matrix

-- the word that the record of a command begins with
abbrev pub command_word : Command → Text
command_word (commands.Srs id name organization organization_id definition description) = codes "srs"
command_word (commands.Pyramid table identifier srs min_x min_y max_x max_y step) = codes "pyramid"
command_word (commands.Table table kind identifier) = codes "table"
command_word (commands.Drop table) = codes "drop"
command_word (commands.Relation mapping base related name) = codes "relation"
command_word (commands.RelationDrop mapping) = codes "relation-drop"
command_word (commands.Edit q) = piece_word q
command_word (commands.Edition name) = codes "edition"
command_word (commands.Discard name) = codes "discard"
command_word (commands.Stage edition number piece) = codes "stage"
command_word (commands.Publish edition) = codes "publish"
command_word (commands.Rehearse edition) = codes "rehearse"

-- the values of a command's fields after its word; of `stage` the piece's word is one
abbrev pub command_values : Command → List Value
command_values (commands.Srs id name organization organization_id definition description) =
    Whole id ∷ Plain name ∷ Plain organization ∷ Whole organization_id ∷ Plain definition ∷ Plain description ∷ []
command_values (commands.Pyramid table identifier srs min_x min_y max_x max_y step) =
    Plain table ∷ Plain identifier ∷ Whole srs ∷ Whole min_x ∷ Whole min_y ∷ Whole max_x ∷ Whole max_y
    ∷ Plain (kind_text (step_kind step)) ∷ []
command_values (commands.Table table kind identifier) = Plain table ∷ Plain (kind_text (plain_kind kind))
    ∷ Plain identifier ∷ []
command_values (commands.Drop table) = Plain table ∷ []
command_values (commands.Relation mapping base related name) = Plain mapping ∷ Plain base ∷ Plain related
    ∷ Plain (relation_text name) ∷ []
command_values (commands.RelationDrop mapping) = Plain mapping ∷ []
command_values (commands.Edit q) = piece_values q
command_values (commands.Edition name) = Plain name ∷ []
command_values (commands.Discard name) = Plain name ∷ []
command_values (commands.Stage edition number piece) = Plain edition ∷ Whole number ∷ Plain (piece_word piece)
    ∷ piece_values piece
command_values (commands.Publish edition) = Plain edition ∷ []
command_values (commands.Rehearse edition) = Plain edition ∷ []

-- ---- what the fields of a record spell
-- the record's form, if it has one, is met by these values
abbrev pub IsMet : Option Form → List Text → List Value → Type 0
IsMet None texts values = ⊥
IsMet (Some form) texts values = AllHold form texts values

-- the number holds against a record, which is 10 alone where it has no form
abbrev pub IsUnmet : Option Form → List Text → ℕ → Type 0
IsUnmet None texts n = n ≡ NO_SUCH_RECORD
IsUnmet (Some form) texts n = IsAgainstSome form texts n

-- the fields of a record, its word first, spell this piece
abbrev pub SpellsPiece : Profile → List Text → Piece → Type 0
SpellsPiece profile [] q = ⊥
SpellsPiece profile (word ∷ texts) q = (word ≡ piece_word q)
    × IsMet (piece_form profile (word ∷ texts)) texts (piece_values q)

-- the number holds against the fields of a record that is to spell a piece
abbrev pub HoldsAgainstPiece : Profile → List Text → ℕ → Type 0
HoldsAgainstPiece profile [] n = n ≡ NO_SUCH_RECORD
HoldsAgainstPiece profile (word ∷ texts) n = IsUnmet (piece_form profile (word ∷ texts)) texts n

-- the fields of a record, its word first, spell this command
abbrev pub Spells : Profile → List Text → Command → Type 0
Spells profile [] c = ⊥
Spells profile (word ∷ texts) c = (word ≡ command_word c)
    × IsMet (record_form profile (word ∷ texts)) texts (command_values c)

-- the number holds against the fields of a record that is to spell a command
abbrev pub HoldsAgainst : Profile → List Text → ℕ → Type 0
HoldsAgainst profile [] n = n ≡ NO_SUCH_RECORD
HoldsAgainst profile (word ∷ texts) n = IsUnmet (record_form profile (word ∷ texts)) texts n

-- the least of the numbers that hold
pub record IsLeast (Held : ℕ → Type 0) (n : ℕ) : Type 0 where
  pub is_held : Held n
  pub is_least : (m : ℕ) → Held m → n ≤ m
