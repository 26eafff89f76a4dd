-- The rows that hold the entries of a package.
use Rattle.std.specs.Prelude.{◌≡◌, ℕ, zero, suc, ℤ, Bool, List, [], ◌∷◌, drop, filter, length, Option, Some, None, ⊤}
use Rattle.std.specs.Ordering.{eq_by_cmp}
use Rattle.std.specs.FinMap.{FinMap, get}
use Rattle.sqlite.specs.declared.types.Value.{Value}
use Rattle.sqlite.specs.declared.types.Value.TheVariants.{Null, Int, Text as Words}
use Rattle.sqlite.specs.Order.{Row, column}
use Rattle.sql_forms.specs.Lists.{Has}
use Rattle.mm_definitions.specs.Keys.{Text, Level, TileKey, Item, Pairing, PieceKey, Extension, extension_cmp}
use Rattle.mm_definitions.specs.Package.{System, Contents, MatrixSet, Grid, AttributeRow, Relation}

-- what of a row counts: all of it, all but a rowid that the store chose, or all but an id that the store chose
abbrev pub whole : Row → Row
whole r = r

-- all but a rowid that the store chose
abbrev pub past_rowid : Row → Row
past_rowid r = drop 1 r

-- all but an id that the store chose: the rowid, and the column that is the rowid
abbrev pub past_id : Row → Row
past_id r = drop 2 r

-- a number as a column holds it, NULL for none
abbrev pub maybe : Option ℤ → Value
maybe None = Null
maybe (Some z) = Int z

-- a text as a column holds it, NULL for none
abbrev pub maybe_words : Option Text → Value
maybe_words None = Null
maybe_words (Some t) = Words t

-- a system and its number; the column `srs_id` is the rowid, and so NULL in the stored row
abbrev pub system_row : ℤ → System → Row
system_row id s = Int id ∷ Words s.name ∷ Null ∷ Words s.organization ∷ Int s.organization_id ∷ Words s.definition
    ∷ Words s.description ∷ []

-- a contents row, with its table's name
abbrev pub contents_row : Text → Contents → Row
contents_row table c =
    Words table ∷ Words c.data_type ∷ Words c.identifier ∷ Words c.description ∷ Words c.last_change ∷ maybe c.min_x
    ∷ maybe c.min_y ∷ maybe c.max_x ∷ maybe c.max_y ∷ maybe c.system ∷ []

-- a row of the registry: a table's name and its kind
abbrev pub kind_row : Text → Text → Row
kind_row table kind = Words table ∷ Words kind ∷ []

-- a tile matrix set, with its pyramid's name
abbrev pub set_row : Text → MatrixSet → Row
set_row table s = Words table ∷ Int s.system ∷ Int s.box.min_x ∷ Int s.box.min_y ∷ Int s.box.max_x ∷ Int s.box.max_y
    ∷ []

-- a tile matrix, with its pyramid's name and its zoom level
abbrev pub grid_row : Level → Grid → Row
grid_row k g = Words k.table ∷ Int k.zoom ∷ Int g.matrix_width ∷ Int g.matrix_height ∷ Int g.tile_width
    ∷ Int g.tile_height ∷ Int g.pixel_x_size ∷ Int g.pixel_y_size ∷ []

-- a tile names its blob
abbrev pub tile_row : TileKey → ℤ → Row
tile_row k blob = Words k.table ∷ Int k.zoom ∷ Int k.column ∷ Int k.row ∷ Int blob ∷ []

-- an attribute row, with its table's name and its id
abbrev pub attribute_row : Item → AttributeRow → Row
attribute_row k r = Words k.table ∷ Int k.id ∷ Words r.title ∷ Words r.note ∷ Int r.amount ∷ []

-- a medium as its row holds it
pub record MediumRow : Type 0 where
  pub blob : ℤ
  pub content_type : Text

-- a medium, with its table's name and its id
abbrev pub medium_row : Item → MediumRow → Row
medium_row k m = Words k.table ∷ Int k.id ∷ Int m.blob ∷ Words m.content_type ∷ []

-- a relation, with its mapping
abbrev pub relation_row : Text → Relation → Row
relation_row mapping r = Words r.base ∷ Words r.base_column ∷ Words r.related ∷ Words r.related_column ∷ Words r.name
    ∷ Words mapping ∷ []

-- a mapping row, which is nothing but its key
abbrev pub pairing_row : Pairing → ⊤ → Row
pairing_row k v = Words k.mapping ∷ Int k.base_id ∷ Int k.related_id ∷ []

-- an edition: its name and its state
abbrev pub edition_row : Text → Text → Row
edition_row name state = Words name ∷ Words state ∷ []

-- a staged piece as its row holds it; no blob is no bytes
pub record StagedRow : Type 0 where
  pub kind : Text
  pub name : Text
  pub k1 : ℤ
  pub k2 : ℤ
  pub k3 : ℤ
  pub k4 : ℤ
  pub k5 : ℤ
  pub k6 : ℤ
  pub k7 : ℤ
  pub t1 : Text
  pub t2 : Text
  pub blob : Option ℤ

-- a staged piece, with its edition and its number
abbrev pub staged_row : PieceKey → StagedRow → Row
staged_row k r =
    Words k.edition ∷ Int k.number ∷ Words r.kind ∷ Words r.name ∷ Int r.k1 ∷ Int r.k2 ∷ Int r.k3 ∷ Int r.k4 ∷ Int r.k5
    ∷ Int r.k6 ∷ Int r.k7 ∷ Words r.t1 ∷ Words r.t2 ∷ maybe r.blob ∷ []

-- ---- extension rows, of which there may be equal ones

-- an extension row, whose table and column may be NULL
abbrev pub extension_row : Extension → Row
extension_row e = maybe_words e.table ∷ maybe_words e.column ∷ Words e.name ∷ Words e.definition ∷ Words e.scope ∷ []

-- the text in a column, empty where it holds none
abbrev pub words_of : Value → Text
words_of (Words t) = t
words_of _ = []

-- the text in a column, if it holds one
abbrev pub maybe_of : Value → Option Text
maybe_of (Words t) = Some t
maybe_of _ = None

-- the extension that a row holds
abbrev pub extension_of : Row → Extension
extension_of r = record {
  table = maybe_of (column r 1);
  column = maybe_of (column r 2);
  name = words_of (column r 3);
  definition = words_of (column r 4);
  scope = words_of (column r 5);
}

-- the row holds this extension
abbrev pub is_extension : Extension → Row → Bool
is_extension e r = eq_by_cmp extension_cmp (extension_of r) e

-- none is no entry
abbrev pub as_count : ℕ → Option ℕ
as_count zero = None
as_count (suc n) = Some (suc n)

-- each row is an extension's, and the map has for each extension how many rows are its
pub record Counts (rows : List Row) (m : FinMap extension_cmp ℕ) : Type 0 where
  pub sound : (r : Row) → Has rows r → past_rowid r ≡ extension_row (extension_of r)
  pub counted : (e : Extension) → get m e ≡ as_count (length (filter (is_extension e) rows))
