-- A package: what the columns of its tables hold, whether or not they meet the rules.
-- The clauses that are named are those of OGC 12-128r17 (GeoPackage) and OGC 18-000 (Related Tables Extension).
use Rattle.std.specs.Prelude.{◌≡◌, ℕ, ℤ, Bool, ◌||◌, List, Option, Some, None, codes, ⊤, ◌⊎◌}
use Rattle.std.specs.Ordering.{int_cmp}
use Rattle.std.specs.FinMap.{FinMap, get}
use Rattle.mm_definitions.specs.Keys.{Text, text_cmp, same_text, level_cmp, tile_cmp, item_cmp, pairing_cmp, piece_cmp}
use Rattle.mm_definitions.specs.Keys.{Extension, extension_cmp}
use Rattle.mm_definitions.specs.Parts.{at_value}
use Rattle.mm_definitions.specs.declared.commands.Kind.{Kind}
use Rattle.mm_definitions.specs.declared.commands.Kind.TheVariants.{Two, Other, Attributes, Media}

-- a spatial reference system (Spatial Reference Systems)
pub record System : Type 0 where
  pub name : Text
  pub organization : Text
  pub organization_id : ℤ
  pub definition : Text
  pub description : Text

-- a contents row; its four bounds are its extent where all stand (Contents)
pub record Contents : Type 0 where
  pub data_type : Text
  pub identifier : Text
  pub description : Text
  pub last_change : Text
  pub min_x : Option ℤ
  pub min_y : Option ℤ
  pub max_x : Option ℤ
  pub max_y : Option ℤ
  pub system : Option ℤ

-- a bounding box: an extent, empty or not
pub record Box : Type 0 where
  pub min_x : ℤ
  pub min_y : ℤ
  pub max_x : ℤ
  pub max_y : ℤ

-- a tile matrix set: the system and the extent of a pyramid (Tile Matrix Set)
pub record MatrixSet : Type 0 where
  pub system : ℤ
  pub box : Box

-- a tile matrix: how many tiles it has, how many pixels a tile has, and how large a pixel is (Tile Matrix)
pub record Grid : Type 0 where
  pub matrix_width : ℤ
  pub matrix_height : ℤ
  pub tile_width : ℤ
  pub tile_height : ℤ
  pub pixel_x_size : ℤ
  pub pixel_y_size : ℤ

-- a row of an attribute table (Attributes); which columns it has is this editor's choice
pub record AttributeRow : Type 0 where
  pub title : Text
  pub note : Text
  pub amount : ℤ

-- a media item (Media)
pub record Medium : Type 0 where
  pub bytes : List ℕ
  pub content_type : Text

-- a relation, under the name of its mapping (Extended Relations Table)
pub record Relation : Type 0 where
  pub base : Text
  pub related : Text
  pub base_column : Text
  pub related_column : Text
  pub name : Text

-- a staged piece, as its row holds it
pub record PieceRow : Type 0 where
  pub kind : Text
  pub name : Text
  pub k1 : ℤ
  pub k2 : ℤ
  pub k3 : ℤ
  pub k4 : ℤ
  pub k5 : ℤ
  pub k6 : ℤ
  pub k7 : ℤ
  pub t1 : Text
  pub t2 : Text
  pub bytes : List ℕ

-- ---- the parts of a package, each a finite map
-- by number
abbrev pub SystemsPart : Type 0
SystemsPart = FinMap int_cmp System

-- by table name
abbrev pub ContentsPart : Type 0
ContentsPart = FinMap text_cmp Contents

-- the registry: the text of each table's kind
abbrev pub Kinds : Type 0
Kinds = FinMap text_cmp Text

-- the matrix set of each pyramid, by table name
abbrev pub SetsPart : Type 0
SetsPart = FinMap text_cmp MatrixSet

-- the matrices, by table and zoom
abbrev pub MatricesPart : Type 0
MatricesPart = FinMap level_cmp Grid

-- how often each extension row stands (Extensions)
abbrev pub ExtensionsPart : Type 0
ExtensionsPart = FinMap extension_cmp ℕ

-- the bytes of each tile
abbrev pub TilesPart : Type 0
TilesPart = FinMap tile_cmp (List ℕ)

-- the attribute rows, by table and number
abbrev pub RowsPart : Type 0
RowsPart = FinMap item_cmp AttributeRow

-- the media, by table and number
abbrev pub MediaPart : Type 0
MediaPart = FinMap item_cmp Medium

-- by mapping name
abbrev pub RelationsPart : Type 0
RelationsPart = FinMap text_cmp Relation

-- the mapping rows, a set (User Defined Mapping Tables)
abbrev pub PairingsPart : Type 0
PairingsPart = FinMap pairing_cmp ⊤

-- the state of each edition
abbrev pub EditionsPart : Type 0
EditionsPart = FinMap text_cmp Text

-- the staged pieces, by edition and number
abbrev pub PiecesPart : Type 0
PiecesPart = FinMap piece_cmp PieceRow

-- a package: its thirteen parts, of which no rule need hold
pub record Package : Type 0 where
  pub systems : SystemsPart
  pub contents : ContentsPart
  pub kinds : Kinds
  pub sets : SetsPart
  pub matrices : MatricesPart
  pub extensions : ExtensionsPart
  pub tiles : TilesPart
  pub rows : RowsPart
  pub media : MediaPart
  pub relations : RelationsPart
  pub pairings : PairingsPart
  pub editions : EditionsPart
  pub pieces : PiecesPart

-- ---- kinds of tables
-- the text by which the registry keeps a kind
abbrev pub kind_text : Kind → Text
kind_text Two = codes "two"
kind_text Other = codes "other"
kind_text Attributes = codes "attributes"
kind_text Media = codes "media"

-- the registry has the table under this kind
abbrev pub HasKind : Kinds → Text → Kind → Type 0
HasKind kinds table kind = get kinds table ≡ Some (kind_text kind)

-- whether the registry has the table under this kind
abbrev pub has_kind : Kinds → Text → Kind → Bool
has_kind kinds table kind = at_value (same_text (kind_text kind)) (get kinds table)

-- a pyramid is a table of kind `two` or `other`
abbrev pub IsPyramid : Kinds → Text → Type 0
IsPyramid kinds table = HasKind kinds table Two ⊎ HasKind kinds table Other

-- whether the table is a pyramid
abbrev pub is_pyramid : Kinds → Text → Bool
is_pyramid kinds table = has_kind kinds table Two || has_kind kinds table Other

-- ---- the extension rows of a package: of related tables, of each mapping, and of each pyramid with other zoom
-- intervals (Zoom Other Intervals) the extension row of `gpkgext_relations`, which each package has
abbrev pub general_extension : Extension
general_extension = record {
  table = Some (codes "gpkgext_relations");
  column = None;
  name = codes "gpkg_related_tables";
  definition = codes "OGC 18-000";
  scope = codes "read-write";
}

-- the extension row of a mapping
abbrev pub mapping_extension : Text → Extension
mapping_extension mapping = record {
  table = Some mapping;
  column = None;
  name = codes "gpkg_related_tables";
  definition = codes "OGC 18-000";
  scope = codes "read-write";
}

-- the extension row of a pyramid of kind `other`
abbrev pub zoom_extension : Text → Extension
zoom_extension table = record {
  table = Some table;
  column = Some (codes "tile_data");
  name = codes "gpkg_zoom_other";
  definition = codes "OGC 12-128r17";
  scope = codes "read-write";
}

-- ---- states of editions
-- the state of an edition that takes pieces
abbrev pub open_state : Text
open_state = codes "open"

-- the state of an edition whose pieces have taken effect
abbrev pub published_state : Text
published_state = codes "published"
