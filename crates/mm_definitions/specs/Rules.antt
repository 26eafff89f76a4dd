-- The rules that a whole package meets, Q1 to Q16. Each reads only the parts that it names.
use Rattle.std.specs.Prelude.{◌≡◌, ◌≢◌, ℕ, ◌≤◌, ℤ, pos, negsuc, ◌+ℤ◌, ◌-ℤ◌, ◌*ℤ◌, ◌≤ℤ◌, ◌<ℤ◌}
use Rattle.std.specs.Prelude.{◌⊎◌, List, [], Option}
use Rattle.std.specs.Prelude.{Some, None, IfSome, codes, ⊤}
use Rattle.std.specs.FinMap.{get}
use Rattle.mm_definitions.specs.Bounds.{Profile, IsFrom, IsCoordinate, IsPixelSize, IsZoom, IsMatrixSide, IsTileSide}
use Rattle.mm_definitions.specs.Bounds.{IsTilePlace, IsId, IsSystemNumber, IsAmount, IsTileBytes, IsMediaBytes}
use Rattle.mm_definitions.specs.Bounds.{IsName, IsClean, IsIdentifier, IsSystemName, IsDefinition, IsRemark}
use Rattle.mm_definitions.specs.Bounds.{IsContentType, MostPieces}
use Rattle.mm_definitions.specs.Keys.{Text, Level, level, TileKey, Item, item, Pairing, PieceKey, piece, Extension}
use Rattle.mm_definitions.specs.Parts.{Each, Has, Stands}
use Rattle.mm_definitions.specs.Package.{Package, System, Contents, Box, MatrixSet, Grid, AttributeRow, Medium}
use Rattle.mm_definitions.specs.Package.{Relation, PieceRow, SystemsPart, ContentsPart, Kinds, SetsPart, MatricesPart}
use Rattle.mm_definitions.specs.Package.{ExtensionsPart, TilesPart, RowsPart, MediaPart, RelationsPart, PairingsPart}
use Rattle.mm_definitions.specs.Package.{EditionsPart, PiecesPart, HasKind, IsPyramid, general_extension}
use Rattle.mm_definitions.specs.Package.{mapping_extension, zoom_extension, open_state, published_state}
use Rattle.mm_definitions.specs.Pieces.{piece_row}
use Rattle.mm_definitions.specs.Within.{IsPieceWithin, Takes}
use Rattle.mm_definitions.specs.Stamp.{IsSomeStamp}
use Rattle.mm_definitions.specs.declared.commands.Kind.{Kind}
use Rattle.mm_definitions.specs.declared.commands.Kind.TheVariants.{Two, Other, Attributes, Media}
use Rattle.mm_definitions.specs.declared.commands.Piece.{Piece}

-- ---- 1: the three given systems stand
-- the given system 4326, of longitude and latitude
abbrev pub geographic : System
geographic = record {
  name = codes "WGS 84 geographic";
  organization = codes "EPSG";
  organization_id = pos 4326;
  definition = codes "EPSG:4326";
  description = codes "longitude and latitude";
}

-- the given system -1, of undefined Cartesian coordinates
abbrev pub undefined_cartesian : System
undefined_cartesian = record {
  name = codes "Undefined Cartesian";
  organization = codes "NONE";
  organization_id = negsuc 0;
  definition = codes "undefined";
  description = codes "undefined Cartesian coordinates";
}

-- the given system 0, of undefined geographic coordinates
abbrev pub undefined_geographic : System
undefined_geographic = record {
  name = codes "Undefined geographic";
  organization = codes "NONE";
  organization_id = pos 0;
  definition = codes "undefined";
  description = codes "undefined geographic coordinates";
}

-- 4326, -1 and 0 stand with these values
pub record GivenSystems (systems : SystemsPart) : Type 0 where
  pub geographic_stands : Has systems (pos 4326) geographic
  pub cartesian_stands : Has systems (negsuc 0) undefined_cartesian
  pub undefined_stands : Has systems (pos 0) undefined_geographic

-- ---- 2: each system that is named stands, and no pyramid names a geographic one
-- the number is neither of the two given geographic systems
abbrev pub IsPlane : ℤ → Type 0
IsPlane system = (system ≢ pos 0) × (system ≢ pos 4326)

-- the table may name this system
abbrev pub MayName : SystemsPart → Kinds → Text → ℤ → Type 0
MayName systems kinds table system = Stands systems system × (IsPyramid kinds table → IsPlane system)

-- each contents row that has a system, and each matrix set, names one that its table may name
pub record NamedSystems (systems : SystemsPart) (contents : ContentsPart) (kinds : Kinds) (sets : SetsPart) : Type 0
  where
    pub of_contents : Each contents (λ table c. IfSome c.system (MayName systems kinds table))
    pub of_sets : Each sets (λ table s. MayName systems kinds table s.system)

-- ---- 3: identifiers differ
-- two tables of one identifier are the same table
abbrev pub DistinctIdentifiers : ContentsPart → Type 0
DistinctIdentifiers contents = Each contents
    (λ table c. Each contents (λ other d. c.identifier ≡ d.identifier → table ≡ other))

-- ---- 4: tables, mappings and editions have names, and no mapping the name of a table
-- each name keeps the limits of names, and no mapping has the name of a table
pub record ProperNames (contents : ContentsPart) (relations : RelationsPart) (editions : EditionsPart) : Type 0 where
  pub of_tables : Each contents (λ table _. IsName table)
  pub of_mappings : Each relations (λ mapping _. IsName mapping × (get contents mapping ≡ None))
  pub of_editions : Each editions (λ edition _. IsName edition)

-- ---- 5: the registry, the contents and the matrix sets speak of the same tables
-- the contents row of a table that is no pyramid: data_type `attributes`, no extent, no system, and no matrix set
-- beside it
abbrev pub IsUnplaced : Contents → Option MatrixSet → Type 0
IsUnplaced c set = (c.data_type ≡ codes "attributes") × (c.min_x ≡ None) × (c.min_y ≡ None) × (c.max_x ≡ None)
    × (c.max_y ≡ None) × (c.system ≡ None) × (set ≡ None)

-- the contents row of a pyramid: data_type `tiles`, and the system and the extent of its matrix set
pub record IsPlacedAt (c : Contents) (s : MatrixSet) : Type 0 where
  pub data_type : c.data_type ≡ codes "tiles"
  pub system : c.system ≡ Some s.system
  pub min_x : c.min_x ≡ Some s.box.min_x
  pub min_y : c.min_y ≡ Some s.box.min_y
  pub max_x : c.max_x ≡ Some s.box.max_x
  pub max_y : c.max_y ≡ Some s.box.max_y

-- a pyramid has a matrix set, and its contents row tells the same
abbrev pub IsPlaced : Contents → Option MatrixSet → Type 0
IsPlaced c None = ⊥
IsPlaced c (Some s) = IsPlacedAt c s

-- what a table of this kind has as its contents row and, if any, its matrix set
abbrev pub Suits : Kind → Contents → Option MatrixSet → Type 0
Suits Two = IsPlaced
Suits Other = IsPlaced
Suits Attributes = IsUnplaced
Suits Media = IsUnplaced

-- each contents row has a kind that it and its matrix set, if any, suit; no other table has a kind or a matrix set
pub record Registry (contents : ContentsPart) (kinds : Kinds) (sets : SetsPart) : Type 0 where
  pub registered : Each contents (λ table c. (kind : Kind) × HasKind kinds table kind × Suits kind c (get sets table))
  pub of_kinds : Each kinds (λ table _. Stands contents table)
  pub of_sets : Each sets (λ table _. Stands contents table)

-- ---- 6: extents are not empty
-- where both bounds stand the lower one is less
abbrev pub IsOrdered : Option ℤ → Option ℤ → Type 0
IsOrdered low high = IfSome low (λ a. IfSome high (λ b. a <ℤ b))

-- no extent is empty, of a matrix set or of a contents row that has bounds
pub record Extents (contents : ContentsPart) (sets : SetsPart) : Type 0 where
  pub of_sets : Each sets (λ _ s. (s.box.min_x <ℤ s.box.max_x) × (s.box.min_y <ℤ s.box.max_y))
  pub of_contents : Each contents (λ _ c. IsOrdered c.min_x c.max_x × IsOrdered c.min_y c.max_y)

-- ---- 7: each matrix belongs to a pyramid and covers its extent exactly (Tile Matrix, in whole numbers)
-- the sides of the extent are those of all pixels of the matrix
pub record Fits (b : Box) (g : Grid) : Type 0 where
  pub across : b.max_x -ℤ b.min_x ≡ (g.matrix_width *ℤ g.tile_width) *ℤ g.pixel_x_size
  pub down : b.max_y -ℤ b.min_y ≡ (g.matrix_height *ℤ g.tile_height) *ℤ g.pixel_y_size

-- the pyramid has a matrix set, and the matrix covers its extent exactly
abbrev pub FitsIn : Option MatrixSet → Grid → Type 0
FitsIn None g = ⊥
FitsIn (Some s) g = Fits s.box g

-- each matrix is of a pyramid, and fits in its matrix set
abbrev pub MatricesFit : Kinds → SetsPart → MatricesPart → Type 0
MatricesFit kinds sets matrices = Each matrices (λ k g. IsPyramid kinds k.table × FitsIn (get sets k.table) g)

-- ---- 8: of any two zooms the higher has the smaller pixels (Tile Matrix)
-- the second matrix has the smaller pixels, both across and down
pub record IsFiner (g h : Grid) : Type 0 where
  pub across : h.pixel_x_size <ℤ g.pixel_x_size
  pub down : h.pixel_y_size <ℤ g.pixel_y_size

-- of two matrices of a table the one at the higher zoom has the smaller pixels, both across and down
abbrev pub HigherIsFiner : MatricesPart → Type 0
HigherIsFiner matrices = (table : Text) (low high : ℤ) (g h : Grid) → Has matrices (level table low) g → Has matrices
    (level table high) h → low <ℤ high → IsFiner g h

-- ---- 9: in a pyramid of kind `two` the next zoom halves the pixels (Zoom Levels)
-- the second matrix has half the pixel sizes, both across and down
pub record IsHalved (g h : Grid) : Type 0 where
  pub across : g.pixel_x_size ≡ pos 2 *ℤ h.pixel_x_size
  pub down : g.pixel_y_size ≡ pos 2 *ℤ h.pixel_y_size

-- where a pyramid of kind `two` has matrices at a zoom and the next, the next has half the pixel sizes, both across and
-- down
abbrev pub NextIsHalved : Kinds → MatricesPart → Type 0
NextIsHalved kinds matrices = (table : Text) (zoom : ℤ) (g h : Grid) → HasKind kinds table Two → Has matrices
    (level table zoom) g → Has matrices (level table (zoom +ℤ pos 1)) h → IsHalved g h

-- ---- 10: each tile lies in the matrix at its zoom; column 0, row 0 is the upper left, and tiles may be missing (Tile
-- Pyramid User Data Tables) there is a matrix, and it has this column and this row
abbrev pub IsInside : Option Grid → ℤ → ℤ → Type 0
IsInside None column row = ⊥
IsInside (Some g) column row = (pos 0 ≤ℤ column) × (column <ℤ g.matrix_width) × (pos 0 ≤ℤ row)
    × (row <ℤ g.matrix_height)

-- each tile has a matrix at its zoom and lies inside it
abbrev pub TilesInside : MatricesPart → TilesPart → Type 0
TilesInside matrices tiles = Each tiles (λ k _. IsInside (get matrices (level k.table k.zoom)) k.column k.row)

-- ---- 11: rows and media belong to tables of their kind
-- each row is of a table of kind `attributes`, and each medium of one of kind `media`
pub record Items (kinds : Kinds) (rows : RowsPart) (media : MediaPart) : Type 0 where
  pub of_rows : Each rows (λ k _. HasKind kinds k.table Attributes)
  pub of_media : Each media (λ k _. HasKind kinds k.table Media)

-- ---- 12: relations join tables of the kinds that their names ask for (Media, Simple Attributes)
-- the base is no pyramid, the related table is of the kind that the name asks for, and both are joined by `id`
pub record IsSuited (kinds : Kinds) (r : Relation) : Type 0 where
  pub base : HasKind kinds r.base Attributes ⊎ HasKind kinds r.base Media
  pub related : ((r.name ≡ codes "media") × HasKind kinds r.related Media) ⊎ ((r.name ≡ codes "simple_attributes") × HasKind kinds r.related Attributes)
  pub base_column : r.base_column ≡ codes "id"
  pub related_column : r.related_column ≡ codes "id"

-- each relation joins tables of such kinds, both by the column `id`
abbrev pub RelationsSuited : Kinds → RelationsPart → Type 0
RelationsSuited kinds relations = Each relations (λ _ r. IsSuited kinds r)

-- ---- 13: each mapping row names a relation, and both its ends stand
-- the table has a row or a medium of this number
abbrev pub HasItem : RowsPart → MediaPart → Text → ℤ → Type 0
HasItem rows media table id = Stands rows (item table id) ⊎ Stands media (item table id)

-- there is such a relation, and its base and related table have the items that the mapping row names
abbrev pub Joins : RowsPart → MediaPart → Option Relation → Pairing → Type 0
Joins rows media None k = ⊥
Joins rows media (Some r) k = HasItem rows media r.base k.base_id × HasItem rows media r.related k.related_id

-- each mapping row joins two items by its mapping's relation
abbrev pub PairingsJoin : RowsPart → MediaPart → RelationsPart → PairingsPart → Type 0
PairingsJoin rows media relations pairings = Each pairings (λ k _. Joins rows media (get relations k.mapping) k)

-- ---- 14: the extension rows are exactly those that are wanted, each once
-- it is the row of related tables, or that of a mapping that stands, or that of a pyramid of kind `other`
abbrev pub IsWanted : Kinds → RelationsPart → Extension → Type 0
IsWanted kinds relations e =
    (e ≡ general_extension)
    ⊎ (((mapping : Text) × Stands relations mapping × (e ≡ mapping_extension mapping))
    ⊎ ((table : Text) × HasKind kinds table Other × (e ≡ zoom_extension table)))

-- no other extension row stands than the wanted ones, and each of these stands once
pub record ExactExtensions (kinds : Kinds) (relations : RelationsPart) (extensions : ExtensionsPart) : Type 0 where
  pub only : Each extensions (λ e count. IsWanted kinds relations e × (count ≡ 1))
  pub all : (e : Extension) → IsWanted kinds relations e → Has extensions e 1

-- ---- 15: editions and their pieces
-- the numbers of the pieces are those from 1 to n
abbrev pub IsNumbered : PiecesPart → Text → ℕ → Type 0
IsNumbered pieces edition n = (number : ℤ) → (Stands pieces (piece edition number) → IsFrom (pos 1) (pos n) number)
    × (IsFrom (pos 1) (pos n) number → Stands pieces (piece edition number))

-- the row spells a piece that the profile takes, and whose fields are within their limits
abbrev pub IsSpelled : Profile → PieceRow → Type 0
IsSpelled profile r = (q : Piece) × (r ≡ piece_row q) × IsPieceWithin profile q × Takes profile q

-- each edition is open or published; an open one has pieces 1 to n, n at most 4096; only open ones have pieces, each
-- spelled
pub record Editions (profile : Profile) (editions : EditionsPart) (pieces : PiecesPart) : Type 0 where
  pub states : Each editions (λ _ state. (state ≡ open_state) ⊎ (state ≡ published_state))
  pub numbered : (edition : Text) → Has editions edition open_state → (n : ℕ) × (n ≤ MostPieces)
      × IsNumbered pieces edition n
  pub of_open : Each pieces (λ k _. Has editions k.edition open_state)
  pub spelled : Each pieces (λ _ r. IsSpelled profile r)

-- ---- 16: every name, number, text and length is within its limits
-- the number of one of the three given systems
abbrev pub IsGiven : ℤ → Type 0
IsGiven id = (id ≡ pos 4326) ⊎ ((id ≡ negsuc 0) ⊎ (id ≡ pos 0))

-- the numbers of a system, which may be below 1 in a given one
abbrev pub AreSystemNumbers : ℤ → ℤ → Type 0
AreSystemNumbers id organization_id = (IsId id × IsId organization_id) ⊎ (IsGiven id × IsSystemNumber organization_id)

-- a reference system, by its number
pub record SystemWithin (id : ℤ) (s : System) : Type 0 where
  pub numbers : AreSystemNumbers id s.organization_id
  pub name : IsSystemName s.name
  pub organization : IsSystemName s.organization
  pub definition : IsDefinition s.definition
  pub description : IsRemark s.description

-- a contents row, by table name: bounds in the profile's unit, an empty description, and a stamp as last_change
pub record ContentsWithin (profile : Profile) (key : Text) (c : Contents) : Type 0 where
  pub table : IsName key
  pub data_type : IsClean c.data_type
  pub identifier : IsIdentifier c.identifier
  pub description : c.description ≡ []
  pub last_change : IsSomeStamp c.last_change
  pub min_x : IfSome c.min_x (IsCoordinate profile)
  pub min_y : IfSome c.min_y (IsCoordinate profile)
  pub max_x : IfSome c.max_x (IsCoordinate profile)
  pub max_y : IfSome c.max_y (IsCoordinate profile)
  pub system : IfSome c.system IsSystemNumber

-- an entry of the registry: the table's name, and any text as its kind
abbrev pub KindWithin : Text → Text → Type 0
KindWithin table kind = IsName table × IsClean kind

-- four coordinates in the profile's unit, in whatever order
pub record BoxWithin (profile : Profile) (b : Box) : Type 0 where
  pub min_x : IsCoordinate profile b.min_x
  pub min_y : IsCoordinate profile b.min_y
  pub max_x : IsCoordinate profile b.max_x
  pub max_y : IsCoordinate profile b.max_y

-- a matrix set, by table name, with its extent in the profile's unit
pub record SetWithin (profile : Profile) (key : Text) (s : MatrixSet) : Type 0 where
  pub table : IsName key
  pub system : IsSystemNumber s.system
  pub box : BoxWithin profile s.box

-- a matrix, by table and zoom, with its pixel sizes in the profile's unit
pub record MatrixWithin (profile : Profile) (k : Level) (g : Grid) : Type 0 where
  pub table : IsName k.table
  pub zoom : IsZoom k.zoom
  pub matrix_width : IsMatrixSide g.matrix_width
  pub matrix_height : IsMatrixSide g.matrix_height
  pub tile_width : IsTileSide g.tile_width
  pub tile_height : IsTileSide g.tile_height
  pub pixel_x_size : IsPixelSize profile g.pixel_x_size
  pub pixel_y_size : IsPixelSize profile g.pixel_y_size

-- the table_name of an extension row is only a text
pub record ExtensionWithin (e : Extension) (count : ℕ) : Type 0 where
  pub table : IfSome e.table IsClean
  pub column : IfSome e.column IsClean
  pub name : IsClean e.name
  pub definition : IsClean e.definition
  pub scope : IsClean e.scope

-- a tile, by its place, with its bytes
pub record TileWithin (k : TileKey) (content : List ℕ) : Type 0 where
  pub table : IsName k.table
  pub zoom : IsZoom k.zoom
  pub column : IsTilePlace k.column
  pub row : IsTilePlace k.row
  pub bytes : IsTileBytes content

-- an attribute row, by table and number
pub record RowWithin (k : Item) (r : AttributeRow) : Type 0 where
  pub table : IsName k.table
  pub id : IsId k.id
  pub title : IsRemark r.title
  pub note : IsRemark r.note
  pub amount : IsAmount r.amount

-- a medium, by table and number
pub record MediumWithin (k : Item) (m : Medium) : Type 0 where
  pub table : IsName k.table
  pub id : IsId k.id
  pub bytes : IsMediaBytes m.bytes
  pub content_type : IsContentType m.content_type

-- a relation, by mapping name; of its columns and its own name only that they are texts
pub record RelationWithin (key : Text) (r : Relation) : Type 0 where
  pub mapping : IsName key
  pub base : IsName r.base
  pub related : IsName r.related
  pub base_column : IsClean r.base_column
  pub related_column : IsClean r.related_column
  pub name : IsClean r.name

-- a mapping row, which is a key alone
pub record PairingWithin (k : Pairing) (u : ⊤) : Type 0 where
  pub mapping : IsName k.mapping
  pub base_id : IsId k.base_id
  pub related_id : IsId k.related_id

-- an edition's name, and any text as its state
abbrev pub EditionWithin : Text → Text → Type 0
EditionWithin edition state = IsName edition × IsClean state

-- all else of a piece is for rule 15
abbrev pub PieceWithin : PieceKey → PieceRow → Type 0
PieceWithin k r = IsName k.edition × IsId k.number

-- each entry of each part is within its limits
pub record Limits (profile : Profile) (p : Package) : Type 0 where
  pub systems : Each p.systems SystemWithin
  pub contents : Each p.contents (ContentsWithin profile)
  pub kinds : Each p.kinds KindWithin
  pub sets : Each p.sets (SetWithin profile)
  pub matrices : Each p.matrices (MatrixWithin profile)
  pub extensions : Each p.extensions ExtensionWithin
  pub tiles : Each p.tiles TileWithin
  pub rows : Each p.rows RowWithin
  pub media : Each p.media MediumWithin
  pub relations : Each p.relations RelationWithin
  pub pairings : Each p.pairings PairingWithin
  pub editions : Each p.editions EditionWithin
  pub pieces : Each p.pieces PieceWithin

-- All sixteen.
pub record Meets (profile : Profile) (p : Package) : Type 0 where
  pub q1 : GivenSystems p.systems
  pub q2 : NamedSystems p.systems p.contents p.kinds p.sets
  pub q3 : DistinctIdentifiers p.contents
  pub q4 : ProperNames p.contents p.relations p.editions
  pub q5 : Registry p.contents p.kinds p.sets
  pub q6 : Extents p.contents p.sets
  pub q7 : MatricesFit p.kinds p.sets p.matrices
  pub q8 : HigherIsFiner p.matrices
  pub q9 : NextIsHalved p.kinds p.matrices
  pub q10 : TilesInside p.matrices p.tiles
  pub q11 : Items p.kinds p.rows p.media
  pub q12 : RelationsSuited p.kinds p.relations
  pub q13 : PairingsJoin p.rows p.media p.relations p.pairings
  pub q14 : ExactExtensions p.kinds p.relations p.extensions
  pub q15 : Editions profile p.editions p.pieces
  pub q16 : Limits profile p
