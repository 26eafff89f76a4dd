-- The thirteen parts of rule 16, one a table: its query, the limits of the columns, and what they say of a package.
use Rattle.std.specs.Prelude.{◌==◌, ℕ, Bool, true, false, List, [], ◌∷◌, get_or, Option}
use Rattle.mm_definitions.specs.Bounds.{Profile, MostTileBytes, MostMediaBytes}
use Rattle.mm_definitions.specs.Parts.{Each}
use Rattle.mm_definitions.specs.Package.{Package}
use Rattle.mm_definitions.specs.Rules.{SystemWithin, ContentsWithin, KindWithin, SetWithin, MatrixWithin}
use Rattle.mm_definitions.specs.Rules.{ExtensionWithin, TileWithin, RowWithin, MediumWithin, RelationWithin}
use Rattle.mm_definitions.specs.Rules.{PairingWithin, EditionWithin, PieceWithin}
use Rattle.mm_walk.specs.InTurn.{chosen}
use Rattle.mm_column_limits.specs.declared.row_limits.Limit.{Limit}
use Rattle.mm_column_limits.specs.declared.parts.TheConstants.{SYSTEMS, CONTENTS, KINDS, SETS, MATRICES, EXTENSIONS}
use Rattle.mm_column_limits.specs.declared.parts.TheConstants.{TILES}
use Rattle.mm_column_limits.specs.declared.parts.TheConstants.{ROWS, MEDIA, RELATIONS, PAIRINGS, EDITIONS, PIECES}
use Rattle.mm_column_limits.specs.declared.parts.TheConstants.{TILE_PLACES, MEDIA_TYPES}
use Rattle.mm_column_limits.specs.Longest.{is_few}

-- what is chosen of a table whose bytes are asked for, and of one where all are known to be few
abbrev pub by_bytes : {T : Type 0} → Bool → T → T → T
by_bytes true asked few = few
by_bytes false asked few = asked

-- the query of each table, from 1 on, by what is known of bytes
abbrev pub query_of : Option ℕ → ℕ → List ℕ
query_of longest k = get_or ([] ∷ SYSTEMS.0.now ∷ CONTENTS.0.now ∷ KINDS.0.now ∷ SETS.0.now ∷ MATRICES.0.now
    ∷ EXTENSIONS.0.now ∷ by_bytes (is_few longest MostTileBytes) TILES.0.now TILE_PLACES.0.now ∷ ROWS.0.now
    ∷ by_bytes (is_few longest MostMediaBytes) MEDIA.0.now MEDIA_TYPES.0.now
    ∷ RELATIONS.0.now ∷ PAIRINGS.0.now ∷ EDITIONS.0.now ∷ PIECES.0.now ∷ []) k []

-- the limits of its columns
abbrev pub limits_of : Option ℕ → ℕ → List Limit
limits_of longest k = get_or ([] ∷ SYSTEMS.1.now ∷ CONTENTS.1.now ∷ KINDS.1.now ∷ SETS.1.now ∷ MATRICES.1.now
    ∷ EXTENSIONS.1.now ∷ by_bytes (is_few longest MostTileBytes) TILES.1.now TILE_PLACES.1.now ∷ ROWS.1.now
    ∷ by_bytes (is_few longest MostMediaBytes) MEDIA.1.now MEDIA_TYPES.1.now
    ∷ RELATIONS.1.now ∷ PAIRINGS.1.now ∷ EDITIONS.1.now ∷ PIECES.1.now ∷ []) k []

-- part k, from 1 to 12; each other number is 13
unfoldable pub part : Profile → ℕ → Package → Type 0
part profile k p =
    chosen (k == 1) (Each p.systems SystemWithin)
    (chosen (k == 2) (Each p.contents (ContentsWithin profile))
    (chosen (k == 3) (Each p.kinds KindWithin)
    (chosen (k == 4) (Each p.sets (SetWithin profile))
    (chosen (k == 5) (Each p.matrices (MatrixWithin profile))
    (chosen (k == 6) (Each p.extensions ExtensionWithin)
    (chosen (k == 7) (Each p.tiles TileWithin)
    (chosen (k == 8) (Each p.rows RowWithin)
    (chosen (k == 9) (Each p.media MediumWithin)
    (chosen (k == 10) (Each p.relations RelationWithin)
    (chosen (k == 11) (Each p.pairings PairingWithin)
    (chosen (k == 12) (Each p.editions EditionWithin)
    (Each p.pieces PieceWithin))))))))))))
