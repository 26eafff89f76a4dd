-- A package that meets the rules meets them with one part changed, where what they say of that part is shown.
use Rattle.std.specs.Prelude.{◌≡◌, None}
use Rattle.std.specs.FinMap.{get}
use Rattle.mm_definitions.specs.Bounds.{IsName, Profile}
use Rattle.mm_definitions.specs.Parts.{Each}
use Rattle.mm_definitions.specs.Package.{Package, TilesPart, RowsPart, MediaPart, RelationsPart, ExtensionsPart}
use Rattle.mm_definitions.specs.Package.{PairingsPart}
use Rattle.mm_definitions.specs.Package.{EditionsPart, PiecesPart, HasKind}
use Rattle.mm_definitions.specs.Rules.{Meets, TilesInside, PairingsJoin, RelationsSuited, ExactExtensions, Editions}
use Rattle.mm_definitions.specs.Rules.{TileWithin, RowWithin, MediumWithin, PairingWithin, ExtensionWithin}
use Rattle.mm_definitions.specs.Rules.{RelationWithin}
use Rattle.mm_definitions.specs.Rules.{EditionWithin, PieceWithin}
use Rattle.mm_definitions.specs.declared.commands.Kind.TheVariants as kinds

module _ (profile : Profile) (p : Package) (h : Meets profile p) where
  pub with_tiles : (tiles : TilesPart)
      → TilesInside p.matrices tiles
      → Each tiles TileWithin
      → Meets profile (record p { tiles = tiles })
  with_tiles tiles inside within = record {
    q1 = h.q1;
    q2 = h.q2;
    q3 = h.q3;
    q4 = h.q4;
    q5 = h.q5;
    q6 = h.q6;
    q7 = h.q7;
    q8 = h.q8;
    q9 = h.q9;
    q10 = inside;
    q11 = h.q11;
    q12 = h.q12;
    q13 = h.q13;
    q14 = h.q14;
    q15 = h.q15;
    q16 = record {
      systems = h.q16.systems;
      contents = h.q16.contents;
      kinds = h.q16.kinds;
      sets = h.q16.sets;
      matrices = h.q16.matrices;
      extensions = h.q16.extensions;
      tiles = within;
      rows = h.q16.rows;
      media = h.q16.media;
      relations = h.q16.relations;
      pairings = h.q16.pairings;
      editions = h.q16.editions;
      pieces = h.q16.pieces;
    };
  }

  pub with_rows : (rows : RowsPart)
      → Each rows (λ k _. HasKind p.kinds k.table kinds.Attributes)
      → PairingsJoin rows p.media p.relations p.pairings
      → Each rows RowWithin
      → Meets profile (record p { rows = rows })
  with_rows rows of_rows join within = record {
    q1 = h.q1;
    q2 = h.q2;
    q3 = h.q3;
    q4 = h.q4;
    q5 = h.q5;
    q6 = h.q6;
    q7 = h.q7;
    q8 = h.q8;
    q9 = h.q9;
    q10 = h.q10;
    q11 = record { of_rows = of_rows; of_media = h.q11.of_media };
    q12 = h.q12;
    q13 = join;
    q14 = h.q14;
    q15 = h.q15;
    q16 = record {
      systems = h.q16.systems;
      contents = h.q16.contents;
      kinds = h.q16.kinds;
      sets = h.q16.sets;
      matrices = h.q16.matrices;
      extensions = h.q16.extensions;
      tiles = h.q16.tiles;
      rows = within;
      media = h.q16.media;
      relations = h.q16.relations;
      pairings = h.q16.pairings;
      editions = h.q16.editions;
      pieces = h.q16.pieces;
    };
  }

  pub with_media : (media : MediaPart)
      → Each media (λ k _. HasKind p.kinds k.table kinds.Media)
      → PairingsJoin p.rows media p.relations p.pairings
      → Each media MediumWithin
      → Meets profile (record p { media = media })
  with_media media of_media join within = record {
    q1 = h.q1;
    q2 = h.q2;
    q3 = h.q3;
    q4 = h.q4;
    q5 = h.q5;
    q6 = h.q6;
    q7 = h.q7;
    q8 = h.q8;
    q9 = h.q9;
    q10 = h.q10;
    q11 = record { of_rows = h.q11.of_rows; of_media = of_media };
    q12 = h.q12;
    q13 = join;
    q14 = h.q14;
    q15 = h.q15;
    q16 = record {
      systems = h.q16.systems;
      contents = h.q16.contents;
      kinds = h.q16.kinds;
      sets = h.q16.sets;
      matrices = h.q16.matrices;
      extensions = h.q16.extensions;
      tiles = h.q16.tiles;
      rows = h.q16.rows;
      media = within;
      relations = h.q16.relations;
      pairings = h.q16.pairings;
      editions = h.q16.editions;
      pieces = h.q16.pieces;
    };
  }

  pub with_pairings : (pairings : PairingsPart)
      → PairingsJoin p.rows p.media p.relations pairings
      → Each pairings PairingWithin
      → Meets profile (record p { pairings = pairings })
  with_pairings pairings join within = record {
    q1 = h.q1;
    q2 = h.q2;
    q3 = h.q3;
    q4 = h.q4;
    q5 = h.q5;
    q6 = h.q6;
    q7 = h.q7;
    q8 = h.q8;
    q9 = h.q9;
    q10 = h.q10;
    q11 = h.q11;
    q12 = h.q12;
    q13 = join;
    q14 = h.q14;
    q15 = h.q15;
    q16 = record {
      systems = h.q16.systems;
      contents = h.q16.contents;
      kinds = h.q16.kinds;
      sets = h.q16.sets;
      matrices = h.q16.matrices;
      extensions = h.q16.extensions;
      tiles = h.q16.tiles;
      rows = h.q16.rows;
      media = h.q16.media;
      relations = h.q16.relations;
      pairings = within;
      editions = h.q16.editions;
      pieces = h.q16.pieces;
    };
  }

  pub with_relations : (relations : RelationsPart) → (extensions : ExtensionsPart) → (pairings : PairingsPart)
      → Each relations (λ m _. IsName m × (get p.contents m ≡ None))
      → RelationsSuited p.kinds relations
      → PairingsJoin p.rows p.media relations pairings
      → ExactExtensions p.kinds relations extensions
      → Each extensions ExtensionWithin
      → Each relations RelationWithin
      → Each pairings PairingWithin
      → Meets profile (record p { relations = relations; extensions = extensions; pairings = pairings })
  with_relations relations extensions pairings of_mappings suited join exact extensions_within relations_within
      pairings_within = record {
        q1 = h.q1;
        q2 = h.q2;
        q3 = h.q3;
        q4 = record { of_tables = h.q4.of_tables; of_mappings = of_mappings; of_editions = h.q4.of_editions };
        q5 = h.q5;
        q6 = h.q6;
        q7 = h.q7;
        q8 = h.q8;
        q9 = h.q9;
        q10 = h.q10;
        q11 = h.q11;
        q12 = suited;
        q13 = join;
        q14 = exact;
        q15 = h.q15;
        q16 = record {
          systems = h.q16.systems;
          contents = h.q16.contents;
          kinds = h.q16.kinds;
          sets = h.q16.sets;
          matrices = h.q16.matrices;
          extensions = extensions_within;
          tiles = h.q16.tiles;
          rows = h.q16.rows;
          media = h.q16.media;
          relations = relations_within;
          pairings = pairings_within;
          editions = h.q16.editions;
          pieces = h.q16.pieces;
        };
      }

  pub with_editions : (editions : EditionsPart) → (pieces : PiecesPart)
      → Each editions (λ e _. IsName e)
      → Editions profile editions pieces
      → Each editions EditionWithin
      → Each pieces PieceWithin
      → Meets profile (record p { editions = editions; pieces = pieces })
  with_editions editions pieces of_editions states editions_within pieces_within = record {
    q1 = h.q1;
    q2 = h.q2;
    q3 = h.q3;
    q4 = record { of_tables = h.q4.of_tables; of_mappings = h.q4.of_mappings; of_editions = of_editions };
    q5 = h.q5;
    q6 = h.q6;
    q7 = h.q7;
    q8 = h.q8;
    q9 = h.q9;
    q10 = h.q10;
    q11 = h.q11;
    q12 = h.q12;
    q13 = h.q13;
    q14 = h.q14;
    q15 = states;
    q16 = record {
      systems = h.q16.systems;
      contents = h.q16.contents;
      kinds = h.q16.kinds;
      sets = h.q16.sets;
      matrices = h.q16.matrices;
      extensions = h.q16.extensions;
      tiles = h.q16.tiles;
      rows = h.q16.rows;
      media = h.q16.media;
      relations = h.q16.relations;
      pairings = h.q16.pairings;
      editions = editions_within;
      pieces = pieces_within;
    };
  }
