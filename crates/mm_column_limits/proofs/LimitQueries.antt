-- What the texts of the queries compile to.
use Rattle.std.proofs.Common.{ℕ, List, [], ◌∷◌, codes, refl}
use Rattle.sql_forms.specs.Collation.TheVariants.{Binary}
use Rattle.sql_forms.specs.Keys.{ascending}
use Rattle.sql_forms.specs.Key.{Key}
use Rattle.sql_forms.specs.Term.{Term, col}
use Rattle.sql_forms.specs.Query.{Join, inner, left, end}
use Rattle.sqlite.specs.Listing.{understood}
use Rattle.sql_forms.specs.Compute.{everything}
use Rattle.mm_walk.specs.RowTests.{IsQuery}
use Rattle.mm_store.specs.Tables.{schema}
use Rattle.mm_column_limits.specs.declared.parts.TheConstants.{SYSTEMS, CONTENTS, KINDS, SETS, MATRICES, EXTENSIONS}
use Rattle.mm_column_limits.specs.declared.parts.TheConstants.{TILES}
use Rattle.mm_column_limits.specs.declared.parts.TheConstants.{ROWS, MEDIA, RELATIONS, PAIRINGS, EDITIONS, PIECES}
use Rattle.mm_column_limits.specs.declared.parts.TheConstants.{TILE_PLACES, MEDIA_TYPES}
use Rattle.mm_walk.proofs.Terms.{equals}
use Rattle.mm_walk.proofs.Quiet.{IsQuiet}

-- the text is this query of all rows of its tables, whatever the schema
abbrev pub Asks : List ℕ → Join → List Term → List (Term × Key) → List (List ℕ) → Type 0
Asks sql from project order names = IsQuery schema sql from [] project order names × IsQuiet sql

pub systems : Asks SYSTEMS.0.now (inner 0 end) (col 1 0 ∷ col 1 1 ∷ col 1 3 ∷ col 1 4 ∷ col 1 5 ∷ col 1 6 ∷ [])
    ((col 1 0, ascending Binary) ∷ []) (codes "srs_id" ∷ codes "srs_name" ∷ codes "organization" ∷ codes
    "organization_coordsys_id" ∷ codes "definition" ∷ codes "description" ∷ [])
unfolding understood everything
systems = (record { compiled = refl; plain = (refl, refl); unlisted = refl }, λ schema base. refl)

pub contents : Asks CONTENTS.0.now (inner 1 end) (col 1 1 ∷ col 1 2 ∷ col 1 3 ∷ col 1 4 ∷ col 1 5 ∷ col 1 6 ∷ col 1 7
    ∷ col 1 8 ∷ col 1 9 ∷ col 1 10 ∷ [])
    ((col 1 1, ascending Binary) ∷ []) (codes "table_name" ∷ codes "data_type" ∷ codes "identifier" ∷ codes
    "description" ∷ codes "last_change" ∷ codes "min_x" ∷ codes "min_y" ∷ codes "max_x" ∷ codes "max_y" ∷ codes
    "srs_id" ∷ [])
unfolding understood everything
contents = (record { compiled = refl; plain = (refl, refl); unlisted = refl }, λ schema base. refl)

pub kinds : Asks KINDS.0.now (inner 13 end) (col 1 1 ∷ col 1 2 ∷ [])
    ((col 1 1, ascending Binary) ∷ []) (codes "table_name" ∷ codes "kind" ∷ [])
unfolding understood everything
kinds = (record { compiled = refl; plain = (refl, refl); unlisted = refl }, λ schema base. refl)

pub sets : Asks SETS.0.now (inner 4 end) (col 1 1 ∷ col 1 2 ∷ col 1 3 ∷ col 1 4 ∷ col 1 5 ∷ col 1 6 ∷ [])
    ((col 1 1, ascending Binary) ∷ []) (codes "table_name" ∷ codes "srs_id" ∷ codes "min_x" ∷ codes "min_y" ∷ codes
    "max_x" ∷ codes "max_y" ∷ [])
unfolding understood everything
sets = (record { compiled = refl; plain = (refl, refl); unlisted = refl }, λ schema base. refl)

pub matrices : Asks MATRICES.0.now (inner 6 end) (col 1 1 ∷ col 1 2 ∷ col 1 3 ∷ col 1 4 ∷ col 1 5 ∷ col 1 6 ∷ col 1 7
    ∷ col 1 8 ∷ [])
    ((col 1 1, ascending Binary) ∷ (col 1 2, ascending Binary) ∷ [])
    (codes "table_name" ∷ codes "zoom_level" ∷ codes "matrix_width" ∷ codes "matrix_height" ∷ codes "tile_width"
    ∷ codes "tile_height" ∷ codes "pixel_x_size" ∷ codes "pixel_y_size" ∷ [])
unfolding understood everything
matrices = (record { compiled = refl; plain = (refl, refl); unlisted = refl }, λ schema base. refl)

pub extensions : Asks EXTENSIONS.0.now (inner 8 end) (col 1 1 ∷ col 1 2 ∷ col 1 3 ∷ col 1 4 ∷ col 1 5 ∷ [])
    [] (codes "table_name" ∷ codes "column_name" ∷ codes "extension_name" ∷ codes "definition" ∷ codes "scope" ∷ [])
unfolding understood everything
extensions = (record { compiled = refl; plain = (refl, refl); unlisted = refl }, λ schema base. refl)

pub tiles : Asks TILES.0.now (inner 15 (left 27 (equals 2 0 1 5 ∷ []) end)) (col 1 1 ∷ col 1 2 ∷ col 1 3 ∷ col 1 4 ∷
    col 2 3 ∷ [])
    ((col 1 1, ascending Binary) ∷ (col 1 2, ascending Binary) ∷ (col 1 3, ascending Binary)
    ∷ (col 1 4, ascending Binary) ∷ []) (codes "table_name" ∷ codes "zoom_level" ∷ codes "tile_column" ∷ codes
    "tile_row" ∷ codes "data" ∷ [])
unfolding understood everything
tiles = (record { compiled = refl; plain = (refl, refl); unlisted = refl }, λ schema base. refl)

pub tile_places : Asks TILE_PLACES.0.now (inner 15 end) (col 1 1 ∷ col 1 2 ∷ col 1 3 ∷ col 1 4 ∷ [])
    [] (codes "table_name" ∷ codes "zoom_level" ∷ codes "tile_column" ∷ codes "tile_row" ∷ [])
unfolding understood everything
tile_places = (record { compiled = refl; plain = (refl, refl); unlisted = refl }, λ schema base. refl)

pub rows : Asks ROWS.0.now (inner 17 end) (col 1 1 ∷ col 1 2 ∷ col 1 3 ∷ col 1 4 ∷ col 1 5 ∷ [])
    ((col 1 1, ascending Binary) ∷ (col 1 2, ascending Binary) ∷ []) (codes "table_name" ∷ codes "id" ∷ codes "title"
    ∷ codes "note" ∷ codes "amount" ∷ [])
unfolding understood everything
rows = (record { compiled = refl; plain = (refl, refl); unlisted = refl }, λ schema base. refl)

pub media : Asks MEDIA.0.now (inner 19 (left 27 (equals 2 0 1 3 ∷ []) end)) (col 1 1 ∷ col 1 2 ∷ col 2 3 ∷ col 1 4 ∷ [])
    ((col 1 1, ascending Binary) ∷ (col 1 2, ascending Binary) ∷ []) (codes "table_name" ∷ codes "id" ∷ codes "data" ∷
    codes "content_type" ∷ [])
unfolding understood everything
media = (record { compiled = refl; plain = (refl, refl); unlisted = refl }, λ schema base. refl)

pub media_types : Asks MEDIA_TYPES.0.now (inner 19 end) (col 1 1 ∷ col 1 2 ∷ col 1 4 ∷ [])
    [] (codes "table_name" ∷ codes "id" ∷ codes "content_type" ∷ [])
unfolding understood everything
media_types = (record { compiled = refl; plain = (refl, refl); unlisted = refl }, λ schema base. refl)

pub relations : Asks RELATIONS.0.now (inner 10 end) (col 1 7 ∷ col 1 2 ∷ col 1 3 ∷ col 1 4 ∷ col 1 5 ∷ col 1 6 ∷ [])
    ((col 1 7, ascending Binary) ∷ []) (codes "mapping_table_name" ∷ codes "base_table_name" ∷ codes
    "base_primary_column" ∷ codes "related_table_name" ∷ codes "related_primary_column" ∷ codes "relation_name" ∷ [])
unfolding understood everything
relations = (record { compiled = refl; plain = (refl, refl); unlisted = refl }, λ schema base. refl)

pub pairings : Asks PAIRINGS.0.now (inner 21 end) (col 1 1 ∷ col 1 2 ∷ col 1 3 ∷ [])
    ((col 1 1, ascending Binary) ∷ (col 1 2, ascending Binary) ∷ (col 1 3, ascending Binary) ∷ []) (codes "mapping" ∷
    codes "base_id" ∷ codes "related_id" ∷ [])
unfolding understood everything
pairings = (record { compiled = refl; plain = (refl, refl); unlisted = refl }, λ schema base. refl)

pub editions : Asks EDITIONS.0.now (inner 23 end) (col 1 1 ∷ col 1 2 ∷ [])
    ((col 1 1, ascending Binary) ∷ []) (codes "name" ∷ codes "state" ∷ [])
unfolding understood everything
editions = (record { compiled = refl; plain = (refl, refl); unlisted = refl }, λ schema base. refl)

pub pieces : Asks PIECES.0.now (inner 25 end) (col 1 1 ∷ col 1 2 ∷ [])
    ((col 1 1, ascending Binary) ∷ (col 1 2, ascending Binary) ∷ []) (codes "edition" ∷ codes "piece_no" ∷ [])
unfolding understood everything
pieces = (record { compiled = refl; plain = (refl, refl); unlisted = refl }, λ schema base. refl)
