-- The SELECT statements.
use Rattle.std.proofs.Common.{ℕ, [], ◌∷◌, codes, true, false, pos, refl}
use Rattle.sqlite.specs.declared.types.Value.TheVariants.{Int}
use Rattle.sql_forms.specs.Collation.TheVariants.{Binary}
use Rattle.sql_forms.specs.CompareOp.TheVariants.{Eq, Lt, Gt}
use Rattle.sqlite.specs.Term.{Term, lit, col, op1, op2}
use Rattle.sqlite.specs.Query.{inner, counted, end}
use Rattle.sql_forms.specs.BinaryOp.TheVariants.{Compare}
use Rattle.sql_forms.specs.UnaryOp.TheVariants.{Not}
use Rattle.sql_forms.specs.Forms.{query, no_limit}
use Rattle.sqlite.specs.Listing.{understood}
use Rattle.sql_forms.specs.Compute.{everything}
use Rattle.sql_forms.specs.Forms.{equals, compares, either, over, all_of, first_of}
use Rattle.sql_forms.proofs.Selects.{IsSelect}
use Rattle.mm_store.specs.Tables.{schema}
use Rattle.mm_store.specs.Compiled as text

abbrev one : Term
one = lit (Int (pos 1))

pub profile_rows : IsSelect schema text.profile_rows 12 (all_of 12 ([]) (col 1 0 ∷ col 1 2 ∷ [])) (codes "id" ∷ codes "version" ∷ [])
unfolding understood everything
profile_rows = record { compiled = refl; plain = (refl, refl); unlisted = refl; listed = refl }

pub has_system : IsSelect schema text.has_system 0 (first_of 0 (equals 0 0 ∷ []) (one ∷ [])) (codes "1" ∷ [])
unfolding understood everything
has_system = record { compiled = refl; plain = (refl, refl); unlisted = refl; listed = refl }

pub has_table : IsSelect schema text.has_table 1 (first_of 1 (equals 1 0 ∷ []) (one ∷ [])) (codes "1" ∷ [])
unfolding understood everything
has_table = record { compiled = refl; plain = (refl, refl); unlisted = refl; listed = refl }

pub has_identifier : IsSelect schema text.has_identifier 1 (first_of 1 (equals 3 0 ∷ []) (one ∷ [])) (codes "1" ∷ [])
unfolding understood everything
has_identifier = record { compiled = refl; plain = (refl, refl); unlisted = refl; listed = refl }

pub kind_of_table : IsSelect schema text.kind_of_table 13 (first_of 13 (equals 1 0 ∷ []) (col 1 2 ∷ [])) (codes "kind" ∷ [])
unfolding understood everything
kind_of_table = record { compiled = refl; plain = (refl, refl); unlisted = refl; listed = refl }

pub extent_of_table : IsSelect schema text.extent_of_table 4 (first_of 4 (equals 1 0 ∷ []) (col 1 3 ∷ col 1 4 ∷ col 1 5 ∷ col 1 6 ∷ [])) (codes "min_x" ∷ codes "min_y" ∷ codes "max_x" ∷ codes "max_y" ∷ [])
unfolding understood everything
extent_of_table = record { compiled = refl; plain = (refl, refl); unlisted = refl; listed = refl }

pub has_matrix : IsSelect schema text.has_matrix 6 (first_of 6 (equals 1 0 ∷ equals 2 1 ∷ []) (one ∷ [])) (codes "1" ∷ [])
unfolding understood everything
has_matrix = record { compiled = refl; plain = (refl, refl); unlisted = refl; listed = refl }

pub matrix_sides : IsSelect schema text.matrix_sides 6 (first_of 6 (equals 1 0 ∷ equals 2 1 ∷ []) (col 1 3 ∷ col 1 4 ∷ [])) (codes "matrix_width" ∷ codes "matrix_height" ∷ [])
unfolding understood everything
matrix_sides = record { compiled = refl; plain = (refl, refl); unlisted = refl; listed = refl }

pub matrix_below : IsSelect schema text.matrix_below 6 (over 6 (equals 1 0 ∷ compares Lt 2 1 ∷ []) (col 1 2 ∷ col 1 3 ∷ col 1 4 ∷ col 1 5 ∷ col 1 6 ∷ col 1 7 ∷ col 1 8 ∷ []) ((col 1 2, record { collation = Binary; descending = true }) ∷ []) (lit (Int (pos 1)))) (codes "zoom_level" ∷ codes "matrix_width" ∷ codes "matrix_height" ∷ codes "tile_width" ∷ codes "tile_height" ∷ codes "pixel_x_size" ∷ codes "pixel_y_size" ∷ [])
unfolding understood everything
matrix_below = record { compiled = refl; plain = (refl, refl); unlisted = refl; listed = refl }

pub matrix_above : IsSelect schema text.matrix_above 6 (over 6 (equals 1 0 ∷ compares Gt 2 1 ∷ []) (col 1 2 ∷ col 1 3 ∷ col 1 4 ∷ col 1 5 ∷ col 1 6 ∷ col 1 7 ∷ col 1 8 ∷ []) ((col 1 2, record { collation = Binary; descending = false }) ∷ []) (lit (Int (pos 1)))) (codes "zoom_level" ∷ codes "matrix_width" ∷ codes "matrix_height" ∷ codes "tile_width" ∷ codes "tile_height" ∷ codes "pixel_x_size" ∷ codes "pixel_y_size" ∷ [])
unfolding understood everything
matrix_above = record { compiled = refl; plain = (refl, refl); unlisted = refl; listed = refl }

pub has_tile : IsSelect schema text.has_tile 15 (first_of 15 (equals 1 0 ∷ equals 2 1 ∷ equals 3 2 ∷ equals 4 3 ∷ []) (one ∷ [])) (codes "1" ∷ [])
unfolding understood everything
has_tile = record { compiled = refl; plain = (refl, refl); unlisted = refl; listed = refl }

pub blob_of_tile : IsSelect schema text.blob_of_tile 15 (first_of 15 (equals 1 0 ∷ equals 2 1 ∷ equals 3 2 ∷ equals 4 3 ∷ []) (col 1 5 ∷ [])) (codes "blob" ∷ [])
unfolding understood everything
blob_of_tile = record { compiled = refl; plain = (refl, refl); unlisted = refl; listed = refl }

pub has_row : IsSelect schema text.has_row 17 (first_of 17 (equals 1 0 ∷ equals 2 1 ∷ []) (one ∷ [])) (codes "1" ∷ [])
unfolding understood everything
has_row = record { compiled = refl; plain = (refl, refl); unlisted = refl; listed = refl }

pub row_values : IsSelect schema text.row_values 17 (first_of 17 (equals 1 0 ∷ equals 2 1 ∷ []) (col 1 3 ∷ col 1 4 ∷ col 1 5 ∷ [])) (codes "title" ∷ codes "note" ∷ codes "amount" ∷ [])
unfolding understood everything
row_values = record { compiled = refl; plain = (refl, refl); unlisted = refl; listed = refl }

pub has_medium : IsSelect schema text.has_medium 19 (first_of 19 (equals 1 0 ∷ equals 2 1 ∷ []) (one ∷ [])) (codes "1" ∷ [])
unfolding understood everything
has_medium = record { compiled = refl; plain = (refl, refl); unlisted = refl; listed = refl }

pub medium_values : IsSelect schema text.medium_values 19 (first_of 19 (equals 1 0 ∷ equals 2 1 ∷ []) (col 1 3 ∷ col 1 4 ∷ [])) (codes "blob" ∷ codes "content_type" ∷ [])
unfolding understood everything
medium_values = record { compiled = refl; plain = (refl, refl); unlisted = refl; listed = refl }

pub has_relation : IsSelect schema text.has_relation 10 (first_of 10 (equals 7 0 ∷ []) (one ∷ [])) (codes "1" ∷ [])
unfolding understood everything
has_relation = record { compiled = refl; plain = (refl, refl); unlisted = refl; listed = refl }

pub ends_of_relation : IsSelect schema text.ends_of_relation 10 (first_of 10 (equals 7 0 ∷ []) (col 1 2 ∷ col 1 4 ∷ [])) (codes "base_table_name" ∷ codes "related_table_name" ∷ [])
unfolding understood everything
ends_of_relation = record { compiled = refl; plain = (refl, refl); unlisted = refl; listed = refl }

pub uses_table : IsSelect schema text.uses_table 10 (first_of 10 (either (equals 2 0) (equals 4 0) ∷ []) (one ∷ [])) (codes "1" ∷ [])
unfolding understood everything
uses_table = record { compiled = refl; plain = (refl, refl); unlisted = refl; listed = refl }

pub has_pairing : IsSelect schema text.has_pairing 21 (first_of 21 (equals 1 0 ∷ equals 2 1 ∷ equals 3 2 ∷ []) (one ∷ [])) (codes "1" ∷ [])
unfolding understood everything
has_pairing = record { compiled = refl; plain = (refl, refl); unlisted = refl; listed = refl }

pub state_of_edition : IsSelect schema text.state_of_edition 23 (first_of 23 (equals 1 0 ∷ []) (col 1 2 ∷ [])) (codes "state" ∷ [])
unfolding understood everything
state_of_edition = record { compiled = refl; plain = (refl, refl); unlisted = refl; listed = refl }

pub last_piece : IsSelect schema text.last_piece 25 (over 25 (equals 1 0 ∷ []) (col 1 2 ∷ []) ((col 1 2, record { collation = Binary; descending = true }) ∷ []) (lit (Int (pos 1)))) (codes "piece_no" ∷ [])
unfolding understood everything
last_piece = record { compiled = refl; plain = (refl, refl); unlisted = refl; listed = refl }

pub piece_values : IsSelect schema text.piece_columns 25 (first_of 25 (equals 1 0 ∷ equals 2 1 ∷ []) (col 1 3 ∷ col 1 4 ∷ col 1 5 ∷ col 1 6 ∷ col 1 7 ∷ col 1 8 ∷ col 1 9 ∷ col 1 10 ∷ col 1 11 ∷ col 1 12 ∷ col 1 13 ∷ col 1 14 ∷ [])) (codes "kind" ∷ codes "name" ∷ codes "k1" ∷ codes "k2" ∷ codes "k3" ∷ codes "k4" ∷ codes "k5" ∷ codes "k6" ∷ codes "k7" ∷ codes "t1" ∷ codes "t2" ∷ codes "blob" ∷ [])
unfolding understood everything
piece_values = record { compiled = refl; plain = (refl, refl); unlisted = refl; listed = refl }

pub blob_of_bytes : IsSelect schema text.blob_of_bytes 27 (first_of 27 (equals 2 0 ∷ equals 3 1 ∷ []) (col 1 0 ∷ [])) (codes "id" ∷ [])
unfolding understood everything
blob_of_bytes = record { compiled = refl; plain = (refl, refl); unlisted = refl; listed = refl }

pub bytes_of_blob : IsSelect schema text.bytes_of_blob 27 (first_of 27 (equals 0 0 ∷ []) (col 1 3 ∷ [])) (codes "data" ∷ [])
unfolding understood everything
bytes_of_blob = record { compiled = refl; plain = (refl, refl); unlisted = refl; listed = refl }

pub tile_of_blob : IsSelect schema text.tile_of_blob 15 (first_of 15 (equals 5 0 ∷ []) (one ∷ [])) (codes "1" ∷ [])
unfolding understood everything
tile_of_blob = record { compiled = refl; plain = (refl, refl); unlisted = refl; listed = refl }

pub medium_of_blob : IsSelect schema text.medium_of_blob 19 (first_of 19 (equals 3 0 ∷ []) (one ∷ [])) (codes "1" ∷ [])
unfolding understood everything
medium_of_blob = record { compiled = refl; plain = (refl, refl); unlisted = refl; listed = refl }

pub piece_of_blob : IsSelect schema text.piece_of_blob 25 (first_of 25 (equals 14 0 ∷ []) (one ∷ [])) (codes "1" ∷ [])
unfolding understood everything
piece_of_blob = record { compiled = refl; plain = (refl, refl); unlisted = refl; listed = refl }

pub blobs_of_tiles : IsSelect schema text.blobs_of_tiles 15 (all_of 15 (equals 1 0 ∷ []) (col 1 5 ∷ [])) (codes "blob" ∷ [])
unfolding understood everything
blobs_of_tiles = record { compiled = refl; plain = (refl, refl); unlisted = refl; listed = refl }

pub blobs_of_media : IsSelect schema text.blobs_of_media 19 (all_of 19 (equals 1 0 ∷ []) (col 1 3 ∷ [])) (codes "blob" ∷ [])
unfolding understood everything
blobs_of_media = record { compiled = refl; plain = (refl, refl); unlisted = refl; listed = refl }

-- a column of a table against one of another
abbrev same : ℕ → ℕ → ℕ → ℕ → Term
same s c t d = op2 (Compare Eq Binary) (col s c) (col t d)

pub equal_blobs : IsSelect schema text.equal_blobs 27 (query (inner 27 (inner 27 end)) (same 2 2 1 2 ∷ op2 (Compare Gt Binary) (col 2 0) (col 1 0) ∷ same 2 3 1 3 ∷ []) (col 1 0 ∷ []) [] no_limit) (codes "id" ∷ [])
unfolding understood everything
equal_blobs = record { compiled = refl; plain = (refl, refl); unlisted = refl; listed = refl }

pub unnamed_blobs : IsSelect schema text.unnamed_blobs 27 (query (inner 27 (counted 1 (inner 15 end) (same 2 5 1 0 ∷ []) (counted 1 (inner 19 end) (same 3 3 1 0 ∷ []) (counted 1 (inner 25 end) (same 4 14 1 0 ∷ []) end)))) (op1 Not (col 2 0) ∷ op1 Not (col 3 0) ∷ op1 Not (col 4 0) ∷ []) (col 1 0 ∷ []) [] no_limit) (codes "id" ∷ [])
unfolding understood everything
unnamed_blobs = record { compiled = refl; plain = (refl, refl); unlisted = refl; listed = refl }
