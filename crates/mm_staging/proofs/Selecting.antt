-- The SELECT statements of this crate alone.
use Rattle.std.proofs.Common.{ℕ, List, [], ◌∷◌, codes, pos, refl}
use Rattle.sqlite.specs.declared.types.Value.TheVariants.{Int}
use Rattle.sqlite.specs.Term.{lit, col, op1}
use Rattle.sql_forms.specs.UnaryOp.TheVariants.{Not}
use Rattle.sqlite.specs.Listing.{understood}
use Rattle.sql_forms.specs.Compute.{everything}
use Rattle.sql_forms.specs.Forms.{all_of, first_of, equals, is_absent}
use Rattle.sql_forms.proofs.Selects.{IsSelect}
use Rattle.mm_store.specs.Tables.{schema}

abbrev pub has_piece_text : List ℕ
has_piece_text = codes "SELECT 1 FROM mm_pieces WHERE edition = ?1 AND piece_no = ?2 LIMIT 1"

pub has_piece : IsSelect schema has_piece_text 25 (first_of 25 (equals 1 0 ∷ equals 2 1 ∷ []) (lit (Int (pos 1)) ∷ [])) (codes "1" ∷ [])
unfolding understood everything
has_piece = record { compiled = refl; plain = (refl, refl); unlisted = refl; listed = refl }

pub blobs_of_pieces : IsSelect schema Rattle.mm_store.specs.Compiled.blobs_of_pieces 25 (all_of 25 (equals 1 0 ∷ op1 Not (is_absent 14) ∷ []) (col 1 14 ∷ [])) (codes "blob" ∷ [])
unfolding understood everything
blobs_of_pieces = record { compiled = refl; plain = (refl, refl); unlisted = refl; listed = refl }
