-- The SELECT statements that join two tables.
use Rattle.std.proofs.Common.{ℕ, List, [], ◌∷◌, codes, pos, refl}
use Rattle.sqlite.specs.declared.types.Value.TheVariants.{Int}
use Rattle.sql_forms.specs.Collation.TheVariants.{Binary}
use Rattle.sql_forms.specs.BinaryOp.TheVariants.{Compare}
use Rattle.sql_forms.specs.CompareOp.TheVariants.{Eq}
use Rattle.sqlite.specs.Term.{Term, lit, col, op2}
use Rattle.sqlite.specs.Query.{inner, end}
use Rattle.sqlite.specs.Listing.{understood}
use Rattle.sql_forms.specs.Compute.{everything}
use Rattle.sql_forms.specs.Forms.{query}
use Rattle.sql_forms.proofs.Selects.{IsSelect}
use Rattle.mm_store.specs.Tables.{schema}

-- a column of a table against one of another, or against a parameter
abbrev same : ℕ → ℕ → ℕ → ℕ → Term
same s c t d = op2 (Compare Eq Binary) (col s c) (col t d)

abbrev pub has_base_text : List ℕ
has_base_text = codes "SELECT 1 FROM gpkgext_relations AS r JOIN mm_map AS m ON m.mapping = r.mapping_table_name AND m.base_id = ?2 WHERE r.base_table_name = ?1 LIMIT 1"

pub has_base : IsSelect schema has_base_text 10 (query (inner 10 (inner 21 end)) (same 2 1 1 7 ∷ same 2 2 0 1 ∷ same 1 2 0 0 ∷ []) (lit (Int (pos 1)) ∷ []) [] (lit (Int (pos 1)))) (codes "1" ∷ [])
unfolding understood everything
has_base = record { compiled = refl; plain = (refl, refl); unlisted = refl; listed = refl }

abbrev pub has_related_text : List ℕ
has_related_text = codes "SELECT 1 FROM gpkgext_relations AS r JOIN mm_map AS m ON m.mapping = r.mapping_table_name AND m.related_id = ?2 WHERE r.related_table_name = ?1 LIMIT 1"

pub has_related : IsSelect schema has_related_text 10 (query (inner 10 (inner 21 end)) (same 2 1 1 7 ∷ same 2 3 0 1 ∷ same 1 4 0 0 ∷ []) (lit (Int (pos 1)) ∷ []) [] (lit (Int (pos 1)))) (codes "1" ∷ [])
unfolding understood everything
has_related = record { compiled = refl; plain = (refl, refl); unlisted = refl; listed = refl }
