-- The SELECT that lists mapping rows.
use Rattle.std.proofs.Common.{ℕ, List, [], ◌∷◌, codes, refl}
use Rattle.sql_forms.specs.Collation.TheVariants.{Binary}
use Rattle.sql_forms.specs.Keys.{ascending}
use Rattle.sql_forms.specs.Key.{Key}
use Rattle.sql_forms.specs.BinaryOp.TheVariants.{Compare}
use Rattle.sql_forms.specs.CompareOp.TheVariants.{Eq}
use Rattle.sqlite.specs.Term.{Term, col, op2}
use Rattle.sqlite.specs.Query.{Query, inner, end}
use Rattle.sqlite.specs.Listing.{understood}
use Rattle.sql_forms.specs.Compute.{everything}
use Rattle.sql_forms.specs.Forms.{query, no_limit}
use Rattle.sql_forms.proofs.Selects.{IsSelect}
use Rattle.mm_store.specs.Tables.{schema}

-- a column of a table against one of another, or against a parameter
abbrev same : ℕ → ℕ → ℕ → ℕ → Term
same s c t d = op2 (Compare Eq Binary) (col s c) (col t d)

abbrev pub listed_text : List ℕ
listed_text = codes "SELECT r.mapping_table_name, r.relation_name, r.related_table_name, m.related_id FROM gpkgext_relations AS r JOIN mm_map AS m ON m.mapping = r.mapping_table_name AND m.base_id = ?2 WHERE r.base_table_name = ?1 ORDER BY r.mapping_table_name, m.related_id"

abbrev pub terms : List Term
terms = same 2 1 1 7 ∷ same 2 2 0 1 ∷ same 1 2 0 0 ∷ []

abbrev pub shown : List Term
shown = col 1 7 ∷ col 1 6 ∷ col 1 4 ∷ col 2 3 ∷ []

abbrev pub order : List (Term × Key)
order = (col 1 7, ascending Binary) ∷ (col 2 3, ascending Binary) ∷ []

abbrev pub asked : Query
asked = query (inner 10 (inner 21 end)) terms shown order no_limit

pub listed : IsSelect schema listed_text 10 asked (codes "mapping_table_name" ∷ codes "relation_name" ∷ codes "related_table_name" ∷ codes "related_id" ∷ [])
unfolding understood everything
listed = record { compiled = refl; plain = (refl, refl); unlisted = refl; listed = refl }
