-- What the texts of the queries compile to.
use Rattle.std.proofs.Common.{[], ◌∷◌, codes, refl}
use Rattle.sql_forms.specs.Collation.TheVariants.{Binary}
use Rattle.sql_forms.specs.Keys.{ascending}
use Rattle.sql_forms.specs.Term.{col}
use Rattle.sql_forms.specs.Query.{inner, left, end}
use Rattle.sqlite.specs.Listing.{understood}
use Rattle.sql_forms.specs.Compute.{everything}
use Rattle.mm_walk.specs.RowTests.{IsQuery}
use Rattle.mm_store.specs.Tables.{schema}
use Rattle.mm_rules.specs.Texts as text
use Rattle.mm_walk.proofs.Quiet.{IsQuiet}
use Rattle.mm_walk.proofs.Terms.{equals}

pub rows_in_tables : IsQuery schema text.rows_in_tables (inner 17 (left 13 (equals 2 1 1 1 ∷ []) end)) [] (col 2 2 ∷ [])
    ((col 1 1, ascending Binary) ∷ (col 1 2, ascending Binary) ∷ []) (codes "kind" ∷ [])
unfolding understood everything
rows_in_tables = record { compiled = refl; plain = (refl, refl); unlisted = refl }

pub quiet_rows_in_tables : IsQuiet text.rows_in_tables
unfolding everything
quiet_rows_in_tables = λ schema base. refl

pub media_in_tables : IsQuery schema text.media_in_tables (inner 19 (left 13 (equals 2 1 1 1 ∷ []) end)) []
    (col 2 2 ∷ [])
    ((col 1 1, ascending Binary) ∷ (col 1 2, ascending Binary) ∷ []) (codes "kind" ∷ [])
unfolding understood everything
media_in_tables = record { compiled = refl; plain = (refl, refl); unlisted = refl }

pub quiet_media_in_tables : IsQuiet text.media_in_tables
unfolding everything
quiet_media_in_tables = λ schema base. refl

pub relations_suited : IsQuery schema text.relations_suited
    (inner 10 (left 13 (equals 2 1 1 2 ∷ []) (left 13 (equals 3 1 1 4 ∷ []) end))) []
    (col 2 2 ∷ col 3 2 ∷ col 1 3 ∷ col 1 5 ∷ col 1 6 ∷ [])
    ((col 1 7, ascending Binary) ∷ []) (codes "kind" ∷ codes "kind" ∷ codes "base_primary_column" ∷ codes "related_primary_column" ∷ codes "relation_name" ∷ [])
unfolding understood everything
relations_suited = record { compiled = refl; plain = (refl, refl); unlisted = refl }

pub quiet_relations_suited : IsQuiet text.relations_suited
unfolding everything
quiet_relations_suited = λ schema base. refl

pub pairings_join : IsQuery schema text.pairings_join
    (inner 21 (left 10 (equals 2 7 1 1 ∷ [])
    (left 17 (equals 3 1 2 2 ∷ equals 3 2 1 2 ∷ [])
    (left 19 (equals 4 1 2 2 ∷ equals 4 2 1 2 ∷ [])
    (left 17 (equals 5 1 2 4 ∷ equals 5 2 1 3 ∷ [])
    (left 19 (equals 6 1 2 4 ∷ equals 6 2 1 3 ∷ []) end)))))) []
    (col 2 7 ∷ col 3 2 ∷ col 4 2 ∷ col 5 2 ∷ col 6 2 ∷ [])
    ((col 1 1, ascending Binary) ∷ (col 1 2, ascending Binary) ∷ (col 1 3, ascending Binary) ∷ []) (codes "mapping_table_name" ∷ codes "id" ∷ codes "id" ∷ codes "id" ∷ codes "id" ∷ [])
unfolding understood everything
pairings_join = record { compiled = refl; plain = (refl, refl); unlisted = refl }

pub quiet_pairings_join : IsQuiet text.pairings_join
unfolding everything
quiet_pairings_join = λ schema base. refl
