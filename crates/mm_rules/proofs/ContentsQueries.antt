-- What the texts of the queries compile to.
use Rattle.std.proofs.Common.{[], ◌∷◌, codes, refl}
use Rattle.sql_forms.specs.Collation.TheVariants.{Binary}
use Rattle.sql_forms.specs.Keys.{ascending}
use Rattle.sql_forms.specs.Term.{col}
use Rattle.sql_forms.specs.Query.{inner, left, end}
use Rattle.sqlite.specs.Listing.{understood}
use Rattle.sql_forms.specs.Compute.{everything}
use Rattle.mm_walk.specs.RowTests.{IsQuery}
use Rattle.mm_store.specs.Tables.{schema}
use Rattle.mm_rules.specs.Texts as text
use Rattle.mm_walk.proofs.Quiet.{IsQuiet}
use Rattle.mm_walk.proofs.Terms.{equals}

pub contents_systems : IsQuery schema text.contents_systems
    (inner 1 (left 0 (equals 2 0 1 10 ∷ []) (left 13 (equals 3 1 1 1 ∷ []) end))) [] (col 1 10 ∷ col 2 0 ∷ col 3 2 ∷ [])
    ((col 1 1, ascending Binary) ∷ []) (codes "srs_id" ∷ codes "srs_id" ∷ codes "kind" ∷ [])
unfolding understood everything
contents_systems = record { compiled = refl; plain = (refl, refl); unlisted = refl }

pub quiet_contents_systems : IsQuiet text.contents_systems
unfolding everything
quiet_contents_systems = λ schema base. refl

pub set_systems : IsQuery schema text.set_systems
    (inner 4 (left 0 (equals 2 0 1 2 ∷ []) (left 13 (equals 3 1 1 1 ∷ []) end))) [] (col 1 2 ∷ col 2 0 ∷ col 3 2 ∷ [])
    ((col 1 1, ascending Binary) ∷ []) (codes "srs_id" ∷ codes "srs_id" ∷ codes "kind" ∷ [])
unfolding understood everything
set_systems = record { compiled = refl; plain = (refl, refl); unlisted = refl }

pub quiet_set_systems : IsQuiet text.set_systems
unfolding everything
quiet_set_systems = λ schema base. refl

pub distinct_identifiers : IsQuery schema text.distinct_identifiers (inner 1 (inner 1 end)) (equals 2 3 1 3 ∷ [])
    (col 1 1 ∷ col 2 1 ∷ [])
    ((col 1 1, ascending Binary) ∷ []) (codes "table_name" ∷ codes "table_name" ∷ [])
unfolding understood everything
distinct_identifiers = record { compiled = refl; plain = (refl, refl); unlisted = refl }

pub quiet_distinct_identifiers : IsQuiet text.distinct_identifiers
unfolding everything
quiet_distinct_identifiers = λ schema base. refl

pub mapping_names : IsQuery schema text.mapping_names (inner 10 (left 1 (equals 2 1 1 7 ∷ []) end)) [] (col 2 1 ∷ [])
    ((col 1 7, ascending Binary) ∷ []) (codes "table_name" ∷ [])
unfolding understood everything
mapping_names = record { compiled = refl; plain = (refl, refl); unlisted = refl }

pub quiet_mapping_names : IsQuiet text.mapping_names
unfolding everything
quiet_mapping_names = λ schema base. refl

pub registered : IsQuery schema text.registered (inner 1
    (left 13 (equals 2 1 1 1 ∷ []) (left 4 (equals 3 1 1 1 ∷ []) end))) []
    (col 2 2 ∷ col 1 2 ∷ col 1 6 ∷ col 1 7 ∷ col 1 8 ∷ col 1 9 ∷ col 1 10 ∷ col 3 3 ∷ col 3 4 ∷ col 3 5 ∷ col 3 6
    ∷ col 3 2 ∷ [])
    ((col 1 1, ascending Binary) ∷ []) (codes "kind" ∷ codes "data_type" ∷ codes "min_x" ∷ codes "min_y" ∷ codes
    "max_x" ∷ codes "max_y" ∷ codes "srs_id" ∷ codes "min_x" ∷ codes "min_y" ∷ codes "max_x" ∷ codes "max_y"
    ∷ codes "srs_id" ∷ [])
unfolding understood everything
registered = record { compiled = refl; plain = (refl, refl); unlisted = refl }

pub quiet_registered : IsQuiet text.registered
unfolding everything
quiet_registered = λ schema base. refl

pub kinds_have_contents : IsQuery schema text.kinds_have_contents (inner 13 (left 1 (equals 2 1 1 1 ∷ []) end)) []
    (col 2 1 ∷ [])
    ((col 1 1, ascending Binary) ∷ []) (codes "table_name" ∷ [])
unfolding understood everything
kinds_have_contents = record { compiled = refl; plain = (refl, refl); unlisted = refl }

pub quiet_kinds_have_contents : IsQuiet text.kinds_have_contents
unfolding everything
quiet_kinds_have_contents = λ schema base. refl

pub sets_have_contents : IsQuery schema text.sets_have_contents (inner 4 (left 1 (equals 2 1 1 1 ∷ []) end)) []
    (col 2 1 ∷ [])
    ((col 1 1, ascending Binary) ∷ []) (codes "table_name" ∷ [])
unfolding understood everything
sets_have_contents = record { compiled = refl; plain = (refl, refl); unlisted = refl }

pub quiet_sets_have_contents : IsQuiet text.sets_have_contents
unfolding everything
quiet_sets_have_contents = λ schema base. refl

pub set_extents : IsQuery schema text.set_extents (inner 4 end) [] (col 1 3 ∷ col 1 4 ∷ col 1 5 ∷ col 1 6 ∷ [])
    ((col 1 1, ascending Binary) ∷ []) (codes "min_x" ∷ codes "min_y" ∷ codes "max_x" ∷ codes "max_y" ∷ [])
unfolding understood everything
set_extents = record { compiled = refl; plain = (refl, refl); unlisted = refl }

pub quiet_set_extents : IsQuiet text.set_extents
unfolding everything
quiet_set_extents = λ schema base. refl

pub contents_extents : IsQuery schema text.contents_extents (inner 1 end) []
    (col 1 6 ∷ col 1 7 ∷ col 1 8 ∷ col 1 9 ∷ [])
    ((col 1 1, ascending Binary) ∷ []) (codes "min_x" ∷ codes "min_y" ∷ codes "max_x" ∷ codes "max_y" ∷ [])
unfolding understood everything
contents_extents = record { compiled = refl; plain = (refl, refl); unlisted = refl }

pub quiet_contents_extents : IsQuiet text.contents_extents
unfolding everything
quiet_contents_extents = λ schema base. refl
