-- What the texts of the queries compile to.
use Rattle.std.proofs.Common.{[], ◌∷◌, codes, refl, pos}
use Rattle.sqlite.specs.declared.types.Value.TheVariants.{Null, Int, Text as Words}
use Rattle.sql_forms.specs.Collation.TheVariants.{Binary}
use Rattle.sql_forms.specs.Keys.{ascending}
use Rattle.sql_forms.specs.Term.{lit, col}
use Rattle.sql_forms.specs.Query.{inner, left, end}
use Rattle.sqlite.specs.Listing.{understood}
use Rattle.sql_forms.specs.Compute.{everything}
use Rattle.mm_walk.specs.RowTests.{IsQuery}
use Rattle.mm_store.specs.Tables.{schema}
use Rattle.mm_rules.specs.Texts as text
use Rattle.mm_walk.proofs.Quiet.{IsQuiet}
use Rattle.mm_walk.proofs.Terms.{equals, below, same_as}

pub extensions_wanted : IsQuery schema text.extensions_wanted
    (inner 8 (left 10 (equals 2 7 1 1 ∷ []) (left 13 (equals 3 1 1 1 ∷ []) end))) []
    (col 1 1 ∷ col 1 2 ∷ col 1 3 ∷ col 1 4 ∷ col 1 5 ∷ col 2 7 ∷ col 3 2 ∷ [])
    [] (codes "table_name" ∷ codes "column_name" ∷ codes "extension_name" ∷ codes "definition" ∷ codes "scope" ∷ codes "mapping_table_name" ∷ codes "kind" ∷ [])
unfolding understood everything
extensions_wanted = record { compiled = refl; plain = (refl, refl); unlisted = refl }

pub quiet_extensions_wanted : IsQuiet text.extensions_wanted
unfolding everything
quiet_extensions_wanted = λ schema base. refl

pub named_once : IsQuery schema text.named_once (inner 8 (inner 8 end))
    (below 1 0 2 0 ∷ equals 2 1 1 1 ∷ same_as 2 2 (col 1 2) ∷ same_as 2 3 (col 1 3) ∷ same_as 2 4
    (col 1 4) ∷ same_as 2 5 (col 1 5) ∷ []) (lit (Int (pos 1)) ∷ [])
    [] (codes "1" ∷ [])
unfolding understood everything
named_once = record { compiled = refl; plain = (refl, refl); unlisted = refl }

pub quiet_named_once : IsQuiet text.named_once
unfolding everything
quiet_named_once = λ schema base. refl

pub unnamed_once : IsQuery schema text.unnamed_once (inner 8 (inner 8 end))
    (below 1 0 2 0 ∷ same_as 1 1 (lit Null) ∷ same_as 2 1 (lit Null) ∷ same_as 2 2 (col 1 2) ∷ same_as 2 3
    (col 1 3) ∷ same_as 2 4 (col 1 4) ∷ same_as 2 5 (col 1 5) ∷ []) (lit (Int (pos 1)) ∷ [])
    [] (codes "1" ∷ [])
unfolding understood everything
unnamed_once = record { compiled = refl; plain = (refl, refl); unlisted = refl }

pub quiet_unnamed_once : IsQuiet text.unnamed_once
unfolding everything
quiet_unnamed_once = λ schema base. refl

pub general_extension : IsQuery schema text.ask_general_extension
    (inner 12 (left 8 (same_as 2 1 (lit (Words (codes "gpkgext_relations"))) ∷ same_as 2 2 (lit Null) ∷ same_as 2 3
    (lit (Words (codes "gpkg_related_tables"))) ∷ same_as 2 4 (lit (Words (codes "OGC 18-000"))) ∷ same_as 2 5
    (lit (Words (codes "read-write"))) ∷ []) end)) [] (col 2 3 ∷ [])
    [] (codes "extension_name" ∷ [])
unfolding understood everything
general_extension = record { compiled = refl; plain = (refl, refl); unlisted = refl }

pub quiet_general_extension : IsQuiet text.ask_general_extension
unfolding everything
quiet_general_extension = λ schema base. refl

pub mapping_extensions : IsQuery schema text.mapping_extensions
    (inner 10 (left 8 (equals 2 1 1 7 ∷ same_as 2 2 (lit Null) ∷ same_as 2 3
    (lit (Words (codes "gpkg_related_tables"))) ∷ same_as 2 4 (lit (Words (codes "OGC 18-000"))) ∷ same_as 2 5
    (lit (Words (codes "read-write"))) ∷ []) end)) [] (col 2 3 ∷ [])
    ((col 1 7, ascending Binary) ∷ []) (codes "extension_name" ∷ [])
unfolding understood everything
mapping_extensions = record { compiled = refl; plain = (refl, refl); unlisted = refl }

pub quiet_mapping_extensions : IsQuiet text.mapping_extensions
unfolding everything
quiet_mapping_extensions = λ schema base. refl

pub zoom_extensions : IsQuery schema text.zoom_extensions
    (inner 13 (left 8 (equals 2 1 1 1 ∷ same_as 2 2 (lit (Words (codes "tile_data"))) ∷ same_as 2 3
    (lit (Words (codes "gpkg_zoom_other"))) ∷ same_as 2 4 (lit (Words (codes "OGC 12-128r17"))) ∷ same_as 2 5
    (lit (Words (codes "read-write"))) ∷ []) end)) [] (col 1 2 ∷ col 2 3 ∷ [])
    ((col 1 1, ascending Binary) ∷ []) (codes "kind" ∷ codes "extension_name" ∷ [])
unfolding understood everything
zoom_extensions = record { compiled = refl; plain = (refl, refl); unlisted = refl }

pub quiet_zoom_extensions : IsQuiet text.zoom_extensions
unfolding everything
quiet_zoom_extensions = λ schema base. refl
