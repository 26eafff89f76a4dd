-- What the texts of the queries compile to.
use Rattle.std.proofs.Common.{[], ◌∷◌, codes, refl}
use Rattle.sql_forms.specs.Term.{col}
use Rattle.sql_forms.specs.Query.{inner, left, end}
use Rattle.sqlite.specs.Listing.{understood}
use Rattle.sql_forms.specs.Compute.{everything}
use Rattle.mm_walk.specs.RowTests.{IsQuery}
use Rattle.mm_store.specs.Tables.{schema}
use Rattle.mm_rules.specs.Texts as text
use Rattle.mm_walk.proofs.Quiet.{IsQuiet}
use Rattle.mm_walk.proofs.Terms.{equals}

pub given_systems : IsQuery schema text.ask_given_systems
    (inner 12 (left 0 (equals 2 0 0 0 ∷ []) (left 0 (equals 3 0 0 1 ∷ []) (left 0 (equals 4 0 0 2 ∷ []) end)))) []
    (col 2 1 ∷ col 2 3 ∷ col 2 4 ∷ col 2 5 ∷ col 2 6 ∷ col 3 1 ∷ col 3 3 ∷ col 3 4 ∷ col 3 5 ∷ col 3 6 ∷ col 4 1
    ∷ col 4 3 ∷ col 4 4 ∷ col 4 5 ∷ col 4 6 ∷ [])
    [] (codes "srs_name" ∷ codes "organization" ∷ codes "organization_coordsys_id" ∷ codes "definition" ∷ codes
    "description" ∷ codes "srs_name" ∷ codes "organization" ∷ codes "organization_coordsys_id" ∷ codes
    "definition" ∷ codes "description" ∷ codes "srs_name" ∷ codes "organization" ∷ codes
    "organization_coordsys_id" ∷ codes "definition" ∷ codes "description" ∷ [])
unfolding understood everything
given_systems = record { compiled = refl; plain = (refl, refl); unlisted = refl }

pub quiet_given_systems : IsQuiet text.ask_given_systems
unfolding everything
quiet_given_systems = λ schema base. refl
