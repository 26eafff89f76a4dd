-- What the texts of the queries compile to.
use Rattle.std.proofs.Common.{[], ◌∷◌, codes, refl}
use Rattle.sql_forms.specs.Collation.TheVariants.{Binary}
use Rattle.sql_forms.specs.Keys.{ascending}
use Rattle.sql_forms.specs.Term.{col}
use Rattle.sql_forms.specs.Query.{inner, left, end}
use Rattle.sqlite.specs.Listing.{understood}
use Rattle.sql_forms.specs.Compute.{everything}
use Rattle.mm_walk.specs.RowTests.{IsQuery}
use Rattle.mm_store.specs.Tables.{schema}
use Rattle.mm_column_limits.specs.EditionTexts as text
use Rattle.mm_walk.proofs.Quiet.{IsQuiet}
use Rattle.mm_walk.proofs.Terms.{equals, follows}

pub edition_states : IsQuery schema text.edition_states (inner 23 end) [] (col 1 2 ∷ [])
    ((col 1 1, ascending Binary) ∷ []) (codes "state" ∷ [])
unfolding understood everything
edition_states = record { compiled = refl; plain = (refl, refl); unlisted = refl }

pub quiet_edition_states : IsQuiet text.edition_states
unfolding everything
quiet_edition_states = λ schema base. refl

pub pieces_of_open : IsQuery schema text.pieces_of_open (inner 25 (left 23 (equals 2 1 1 1 ∷ []) end)) [] (col 2 2 ∷ [])
    ((col 1 1, ascending Binary) ∷ (col 1 2, ascending Binary) ∷ []) (codes "state" ∷ [])
unfolding understood everything
pieces_of_open = record { compiled = refl; plain = (refl, refl); unlisted = refl }

pub quiet_pieces_of_open : IsQuiet text.pieces_of_open
unfolding everything
quiet_pieces_of_open = λ schema base. refl

pub pieces_numbered : IsQuery schema text.pieces_numbered
    (inner 25 (left 25 (equals 2 1 1 1 ∷ follows 2 2 1 2 ∷ []) end)) [] (col 1 2 ∷ col 2 2 ∷ [])
    ((col 1 1, ascending Binary) ∷ (col 1 2, ascending Binary) ∷ []) (codes "piece_no" ∷ codes "piece_no" ∷ [])
unfolding understood everything
pieces_numbered = record { compiled = refl; plain = (refl, refl); unlisted = refl }

pub quiet_pieces_numbered : IsQuiet text.pieces_numbered
unfolding everything
quiet_pieces_numbered = λ schema base. refl

pub pieces_spelled : IsQuery schema text.pieces_spelled (inner 25 (left 27 (equals 2 0 1 14 ∷ []) end)) []
    (col 1 3 ∷ col 1 4 ∷ col 1 5 ∷ col 1 6 ∷ col 1 7 ∷ col 1 8 ∷ col 1 9 ∷ col 1 10 ∷ col 1 11 ∷ col 1 12 ∷ col 1 13
    ∷ col 2 3 ∷ [])
    ((col 1 1, ascending Binary) ∷ (col 1 2, ascending Binary) ∷ [])
    (codes "kind" ∷ codes "name" ∷ codes "k1" ∷ codes "k2" ∷ codes "k3" ∷ codes "k4" ∷ codes "k5" ∷ codes "k6"
    ∷ codes "k7" ∷ codes "t1" ∷ codes "t2" ∷ codes "data" ∷ [])
unfolding understood everything
pieces_spelled = record { compiled = refl; plain = (refl, refl); unlisted = refl }

pub quiet_pieces_spelled : IsQuiet text.pieces_spelled
unfolding everything
quiet_pieces_spelled = λ schema base. refl
