-- What the queries of tiles show, and rule 10.
use Rattle.std.proofs.Common.{[], ◌∷◌, refl}
use Rattle.std.specs.Prelude.{⊤}
use Rattle.sql_forms.specs.Term.{col}
use Rattle.sql_forms.specs.Query.{inner, left, end}
use Rattle.mm_definitions.specs.Keys.{level}
use Rattle.mm_definitions.specs.Rules.{TilesInside, IsInside}
use Rattle.mm_store.specs.Rows.{grid_row, tile_row}
use Rattle.mm_store.specs.Kept.{tile_id, tile_with}
use Rattle.mm_rules.specs.TileRows.{IsInsideRow}
use Rattle.mm_walk.proofs.Joined.{after_rowid, covered, joined}
use Rattle.mm_walk.proofs.Named.{each_named}
use Rattle.mm_walk.proofs.Keys.{level_is, same}
use Rattle.mm_walk.proofs.Terms.{equals}
use Rattle.mm_walk.proofs.Checks.{Says}

pub tiles_inside : Says [] (inner 15 (left 6 (equals 2 1 1 1 ∷ equals 2 2 1 2 ∷ []) end)) []
    (col 1 3 ∷ col 1 4 ∷ col 2 3 ∷ col 2 4 ∷ []) IsInsideRow (λ _. ⊤) (λ p. TilesInside p.matrices p.tiles)
tiles_inside version db p stands known =
    let h = stands.holds in
    each_named tile_id tile_with h.kept.shelf h.kept.tiles p.tiles h.keeps.tiles_told after_rowid tile_row (db 15)
    (covered (λ k b. (_, _, refl)) h.keeps.tiles) _ _
    (λ k i x bytes at named. joined after_rowid grid_row (db 6) p.matrices
    (covered (λ l g. (_, _, refl)) h.matrices) _ (level k.table k.zoom) (λ l g y. level_is l k.table k.zoom) _
    (λ o. IsInside o k.column k.row) same (λ g y. same))
