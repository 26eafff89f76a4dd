-- What the queries of matrices show, and rules 7 to 9.
use Rattle.std.proofs.Common.{◌≡◌, ◌↔◌, ◌⊎◌, Bool, true, ◌&&◌, ℤ, pos, [], ◌∷◌, Option, Some, codes, filter, refl}
use Rattle.std.proofs.Common.{subst, ap₂, arith}
use Rattle.std.specs.Prelude.{⊤, ◌<ℤ◌, ◌+ℤ◌, ◌*ℤ◌}
use Rattle.std.specs.FinMap.{get}
use Rattle.std.proofs.lemmas.Bool.{and_parts, and_from}
use Rattle.std.proofs.lemmas.Int.{ints}
use Rattle.sqlite.specs.Order.{Row, column}
use Rattle.sqlite.specs.Ops.{binary, is_true}
use Rattle.sqlite.specs.declared.types.Value.{Value}
use Rattle.sqlite.specs.declared.types.Value.TheVariants.{Null, Int, Text as Words}
use Rattle.sql_forms.specs.Collation.TheVariants.{Binary}
use Rattle.sql_forms.specs.BinaryOp.TheVariants.{Compare}
use Rattle.sql_forms.specs.CompareOp.TheVariants.{Lt}
use Rattle.sql_forms.specs.Term.{col}
use Rattle.sql_forms.specs.Query.{inner, left, end, or_nulls}
use Rattle.sql_forms.specs.Rules.{equal}
use Rattle.sql_forms.specs.Lists as lists
use Rattle.mm_definitions.specs.Keys.{Text, Level, level}
use Rattle.mm_definitions.specs.Parts.{Each, Has}
use Rattle.mm_definitions.specs.Package.{Grid}
use Rattle.mm_definitions.specs.Rules.{HigherIsFiner, MatricesFit, FitsIn, NextIsHalved}
use Rattle.mm_store.specs.Rows.{grid_row, kind_row, set_row}
use Rattle.mm_walk.specs.RowTests.{OnTrue}
use Rattle.mm_walk.specs.Columns.{IsPyramidKind}
use Rattle.mm_rules.specs.MatrixRows.{IsFinerRow, IsFittingRow, IsHalvedRow}
use Rattle.mm_walk.proofs.Joined.{after_rowid, covered, each_row, joined}
use Rattle.mm_walk.proofs.Keys.{texts_are, name_is, less_is, on_true, same}
use Rattle.mm_walk.proofs.Terms.{equals, below}
use Rattle.mm_walk.proofs.Checks.{Says}

-- ---- rule 7
pub matrices_fit : Says [] (inner 6 (left 13 (equals 2 1 1 1 ∷ []) (left 4 (equals 3 1 1 1 ∷ []) end))) []
    (col 2 2 ∷ col 3 3 ∷ col 3 4 ∷ col 3 5 ∷ col 3 6 ∷ col 1 3 ∷ col 1 4 ∷ col 1 5 ∷ col 1 6 ∷ col 1 7 ∷ col 1 8
    ∷ []) IsFittingRow (λ _. ⊤) (λ p. MatricesFit p.kinds p.sets p.matrices)
matrices_fit version db p stands known =
    each_row after_rowid grid_row (db 6) p.matrices (covered (λ k g. (_, _, refl)) stands.holds.matrices) _ _
    (λ k g x. joined after_rowid kind_row (db 13) p.kinds (covered (λ m v. (_, _, refl)) stands.holds.kinds) _ k.table
    (λ m v y. name_is m k.table) _
    (λ o. ((o ≡ Some (codes "two")) ⊎ (o ≡ Some (codes "other"))) × FitsIn (get p.sets k.table) g) (with_set k g Null) (λ v y. with_set k g (Words v)))
  where
    with_set : (k : Level) (g : Grid) (v : Value)
        → ((r : Row) → lists.Has (or_nulls (filter (λ r. equal Binary (column r 1) (Words k.table) && true) (db 4))) r
        → IsFittingRow (v ∷ column r 3 ∷ column r 4 ∷ column r 5 ∷ column r 6 ∷ Int g.matrix_width ∷ Int
        g.matrix_height ∷ Int g.tile_width ∷ Int g.tile_height ∷ Int g.pixel_x_size ∷ Int g.pixel_y_size ∷ []))
        ↔ (IsPyramidKind v × FitsIn (get p.sets k.table) g)
    with_set k g v = joined after_rowid set_row (db 4) p.sets (covered (λ m s. (_, _, refl)) stands.holds.sets) _
        k.table (λ m s y. name_is m k.table) _ (λ o. IsPyramidKind v × FitsIn o g)
        (λ h. absurd h.across, λ h. absurd h.1)
        (λ s y. (
          λ h. (h.kind, record { across = h.across; down = h.down }),
          λ h. record
              { kind = h.0; across = h.1.across; down = h.1.down },
        ))

-- ---- rules 8 and 9
-- the second level is of the same table, at a higher zoom
abbrev later : Level → Level → Bool
later k l = equal Binary (Words l.table) (Words k.table)
    && (is_true (binary (Compare Lt Binary) (Int k.zoom) (Int l.zoom)) && true)

above : (k l : Level) → (later k l ≡ true) ↔ ((l.table ≡ k.table) × (k.zoom <ℤ l.zoom))
above k l =
    let t = texts_are l.table k.table in
    let n = less_is k.zoom l.zoom in
    let lower = is_true (binary (Compare Lt Binary) (Int k.zoom) (Int l.zoom)) in (
      λ e. let p = and_parts (equal Binary (Words l.table) (Words k.table)) (lower && true) e in
          (t.0 p.0, n.0 (and_parts lower true p.1).0),
      λ e. and_from _ _ (t.1 e.0) (and_from _ _ (n.1 e.1) refl),
    )

pub higher_is_finer : Says [] (inner 6 (inner 6 end)) (equals 2 1 1 1 ∷ below 1 2 2 2 ∷ [])
    (col 1 7 ∷ col 1 8 ∷ col 2 7 ∷ col 2 8 ∷ []) IsFinerRow (λ _. ⊤) (λ p. HigherIsFiner p.matrices)
higher_is_finer version db p stands known =
    let here = covered (λ k g. (_, _, refl)) stands.holds.matrices in
    let pairs = each_row after_rowid grid_row (db 6) p.matrices here _
    (λ k g. Each p.matrices (λ l h. OnTrue (later k l)
    ((h.pixel_x_size <ℤ g.pixel_x_size) × (h.pixel_y_size <ℤ g.pixel_y_size))))
    (λ k g x. each_row after_rowid grid_row (db 6) p.matrices here _ _ (λ l h y. same)) in (
      λ shown table low high g h lower higher below.
          let both = (on_true _ _ _ (above (level table low) (level table high))).0
          (pairs.0 shown (level table low) g lower (level table high) h higher) (refl, below) in
          record { across = both.0; down = both.1 },
      λ finer. pairs.1 (λ k g here l h there. (on_true _ _ _ (above k l)).1 (λ it.
          let f = finer k.table k.zoom l.zoom g h here (subst (λ t. Has p.matrices (level t l.zoom) h) it.0 there)
          it.1 in
          (f.across, f.down))),
    )

just_above : (zoom : ℤ) → zoom <ℤ (zoom +ℤ pos 1)
just_above zoom = omega (arith, ints)

abbrev Halves : Level → Grid → Level → Grid → Option Text → Type 0
Halves k g l h kind = OnTrue (later k l) (kind ≡ Some (codes "two") → l.zoom ≡ k.zoom +ℤ pos 1 → (g.pixel_x_size ≡ pos 2 *ℤ h.pixel_x_size) × (g.pixel_y_size ≡ pos 2 *ℤ h.pixel_y_size))

pub next_is_halved : Says [] (inner 6 (inner 6 (left 13 (equals 3 1 1 1 ∷ []) end)))
    (equals 2 1 1 1 ∷ below 1 2 2 2 ∷ []) (col 3 2 ∷ col 1 2 ∷ col 2 2 ∷ col 1 7 ∷ col 1 8 ∷ col 2 7 ∷ col 2 8 ∷ [])
    IsHalvedRow (λ _. ⊤) (λ p. NextIsHalved p.kinds p.matrices)
next_is_halved version db p stands known =
    let here = covered (λ k g. (_, _, refl)) stands.holds.matrices in
    let pairs = each_row after_rowid grid_row (db 6) p.matrices here _
    (λ k g. Each p.matrices (λ l h. Halves k g l h (get p.kinds k.table)))
    (λ k g x. each_row after_rowid grid_row (db 6) p.matrices here _ _
    (λ l h y. joined after_rowid kind_row (db 13) p.kinds (covered (λ m v. (_, _, refl)) stands.holds.kinds) _ k.table
    (λ m v z. name_is m k.table) _ (λ o. Halves k g l h o) same (λ v z. same))) in (
      λ shown table zoom g h kind lower higher.
          let both = (on_true _ _ _ (above (level table zoom) (level table (zoom +ℤ pos 1)))).0
          (pairs.0 shown (level table zoom) g lower (level table (zoom +ℤ pos 1)) h higher)
          (refl, just_above zoom) kind refl in
          record { across = both.0; down = both.1 },
      λ rule. pairs.1 (λ k g here l h there. (on_true _ _ _ (above k l)).1 (λ it kind next.
          let f = rule k.table k.zoom g h kind here
          (subst (λ (x : Level). Has p.matrices x h) (ap₂ level it.0 next) there) in
          (f.across, f.down))),
    )
