-- A walk over the rows of a table from an id on is a read.
use Rattle.std.proofs.Common.{◌≡◌, ◌↔◌, ℕ, ◌+◌, ◌<◌, ◌≤◌, ℤ, Bool, true, false, List, [], ◌∷◌, ◌++◌, map, length}
use Rattle.std.proofs.Common.{Result, Ok, Err, IfOk, IsTrue, Vec, Global, refl, sym, ap, subst, ◌∙◌, append_assoc}
use Rattle.std.proofs.Common.{append-nil, length-append, arith}
use Rattle.sqlite.specs.declared.types.Value.TheVariants.{Int, Text as Words}
use Rattle.sql_forms.specs.Values.TheVariants.{Null}
use Rattle.sqlite.specs.Order.{Row}
use Rattle.sqlite.specs.Query.{IsAnswer}
use Rattle.sql_forms.specs.Program.{overlay}
use Rattle.sqlite.specs.State.{State, Shown, Begins}
use Rattle.sqlite.proofs.Callers.{begins_as}
use Rattle.sql_forms.proofs.States.{shows_as, shown_open}
use Rattle.sql_forms.proofs.Queries.{no_overlay}
use Rattle.sql_forms.specs.Tables.{tables_of}
use Rattle.mm_store.specs.Tables.{schema}
use Rattle.mm_definitions.specs.Bounds.{Profile}
use Rattle.mm_definitions.specs.Keys.{Text}
use Rattle.mm_definitions.specs.Package.{Package}
use Rattle.mm_definitions.specs.declared.answers.Fault.{Fault}
use Rattle.mm_definitions.specs.declared.entries.Row.{Row as RowTold}
use Rattle.mm_store.specs.Seen.{IsSeenAs, IsRead}
use Rattle.mm_walk.specs.Walk.{TakesRows, Ends, IsWalk}
use Rattle.mm_reads.specs.RowLists.{MostRows, numbered, rows_on, GathersRows, ListsRows}
use Rattle.mm_reads.proofs.GatheredRead.{Found, gathered_read}
use Rattle.mm_reads.proofs.ListedRows.{rows_text, asked, list_rows, rows_ask, ShowsAll, shows_more, Starts, rows_begin}
use Rattle.mm_reads.proofs.ListedRows.{lists_all, lists_first}

-- ---- the walk of a visitor that keeps what it gathers

-- it stopped at the row that was the last for which there was room
pub filled : (before now most : ℕ) → before < most → now ≡ before + 1 → (IsTrue false ↔ now < most) → now ≡ most
filled before now most room one stopped = let off : now < most
    → ⊥ = λ more. let e : false ≡ true = stopped.1 more in cc in omega (arith, off)

module _ {V : Type 0} (takes : V → Row → V → Result Bool Fault → Type 0) (items : V → List (ℤ × RowTold))
    (gathers : (v u : V) (row : Row) (result : Result Bool Fault) → takes v row u result
    → GathersRows (items v) row (items u) result) where
  gathered : (v w : V) (rows : List Row) → TakesRows takes v rows w → (found : List (ℤ × RowTold))
      × (items w ≡ items v ++ found) × ShowsAll rows found
  gathered v w [] same = ([], ap items (sym same) ∙ sym (append-nil (items v)), refl)
  gathered v w (r ∷ rows) (u, step, more) =
      let one = gathers v u r (Ok true) step in
      let rest = gathered u w rows more in (
        one.1 ∷ rest.0,
        rest.1 ∙ ap (λ found. found ++ rest.0) one.3 ∙ append_assoc (items v) (one.1 ∷ []) rest.0,
        (one.2, rest.2),
      )

  -- while the walk goes on there is room for another row
  has_room : (v w : V) (rows : List Row) → TakesRows takes v rows w → length (items v) < MostRows
      → length (items w) < MostRows
  has_room v w [] same room = subst (λ x. length (items x) < MostRows) same room
  has_room v w (r ∷ rows) (u, step, more) room = has_room u w rows more ((gathers v u r (Ok true) step).0.0 refl)

  module _ (table : Text) (first : ℤ) (given : Row) (same : given ≡ Words table ∷ Int first ∷ []) (old new : State)
      (v w : V) (empty : items v ≡ []) where
    module _ (profile : Profile) where
      begun : length (items v) < MostRows
      begun = subst (λ l. length l < MostRows) (sym empty) (omega arith)

      module _ (p : Package) (it : IsSeenAs profile old p) (up : IsTrue old.is_open) where
        -- the first rows of an answer begin the list, and all of them are the list
        started : (rows tail : List Row) → IsAnswer asked (overlay old.now.trees []) (Words table ∷ Int first ∷ [])
            (rows ++ tail) →
            (found : List (ℤ × RowTold)) → ShowsAll rows found
            → Starts (map numbered (rows_on p table first)) found tail
        started =
            let at = it.reads up in
            rows_begin table first p (tables_of schema old.now.trees 17) at.stands.holds.rows (at.stands.rows 17).rise
            (overlay old.now.trees [])
            (no_overlay old.now.trees 17)

        rows_whole : (rows : List Row) → Shown rows_text given old new rows → TakesRows takes v rows w
            → ListsRows p table first (items w)
        rows_whole rows shown taken =
            let at = it.reads up in
            let read = shows_as old new rows_text
            (Words table ∷ Int first ∷ []) schema at.schema_is _ list_rows.compiled list_rows.plain list_rows.unlisted
            rows
            (subst (λ x. Shown rows_text x old new rows) same shown) in
            let all = gathered v w rows taken in
            let told = started rows []
            (subst (IsAnswer asked (overlay old.now.trees []) (Words table ∷ Int first ∷ [])) (sym (append-nil rows))
            (read.0.answer Null)) all.0 all.2 in
            let are : items w ≡ all.0 = all.1 ∙ ap (λ l. l ++ all.0) empty in
            let room = has_room v w rows taken begun in
            let few : length all.0 ≤ MostRows = omega (arith, room, ap length are) in
            subst (ListsRows p table first) (sym are)
            (lists_all MostRows (map numbered (rows_on p table first)) all.0 told.0 told.1 (told.2 refl) few)

        rows_full : (rows : List Row) (last : Row) (before : V) → Begins rows_text given old (rows ++ last ∷ [])
            → TakesRows takes v rows before
            → takes before last w (Ok false)
            → ListsRows p table first (items w)
        rows_full rows last before shown taken ends =
            let at = it.reads up in
            let start = begins_as rows_text
            (Words table ∷ Int first ∷ []) old old schema at.schema_is _ list_rows.compiled list_rows.plain
            list_rows.unlisted (rows ++ last ∷ [])
            (subst (λ x. Begins rows_text x old (rows ++ last ∷ [])) same shown) in
            let all = gathered v before rows taken in
            let one = gathers before w last (Ok false) ends in
            let told = started (rows ++ last ∷ []) start.1.0 (start.1.1 Null) (all.0 ++ one.1 ∷ [])
            (shows_more rows last all.0 one.1 all.2 one.2) in
            let are : items w ≡ all.0 ++ one.1 ∷ [] = one.3
            ∙ ap (λ l. l ++ one.1 ∷ []) (all.1 ∙ ap (λ l. l ++ all.0) empty) in
            let longer : length (items w) ≡ length (items before) + 1 = ap length one.3
            ∙ length-append (items before) (one.1 ∷ []) in
            let full = filled (length (items before)) (length (items w)) MostRows (has_room v before rows taken begun)
            longer one.0 in
            subst (ListsRows p table first) (sym are)
            (lists_first MostRows (map numbered (rows_on p table first)) (all.0 ++ one.1 ∷ []) told.0 told.1
            (ap length (sym are) ∙ full))

      rows_told : (p : Package) → IsSeenAs profile old p → (result : Result Bool Fault)
          → Ends takes rows_text given old new v w result
          → IfOk result (λ _. ListsRows p table first (items w))
      rows_told p it (Err fault) h = tt
      rows_told p it (Ok false) h = rows_full p it h.same.0.was_open h.rows h.last h.before h.begins h.taken h.ends
      rows_told p it (Ok true) h = rows_whole p it (shown_open rows_text given old new h.rows h.shown) h.rows h.shown
          h.taken

      pub read_by_walk : (result : Result Bool Fault) (last : Result (Vec (ℤ × RowTold) Global) Fault)
          → IsWalk takes rows_text given old new v w result
          → Found (items w) result last → IsRead profile old new
          (λ p (found : Vec (ℤ × RowTold) Global). ListsRows p table first found.items) last
      read_by_walk = gathered_read takes rows_text given old new v w (items w) profile (rows_ask old.now.schema)
          (λ p. ListsRows p table first) rows_told (λ before row fault. gathers before w row (Err fault))
