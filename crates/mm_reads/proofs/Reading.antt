-- A walk over the tables of the contents is a read.
use Rattle.std.proofs.Common.{◌≡◌, Bool, true, false, List, [], ◌∷◌, ◌++◌, Result, Ok, Err, IfOk, Vec, Global, refl}
use Rattle.std.proofs.Common.{sym, ap, subst, ◌∙◌, append_assoc, append-nil}
use Rattle.sqlite.specs.Order.{Row}
use Rattle.sql_forms.specs.Values.TheVariants.{Null}
use Rattle.sqlite.specs.State.{State}
use Rattle.sql_forms.proofs.States.{shows_as, shown_open}
use Rattle.sql_forms.proofs.Queries.{no_overlay}
use Rattle.sql_forms.specs.Tables.{tables_of}
use Rattle.mm_store.specs.Tables.{schema}
use Rattle.mm_definitions.specs.Bounds.{Profile}
use Rattle.mm_definitions.specs.Package.{Package}
use Rattle.mm_definitions.specs.declared.answers.Fault.{Fault}
use Rattle.mm_definitions.specs.declared.entries.Entry.{Entry}
use Rattle.mm_store.specs.Seen.{IsSeenAs, IsRead}
use Rattle.mm_walk.specs.Walk.{TakesRows, Ends, IsWalk}
use Rattle.mm_reads.specs.Contents.{GathersTables, ListsTables}
use Rattle.mm_reads.proofs.Asking.{list_asks}
use Rattle.mm_reads.proofs.GatheredRead.{Found, gathered_read}
use Rattle.mm_reads.proofs.Listed.{list_text, list_tables, ShowsAll, lists_tables}

-- ---- the walk of a visitor that keeps what it gathers

module _ {V : Type 0} (takes : V → Row → V → Result Bool Fault → Type 0) (items : V → List Entry)
    (gathers : (v u : V) (row : Row) (result : Result Bool Fault) → takes v row u result
    → GathersTables (items v) row (items u) result) where
  gathered : (v w : V) (rows : List Row) → TakesRows takes v rows w → (es : List Entry) × (items w ≡ items v ++ es)
      × ShowsAll rows es
  gathered v w [] same = ([], ap items (sym same) ∙ sym (append-nil (items v)), refl)
  gathered v w (r ∷ rows) (u, step, more) =
      let one = gathers v u r (Ok true) step in
      let rest = gathered u w rows more in (
        one.1 ∷ rest.0,
        rest.1 ∙ ap (λ es. es ++ rest.0) one.3 ∙ append_assoc (items v) (one.1 ∷ []) rest.0,
        (one.2, rest.2),
      )

  module _ (old new : State) (v w : V) (empty : items v ≡ []) where
    module _ (profile : Profile) where
      tables_told : (p : Package) → IsSeenAs profile old p → (result : Result Bool Fault)
          → Ends takes list_text [] old new v w result
          → IfOk result (λ _. ListsTables p (items w))
      tables_told p it (Err fault) h = tt
      tables_told p it (Ok false) h =
          absurd (let e : false ≡ true = (gathers h.before w h.last (Ok false) h.ends).0 in cc)
      tables_told p it (Ok true) h =
          let at = it.reads (shown_open list_text [] old new h.rows h.shown) in
          let read = shows_as old new list_text [] schema at.schema_is _ list_tables.compiled list_tables.plain
          list_tables.unlisted h.rows h.shown in
          let all = gathered v w h.rows h.taken in
          let holds = at.stands.holds in
          subst (ListsTables p) (sym (all.1 ∙ ap (λ es. es ++ all.0) empty))
          (lists_tables p (tables_of schema old.now.trees 1) (tables_of schema old.now.trees 13) holds.contents
          holds.kinds (at.stands.rows 1).rise (at.stands.rows 13).rise _ (no_overlay old.now.trees 1)
          (no_overlay old.now.trees 13) h.rows (read.0.answer Null) all.0 all.2)

      pub read_by_walk : (result : Result Bool Fault) (last : Result (Vec Entry Global) Fault)
          → IsWalk takes list_text [] old new v w result
          → Found (items w) result last → IsRead profile old new
          (λ p (tables : Vec Entry Global). ListsTables p tables.items) last
      read_by_walk = gathered_read takes list_text [] old new v w (items w) profile (list_asks old.now.schema)
          ListsTables tables_told (λ before row fault. gathers before w row (Err fault))
