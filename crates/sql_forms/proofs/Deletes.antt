-- DELETE FROM t WHERE .., with what its foreign keys take along, and one that takes nothing along.
use Rattle.std.proofs.Common.{◌≡◌, ◌≢◌, ℕ, ℤ, true, false, not, eqb, List, [], ◌∷◌, slice_get, Option, Some, None, Ok}
use Rattle.std.proofs.Common.{Err, Result, OnOk, refl, sym, ap, subst, ◌∙◌}
use Rattle.std.proofs.lemmas.Bool.{eq-eqb, ne_eqb, and_parts, true_from_ne_false}
use Rattle.sqlite.specs.declared.error.Error.{Error}
use Rattle.sqlite.specs.declared.types.Value.TheVariants.{Null, Int}
use Rattle.sqlite.specs.Order.{Row}
use Rattle.sqlite.specs.Term.{Term}
use Rattle.sqlite.specs.Query.{IsAnswer}
use Rattle.sqlite.specs.Program.{overlay, IsProgramAnswer}
use Rattle.sqlite.specs.Tree.{Trees, rowid, with_tree}
use Rattle.sqlite.specs.Table.{Table}
use Rattle.sqlite.specs.Schema.{Schema}
use Rattle.sqlite.specs.Command.TheVariants.{Delete}
use Rattle.sqlite.specs.Edit.{edit_of, id_in}
use Rattle.sqlite.specs.Rowids.TheVariants.{Given}
use Rattle.sqlite_schema.specs.declared.schema.Keys.{Keys}
use Rattle.sqlite_schema.specs.declared.schema.Keys.TheVariants.{Enforced}
use Rattle.sqlite_schema.specs.declared.schema.Reference.{Reference}
use Rattle.sqlite_schema.specs.Rules.{ParentKey, parent_key}
use Rattle.sqlite_trees.proofs.ListLemmas.{filter_same}
use Rattle.sqlite_rules.specs.declared.action.Deed.{Deed}
use Rattle.sqlite_rules.specs.declared.action.Deed.TheVariants.{Refuse, Delete as Remove, Follow, Clear, Reset}
use Rattle.sqlite_rules.specs.Lists.{Has}
use Rattle.sqlite_rules.specs.Action.{deed_for}
use Rattle.sqlite_rules.specs.Probe.{AreFound}
use Rattle.sqlite_rules.specs.Edit.{row_at}
use Rattle.sqlite_rules.specs.Calls.{ids_of}
use Rattle.sqlite_rules.proofs.ListLemmas.{all_has, all_from, test_has, has_got}
use Rattle.sqlite_rules.proofs.ProbeLemmas.{has_mapped, mapped_has, rowid_query, found_rowids}
use Rattle.sqlite_rules.proofs.PlaceLemmas.{row_at_is}
use Rattle.sqlite_rules.proofs.TableLemmas.{int_is, without_all_has}
use Rattle.sqlite.specs.Rows.{Written, Task, Deletes}
use Rattle.sqlite.specs.Does.{OnRows}
use Rattle.sqlite.specs.Listing.{understood}
use Rattle.sqlite.specs.State.{State, Writes, mode_of, ExecutesInside}
use Rattle.sqlite.proofs.Callers.{IsPlain, command_of, statement_of, runs_as}
use Rattle.sql_forms.specs.Forms.{deletes}
use Rattle.sql_forms.specs.Tables.{tables_of, AreRows, AreTables, passes, without, IsReady, Leaves}
use Rattle.sql_forms.specs.Cascade.{Keep, FollowsAt, Follows, Shrinks, spares, is_childless, keep_missed}
use Rattle.sql_forms.proofs.Lists.{went, same_value, filter_whole, not_true, not_false, not_not}
use Rattle.sql_forms.proofs.Tables.{rows_at, listed_in, rows_in, tables_from}
use Rattle.sql_forms.proofs.Queries.{no_overlay}
use Rattle.sql_forms.proofs.Actions.{writes_shrinks, left_lacks, own_rowid, same_row}
use Rattle.sql_forms.proofs.Writes.{done_by, wrote, changed_one}

found : (tree : ℕ) (terms : List Term) (db : Trees) (params : Row) (rows : List Row)
    → IsProgramAnswer [] (deletes tree terms).body db params rows
    → AreFound terms (db tree) params rows
found tree terms db params rows h =
    let a = h Null in
    let b : IsAnswer (rowid_query tree terms) (overlay db []) params rows =
    record {
      staged = a.staged;
      grouped = a.grouped;
      kept = a.kept;
      distinct = a.distinct;
      ordered = a.ordered;
      same = a.same;
      sorted = a.sorted;
      shown = a.shown;
    } in
    subst (λ all. AreFound terms all params rows) (no_overlay db tree)
    (found_rowids tree terms (overlay db []) params rows b)

-- Where the rows that WHERE finds are those that are not kept, the statement leaves of its table those that are.
deletes_rows : (task : Task) (keep : Keep) (terms : List Term) (db : Trees) (out : Written)
    → Follows task.schema task.keys keep
    → AreTables task.schema db → Has task.schema.tables task.table
    → ((r : Row) → Has (db task.table.tree) r → passes terms task.params r ≡ not (keep task.table.tree r))
    → Deletes task (deletes task.table.tree terms) db (Ok out)
    → Shrinks task.schema keep db out.trees
    × ((r : Row) → Has (out.trees task.table.tree) r → keep task.table.tree r ≡ true)
deletes_rows task keep terms db out follows tables listed where_is h =
    let asked = went h in
    let rows = asked.0 in
    let done = went asked.2 in
    let ids = ids_of rows in
    let tree = task.table.tree in
    let all = db tree in
    let hits = found tree terms db task.params rows asked.1.answer in
    let own : AreRows all = rows_in task.schema db tables task.table listed in
    let int : (r : Row) → Has all r
    → rowid r ≡ Int (id_in (rowid r)) = λ r there. int_is (rowid r) (all_has _ all r own.keyed there) in
    let hit : (id : ℤ) → Has ids id → (r : Row) × Has all r × (keep tree r ≡ false) × (rowid r ≡ Int id) = λ id there. (
    let x = has_mapped (λ (r : Row). id_in (rowid r)) rows id there in
    let r = hits.sound x.0 x.1 in (
      r.0,
      r.1,
      not_true (keep tree r.0) (sym (where_is r.0 r.1) ∙ r.2),
      int r.0 r.1
          ∙ ap Int (sym (x.2 ∙ ap (λ (y : Row). id_in (rowid y)) r.3)),
    )) in
    let same : out.trees ≡ done.0 = ap (λ (w : Written). w.trees) (same_value done.2) in
    let gone = writes_shrinks task.schema task.keys keep follows db done.0 tables (edit_of db task.table ids Given 0 [])
    refl listed
    (λ id r there here is. let k = hit id there in let e : r ≡ k.0 = same_row all id k.0 r own.rise k.1 here k.3 is in
    rw e k.2)
    (λ r there. let m = has_mapped (row_at all) ids r there in let k = hit m.0 m.1 in let e : r ≡ k.0 = m.2
    ∙ row_at_is all m.0 k.0 own.rise k.1 (own_rowid k.0 m.0 k.3) in rw e k.2)
    done.1 in (
      subst (Shrinks task.schema keep db) (sym same) gone.0,
      λ r there. true_from_ne_false _ (λ lost.
          let left = gone.1 r (subst (λ (t : Trees). Has (t tree) r) same there) in
          let was = without_all_has ids all r left in
          let asks : passes terms task.params r ≡ true = where_is r was ∙ ap not lost in
          left_lacks ids all r (id_in (rowid r)) left
          (mapped_has (λ (y : Row). id_in (rowid y)) rows (rowid r ∷ []) (hits.complete r was asks))
          (own_rowid r (id_in (rowid r)) (int r was))),
    )

-- The same of a statement that ran.
module _ (schema : Schema) (at : ℕ) (table : Table) (placed : slice_get schema.tables at ≡ Some table) (keep : Keep)
    (follows : Follows schema Enforced keep) (terms : List Term) (old new : State) (ready : IsReady schema old) where
  pub deletes_kept : (text : List ℕ) (params : Row) (count : ℕ)
      → ((r : Row) → Has (old.now.trees table.tree) r → passes terms params r ≡ not (keep table.tree r))
      → Writes old new None (Delete at (deletes table.tree terms)) text params count
      → (new.now.schema ≡ schema) × Shrinks schema keep old.now.trees new.now.trees
      × ((r : Row) → Has (new.now.trees table.tree) r → keep table.tree r ≡ true)
  deletes_kept text params count where_is w =
      let command = Delete at (deletes table.tree terms) in
      let ran : OnRows (record {
        limit = old.step_limit;
        keys = Enforced;
        schema = schema;
        table = table;
        params = params;
      }) (mode_of old) None command old.now.trees (Ok (w.tally, new.now)) =
      rw placed at (done_by schema old new at table placed ready command text params count w) in
      let made = wrote schema old new at table placed ready params command w.tally ran in
      let rows = deletes_rows (record {
        limit = old.step_limit;
        keys = Enforced;
        schema = schema;
        table = table;
        params = params;
      }) keep terms old.now.trees made.0 follows ready.rows
      (has_got schema.tables at table placed) where_is made.1 in (
        subst (λ d. d.schema ≡ schema) (sym made.2) refl,
        subst (λ d. Shrinks schema keep old.now.trees d.trees) (sym made.2) rows.0,
        λ r there. rows.1 r (subst (λ d. Has (d.trees table.tree) r) made.2 there),
      )

  pub shrunk_rows : (next : Trees) → Shrinks schema keep old.now.trees next → AreTables schema next
  shrunk_rows next so = tables_from schema next
      (λ t listed. so.rise t listed (rows_in schema old.now.trees ready.rows t listed))

-- ---- a DELETE that takes nothing along

-- `refl` finds each of these, where the schema and the text are written out
pub record IsDelete (schema : Schema) (sql : List ℕ) (at : ℕ) (table : Table) (terms : List Term) : Type 0 where
  pub compiled : command_of (understood schema sql) ≡ Delete at (deletes table.tree terms)
  pub plain : IsPlain (understood schema sql)
  pub placed : slice_get schema.tables at ≡ Some table
  pub childless : is_childless schema Enforced table.tree ≡ true

spared : (schema : Schema) (keys : Keys) (tree : ℕ) (terms : List Term) (params : Row)
    → is_childless schema keys tree ≡ true
    → Follows schema keys (keep_missed tree terms params)
spared schema keys tree terms params h =
    all_from _ schema.tables (λ t known. all_from _ t.references (λ ref there.
    at t ref (deed_for keys true ref) (parent_key schema.tables ref)
    (test_has _ t.references ref (test_has _ schema.tables t h known) there)))
  where
    at : (t : Table) (ref : Reference) (deed : Option Deed) (key : Option ParentKey) → spares tree deed key ≡ true
        → FollowsAt (keep_missed tree terms params) t.tree ref deed key
    at t ref None key h = tt
    at t ref (Some Refuse) key h = tt
    at t ref (Some Remove) None h = tt
    at t ref (Some Remove) (Some key) h = λ row old same out. absurd
        (let e = (and_parts (eqb key.0 tree) (passes terms params old) (not_false _ out)).0 in let k =
        not_true _ h in cc)
    at t ref (Some Follow) key h = absurd (cc)
    at t ref (Some Clear) key h = absurd (cc)
    at t ref (Some Reset) key h = absurd (cc)

-- `given` is what the call bound, and `params` as the caller writes it
module _ (schema : Schema) (sql : List ℕ) (at : ℕ) (table : Table) (terms : List Term)
    (it : IsDelete schema sql at table terms) (old new : State) (ready : IsReady schema old) (params given : Row)
    (same : given ≡ params) where
  -- the rows that pass WHERE are gone
  pub has_deleted : (r : Result ℕ Error) → ExecutesInside 0 sql given old new r
      → OnOk r (Leaves schema old new
      (with_tree (tables_of schema old.now.trees) table.tree
      (without (passes terms params) (tables_of schema old.now.trees table.tree))))
  has_deleted (Err e) h = tt
  has_deleted (Ok count) h =
      let keep = keep_missed table.tree terms params in
      let listed = has_got schema.tables at table it.placed in
      let here : (r : Row) → keep table.tree r ≡ not (passes terms params r) =
      λ r. rw (eq-eqb table.tree table.tree refl) in
      let w : Writes old new None (Delete at (deletes table.tree terms))
      (statement_of sql (understood schema sql)) params count =
      runs_as sql params old new schema ready.schema_is _ it.compiled it.plain count (rw same at h).0 in
      let follows = spared schema Enforced table.tree terms params it.childless in
      let made = deletes_kept schema at table it.placed keep follows terms old new ready
      (statement_of sql (understood schema sql)) params count (λ r there. sym (ap not (here r) ∙ not_not _)) w in
      let so = made.1 in
      let own : new.now.trees table.tree ≡ without (passes terms params) (old.now.trees table.tree) =
      sym (filter_whole (keep table.tree) (new.now.trees table.tree) made.2) ∙ so.kept table listed
      ∙ filter_same _ _ (old.now.trees table.tree) (all_from _ _ (λ r there. here r)) in
      let others : (t : Table) → Has schema.tables t → t.tree ≢ table.tree
      → new.now.trees t.tree ≡ old.now.trees t.tree = λ t known other. (
      let all : (r : Row) → keep t.tree r ≡ true = λ r. rw (ne_eqb t.tree table.tree other) in
      sym (filter_whole (keep t.tree) (new.now.trees t.tree) (λ r there. all r)) ∙ so.kept t known
      ∙ filter_whole (keep t.tree) (old.now.trees t.tree) (λ r there. all r)) in
      rw (rows_at schema table.tree old.now.trees (listed_in schema table listed)) (record {
        ready = record {
          schema_is = made.0;
          inside = h.1.mode;
          rows = shrunk_rows schema at table it.placed keep follows terms old new ready new.now.trees so;
        };
        sound = w.sound;
        is_open = h.1.is_open;
        tables_are = changed_one schema table (without (passes terms params) (old.now.trees table.tree)) old.now.trees
            new.now.trees listed own others;
        committed = h.1.committed_is;
      })
