-- What a statement that changes the rows of one table leaves, where no foreign key acts.
use Rattle.std.proofs.Common.{◌≡◌, ◌≢◌, inl, inr, ℕ, true, false, cond, List, eqb, None, Ok, slice_get, Some, refl, sym}
use Rattle.std.proofs.Common.{ap, subst, ◌∙◌}
use Rattle.std.proofs.lemmas.Bool.{cases_Bool, both_ways, eq-eqb, eqb-true}
use Rattle.sqlite.specs.Order.{Row}
use Rattle.sqlite.specs.Tree.{Trees, with_tree}
use Rattle.sqlite.specs.Table.{Table}
use Rattle.sqlite.specs.Schema.{Schema}
use Rattle.sqlite.specs.Command.{Command}
use Rattle.sqlite_schema.specs.declared.schema.Keys.TheVariants.{Enforced}
use Rattle.sqlite.specs.Edit.{Edit, edited, Applies}
use Rattle.sqlite_rules.specs.Lists.{Has}
use Rattle.sqlite_rules.proofs.ListLemmas.{all_has, has_got}
use Rattle.sqlite.specs.Effect.{Database}
use Rattle.sqlite.specs.Rows.{Written, Task}
use Rattle.sqlite.specs.Does.{Tally, Does, OnRows, WritesRows}
use Rattle.sqlite.specs.State.{State, Writes, mode_of}
use Rattle.sql_forms.specs.Tables.{tables_of, AreRows, IsReady, Leaves}
use Rattle.sql_forms.proofs.Lists.{went, same_value}
use Rattle.sql_forms.proofs.Tables.{listed_in, at_tables, rows_in}

abbrev pub database : Schema → Trees → Database
database schema trees = record { schema = schema; trees = trees }

-- one table has these rows now, and the others what they had
pub changed_one : (schema : Schema) (table : Table) (rows : List Row) (old new : Trees) → Has schema.tables table
    → new table.tree ≡ rows
    → ((t : Table) → Has schema.tables t → t.tree ≢ table.tree → new t.tree ≡ old t.tree)
    → tables_of schema new ≡ with_tree (tables_of schema old) table.tree rows
changed_one schema table rows old new listed here others i t = at t i
  where
    at : (t : ℕ) → tables_of schema new t ≡ with_tree (tables_of schema old) table.tree rows t
    at t = elim (cases_Bool (eqb t table.tree)) [
      | inl same ↦ let is = eqb-true t table.tree same in let known = listed_in schema table listed in rw
          (same, is, known) here
      | inr apart ↦
          rw apart (at_tables schema (λ n was now. (n ≡ t → now ≡ was)) old new (λ n e. refl)
          (λ x there e. others x there (λ f. both_ways _ apart (eq-eqb t table.tree (sym e ∙ f)))) t refl)
    ]

module _ (schema : Schema) (old new : State) (at : ℕ) (table : Table) (placed : slice_get schema.tables at ≡ Some table)
    (ready : IsReady schema old) where
  pub own_rows : AreRows (old.now.trees table.tree)
  own_rows = rows_in schema old.now.trees ready.rows table (has_got schema.tables at table placed)

  abbrev pub task_of : Row → Task
  task_of params = record { limit = old.step_limit; keys = Enforced; schema = schema; table = table; params = params }

  pub done_by : (command : Command) (text : List ℕ) (params : Row) (count : ℕ)
      (w : Writes old new None command text params count)
      → Does old.step_limit (mode_of old) params (database schema old.now.trees) text None command
      (Ok (w.tally, new.now))
  done_by command text params count w =
      subst (λ s. Does old.step_limit (mode_of old) params (record old.now { schema = s }) text None command
      (Ok (w.tally, new.now))) ready.schema_is w.changed

  -- what was written to the table
  pub wrote : (params : Row) (command : Command) (tally : Tally)
      → OnRows (task_of params) (mode_of old) None command old.now.trees (Ok (tally, new.now))
      → (out : Written) × WritesRows (task_of params) old.now.trees command (Ok out)
      × (new.now ≡ database schema out.trees)
  wrote params command tally h =
      let first = went h in
      (first.0, first.1, ap (λ (p : Tally × Database). p.1) (same_value (went (went first.2).2).2))

  -- the write leaves these rows in the table, and each other table as it was
  pub leaves : (command : Command) (text : List ℕ) (params : Row) (count : ℕ)
      (w : Writes old new None command text params count) (next : Trees) (edit : Edit)
      → new.now ≡ database schema next → edit.table ≡ table
      → Applies schema Enforced old.now.trees edit next → (rows : List Row) → edited old.now.trees edit ≡ rows
      → AreRows rows
      → Leaves schema old new (with_tree (tables_of schema old.now.trees) table.tree rows)
  leaves command text params count w next edit is own a rows has are =
      let here : next table.tree ≡ rows = subst (λ (x : Table). next x.tree ≡ rows) own (a.rows ∙ has) in
      let tables : tables_of schema new.now.trees ≡ with_tree (tables_of schema old.now.trees) table.tree rows =
      ap (λ (d : Database). tables_of schema d.trees) is
      ∙ changed_one schema table rows old.now.trees next (has_got schema.tables at table placed) here
      (λ t there other. all_has (λ (x : Table). x.tree ≢ edit.table.tree → next x.tree ≡ old.now.trees x.tree)
      schema.tables t a.tables there (subst (λ (x : Table). t.tree ≢ x.tree) (sym own) other)) in
      record {
        ready = record {
          schema_is = ap (λ (d : Database). d.schema) is;
          inside = w.shown.mode ∙ ready.inside;
          rows = subst (λ (db : Trees). (t : ℕ) → AreRows (db t)) (sym tables)
              (λ t. elim (eqb t table.tree) as (λ b. AreRows (cond b rows (tables_of schema old.now.trees t)))
              [ true ↦ are | false ↦ ready.rows t ]);
        };
        sound = w.sound;
        is_open = w.shown.is_open;
        tables_are = tables;
        committed = w.shown.committed_is ∙ ap (λ b. cond b old.committed new.now) ready.inside;
      }
