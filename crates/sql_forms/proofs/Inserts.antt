-- An INSERT of one row of VALUES.
use Rattle.std.proofs.Common.{◌≡◌, ℕ, ℤ, ◌/◌, Bool, true, false, cond, List, [], ◌∷◌, ◌++◌, length, append-nil, Some}
use Rattle.std.proofs.Common.{None, Ok, Err, Result, OnOk, slice_get, refl, ap, subst, subst₂, ◌∙◌}
use Rattle.std.specs.Prelude.{MatchBool}
use Rattle.std.proofs.lemmas.Bool.{and_parts}
use Rattle.sqlite.specs.declared.error.Error.{Error}
use Rattle.sqlite.specs.declared.types.Value.{Value}
use Rattle.sqlite.specs.Order.{Row}
use Rattle.sqlite.specs.Kind.TheVariants.{Integer}
use Rattle.sqlite.specs.Term.{Term, eval_all}
use Rattle.sqlite.specs.Tree.{Trees, with_tree, put_row}
use Rattle.sqlite_trees.proofs.TreeLemmas.{IsShaped-put_row}
use Rattle.sqlite.specs.Table.{Table}
use Rattle.sqlite.specs.Schema.{Schema}
use Rattle.sqlite.specs.Command.TheVariants.{Insert}
use Rattle.sqlite.specs.Source.TheVariants.{Values}
use Rattle.sqlite.specs.Cast.{cast_row}
use Rattle.sqlite.specs.Edit.{edit_of, Applies, with_rowid}
use Rattle.sqlite.specs.Rowids.TheVariants.{Chosen}
use Rattle.sqlite_schema.specs.declared.schema.Keys.TheVariants.{Enforced}
use Rattle.sqlite_rules.specs.Action.{works}
use Rattle.sqlite_rules.specs.Action as Action
use Rattle.sqlite.specs.Effect.{value_rows}
use Rattle.sqlite.specs.Rows.{Written, Gives, stamped, rowids_for}
use Rattle.sqlite.specs.Does.{OnRows}
use Rattle.sqlite.specs.Listing.{understood}
use Rattle.sqlite.specs.State.{State, Writes, mode_of, ExecutesInside}
use Rattle.sqlite.proofs.Callers.{IsPlain, command_of, statement_of, runs_as, one_step}
use Rattle.sql_forms.specs.Tables.{tables_of, IsReady, Leaves}
use Rattle.sql_forms.proofs.Casts.{is_of, are_of, cast_row_is}
use Rattle.sqlite_rules.proofs.ListLemmas.{has_got}
use Rattle.sql_forms.proofs.Lists.{went, same_value}
use Rattle.sql_forms.proofs.Tables.{rows_at, listed_in}
use Rattle.sql_forms.proofs.Writes.{database, task_of, done_by, wrote, leaves, own_rows}

-- `refl` finds each of these, where the schema and the text are written out
pub record IsInsert (schema : Schema) (sql : List ℕ) (at : ℕ) (table : Table) (terms : List Term) (width : ℕ) : Type 0
  where
    pub compiled : command_of (understood schema sql) ≡ Insert at (Values terms width)
    pub plain : IsPlain (understood schema sql)
    pub placed : slice_get schema.tables at ≡ Some table
    pub unstamped : (params : Row) → stamped table params ≡ params ++ []
    pub uncounted : table.is_counted ≡ false
    pub one : (params : Row) → value_rows params width (length terms / width) terms ≡ eval_all terms (params ∷ []) ∷ []
    pub idle : (new : Row) → works schema Enforced 0 table.tree [] (new ∷ []) ≡ []

abbrev pub inserted : Table → List Term → Row → List Row → Row
inserted table terms params rows = with_rowid Chosen rows (cast_row table (eval_all terms (params ∷ [])))

chosen : (table : Table) (top : ℤ) → table.is_counted ≡ false → rowids_for table top ≡ Chosen
chosen table top h = rw h refl

settled : (counts higher : Bool) (Counted : Type 0) (db next : Trees) → counts ≡ false
    → MatchBool (cond counts higher false) Counted (Gives db (Ok next)) → next ≡ db
settled true higher Counted db next h k = absurd cc
settled false higher Counted db next h k = same_value k

module _ (schema : Schema) (sql : List ℕ) (at : ℕ) (table : Table) (terms : List Term) (width : ℕ)
    (it : IsInsert schema sql at table terms width) (old new : State) (ready : IsReady schema old) where
  puts : (text : List ℕ) (params : Row) (count : ℕ) → Writes old new None (Insert at (Values terms width)) text params
      count
      → Leaves schema old new (with_tree (tables_of schema old.now.trees) table.tree
      (put_row (inserted table terms params (old.now.trees table.tree)) (old.now.trees table.tree)))
  puts text params count w =
      let db = old.now.trees in
      let rows = db table.tree in
      let command = Insert at (Values terms width) in
      let row = inserted table terms params rows in
      let ran : OnRows (task_of schema old new at table it.placed ready params) (mode_of old) None command db
      (Ok (w.tally, new.now)) =
      rw it.placed at (done_by schema old new at table it.placed ready command text params count w) in
      let made = wrote schema old new at table it.placed ready params command w.tally ran in
      let given = went made.1 in
      let counter = went given.2 in
      let put = went counter.2 in
      let counted = went put.2 in
      let source = eval_all terms (params ∷ []) in
      let edit = edit_of db table [] Chosen 0 (source ∷ []) in
      let sources : given.0 ≡ source ∷ [] = given.1.1
      ∙ ap (λ p. value_rows p width (length terms / width) terms) (it.unstamped params ∙ append-nil params)
      ∙ it.one params in
      let a : Applies schema Enforced db edit put.0 = one_step schema Enforced db put.0 edit (it.idle row)
      (subst₂ (λ rowids sources. Action.Writes schema Enforced db (edit_of db table [] rowids 0 sources) (Ok put.0))
      (chosen table _ it.uncounted) sources put.1) in
      let kept : counted.0 ≡ put.0 = settled table.is_counted _ _ put.0 counted.0 it.uncounted counted.1 in
      let now : new.now ≡ database schema put.0 = made.2
      ∙ ap (λ (x : Written). database schema x.trees) (same_value counted.2) ∙ ap (database schema) kept in
      let own = own_rows schema old new at table it.placed ready in
      let shaped = IsShaped-put_row row rows (and_parts _ _ a.keyed).0 (own.rise, own.keyed) in
      leaves schema old new at table it.placed ready command text params count w put.0 edit now refl a _ refl
      (record { rise = shaped.0; keyed = shaped.1 })

  -- the row is in the table, at the rowid that it gave or else above the others
  pub has_inserted : (params bound : Row) (r : Result ℕ Error) (v : Value) (vs : Row) → eval_all terms (params ∷ []) ≡ v
      ∷ vs → is_of Integer v ≡ true
      → are_of table.columns vs ≡ true → bound ≡ params
      → ExecutesInside 0 sql bound old new r
      → OnOk r (Leaves schema old new (with_tree (tables_of schema old.now.trees) table.tree
      (put_row (with_rowid Chosen (tables_of schema old.now.trees table.tree) (v ∷ vs))
      (tables_of schema old.now.trees table.tree))))
  has_inserted params bound (Err e) v vs values keyed typed same h = tt
  has_inserted params bound (Ok count) v vs values keyed typed same h =
      let w = runs_as sql params old new schema ready.schema_is _ it.compiled it.plain count (rw same at h).0 in
      let row : cast_row table (eval_all terms (params ∷ [])) ≡ v ∷ vs = ap (cast_row table) values
      ∙ cast_row_is table v vs keyed typed in
      let rows = old.now.trees table.tree in
      rw (rows_at schema table.tree old.now.trees (listed_in schema table (has_got schema.tables at table it.placed)))
      (subst (λ x. Leaves schema old new
      (with_tree (tables_of schema old.now.trees) table.tree (put_row (with_rowid Chosen rows x) rows))) row
      (puts (statement_of sql (understood schema sql)) params count w))
