-- An UPDATE that leaves each row at its rowid, and sets off no action of a foreign key.
use Rattle.std.proofs.Common.{◌≡◌, ℕ, Bool, true, false, ◌==◌, not, List, [], ◌∷◌, filter, map, drop, length, Some}
use Rattle.std.proofs.Common.{None, Ok, Err, Result, OnOk, slice_get, refl, ap, subst, subst₂, ◌∙◌, sym, arith}
use Rattle.std.specs.List.{flat_map, filter_map}
use Rattle.std.specs.List.Sorted.{IsPermutation}
use Rattle.std.proofs.lemmas.Bool.Decides.{nat_tests}
use Rattle.std.proofs.lemmas.List.Sorted.{IsPermutation-map, list_any-IsPermutation}
use Rattle.sqlite.specs.declared.error.Error.{Error}
use Rattle.sqlite.specs.declared.types.Value.TheVariants.{Int}
use Rattle.sqlite.specs.Order.{Row}
use Rattle.sqlite.specs.Term.{Term, col, eval_all}
use Rattle.sqlite.specs.Tree.{rowid, with_tree, has_rowid}
use Rattle.sqlite.specs.Table.{Table}
use Rattle.sqlite.specs.Schema.{Schema}
use Rattle.sqlite.specs.Command.TheVariants.{Update}
use Rattle.sqlite.specs.Cast.{cast_row}
use Rattle.sqlite.specs.Edit.{edit_of, Applies, taken_by, without_all, put_all, id_in, are_fresh}
use Rattle.sqlite.specs.Rowids.TheVariants.{Given}
use Rattle.sqlite_schema.specs.declared.schema.Keys.TheVariants.{Enforced}
use Rattle.sqlite_schema.specs.Rules.{parent_key}
use Rattle.sqlite_trees.proofs.ListLemmas.{filter_same, map-map}
use Rattle.sqlite_rules.specs.Action.{Work, works, pairs, work_by, deed_for}
use Rattle.sqlite_rules.specs.Calls.{ids_of}
use Rattle.sqlite_rules.specs.Lists.{Has}
use Rattle.sqlite_rules.proofs.ListLemmas.{all_has, all_from}
use Rattle.sqlite_rules.proofs.PlaceLemmas.{given}
use Rattle.sqlite_rules.proofs.TableLemmas.{int_is}
use Rattle.sqlite.specs.Rows.{Written}
use Rattle.sqlite.specs.Does.{OnRows}
use Rattle.sqlite.specs.Listing.{understood}
use Rattle.sqlite.specs.State.{State, Writes, mode_of, ExecutesInside}
use Rattle.sqlite.proofs.Callers.{IsPlain, command_of, statement_of, runs_as, one_step}
use Rattle.sql_forms.specs.Forms.{updates}
use Rattle.sql_forms.specs.Tables.{tables_of, AreRows, passes, without, with_changed, IsReady, Leaves}
use Rattle.sql_forms.proofs.Casts.{cast_int}
use Rattle.sql_forms.proofs.Rows.{without_all_is, ids_where, picks, changed_is, changed_are}
use Rattle.sql_forms.proofs.Queries.{answers_all}
use Rattle.sqlite_rules.proofs.ListLemmas.{has_got}
use Rattle.sql_forms.proofs.Lists.{went, same_value}
use Rattle.sql_forms.proofs.Tables.{rows_at, listed_in}
use Rattle.sql_forms.proofs.Writes.{database, task_of, done_by, wrote, leaves, own_rows}

-- the work of an edit that has new rows, and of one that only deletes
abbrev pub works_as : Schema → ℕ → Bool → List (Row × Row) → List Work
works_as schema tree deletes moves =
    flat_map (λ child. filter_map (λ ref. work_by 0 tree moves child ref (deed_for Enforced deletes ref)
    (parent_key schema.tables ref)) child.references) schema.tables

-- `refl` finds each of these, where the schema and the text are written out
pub record IsUpdate (schema : Schema) (sql : List ℕ) (at : ℕ) (table : Table) (terms sets : List Term) : Type 0 where
  pub compiled : command_of (understood schema sql) ≡ Update at (updates table.tree terms sets)
  pub plain : IsPlain (understood schema sql)
  pub placed : slice_get schema.tables at ≡ Some table
  pub idle : (moves : List (Row × Row)) → works_as schema table.tree false moves ≡ []
  pub none : works_as schema table.tree true [] ≡ []

some_news : (schema : Schema) (tree : ℕ) → ((moves : List (Row × Row)) → works_as schema tree false moves ≡ [])
    → (olds : List Row) (new : Row) (news : List Row) → works schema Enforced 0 tree olds (new ∷ news) ≡ []
some_news schema tree idle olds new news =
    let some : (length (new ∷ news) == 0) ≡ false = grind (arith, nat_tests) in
    subst (λ b. works_as schema tree b (pairs olds (new ∷ news)) ≡ []) (sym some) (idle (pairs olds (new ∷ news)))

abbrev pub updated : Table → List Term → Row → Row → Row
updated table sets params r = cast_row table (rowid r ∷ eval_all sets (params ∷ r ∷ []))

module _ (schema : Schema) (sql : List ℕ) (at : ℕ) (table : Table) (terms sets : List Term)
    (it : IsUpdate schema sql at table terms sets) (old new : State) (ready : IsReady schema old) where
  rows : List Row
  rows = old.now.trees table.tree

  own : AreRows (old.now.trees table.tree)
  own = own_rows schema old new at table it.placed ready

  -- what the statement sets off, by the rows that it found
  idles : (answer : List Row)
      → (let edit = edit_of old.now.trees table (ids_of answer) Given 1 answer in works schema Enforced 0 table.tree
      (taken_by old.now.trees edit) edit.news ≡ [])
  idles [] = it.none
  idles (x ∷ more) =
      let edit = edit_of old.now.trees table (ids_of (x ∷ more)) Given 1 (x ∷ more) in
      some_news schema table.tree it.idle (taken_by old.now.trees edit) (cast_row table (drop 1 x)) (drop 1 edit.news)

  module _ (params : Row) where
    keeps : (r : Row) → Has (old.now.trees table.tree) r → rowid (updated table sets params r) ≡ rowid r
    keeps r h = let id = int_is (rowid r) (all_has _ _ r own.keyed h) in rw id (cast_int (Int (id_in (rowid r))) refl)

    changes : (text : List ℕ) (count : ℕ) → Writes old new None (Update at (updates table.tree terms sets)) text params
        count
        → Leaves schema old new (with_tree (tables_of schema old.now.trees) table.tree
        (with_changed (passes terms params) (updated table sets params) (old.now.trees table.tree)))
    changes text count w =
        let db = old.now.trees in
        let command = Update at (updates table.tree terms sets) in
        let test = passes terms params in
        let ran : OnRows (task_of schema old new at table it.placed ready params) (mode_of old) None command db
        (Ok (w.tally, new.now)) =
        rw it.placed at (done_by schema old new at table it.placed ready command text params count w) in
        let made = wrote schema old new at table it.placed ready params command w.tally ran in
        let read = went made.1 in
        let put = went read.2 in
        let edit = edit_of db table (ids_of read.0) Given 1 read.0 in
        let a : Applies schema Enforced db edit put.0 = one_step schema Enforced db put.0 edit (idles read.0) put.1 in
        let now : new.now ≡ database schema put.0 = made.2
        ∙ ap (λ (x : Written). database schema x.trees) (same_value put.2) in
        let project = col 1 0 ∷ col 1 0 ∷ sets in
        let answer = answers_all table.tree terms project db params read.0 read.1.answer in
        let ids = IsPermutation-map (λ r. id_in (rowid r)) _ _ answer in
        let named : map (λ r. id_in (rowid r))
        (map (λ r. eval_all project (params ∷ r ∷ [])) (filter test (db table.tree))) ≡ ids_where test (db table.tree) =
        map-map _ _ _ in
        let gone : without_all (db table.tree) (ids_of read.0) ≡ without test (db table.tree) =
        without_all_is (ids_of read.0) (db table.tree)
        ∙ filter_same _ _ (db table.tree) (all_from _ (db table.tree) (λ r h. ap not
        (sym (list_any-IsPermutation (λ id. has_rowid id r) _ _
        (subst (λ xs. IsPermutation xs (ids_of read.0)) named ids)) ∙ picks test (db table.tree) own r h))) in
        let news : edit.news ≡ map (λ s. cast_row table (drop 1 s)) read.0 = given _ _ in
        let recast = IsPermutation-map (λ s. cast_row table (drop 1 s)) _ _ answer in
        let again : IsPermutation (map (updated table sets params) (filter test (db table.tree))) edit.news =
        subst₂ (λ xs ys. IsPermutation xs ys)
        (map-map (λ s. cast_row table (drop 1 s)) (λ r. eval_all project (params ∷ r ∷ []))
        (filter test (db table.tree))) (sym news) recast in
        let fresh = subst (λ left. are_fresh left edit.news ≡ true) gone a.fresh in
        let whole : put_all (without_all (db table.tree) (ids_of read.0)) edit.news ≡ with_changed test
        (updated table sets params) (db table.tree) =
        ap (λ left. put_all left edit.news) gone ∙ changed_is test (updated table sets params) (db table.tree) edit.news
        own keeps again fresh in
        leaves schema old new at table it.placed ready command text params count w put.0 edit now refl a _ whole
        (changed_are test (updated table sets params) (db table.tree) edit.news own keeps again fresh)

    -- each row that passes WHERE is changed where it stands
    pub has_changed : (bound : Row) (r : Result ℕ Error) → bound ≡ params → ExecutesInside 0 sql bound old new r
        → OnOk r (Leaves schema old new (with_tree (tables_of schema old.now.trees) table.tree
        (with_changed (passes terms params) (updated table sets params) (tables_of schema old.now.trees table.tree))))
    has_changed bound (Err e) same h = tt
    has_changed bound (Ok count) same h =
        let w = runs_as sql params old new schema ready.schema_is _ it.compiled it.plain count (rw same at h).0 in
        rw (rows_at schema table.tree old.now.trees (listed_in schema table (has_got schema.tables at table it.placed)))
        (changes (statement_of sql (understood schema sql)) count w)
