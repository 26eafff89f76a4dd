-- The rows of the tables of a schema, table by table.
use Rattle.std.proofs.Common.{◌≡◌, ℕ, Bool, true, false, cond, eqb, List, [], refl, sym, subst}
use Rattle.std.proofs.lemmas.Bool.{eq-eqb, eqb-true}
use Rattle.sqlite.specs.Order.{Row}
use Rattle.sqlite.specs.Tree.{Trees}
use Rattle.sqlite.specs.Table.{Table}
use Rattle.sqlite.specs.Schema.{Schema}
use Rattle.sqlite.specs.Effect.{Database}
use Rattle.sqlite_rules.specs.Lists.{Has}
use Rattle.sqlite_rules.proofs.ListLemmas.{all_has, some_has, some_from}
use Rattle.sql_forms.specs.Tables.{is_table, tables_of, AreRows, AreTables, IsBare}

pub rows_at : (schema : Schema) (tree : ℕ) (db : Trees) → is_table schema tree ≡ true
    → tables_of schema db tree ≡ db tree
rows_at schema tree db listed = rw listed refl

pub no_rows : AreRows []
no_rows = record { rise = tt; keyed = tt }

module _ (schema : Schema) where
  pub listed_in : (t : Table) → Has schema.tables t → is_table schema t.tree ≡ true
  listed_in t h = some_from (λ (x : Table). eqb x.tree t.tree) schema.tables t h (eq-eqb t.tree t.tree refl)

  -- a fact on what two databases hold holds of each tree, where it holds of each table and of no rows
  pub at_tables : (P : ℕ → List Row → List Row → Type 0) (old new : Trees) → ((t : ℕ) → P t [] [])
      → ((table : Table) → Has schema.tables table → P table.tree (old table.tree) (new table.tree))
      → (t : ℕ) → P t (tables_of schema old t) (tables_of schema new t)
  at_tables P old new none each t = go (is_table schema t) refl
    where
      go : (b : Bool) → is_table schema t ≡ b → P t (cond b (old t) []) (cond b (new t) [])
      go false is = none t
      go true is =
          let found = some_has (λ (x : Table). eqb x.tree t) schema.tables is in
          subst (λ n. P n (old n) (new n)) (eqb-true found.0.tree t found.2) (each found.0 found.1)

  -- ---- rowids that are integers and rise

  pub rows_in : (db : Trees) → AreTables schema db → (t : Table) → Has schema.tables t → AreRows (db t.tree)
  rows_in db are t h = subst AreRows (rows_at schema t.tree db (listed_in t h)) (are t.tree)

  pub tables_from : (db : Trees) → ((t : Table) → Has schema.tables t → AreRows (db t.tree)) → AreTables schema db
  tables_from db each = at_tables (λ t old new. AreRows new) db db (λ t. no_rows) each

  -- ---- tables without a row

  pub bare_at : (db : Database) → IsBare schema db → (t : ℕ) → tables_of schema db.trees t ≡ []
  bare_at db bare = at_tables (λ t old new. new ≡ []) db.trees db.trees (λ t. refl)
      (λ table h. all_has (λ (x : Table). db.trees x.tree ≡ []) schema.tables table bare.empty h)

  pub bare_rows : (db : Database) → IsBare schema db → AreTables schema db.trees
  bare_rows db bare t = subst AreRows (sym (bare_at db bare t)) no_rows
