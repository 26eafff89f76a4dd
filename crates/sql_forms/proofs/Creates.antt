-- A CREATE TABLE where all tables are empty.
use Rattle.std.proofs.Common.{◌≡◌, inl, inr, ℕ, false, List, [], ◌∷◌, ◌++◌, slice_get, Some, None, Ok, sym, ap, subst}
use Rattle.std.proofs.Common.{◌∙◌}
use Rattle.sqlite_rules.specs.Lists.{Has}
use Rattle.std.specs.List.{AllByRecursion}
use Rattle.sqlite.specs.Table.{Table}
use Rattle.sqlite.specs.Schema.{Schema}
use Rattle.sqlite.specs.Command.TheVariants.{CreateTable, CreateIndex}
use Rattle.sqlite.specs.Change.{created, indexed, next_tree}
use Rattle.sqlite_schema.specs.declared.schema.Index.{Index}
use Rattle.sqlite.specs.Does.{Tally, lacks_sequence}
use Rattle.sqlite.specs.Effect.{Database, IsDatabase}
use Rattle.sqlite.specs.Listing.{understood}
use Rattle.sqlite.specs.Compile.{table_defined_by, index_defined_by}
use Rattle.sqlite_rules.proofs.ListLemmas.{all_has, all_from, has_either}
use Rattle.sqlite.specs.State.{State, Writes, Executes}
use Rattle.sqlite.proofs.Callers.{IsPlain, command_of, statement_of, runs_as}
use Rattle.sql_forms.specs.Tables.{IsBare}
use Rattle.sql_forms.proofs.Lists.{went, same_value}

-- `refl` finds each of these, where the schemas and the text are written out
pub record IsCreate (before : Schema) (sql : List ℕ) (table : Table) (after : Schema) : Type 0 where
  pub compiled : command_of (understood before sql) ≡ CreateTable
  pub said : statement_of sql (understood before sql) ≡ sql
  pub plain : IsPlain (understood before sql)
  pub defined : table_defined_by sql ≡ Ok table
  pub becomes : created before table ≡ after
  pub uncounted : lacks_sequence after ≡ false

module _ (old new : State) (before : Schema) (sql : List ℕ) (table : Table) (after : Schema)
    (it : IsCreate before sql table after) (count : ℕ) where
  -- one more table, as empty as the others
  pub creates : IsBare before old.now → Executes sql [] old new (Ok count) → IsBare after new.now × IsDatabase new.now
  creates bare h =
      let has = bare.schema_is in
      let w = subst (λ t. Writes old new None CreateTable t [] count) it.said
      (runs_as sql [] old new before has CreateTable it.compiled it.plain count h) in
      let all = went w.changed in
      let first = went all.1 in
      let made = first.1 in
      let both : Ok made.table ≡ Ok table = sym made.defined ∙ it.defined in
      let same : made.table ≡ table = same_value both in
      let becomes : created old.now.schema made.table ≡ after = ap (λ s. created s made.table) has
      ∙ ap (created before) same ∙ it.becomes in
      let schema : first.0.schema ≡ after = made.is ∙ becomes in
      let plain : lacks_sequence first.0.schema ≡ false = ap lacks_sequence schema ∙ it.uncounted in
      let now : new.now ≡ first.0 = ap (λ (p : Tally × Database). p.1) (same_value all.2)
      ∙ same_value (rw plain at first.2) in
      let bare_all : AllByRecursion (λ (t : Table). first.0.trees t.tree ≡ [])
      (created old.now.schema made.table).tables =
      all_from _ (old.now.schema.tables ++ (record (made.table) { tree = next_tree old.now.schema }) ∷ [])
      (λ t there. elim (has_either old.now.schema.tables _ t there) [
        | inl was ↦
            all_has (λ (x : Table). first.0.trees x.tree ≡ old.now.trees x.tree) old.now.schema.tables t made.others was
            ∙ all_has (λ (x : Table). old.now.trees x.tree ≡ []) old.now.schema.tables t
            (subst (λ (s : Schema). AllByRecursion (λ (x : Table). old.now.trees x.tree ≡ []) s.tables)
            (sym has) bare.empty) was
        | inr last ↦ elim last [
          | inl is ↦ ap (λ (x : Table). first.0.trees x.tree) is ∙ made.empty
          | inr none ↦ absurd none
        ]
      ]) in (
        record {
          schema_is = ap (λ (d : Database). d.schema) now ∙ schema;
          empty = subst (λ (d : Database). AllByRecursion (λ (t : Table). d.trees t.tree ≡ []) after.tables)
              (sym now) (subst (λ (s : Schema). AllByRecursion (λ (t : Table). first.0.trees t.tree ≡ []) s.tables)
              becomes bare_all);
        },
        w.sound,
      )

-- ---- CREATE INDEX

-- `refl` finds each of these, where the schemas and the text are written out
pub record IsIndexing (before : Schema) (sql : List ℕ) (at : ℕ) (table : Table) (index : Index) (after : Schema) : Type
    0 where
  pub compiled : command_of (understood before sql) ≡ CreateIndex at
  pub said : statement_of sql (understood before sql) ≡ sql
  pub plain : IsPlain (understood before sql)
  pub placed : slice_get before.tables at ≡ Some table
  pub defined : index_defined_by table sql ≡ Ok index
  pub becomes : indexed before table index ≡ after

module _ (old new : State) (before : Schema) (sql : List ℕ) (at : ℕ) (table : Table) (index : Index) (after : Schema)
    (it : IsIndexing before sql at table index after) (same_tables : after.tables ≡ before.tables) (count : ℕ) where
  -- one more index, and the tables as empty as before
  pub indexes : IsBare before old.now → Executes sql [] old new (Ok count) → IsBare after new.now × IsDatabase new.now
  indexes bare h =
      let has = bare.schema_is in
      let w = subst (λ t. Writes old new None (CreateIndex at) t [] count) it.said
      (runs_as sql [] old new before has (CreateIndex at) it.compiled it.plain count h) in
      let placed : slice_get old.now.schema.tables at ≡ Some table = ap (λ (s : Schema). slice_get s.tables at) has
      ∙ it.placed in
      let all = went (rw placed at w.changed) in
      let made = all.1 in
      let both : Ok made.index ≡ Ok index = sym made.defined ∙ it.defined in
      let same : made.index ≡ index = same_value both in
      let schema : all.0.schema ≡ after = made.is ∙ ap (λ s. indexed s table made.index) has
      ∙ ap (indexed before table) same ∙ it.becomes in
      let now : new.now ≡ all.0 = ap (λ (p : Tally × Database). p.1) (same_value all.2) in
      let bare_all : AllByRecursion (λ (t : Table). all.0.trees t.tree ≡ []) before.tables =
      all_from _ before.tables (λ t there.
      all_has (λ (x : Table). all.0.trees x.tree ≡ old.now.trees x.tree) old.now.schema.tables t made.rows
      (subst (λ (s : Schema). Has s.tables t) (sym has) there)
      ∙ all_has (λ (x : Table). old.now.trees x.tree ≡ []) before.tables t bare.empty there) in (
        record {
          schema_is = ap (λ (d : Database). d.schema) now ∙ schema;
          empty = subst (λ (d : Database). AllByRecursion (λ (t : Table). d.trees t.tree ≡ []) after.tables)
              (sym now) (subst (λ ts. AllByRecursion (λ (t : Table). all.0.trees t.tree ≡ []) ts) (sym same_tables)
              bare_all);
        },
        w.sound,
      )
