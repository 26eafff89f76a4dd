-- A connection that was just opened: what it is settled for, and where it is blank.
use Rattle.std.proofs.Common.{arith, ◌≡◌, ℕ, ◌≤◌, sym, subst}
use Rattle.std.specs.Coded.{Coded-set}
use Rattle.std.proofs.Math.Logic.{∥∥₁_elim}
use Rattle.sql_forms.specs.SchemaContracts as schema
use Rattle.sql_forms.proofs.ReadLemmas.{lists_once}
use Rattle.sqlite.specs.Tree.{Trees}
use Rattle.sqlite.specs.Effect.{Database, IsDatabase}
use Rattle.sqlite.specs.State.{State, IsLive, Opens}
use Rattle.mm_definitions.specs.Bounds.{Profile}
use Rattle.mm_definitions.specs.Package.{Package}
use Rattle.mm_store.specs.Made.{no_schema}
use Rattle.mm_store.specs.Stands.{StandsFor, ReadsAs, IsSettled}
use Rattle.mm_store.specs.Tables as tables
use Rattle.mm_meta.specs.Opening.{HasNoTable, IsBlank}

-- what is no more than nothing is nothing
pub nothing_less : (a b : ℕ) → a ≤ b → b ≡ 0 → a ≡ 0
nothing_less a b less none = omega (arith, less, none)

-- it was just opened, and nothing but the last commit may be left
abbrev pub IsFresh : State → Type 0
IsFresh s = Opens s × IsLive s × ((db : Trees) → s.may_leave db → db ≡ s.committed.trees)

-- a database that stands for a package has the profile's schema, whatever schema its connection found in it
reads_by : (profile : Profile) (db : Database) (p : Package) → IsDatabase db → StandsFor profile.version db.trees p
    → ReadsAs profile.version db p
reads_by profile db p sound stands = record {
  schema_is = ∥∥₁_elim stands.sound (Coded-set schema.the_row.coded db.schema tables.schema)
      (λ of_profile. lists_once _ db.schema tables.schema sound.lists of_profile.lists);
  stands = stands;
}

-- it is settled for what its database stands for
pub opened_settles : (s : State) → IsFresh s → (profile : Profile) (p : Package)
    → StandsFor profile.version s.committed.trees p → IsSettled profile s p
opened_settles s (opens, live, law) profile p stands =
    let now = live opens.is_open in
    let reads = reads_by profile s.committed p now.1 stands in
    record {
      mode = opens.autocommit;
      back = λ _. reads;
      reads = λ _. subst (λ d. ReadsAs profile.version d p) (sym opens.clean) reads;
      left = λ db may. subst (λ t. StandsFor profile.version t p) (sym (law db may)) stands;
    }

-- one that lists no table has the empty schema
none_by : (db : Database) → IsDatabase db → HasNoTable db.trees → db.schema ≡ no_schema
none_by db sound none = ∥∥₁_elim none (Coded-set schema.the_row.coded db.schema no_schema)
    (λ empty. lists_once _ db.schema no_schema sound.lists empty.lists)

-- without a table where its database has none
pub opened_blank : (s : State) → IsFresh s → HasNoTable s.committed.trees → IsBlank s
opened_blank s (opens, live, law) none =
    let now = live opens.is_open in
    record {
      mode = opens.autocommit;
      schema_is = λ _. subst (λ d. d.schema ≡ no_schema) (sym opens.clean) (none_by s.committed now.1 none);
      left = λ db may. subst HasNoTable (sym (law db may)) none;
    }
