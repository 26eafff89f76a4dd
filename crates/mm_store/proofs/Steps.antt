-- A statement on a database that stands for a package.
use Rattle.std.proofs.Common.{◌≡◌, ℕ, ℤ, Bool, true, false, List, [], ◌∷◌, Option, is_some, Result, Ok, Err, IfOk, OnOk}
use Rattle.std.proofs.Common.{IsTrue, refl, sym, subst, ◌∙◌}
use Rattle.std.specs.Prelude.{⊤}
use Rattle.std.specs.List.{list_any}
use Rattle.sqlite.specs.declared.types.Value.{Value}
use Rattle.sqlite.specs.declared.types.Value.TheVariants.{Null, Int}
use Rattle.sqlite.specs.declared.transaction.Transaction.{Transaction}
use Rattle.sqlite.specs.Edit.{is_taken, next_rowid}
use Rattle.sqlite.specs.Held.{state}
use Rattle.sqlite.specs.Order.{Row}
use Rattle.sqlite.specs.Store.{Ghosts}
use Rattle.sqlite.specs.Table.{Table}
use Rattle.sqlite.specs.Term.{Term, eval_all}
use Rattle.sqlite.specs.Tree.{Trees, with_tree, put_row}
use Rattle.sqlite.specs.State.{State, ExecutesInside, IsUnchanged}
use Rattle.sql_forms.specs.Listing.{IsSound}
use Rattle.sql_forms.specs.Forms.{first_of}
use Rattle.sql_forms.specs.Tables.{tables_of, AreRows, IsReady, Leaves, IsFirstShown, FindsRow, passes, without}
use Rattle.sql_forms.specs.Tables.{with_changed}
use Rattle.sql_forms.proofs.Cascades.{IsCascade, cascaded}
use Rattle.sql_forms.specs.Cascade.{cut}
use Rattle.sql_forms.proofs.Casts.{are_of}
use Rattle.sql_forms.proofs.Deletes.{IsDelete, has_deleted}
use Rattle.sql_forms.proofs.Inserts.{IsInsert, has_inserted}
use Rattle.sql_forms.proofs.Keys.{chosen_is_free}
use Rattle.sql_forms.proofs.Selects.{IsSelect, shows, selects_one, selects_any}
use Rattle.sql_forms.proofs.States.{shown_open}
use Rattle.sql_forms.proofs.Updates.{IsUpdate, updated, has_changed}
use Rattle.mm_store.specs.Tables.{schema}
use Rattle.mm_definitions.specs.Bounds.{Profile}
use Rattle.mm_definitions.specs.Package.{Package}
use Rattle.mm_store.specs.Stands.{Holding, ReadsAs, Ground, StandsInside}
use Rattle.mm_definitions.specs.declared.answers.Fault.{Fault}
use Rattle.mm_store.specs.Statements.{IsAsked}
use Rattle.mm_store.specs.Handed.{IsSame, Runs, AsksFirst, Asks, Looks, Tells, ChangesWhere}

abbrev pub seen : State → Trees
seen s = tables_of schema s.now.trees

pub ready_inside : (profile : Profile) (s : State) (ground : Ground) (p : Package) → StandsInside profile s ground p
    → IsTrue s.is_open → IsReady schema s
ready_inside profile s ground p it up = let at =
    it.reads up in record { schema_is = at.schema_is; inside = it.mode; rows = at.stands.rows }

pub inside_same : (profile : Profile) (old new : State) (ground : Ground) (p : Package) → IsUnchanged old new
    → StandsInside profile old ground p
    → StandsInside profile new ground p
inside_same profile old new ground p same it = record {
  mode = same.0.mode ∙ it.mode;
  back = λ _. let on = it.back same.0.was_open in (same.0.committed_is ∙ on.0, on.1);
  reads = λ _. subst (λ d. ReadsAs profile.version d p) (sym same.0.now_is) (it.reads same.0.was_open);
}

-- what the first row that is shown tells of the package
abbrev pub FindsFirst : {T : Type 0} → State → State → List ℕ → Row → (T → Option Row → Type 0) → (Package → T → Type 0)
    → Type 0
FindsFirst {T} old new sql given Gives Says = (x : T) (first : Option Row) → IsReady schema old
    → IsFirstShown sql given old new first → Gives x first
    → IsUnchanged old new × ((version : ℤ) (p : Package) → Holding version (seen old) p → Says p x)

told : {T : Type 0} (old new : State) (sql : List ℕ) (given : Row) (Gives : T → Option Row → Type 0)
    (Says : Package → T → Type 0)
    → FindsFirst old new sql given Gives Says
    → (profile : Profile) (ground : Ground) (p : Package) → StandsInside profile old ground p → (r : Result T Fault)
    → IfOk r (λ x. (first : Option Row) × IsFirstShown sql given old new first × Gives x first)
    → IfOk r (λ x. IsTrue new.is_open × StandsInside profile new ground p × Says p x)
told old new sql given Gives Says finds profile ground p it (Err e) h = tt
told old new sql given Gives Says finds profile ground p it (Ok x) h =
    let up = shown_open sql given old new h.1.0 h.1.1 in
    let found = finds x h.0 (ready_inside profile old ground p it up) h.1 h.2 in (
      found.0.0.is_open,
      inside_same profile old new ground p found.0 it,
      found.1 profile.version p
          (it.reads up).stands.holds,
    )

module _ {S : Type 0} {g : Ghosts S} {a b : Transaction S} {sql : List ℕ} {given : Row} where
  -- ---- a query, by its first row

  looks_at : {T : Type 0} {Gives : T → Option Row → Type 0} {Says : Package → T → Type 0} {r : Result T Fault}
      → IsSame a b → IsAsked (state g a.conn.now) (state g b.conn.now) sql given Gives r
      → FindsFirst (state g a.conn.now) (state g b.conn.now) sql given Gives Says → Looks g a b Says r
  looks_at {Gives = Gives} {Says = Says} {r = r} same asked finds = record {
    same = same;
    survives = asked.survives;
    on = λ clean profile ground p it when. asked.on clean it.mode ground it.back;
    comes = λ clean profile ground p it when. told (state g a.conn.now)
        (state g b.conn.now) sql given Gives Says finds profile ground p it r (asked.gives clean);
    faults = asked.faults;
  }

  pub looks : {T : Type 0} {Gives : T → Option Row → Type 0} {Says : Package → T → Type 0} {r : Result T Fault}
      → Asks g a b sql given Gives r
      → FindsFirst (state g a.conn.now) (state g b.conn.now) sql given Gives Says → Looks g a b Says r
  looks h finds = looks_at h.same h.asked finds

  pub looks_first : {T : Type 0} {Gives : T → Option Row → Type 0} {Says : Package → T → Type 0} {r : Result T Fault}
      → AsksFirst g a b sql given Gives r
      → FindsFirst (state g a.conn.now) (state g b.conn.now) sql given Gives Says → Looks g a b Says r
  looks_first h finds = looks_at h.same h.asked finds

  module _ {tree : ℕ} {terms project : List Term} {names : List (List ℕ)}
      (it : IsSelect schema sql tree (first_of tree terms project) names) where
    -- one row, which no other is like
    pub asks_one : {T : Type 0} {Gives : T → Option Row → Type 0} {Says : Package → T → Type 0} {r : Result T Fault}
        → Asks g a b sql given Gives r
        → (params : Row) → given ≡ params
        → ((version : ℤ) (p : Package) (db : Trees) → Holding version db p → (x : T) (first : Option Row)
        → Gives x first → FindsRow (passes terms params) (shows project params) (db tree) first → Says p x)
        → Looks g a b Says r
    asks_one h params same finds = looks h (λ x first ready shown gives.
        let read = selects_one schema sql tree terms project names it (state g a.conn.now)
        (state g b.conn.now) ready.schema_is params given same first shown in
        (read.0, λ version p holds. finds version p (seen (state g a.conn.now)) holds x first gives read.1))

    -- whether there is one
    pub asks_any : {told : Package → Bool} {r : Result Bool Fault}
        → AsksFirst g a b sql given (λ found first. found ≡ is_some first) r
        → (params : Row) → given ≡ params
        → ((version : ℤ) (p : Package) (db : Trees) → Holding version db p → list_any (passes terms params) (db tree)
        ≡ told p)
        → Tells g a b told r
    asks_any h params same finds = looks_first h (λ x first ready shown gives.
        let read = selects_any schema sql tree terms project names it (state g a.conn.now)
        (state g b.conn.now) ready.schema_is params given same first shown in
        (read.0, λ version p holds. gives ∙ read.1 ∙ finds version p (seen (state g a.conn.now)) holds))

  -- ---- a statement that changes the tables so

  module _ {When : Package → Type 0} {next : Package → Package} {r : Result (Unit {0}) Fault}
      (h : Runs g a b sql given r) where
    pub makes : (tables : Trees → Trees)
        → ((count : ℕ) → IsReady schema (state g a.conn.now) → ExecutesInside 0 sql given (state g a.conn.now)
        (state g b.conn.now) (Ok count)
        → Leaves schema (state g a.conn.now) (state g b.conn.now) (tables (seen (state g a.conn.now))))
        → ((version : ℤ) (db : Trees) (p : Package) → ((t : ℕ) → AreRows (db t)) → Holding version db p → When p
        → Holding version (tables db) (next p))
        → ChangesWhere g a b When next r
    makes tables leaves holds = record {
      same = h.same;
      survives = h.run.survives;
      on = λ clean profile ground p it when. h.run.on clean it.mode ground it.back;
      comes = λ clean profile ground p it when. made profile ground p it when r (h.run.ran clean it.mode);
      faults = h.run.faults;
    }
      where
        made : (profile : Profile) (ground : Ground) (p : Package) → StandsInside profile (state g a.conn.now) ground p
            → When p → (r : Result (Unit {0}) Fault)
            → OnOk r ((count : ℕ) × ExecutesInside 0 sql given (state g a.conn.now) (state g b.conn.now) (Ok count))
            → IfOk r (λ it. IsTrue (state g b.conn.now).is_open × StandsInside profile (state g b.conn.now) ground
            (next p) × ⊤)
        made profile ground p it when (Err e) ran = tt
        made profile ground p it when (Ok u) ran =
            let old = state g a.conn.now in
            let new = state g b.conn.now in
            let up = ran.1.1.was_open in
            let at = it.reads up in
            let left = leaves ran.0 (ready_inside profile old ground p it up) ran.1 in
            let last = holds profile.version (seen old) p at.stands.rows at.stands.holds when in (
              left.is_open,
              record {
                mode = left.ready.inside;
                back = λ _. let on = it.back up in (left.committed ∙ on.0, on.1);
                reads = λ _. record {
                  schema_is = left.ready.schema_is;
                  stands = record {
                    sound = ∣ subst (λ s. IsSound s new.now.trees) left.ready.schema_is left.sound ∣₁;
                    rows = left.ready.rows;
                    holds = subst (λ db. Holding profile.version db (next p)) (sym left.tables_are) last;
                  };
                };
              },
              tt,
            )

    -- a row is put, with a rowid above all others
    pub inserts : {at : ℕ} {table : Table} {terms : List Term} {width : ℕ} → IsInsert schema sql at table terms width →
        (params : Row) → given ≡ params
        → (row : Row) → eval_all terms (params ∷ []) ≡ Null ∷ row → are_of table.columns row ≡ true
        → ((version : ℤ) (db : Trees) (p : Package) → Holding version db p → is_taken (db table.tree)
        (Int (next_rowid (db table.tree)) ∷ row) ≡ false → When p
        → Holding version (with_tree db table.tree (put_row (Int (next_rowid (db table.tree)) ∷ row) (db table.tree)))
        (next p))
        → ChangesWhere g a b When next r
    inserts {table = table} it params same row values typed holds =
        makes (λ db. with_tree db table.tree (put_row (Int (next_rowid (db table.tree)) ∷ row) (db table.tree)))
        (λ count ready ran. has_inserted schema sql _ table _ _ it (state g a.conn.now)
        (state g b.conn.now) ready params given (Ok count) Null row values refl typed same ran)
        (λ version db p rows h when. holds version db p h (chosen_is_free (db table.tree) row (rows table.tree)) when)

    -- the rows that pass WHERE are changed
    pub updates : {at : ℕ} {table : Table} {terms sets : List Term} → IsUpdate schema sql at table terms sets →
        (params : Row) → given ≡ params
        → ((version : ℤ) (db : Trees) (p : Package) → Holding version db p → When p
        → Holding version
        (with_tree db table.tree (with_changed (passes terms params) (updated table sets params) (db table.tree)))
        (next p))
        → ChangesWhere g a b When next r
    updates {table = table} {terms = terms} {sets = sets} it params same holds =
        makes (λ db. with_tree db table.tree
        (with_changed (passes terms params) (updated table sets params) (db table.tree)))
        (λ count ready ran. has_changed schema sql _ table terms sets it (state g a.conn.now)
        (state g b.conn.now) ready params given (Ok count) same ran)
        (λ version db p rows h when. holds version db p h when)

    -- the rows that pass WHERE are gone
    pub deletes : {at : ℕ} {table : Table} {terms : List Term} → IsDelete schema sql at table terms → (params : Row)
        → given ≡ params
        → ((version : ℤ) (db : Trees) (p : Package) → Holding version db p → When p
        → Holding version (with_tree db table.tree (without (passes terms params) (db table.tree))) (next p))
        → ChangesWhere g a b When next r
    deletes {table = table} {terms = terms} it params same holds =
        makes (λ db. with_tree db table.tree (without (passes terms params) (db table.tree)))
        (λ count ready ran. has_deleted schema sql _ table terms it (state g a.conn.now)
        (state g b.conn.now) ready params given same (Ok count) ran)
        (λ version db p rows h when. holds version db p h when)

    -- so are those that hang on them
    pub cascades : {at : ℕ} {table : Table} {n : ℕ} {place : ℕ → Option ℕ} → IsCascade schema sql at table n place →
        (key : Value) → given ≡ key ∷ []
        → ((version : ℤ) (db : Trees) (p : Package) → Holding version db p → When p → Holding version (cut place key db)
        (next p))
        → ChangesWhere g a b When next r
    cascades {place = place} it key same holds =
        makes (cut place key)
        (λ count ready ran. cascaded schema sql _ _ _ place it (state g a.conn.now) (state g b.conn.now) key given
        (Ok count) ready same ran)
        (λ version db p rows h when. holds version db p h when)
