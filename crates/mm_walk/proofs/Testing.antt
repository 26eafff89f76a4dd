-- What a walk that tests each row tells.
use Rattle.std.proofs.Common.{◌≡◌, ◌↔◌, ◌⊎◌, inl, inr, ℕ, Bool, true, false, List, [], ◌∷◌, ◌++◌, IsTrue, Result, Ok}
use Rattle.std.proofs.Common.{Err, IfOk, IfErr, OnOk, refl, sym, subst, ◌∙◌}
use Rattle.std.specs.Bool.{⊤}
use Rattle.std.specs.List.{AllByRecursion}
use Rattle.sql_forms.specs.Values.TheVariants.{Null}
use Rattle.sql_forms.specs.Key.{Key}
use Rattle.sqlite.specs.Order.{Row}
use Rattle.sql_forms.specs.Term.{Term}
use Rattle.sql_forms.specs.Query.{Join}
use Rattle.sql_forms.specs.Program.{overlay}
use Rattle.sql_forms.specs.Schema.{Schema}
use Rattle.sql_forms.specs.Command.TheVariants.{Select}
use Rattle.sqlite.specs.Listing.{understood}
use Rattle.sqlite.specs.State.{State, HasCleanDisk, IsUnchanged, Shown, Begins}
use Rattle.sqlite.proofs.Callers.{IsPlain, reads_as, begins_as}
use Rattle.sql_forms.specs.Forms.{query, no_limit, alone}
use Rattle.mm_definitions.specs.declared.answers.Fault.{Fault}
use Rattle.mm_definitions.specs.Faults.{IsStoreFault}
use Rattle.mm_walk.specs.Walk.{OnlyAsks, Rests, TakesRows, Ends, IsWalk}
use Rattle.mm_walk.specs.RowTests.{IsQuery, AllShown, TellsAll}
use Rattle.mm_walk.proofs.Matches.{all_split, all_good, each_good}

pub plain_asks : (schema : Schema) (sql : List ℕ) → IsPlain (understood schema sql) → OnlyAsks schema sql
plain_asks schema sql plain c is = (subst IsPlain is plain).0

module _ (sql : List ℕ) (params : Row) (good : Row → Type 0) (schema : Schema) (from : Join)
    (terms project : List Term) (order : List (Term × Key)) (names : List (List ℕ))
    (it : IsQuery schema sql from terms project order names) (old : State) (has : old.now.schema ≡ schema) where
  -- each row of an answer has passed
  tells_all : (new : State) (rows : List Row) → Shown sql params old new rows → AllByRecursion good rows
      → IsTrue true ↔ AllShown old.now.trees params from terms project good
  tells_all new rows shown all =
      let read = reads_as sql params old new schema has (Select (alone (query from terms project order no_limit)) names)
      it.compiled it.plain it.unlisted rows shown in (
        λ _. each_good from terms project order (overlay old.now.trees []) params rows (read.answer Null) good all,
        λ _.
            refl,
      )

  -- a row of an answer has not passed
  tells_stop : (rows : List Row) (row : Row) → Begins sql params old (rows ++ row ∷ []) → (good row → ⊥)
      → IsTrue false ↔ AllShown old.now.trees params from terms project good
  tells_stop rows row begins bad =
      let start = begins_as sql params old old schema has
      (Select (alone (query from terms project order no_limit)) names) it.compiled it.plain it.unlisted
      (rows ++ row ∷ []) begins in
      let rest = start.1 in (
        λ e. absurd (let f : false ≡ true = e in cc),
        λ each. absurd (
            let all = all_good from terms project order (overlay old.now.trees []) params ((rows ++ row ∷ []) ++ rest.0)
            (rest.1 Null) good each in
            let front = (all_split good (rows ++ row ∷ []) rest.0 all).0 in
            bad (all_split good rows (row ∷ []) front).1.0),
      )

-- A visitor that stays what it is to be, and answers whether a row is good; of good ones it notes something, and what
-- it noted of others stays.
module _ {V : Type 0} (takes : V → Row → V → Result Bool Fault → Type 0) (Stays : V → Type 0) (good : Row → Type 0)
    (noted : V → Row → Type 0)
    (never : (v w : V) (row : Row) (fault : Fault) → takes v row w (Err fault) → ⊥)
    (tests : (v w : V) (row : Row) (b : Bool) → Stays v → takes v row w (Ok b)
    → Stays w × (IsTrue b ↔ good row) × (IsTrue b → noted w row)
    × ((other : Row) → noted v other → noted w other)) where
  halts : (v w : V) (row : Row) → Stays v → takes v row w (Ok false) → good row → ⊥
  halts v w row stays h there = let t = tests v w row false stays h in let e : false ≡ true = t.1.1 there in cc

  -- each row is good, and something is noted of each
  all_taken : (v w : V) (rows : List Row) → Stays v → TakesRows takes v rows w
      → Stays w × AllByRecursion good rows × AllByRecursion (noted w) rows
      × ((other : Row) → noted v other → noted w other)
  all_taken v w [] stays same = (subst Stays same stays, tt, tt, λ other h. subst (λ x. noted x other) same h)
  all_taken v w (r ∷ rows) stays (u, first, more) =
      let one = tests v u r true stays first in
      let rest = all_taken u w rows one.0 more in
      (rest.0, (one.1.0 refl, rest.1), (rest.3 r (one.2 refl), rest.2), λ other h. rest.3 other (one.3 other h))

  module _ (sql : List ℕ) (params : Row) (old new : State) (v w : V) (stays : Stays v) where
    same_of : (r : Result Bool Fault) → Ends takes sql params old new v w r → OnOk r (IsUnchanged old new)
    same_of (Ok true) h = h.same
    same_of (Ok false) h = h.same
    same_of (Err fault) h = tt

    rests_of : (r : Result Bool Fault) → Ends takes sql params old new v w r → Rests old new
    rests_of (Ok true) h = inl h.same
    rests_of (Ok false) h = inl h.same
    rests_of (Err fault) (inl h) = inl h.same
    rests_of (Err fault) (inr h) = h.rests

    fault_of : (r : Result Bool Fault)
        → IfErr r (λ fault. IsStoreFault fault ⊎ ((before : V) × (row : Row) × takes before row w (Err fault)))
        → IfErr r IsStoreFault
    fault_of (Ok b) h = tt
    fault_of (Err fault) (inl h) = h
    fault_of (Err fault) (inr h) = absurd (never h.0 w h.1 fault h.2)

    module _ (schema : Schema) (has : old.now.schema ≡ schema) (from : Join) (terms project : List Term)
        (order : List (Term × Key)) (names : List (List ℕ))
        (it : IsQuery schema sql from terms project order names) where
      tells_of : (r : Result Bool Fault) → Ends takes sql params old new v w r
          → IfOk r (λ all. IsTrue all ↔ AllShown old.now.trees params from terms project good)
      tells_of (Ok true) h =
          tells_all sql params good schema from terms project order names it old has new h.rows h.shown
          (all_taken v w h.rows stays h.taken).1
      tells_of (Ok false) h =
          let early = all_taken v h.before h.rows stays h.taken in
          tells_stop sql params good schema from terms project order names it old has h.rows h.last h.begins
          (halts h.before w h.last early.0 h.ends)
      tells_of (Err fault) h = tt

      pub asks_of : OnlyAsks old.now.schema sql
      asks_of = subst (λ s. OnlyAsks s sql) (sym has) (plain_asks schema sql it.plain)

      -- what is noted where each row was taken
      pub notes_of : HasCleanDisk new → IsWalk takes sql params old new v w (Ok true)
          → AllShown old.now.trees params from terms project (noted w)
      notes_of clean h =
          let ends = h.walked clean asks_of in
          (tells_all sql params (noted w) schema from terms project order names it old has new ends.rows ends.shown
          (all_taken v w ends.rows stays ends.taken).2).0 refl

    pub tested : (r : Result Bool Fault) → IsWalk takes sql params old new v w r → TellsAll sql params good old new r
    tested r h = record {
      mode = h.mode;
      survives = h.survives;
      rests = λ clean asks. rests_of r (h.walked clean asks);
      same = λ clean asks. same_of r (h.walked clean asks);
      tells = λ clean schema has from terms project order names it.
          tells_of schema has from terms project order names it r
          (h.walked clean (asks_of schema has from terms project order names it));
      faults = fault_of r h.faults;
    }

pub ok_is : (a b : Bool) → ◌≡◌ {A = Result Bool Fault} (Ok a) (Ok b) → a ≡ b
ok_is a b e = cc

-- a test that stays as it is, and notes nothing
module _ {V : Type 0} (takes : V → Row → V → Result Bool Fault → Type 0) (good : V → Row → Type 0)
    (tests : (v w : V) (row : Row) (result : Result Bool Fault) → takes v row w result → (w ≡ v)
    × ((b : Bool) × (result ≡ Ok b) × (IsTrue b ↔ good v row))) where
  never_err : (v w : V) (row : Row) (fault : Fault) → takes v row w (Err fault) → ⊥
  never_err v w row fault h = let t = (tests v w row _ h).1 in let e = t.1 in cc

  module _ (first : V) where
    same_test : (v w : V) (row : Row) (b : Bool) → v ≡ first → takes v row w (Ok b)
        → (w ≡ first) × (IsTrue b ↔ good first row) × (IsTrue b → ⊤) × (Row → ⊤ → ⊤)
    same_test v w row b stays h =
        let t = tests v w row (Ok b) h in (
          t.0 ∙ stays,
          subst (λ x. IsTrue b ↔ good x row) stays
              (subst (λ x. IsTrue x ↔ good v row) (sym (ok_is b t.1.0 t.1.1)) t.1.2),
          λ _. tt,
          λ _ _. tt,
        )

    pub tested_alone : (sql : List ℕ) (params : Row) (old new : State) (w : V) (r : Result Bool Fault)
        → IsWalk takes sql params old new first w r → TellsAll sql params (good first) old new r
    tested_alone sql params old new w r h =
        tested takes (λ v. v ≡ first) (good first) (λ _ _. ⊤) never_err same_test sql params old new first w refl r h
