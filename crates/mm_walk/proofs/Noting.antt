-- What a walk that tests each row and notes something of each tells.
use Rattle.std.proofs.Common.{◌≡◌, ◌↔◌, Bool, true, false, List, ℕ, IsTrue, Result, Ok, Err, Some, None, sym, ap}
use Rattle.std.proofs.Common.{subst, ◌∙◌}
use Rattle.std.specs.Bool.{⊤}
use Rattle.sqlite.specs.Order.{Row}
use Rattle.sqlite.specs.State.{State}
use Rattle.mm_definitions.specs.declared.answers.Fault.{Fault}
use Rattle.mm_walk.specs.Walk.{IsWalk}
use Rattle.mm_walk.specs.RowTests.{NotesAll, TellsAll}
use Rattle.mm_walk.proofs.Testing.{ok_is, tested, notes_of}

module _ {T V : Type 0} (takes : V → Row → V → Result Bool Fault → Type 0) (good : Row → Type 0)
    (noted : T → Row → Type 0) (test : V → T)
    (tests : (v w : V) (row : Row) (result : Result Bool Fault) → takes v row w result → (b : Bool) × (result ≡ Ok b)
    × (IsTrue b ↔ good row) × (IsTrue b → noted (test w) row)
    × ((other : Row) → noted (test v) other → noted (test w) other)) where
  never : (v w : V) (row : Row) (fault : Fault) → takes v row w (Err fault) → ⊥
  never v w row fault h = let e = (tests v w row _ h).1 in cc

  told : (v w : V) (row : Row) (b : Bool) → ⊤ → takes v row w (Ok b)
      → ⊤ × (IsTrue b ↔ good row) × (IsTrue b → noted (test w) row)
      × ((other : Row) → noted (test v) other → noted (test w) other)
  told v w row b any h =
      let t = tests v w row _ h in
      let is = sym (ok_is b t.0 t.1) in (
        tt,
        subst (λ x. IsTrue x ↔ good row) is t.2,
        subst (λ x. IsTrue x → noted (test w) row) is t.3,
        t.4,
      )

  module _ (sql : List ℕ) (params : Row) (old new : State) (v w : V) where
    tells : (r : Result Bool Fault) → IsWalk takes sql params old new v w r → TellsAll sql params good old new r
    tells = tested takes (λ _. ⊤) good (λ x. noted (test x)) never told sql params old new v w tt

    -- each row was taken
    pub all_noted : {r : Result Bool Fault} {b : Bool} → r ≡ Ok b → b ≡ true → IsWalk takes sql params old new v w r
        → NotesAll sql params good noted old new (Ok (Some (test w)))
    all_noted {r} {b} is passed h =
        let whole = subst (IsWalk takes sql params old new v w) (is ∙ ap Ok passed) h in
        record {
          tests = tells (Ok true) whole;
          notes = λ clean schema has from terms project order names it.
              notes_of takes (λ _. ⊤) good (λ x. noted (test x)) never told sql params old new v w tt schema has from
              terms project order names it clean whole;
        }

    -- one was not
    pub none_noted : {r : Result Bool Fault} {b : Bool} → r ≡ Ok b → b ≡ false → IsWalk takes sql params old new v w r
        → NotesAll {T = T} sql params good noted old new (Ok None)
    none_noted {r} {b} is fails h = record {
      tests = tells (Ok false) (subst (IsWalk takes sql params old new v w) (is ∙ ap Ok fails) h);
      notes = λ clean schema has from terms project order names it. tt;
    }

    -- the walk was cut off
    pub not_noted : {r : Result Bool Fault} {fault : Fault} → r ≡ Err fault → IsWalk takes sql params old new v w r
        → NotesAll {T = T} sql params good noted old new (Err fault)
    not_noted {r} {fault} is h = record {
      tests = tells (Err fault) (subst (IsWalk takes sql params old new v w) is h);
      notes = λ clean schema has from terms project order names it. tt;
    }
