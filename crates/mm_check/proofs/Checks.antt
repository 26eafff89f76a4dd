-- A check of the form by a walk, and checks one after another.
use Rattle.std.proofs.Common.{◌≡◌, ◌↔◌, ℕ, List, [], Bool, true, false, IsTrue, Option, Some, None, Result, Ok, Err}
use Rattle.std.proofs.Common.{IfOk}
use Rattle.std.proofs.Common.{OnOk, refl, sym, subst, ◌∙◌, arith}
use Rattle.sql_forms.specs.Key.{Key}
use Rattle.sqlite.specs.Order.{Row}
use Rattle.sql_forms.specs.Term.{Term}
use Rattle.sql_forms.specs.Query.{Join}
use Rattle.sqlite.specs.Effect.{Database}
use Rattle.sqlite.specs.State.{State, HasCleanDisk, IsUnchanged}
use Rattle.mm_definitions.specs.declared.answers.Fault.{Fault}
use Rattle.mm_store.specs.Kept.{Kept}
use Rattle.mm_store.proofs.Seen.{settled_still}
use Rattle.mm_store.proofs.Quiet.{quiet_then}
use Rattle.mm_walk.specs.RowTests.{IsQuery, AllShown, NotesAll, TellsAll, whether}
use Rattle.mm_walk.proofs.Quiet.{IsQuiet, only_asks}
use Rattle.mm_walk.proofs.Resting.{seen_still}
use Rattle.mm_store.specs.Tables.{schema}
use Rattle.mm_check.specs.Form.{AreShort, KeepsAs, IsFormCheck, TellsLongest}

-- what is shown says the form
abbrev pub SaysForm : Row → Join → List Term → List Term → (Row → Type 0) → (Kept → Type 0) → Type 0
SaysForm params from terms project good Form = (db : Database) (kept : Kept) → KeepsAs db kept
    → AllShown db.trees params from terms project good ↔ Form kept

module _ (sql : List ℕ) (good : Row → Type 0) (from : Join) (terms project : List Term) (order : List (Term × Key))
    (names : List (List ℕ)) (it : IsQuery schema sql from terms project order names) (quiet : IsQuiet sql)
    (Form : Kept → Type 0) (says : SaysForm [] from terms project good Form) (old new : State) where
  told : (result : Result Bool Fault) → TellsAll sql [] good old new result → HasCleanDisk new → (kept : Kept)
      → (IsTrue old.is_open → KeepsAs old.now kept) → IfOk result (λ b. IsTrue b ↔ Form kept)
  told (Err fault) h clean kept keeps = tt
  told (Ok b) h clean kept keeps =
      let same = h.same clean (only_asks sql quiet old.now.schema) in
      let at = keeps same.0.was_open in
      let t = h.tells clean schema at.schema_is from terms project order names it in
      let r = says old.now kept at in
      (λ e. r.0 (t.0 e), λ form. t.1 (r.1 form))

  still : (result : Result Bool Fault) → OnOk result (IsUnchanged old new)
      → OnOk result (IsTrue old.is_open × IsTrue new.is_open × (new.now ≡ old.now))
  still (Ok b) same = (same.0.was_open, same.0.is_open, same.0.now_is)
  still (Err fault) same = tt

  formed : (result : Result Bool Fault) → TellsAll sql [] good old new result → IsFormCheck old new Form result
  formed result h =
      let asks = only_asks sql quiet old.now.schema in
      record {
        mode = h.mode;
        survives = h.survives asks;
        same = λ clean. still result (h.same clean asks);
        seen = λ clean profile p. seen_still profile old new p (h.rests clean asks);
        settled = λ clean profile p. settled_still profile old new p (h.survives asks) clean
            (seen_still profile old new p (h.rests clean asks));
        says = told result h;
        faults = h.faults;
      }

  -- the parameters as the call gives them
  pub forms : (given : Row) → given ≡ [] → (result : Result Bool Fault) → TellsAll sql given good old new result
      → IsFormCheck old new Form result
  forms given same result h = formed result (subst (λ p. TellsAll sql p good old new result) same h)

-- a check that notes how long the longest is of what is shown
module _ {T : Type 0} (sql : List ℕ) (good : Row → Type 0) (noted : T → Row → Type 0) (from : Join)
    (terms project : List Term) (order : List (Term × Key)) (names : List (List ℕ))
    (it : IsQuery schema sql from terms project order names) (quiet : IsQuiet sql)
    (Form : Kept → Type 0) (says : SaysForm [] from terms project good Form) (longest_of : T → ℕ)
    (short : (t : T) → SaysForm [] from terms project (noted t) (AreShort (longest_of t))) (old new : State) where
  module _ (given : Row) (same : given ≡ []) where
    noted_of : {result : Result (Option T) Fault} → NotesAll sql given good noted old new result
        → NotesAll sql [] good noted old new result
    noted_of {result} h = subst (λ p. NotesAll sql p good noted old new result) same h

    form_of : {result : Result (Option T) Fault} → NotesAll sql given good noted old new result
        → IsFormCheck old new Form (whether result)
    form_of {result} h =
        formed sql good from terms project order names it quiet Form says old new (whether result) (noted_of h).tests

    pub longest_told : (t : T) → NotesAll sql given good noted old new (Ok (Some t))
        → TellsLongest old new Form (Ok (Some (longest_of t)))
    longest_told t h = record {
      form = form_of h;
      longest = λ clean kept keeps.
          let n = noted_of h in
          let still = n.tests.same clean (only_asks sql quiet old.now.schema) in
          let at = keeps still.0.was_open in
          (short t old.now kept at).0 (n.notes clean schema at.schema_is from terms project order names it);
    }

    pub none_told : NotesAll sql given good noted old new (Ok None) → TellsLongest old new Form (Ok None)
    none_told h = record { form = form_of h; longest = λ clean kept keeps. tt }

    pub not_told : (fault : Fault) → NotesAll sql given good noted old new (Err fault)
        → TellsLongest old new Form (Err fault)
    not_told fault h = record { form = form_of h; longest = λ clean kept keeps. tt }

-- ---- one after another

pub as_told : (old new : State) (Form : Kept → Type 0) (r : Result Bool Fault) (b told : Bool) → r ≡ Ok b → b ≡ told
    → IsFormCheck old new Form r
    → IsFormCheck old new Form (Ok told)
as_told old new Form r b told is same h = subst (λ x. IsFormCheck old new Form (Ok x)) same
    (subst (IsFormCheck old new Form) is h)

module _ (old mid new : State) (A B C : Kept → Type 0) (alike : (kept : Kept) → (A kept × B kept) ↔ C kept) where
  then_form : IsFormCheck old mid A (Ok true) → (s : Result Bool Fault) → IsFormCheck mid new B s
      → IsFormCheck old new C s
  then_form one (Ok b) two = record {
    mode = λ idle. two.mode (one.mode idle);
    survives = quiet_then old mid new one.survives two.survives;
    same = λ clean. let first = one.same (omega (arith, two.survives.clean)) in let second =
        two.same clean in (first.0, second.1, second.2 ∙ first.2);
    seen = λ clean profile p s. two.seen clean profile p (one.seen (omega (arith, two.survives.clean)) profile p s);
    settled = λ clean profile p s. two.settled clean profile p
        (one.settled (omega (arith, two.survives.clean)) profile p s);
    says = λ clean kept keeps.
        let early : HasCleanDisk mid = omega (arith, two.survives.clean) in
        let first = one.same early in
        let a = (one.says early kept keeps).0 refl in
        let t = two.says clean kept (λ up. subst (λ db. KeepsAs db kept) (sym first.2) (keeps first.0)) in
        (λ e. (alike kept).0 (a, t.0 e), λ c. t.1 ((alike kept).1 c).1);
    faults = two.faults;
  }
  then_form one (Err fault) two = record {
    mode = λ idle. two.mode (one.mode idle);
    survives = quiet_then old mid new one.survives two.survives;
    same = λ clean. tt;
    seen = λ clean profile p s. two.seen clean profile p (one.seen (omega (arith, two.survives.clean)) profile p s);
    settled = λ clean profile p s. two.settled clean profile p
        (one.settled (omega (arith, two.survives.clean)) profile p s);
    says = λ clean kept keeps. tt;
    faults = two.faults;
  }

  -- the first holds, and the second decides
  pub goes_on : (r s : Result Bool Fault) {b : Bool} → r ≡ Ok b → b ≡ true → IsFormCheck old mid A r
      → IsFormCheck mid new B s → IsFormCheck old new C s
  goes_on r s {b} is held one two = then_form (as_told old mid A r b true is held one) s two

module _ (old new : State) (A B C : Kept → Type 0) (alike : (kept : Kept) → (A kept × B kept) ↔ C kept) where
  pub stops : (r : Result Bool Fault) {b : Bool} → r ≡ Ok b → b ≡ false → IsFormCheck old new A r
      → IsFormCheck old new C (Ok false)
  stops r {b} is fails one =
      let h = as_told old new A r b false is fails one in
      record {
        mode = h.mode;
        survives = h.survives;
        same = h.same;
        seen = h.seen;
        settled = h.settled;
        says = λ clean kept keeps. let t = h.says clean kept keeps in
            (λ e. absurd (let f : false ≡ true = e in cc), λ c. t.1 ((alike kept).1 c).0);
        faults = h.faults;
      }

pub gives_up : (old new : State) (A C : Kept → Type 0) (r : Result Bool Fault) (fault : Fault) → r ≡ Err fault
    → IsFormCheck old new A r
    → IsFormCheck old new C (Err fault)
gives_up old new A C r fault is one = let h = subst (IsFormCheck old new A) is one in
    record {
      mode = h.mode;
      survives = h.survives;
      same = λ clean. tt;
      seen = h.seen;
      settled = h.settled;
      says = λ clean kept keeps. tt;
      faults = h.faults;
    }

-- ---- the same with how many bytes the longest has

module _ (old mid new : State) (A B C : Kept → Type 0) (alike : (kept : Kept) → (A kept × B kept) ↔ C kept)
    (longest : ℕ) (one : TellsLongest old mid A (Ok (Some longest))) where
  pub longest_stands : {b : Bool} → b ≡ true → IsFormCheck mid new B (Ok b)
      → TellsLongest old new C (Ok (Some longest))
  longest_stands holds two = record {
    form = goes_on old mid new A B C alike (Ok true) (Ok true) refl refl one.form
        (subst (λ b. IsFormCheck mid new B (Ok b)) holds two);
    longest = λ clean kept keeps. one.longest (omega (arith, two.survives.clean)) kept keeps;
  }

  pub longest_fails : {b : Bool} → b ≡ false → IsFormCheck mid new B (Ok b) → TellsLongest old new C (Ok None)
  longest_fails fails two = record {
    form = goes_on old mid new A B C alike (Ok true) (Ok false) refl refl one.form
        (subst (λ b. IsFormCheck mid new B (Ok b)) fails two);
    longest = λ clean kept keeps. tt;
  }

  pub longest_cut : (fault : Fault) → IsFormCheck mid new B (Err fault) → TellsLongest old new C (Err fault)
  longest_cut fault two = record {
    form = goes_on old mid new A B C alike (Ok true) (Err fault) refl refl one.form two;
    longest = λ clean kept keeps. tt;
  }

module _ (old new : State) (A B C : Kept → Type 0) (alike : (kept : Kept) → (A kept × B kept) ↔ C kept) where
  pub longest_none : TellsLongest old new A (Ok None) → TellsLongest old new C (Ok None)
  longest_none one =
      record { form = stops old new A B C alike (Ok false) refl refl one.form; longest = λ clean kept keeps. tt }

  pub longest_unknown : (fault : Fault) → TellsLongest old new A (Err fault) → TellsLongest old new C (Err fault)
  longest_unknown fault one =
      record { form = gives_up old new A C (Err fault) fault refl one.form; longest = λ clean kept keeps. tt }
