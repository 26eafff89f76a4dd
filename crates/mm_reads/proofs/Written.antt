-- What a walk writes whose visitor writes the line of each row.
use Rattle.std.proofs.Common.{◌≡◌, ◌⊎◌, inl, inr, ℕ, Bool, true, false, List, [], ◌∷◌, ◌++◌, Option, Some, None, Result}
use Rattle.std.proofs.Common.{Ok, Err, IfErr, IsTrue, refl, sym, ap, subst, ◌∙◌, append_assoc, append-nil, arith}
use Rattle.std.specs.Io.KnownBytes.{Appends}
use Rattle.sqlite.specs.Order.{Row}
use Rattle.sqlite.specs.State.{State, HasCleanDisk, Shown, Begins}
use Rattle.mm_definitions.specs.Bounds.{Profile}
use Rattle.mm_definitions.specs.Package.{Package}
use Rattle.mm_definitions.specs.declared.answers.Fault.{Fault}
use Rattle.mm_definitions.specs.Faults.{IsStoreFault}
use Rattle.mm_store.specs.Seen.{IsSeenAs}
use Rattle.mm_store.proofs.Seen.{settled_still}
use Rattle.mm_store.proofs.Quiet.{quiet_then}
use Rattle.mm_walk.specs.Walk.{OnlyAsks, TakesRows, Ends, IsWalk}
use Rattle.mm_walk.proofs.Resting.{seen_still, ends_rest}
use Rattle.mm_reads.specs.Writing.{IsBegun, SendsLine, TakesLine, IsWritten, ListingTellsWriter, IsListed}
use Rattle.mm_reads.proofs.Fronts.{ShowsEach, Fronts}
use Rattle.mm_definitions.specs.Streams.{Written, written_as}

-- the line that the row shows is taken as it is sent
pub line_taken : (Shows : Row → List ℕ → Type 0) (old new : Written) (row : Row) (line : List ℕ)
    (result : Result Bool Fault) → Shows row line
    → SendsLine old new line result → TakesLine Shows old new row result
line_taken Shows old new row line (Ok goes) shows sent = (line, shows, sent)
line_taken Shows old new row line (Err fault) shows sent = inr (line, shows, sent)

appends_none : (old new : Option (List ℕ)) → new ≡ old → Appends old new []
appends_none None new same = tt
appends_none (Some xs) None same = absurd (let e : None ≡ Some xs = same in cc)
appends_none (Some xs) (Some ys) same = let e : ys ≡ xs = cc in e ∙ sym (append-nil xs)

pub appends_then : (a b c : Option (List ℕ)) (x y : List ℕ) → Appends a b x → Appends b c y → Appends a c (x ++ y)
appends_then None b c x y one two = tt
appends_then (Some xs) None c x y one two = absurd one
appends_then (Some xs) (Some ys) None x y one two = absurd two
appends_then (Some xs) (Some ys) (Some zs) x y one two = two ∙ ap (λ t. t ++ y) one ∙ append_assoc xs x y

abbrev pub done_of : Result Bool Fault → Result (Unit {0}) Fault
done_of (Ok goes) = Ok tt
done_of (Err fault) = Err fault

module _ (Shows : Row → List ℕ → Type 0) where
  each_more : (rows : List Row) (last : Row) (text line : List ℕ) → ShowsEach Shows rows text → Shows last line
      → ShowsEach Shows (rows ++ last ∷ []) (text ++ line)
  each_more [] last text line none shown = (line, [], shown, refl, ap (λ t. t ++ line) none ∙ sym (append-nil line))
  each_more (r ∷ rows) last text line (one, rest, first, more, is) shown = (
    one,
    rest ++ line,
    first,
    each_more rows last rest line more shown,
    ap (λ t. t ++ line) is
        ∙ append_assoc one rest line,
  )

  module _ {V : Type 0} (takes : V → Row → V → Result Bool Fault → Type 0) (held : V → Option (List ℕ))
      (failed : V → Bool) (writes : (v u : V) (row : Row) (result : Result Bool Fault) → takes v row u result
      → TakesLine Shows (written_as (held v) (failed v)) (written_as (held u) (failed u)) row result) where
    taken : (v w : V) (rows : List Row) → TakesRows takes v rows w
        → (text : List ℕ) × ShowsEach Shows rows text × Appends (held v) (held w) text × (failed w ≡ failed v)
    taken v w [] same = ([], refl, appends_none (held v) (held w) (ap held (sym same)), ap failed (sym same))
    taken v w (r ∷ rows) (u, step, more) =
        let one = writes v u r (Ok true) step in
        let rest = taken u w rows more in (
          one.0 ++ rest.0,
          (one.0, rest.0, one.1, rest.1, refl),
          appends_then (held v) (held u) (held w) one.0 rest.0
              one.2.1 rest.2,
          rest.3 ∙ one.2.2,
        )

    -- ---- what the writer tells

    after_step : (v u : V) (row : Row) (result : Result Bool Fault) → takes v row u result
        → ListingTellsWriter (failed v) (failed u) (done_of result)
    after_step v u row (Ok goes) step = (writes v u row (Ok goes) step).2.2
    after_step v u row (Err fault) step = told (writes v u row (Err fault) step)
      where
        told : TakesLine Shows (written_as (held v) (failed v)) (written_as (held u) (failed u)) row (Err fault)
            → ListingTellsWriter (failed v) (failed u) (Err fault)
        told (inl it) = inl (it.0, it.2)
        told (inr it) = inr (it.2.0, it.2.1)

    pub tells_writer : (v w : V) (result : Result Bool Fault)
        → IfErr result (λ fault. IsStoreFault fault ⊎ ((before : V) × (row : Row) × takes before row w (Err fault)))
        → (rows : List Row) × (TakesRows takes v rows w
        ⊎ ((before : V) × (row : Row) × TakesRows takes v rows before × takes before row w result))
        → ListingTellsWriter (failed v) (failed w) (done_of result)
    tells_writer v w result faults (rows, inr it) =
        subst (λ f. ListingTellsWriter f (failed w) (done_of result)) (taken v it.0 rows it.2).3
        (after_step it.0 w it.1 result it.3)
    tells_writer v w (Ok goes) faults (rows, inl it) = (taken v w rows it).3
    tells_writer v w (Err fault) (inl stored) (rows, inl it) = inl (stored, (taken v w rows it).3)
    tells_writer v w (Err fault) (inr last) (rows, inl it) = stopped (writes last.0 w last.1 (Err fault) last.2)
      where
        stopped : TakesLine Shows (written_as (held last.0) (failed last.0)) (written_as (held w) (failed w)) last.1
            (Err fault)
            → ListingTellsWriter (failed v) (failed w) (Err fault)
        stopped (inl t) = inl (t.0, (taken v w rows it).3)
        stopped (inr t) = inr (t.2.0, t.2.1)

    -- ---- what was written

    module _ (sql : List ℕ) (old new : State) (v w : V) where
      module _ (Answer : List Row → Type 0) (shows : IsTrue old.is_open → (rows : List Row) → Shown sql [] old new rows
          → Answer rows) (begins : IsTrue old.is_open → (rows : List Row) → Begins sql [] old rows → (tail : List Row)
          × Answer (rows ++ tail)) (whole : List ℕ)
          (front : IsTrue old.is_open → (rows tail : List Row) → Answer (rows ++ tail) → (text : List ℕ)
          → ShowsEach Shows rows text → Fronts whole text tail) where
        pub written : (result : Result Bool Fault) → Ends takes sql [] old new v w result
            → IsWritten (held v) (held w) whole (done_of result)
        written (Ok true) h =
            let t = taken v w h.rows h.taken in
            let f = front h.same.0.was_open h.rows []
            (subst Answer (sym (append-nil h.rows)) (shows h.same.0.was_open h.rows h.shown)) t.0 t.1 in
            subst (Appends (held v) (held w)) (sym (f.1 ∙ ap (λ r. t.0 ++ r) (f.2 refl) ∙ append-nil t.0)) t.2
        written (Ok false) h = absurd (let e : false ≡ true = (writes h.before w h.last (Ok false) h.ends).2.0 in cc)
        written (Err fault) (inl h) = ended (writes h.before w h.last (Err fault) h.ends)
          where
            ended : TakesLine Shows (written_as (held h.before) (failed h.before)) (written_as (held w) (failed w))
                h.last (Err fault)
                → IsBegun (held v) (held w) whole
            ended (inl it) =
                let t = taken v h.before h.rows h.taken in
                let b = begins h.same.0.was_open (h.rows ++ h.last ∷ []) h.begins in
                let f = front h.same.0.was_open h.rows (h.last ∷ b.0)
                (subst Answer (append_assoc h.rows (h.last ∷ []) b.0) b.1) t.0 t.1 in
                (t.0, f.0, f.1, subst (λ x. Appends (held v) x t.0) (sym it.1) t.2)
            ended (inr (line, shown, (is_fault, did_fail, (begun, more, is, app)))) =
                let t = taken v h.before h.rows h.taken in
                let b = begins h.same.0.was_open (h.rows ++ h.last ∷ []) h.begins in
                let f = front h.same.0.was_open (h.rows ++ h.last ∷ []) b.0 b.1 (t.0 ++ line)
                (each_more h.rows h.last t.0 line t.1 shown) in (
                  t.0 ++ begun,
                  more ++ f.0,
                  f.1 ∙ ap (λ l. (t.0 ++ l) ++ f.0) is ∙ ap (λ x. x ++ f.0) (sym (append_assoc t.0 begun more))
                      ∙ append_assoc (t.0 ++ begun) more f.0,
                  appends_then (held v) (held h.before) (held w) t.0 begun t.2 app,
                )
        written (Err fault) (inr h) = cut (taken v w h.rows h.taken) h.begins
          where
            cut : (text : List ℕ) × ShowsEach Shows h.rows text × Appends (held v) (held w) text × (failed w ≡ failed v)
                → (h.rows ≡ []) ⊎ (IsTrue old.is_open × Begins sql [] old h.rows) → IsBegun (held v) (held w) whole
            cut (text, each, app, stays) (inl none) = let no : text ≡ [] = subst (λ rs. ShowsEach Shows rs text) none
                each in ([], whole, refl, subst (Appends (held v) (held w)) no app)
            cut (text, each, app, stays) (inr (was_open, begun)) = let b = begins was_open h.rows begun in let f =
                front was_open h.rows b.0 b.1 text each in (text, f.0, f.1, app)

      -- ---- the whole walk

      pub listed : (profile : Profile) (text : Package → List ℕ) → OnlyAsks old.now.schema sql
          → ((p : Package) → IsSeenAs profile old p → (result : Result Bool Fault)
          → Ends takes sql [] old new v w result → IsWritten (held v) (held w) (text p) (done_of result))
          → (result : Result Bool Fault)
          → IsWalk takes sql [] old new v w result
          → IsListed profile text old new (written_as (held v) (failed v)) (written_as (held w) (failed w))
          (done_of result)
      listed profile text asks says result it = record {
        survives = it.survives asks;
        seen = λ clean p. seen_still profile old new p
            (ends_rest takes sql [] old new v w result (it.walked clean asks));
        settled = λ clean p. settled_still profile old new p (it.survives asks) clean
            (seen_still profile old new p (ends_rest takes sql [] old new v w result (it.walked clean asks)));
        written = λ clean p s. says p s result (it.walked clean asks);
        writer = tells_writer v w result it.faults it.visits;
      }

-- what no step changes is as it was
module _ {V N : Type 0} {takes : V → Row → V → Result Bool Fault → Type 0} {sql : List ℕ} {params : Row}
    {old new : State} {v w : V} {result : Result Bool Fault} (it : IsWalk takes sql params old new v w result)
    (name : V → N) (keeps : (v u : V) (row : Row) (result : Result Bool Fault) → takes v row u result → name u ≡ name v)
  where
    keeps_all : (v w : V) (rows : List Row) → TakesRows takes v rows w → name w ≡ name v
    keeps_all v w [] same = ap name (sym same)
    keeps_all v w (r ∷ rows) (u, step, more) = keeps_all u w rows more ∙ keeps v u r (Ok true) step

    pub kept : name w ≡ name v
    kept = elim it.visits.1 as (λ _. name w ≡ name v) [
      | inl all ↦ keeps_all v w it.visits.0 all
      | inr last ↦ keeps last.0 w last.1 result last.3
          ∙ keeps_all v last.0 it.visits.0 last.2
    ]

-- what each step keeps is kept
module _ {V : Type 0} {takes : V → Row → V → Result Bool Fault → Type 0} {sql : List ℕ} {params : Row} {old new : State}
    {v w : V} {result : Result Bool Fault} (it : IsWalk takes sql params old new v w result) (Holds : V → Type 0)
    (keeps : (v u : V) (row : Row) (result : Result Bool Fault) → takes v row u result → Holds v → Holds u) where
  holds_all : (v w : V) (rows : List Row) → TakesRows takes v rows w → Holds v → Holds w
  holds_all v w [] same held = subst Holds same held
  holds_all v w (r ∷ rows) (u, step, more) held = holds_all u w rows more (keeps v u r (Ok true) step held)

  pub still : Holds v → Holds w
  still held = elim it.visits.1 as (λ _. Holds w) [
    | inl all ↦ holds_all v w it.visits.0 all held
    | inr last ↦ keeps last.0 w last.1 result last.3
        (holds_all v last.0 it.visits.0 last.2 held)
  ]

-- ---- one text after another

module _ (profile : Profile) (first second : Package → List ℕ) (old mid new : State)
    (held between holds : Option (List ℕ)) (before middle failed : Bool) where
  tells_then : middle ≡ before → (result : Result (Unit {0}) Fault) → ListingTellsWriter middle failed result
      → ListingTellsWriter before failed result
  tells_then same result h = subst (λ b. ListingTellsWriter b failed result) same h

  written_then : (one two : List ℕ) (result : Result (Unit {0}) Fault) → Appends held between one
      → IsWritten between holds two result
      → IsWritten held holds (one ++ two) result
  written_then one two (Ok done) h k = appends_then held between holds one two h k
  written_then one two (Err fault) h (begun, rest, is, app) = (
    one ++ begun,
    rest,
    ap (λ t. one ++ t) is ∙ sym (append_assoc one begun rest),
    appends_then held between holds
        one begun h app,
  )

  pub listed_then : (done : Unit {0}) (result : Result (Unit {0}) Fault)
      → IsListed profile first old mid (written_as held before) (written_as between middle) (Ok done)
      → IsListed profile second mid new (written_as between middle) (written_as holds failed) result
      → IsListed profile (λ p. first p ++ second p) old new (written_as held before) (written_as holds failed) result
  listed_then done result one two =
      let early : HasCleanDisk new → HasCleanDisk mid = λ clean. omega (arith, clean, two.survives.clean) in
      record {
        survives = quiet_then old mid new one.survives two.survives;
        seen = λ clean p s. two.seen clean p (one.seen (early clean) p s);
        settled = λ clean p s. two.settled clean p (one.settled (early clean) p s);
        written = λ clean p s. written_then (first p) (second p) result (one.written (early clean) p s)
            (two.written clean p (one.seen (early clean) p s));
        writer = tells_then one.writer result two.writer;
      }

pub listed_failed : (profile : Profile) (first second : Package → List ℕ) (old new : State)
    (held holds : Option (List ℕ)) (before failed : Bool) (fault : Fault)
    → IsListed profile first old new (written_as held before) (written_as holds failed) (Err fault)
    → IsListed profile (λ p. first p ++ second p) old new (written_as held before) (written_as holds failed) (Err fault)
listed_failed profile first second old new held holds before failed fault it = record {
  survives = it.survives;
  seen = it.seen;
  settled = it.settled;
  written = λ clean p s. more (second p) (it.written clean p s);
  writer = it.writer;
}
  where
    more : {one : List ℕ} (two : List ℕ) → IsBegun held holds one → IsBegun held holds (one ++ two)
    more two (begun, rest, is, app) = (begun, rest ++ two, ap (λ t. t ++ two) is ∙ append_assoc begun rest two, app)
