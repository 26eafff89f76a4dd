-- What one turn of a run does to what was answered, written and left so far.
use Rattle.std.proofs.Common.{◌≡◌, ◌≢◌, ◌∙◌, ◌<◌, ◌≤◌, ◌+◌, ◌⊎◌, inl, inr, ℕ, List, [], ◌∷◌, ◌++◌}
use Rattle.std.proofs.Common.{take, length, Option}
use Rattle.std.proofs.Common.{refl, sym, ap, subst, arith, Bool, true, add-zero, length-append}
use Rattle.std.specs.Prelude.{get_or, if◌then◌else◌}
use Rattle.std.proofs.KnownBytes.{Appends-nil, Appends-trans}
use Rattle.std.proofs.lemmas.List.{get_or-append-add, length_push}
use Rattle.std.proofs.Math.Seq.{take-append_seam}
use Rattle.std.specs.Io.KnownBytes.{Appends}
use Rattle.std.specs.List.{concat}
use Rattle.mm_definitions.specs.declared.answers.Answer.{Answer}
use Rattle.mm_definitions.specs.declared.answers.Answer.TheVariants as answers
use Rattle.mm_definitions.specs.declared.answers.Fault.{Fault}
use Rattle.mm_definitions.specs.declared.answers.RunFault.{RunFault}
use Rattle.mm_definitions.specs.declared.answers.Tally.{Tally}
use Rattle.mm_io.specs.Lines.{line, lines, lines_from}
use Rattle.mm_io.specs.Records.{IsReadFault}
use Rattle.mm_run.specs.Answers.{is_accepted, is_refused, accepted_of, refused_of, is_fault}
use Rattle.mm_run.specs.Applied.{IsAnswer, OnFault}
use Rattle.mm_run.specs.Told.{AreCounted, AreTold, GoesOn, HasLine, IsCutAt, Stops, with_answer, with_line}
use Rattle.mm_run.specs.Runs.{IsRunFault, IsStopped, TellsWriter}
use Rattle.mm_run.proofs.Lists.{accepted_of-more, length-lines_from, lines_from-more, refused_of-more, text-more}
use Rattle.mm_definitions.specs.Streams.{written_as}

-- ---- what was told
-- nothing yet
pub told-none : (t : Tally) (w : Option (List ℕ)) → t.accepted ≡ 0 → t.refused ≡ 0 → t.written ≡ 0 → AreTold [] t w w
unfolding accepted_of refused_of lines_from
told-none t w a r n = ((a, r), n, Appends-nil w)

accepted-with : (a : Answer) (t : Tally) → (with_answer a t).accepted ≡ t.accepted + (if is_accepted a then 1 else 0)
accepted-with answers.Ok t = refl
accepted-with (answers.Refused why) t = sym (add-zero _)
accepted-with (answers.Fault f) t = sym (add-zero _)

refused-with : (a : Answer) (t : Tally) → (with_answer a t).refused ≡ t.refused + (if is_refused a then 1 else 0)
refused-with answers.Ok t = sym (add-zero _)
refused-with (answers.Refused why) t = refl
refused-with (answers.Fault f) t = sym (add-zero _)

written-with : (a : Answer) (t : Tally) → (with_answer a t).written ≡ t.written
written-with answers.Ok t = refl
written-with (answers.Refused why) t = refl
written-with (answers.Fault f) t = refl

counted-more : (given : List Answer) (a : Answer) (t : Tally) → AreCounted t given
    → AreCounted (with_answer a t) (given ++ a ∷ [])
counted-more given a t h = (
  accepted-with a t ∙ ap (λ n. n + (if is_accepted a then 1 else 0)) h.0 ∙ sym (accepted_of-more given a),
  refused-with a t ∙ ap (λ n. n + (if is_refused a then 1 else 0)) h.1 ∙ sym (refused_of-more given a),
)

-- one more line
pub told-more : (given : List Answer) (a : Answer) (t t2 : Tally) (n : ℕ) (old mid new : Option (List ℕ))
    (before failed : Bool)
    → AreTold given t old mid → GoesOn (written_as mid before) (written_as new failed) n a t t2 → length given + 1 ≡ n
    → AreTold (given ++ a ∷ []) t2 old new
told-more given a t t2 n old mid new before failed d g e =
    let counts = counted-more given a t d.0 in
    let more : (with_line (with_answer a t)).written ≡ length (given ++ a ∷ []) =
    omega (arith, written-with a t, length-append given (a ∷ []), d.1) in
    rw g.1 (counts, more, rw (text-more given a n e) (Appends-trans _ _ _ _ _ d.2 g.2))

-- ---- the text where a run stopped
cut-whole : (given : List Answer) (w : ℕ) → w ≡ length given → IsCutAt (lines given) w (concat (lines given))
cut-whole given w e = inl (e ∙ sym (length-lines_from 1 given), refl)

cut-next : (ls : List (List ℕ)) (l : List ℕ) (k w : ℕ) → w ≡ length ls → k < length l
    → IsCutAt (ls ++ l ∷ []) w (concat ls ++ take k l)
cut-next ls l k w e lt =
    let front : take (length ls) (ls ++ l ∷ []) ≡ ls = take-append_seam ls (l ∷ []) in
    let next : get_or (ls ++ l ∷ []) (length ls) [] ≡ l = rw (add-zero (length ls)) at
    (get_or-append-add ls (l ∷ []) 0 []) in
    let below : length ls < length (ls ++ l ∷ []) = omega (arith, length_push ls l) in
    rw (e, front, next) (inr (below, k, lt, refl))

cut-inside : (given : List Answer) (a : Answer) (n k w : ℕ) → length given + 1 ≡ n → w ≡ length given
    → k < length (line n a)
    → IsCutAt (lines (given ++ a ∷ [])) w (concat (lines given) ++ take k (line n a))
cut-inside given a n k w e e2 lt =
    let at : 1 + length given ≡ n = omega arith in
    let whole : lines (given ++ a ∷ []) ≡ lines given ++ line n a ∷ [] = rw at at (lines_from-more 1 given a) in
    rw whole (cut-next (lines given) (line n a) k w (e2 ∙ sym (length-lines_from 1 given)) lt)

-- the writer failed behind a line, or inside it
abbrev IsCut : Option (List ℕ) → Option (List ℕ) → ℕ → Answer → Tally → RunFault → Type 0
IsCut mid new n a t e = ((e.tally ≡ with_line (with_answer a t)) × Appends mid new (line n a))
    ⊎ ((e.tally ≡ with_answer a t) × (k : ℕ) × (k < length (line n a)) × Appends mid new (take k (line n a)))

cut-stopped : (given : List Answer) (a : Answer) (n : ℕ) (t : Tally) (e : RunFault) (old mid new : Option (List ℕ))
    → length given + 1 ≡ n → AreTold given t old mid → IsCut mid new n a t e
    → (bytes : List ℕ) × Appends old new bytes × IsCutAt (lines (given ++ a ∷ [])) e.tally.written bytes
cut-stopped given a n t e old mid new m d (inl h) =
    let more : (with_line (with_answer a t)).written ≡ length (given ++ a ∷ []) =
    omega (arith, written-with a t, length-append given (a ∷ []), d.1) in (
      concat (lines (given ++ a ∷ [])),
      rw (text-more given a n m) (Appends-trans _ _ _ _ _ d.2 h.1),
      cut-whole
          (given ++ a ∷ []) e.tally.written (rw h.0 more),
    )
cut-stopped given a n t e old mid new m d (inr h) =
    let same : e.tally.written ≡ length given = rw h.0 (written-with a t ∙ d.1) in (
      concat (lines given) ++ take h.1 (line n a),
      Appends-trans _ _ _ _ _ d.2 h.3,
      cut-inside given a n h.1
          e.tally.written m same h.2,
    )

-- how many lines were whole
cut-written : (given : List Answer) (a : Answer) (n : ℕ) (t : Tally) (e : RunFault) (old mid new : Option (List ℕ))
    → AreTold given t old mid
    → IsCut mid new n a t e
    → (length given ≤ e.tally.written) × (e.tally.written ≤ length given + 1)
cut-written given a n t e old mid new d (inl h) =
    let at : e.tally.written ≡ t.written + 1 = rw (h.0, written-with a t) refl in
    (omega (arith, d.1), omega (arith, d.1))
cut-written given a n t e old mid new d (inr h) =
    let at : e.tally.written ≡ t.written = rw (h.0, written-with a t) refl in (omega (arith, d.1), omega (arith, d.1))

cut-counted : (given : List Answer) (a : Answer) (n : ℕ) (t : Tally) (e : RunFault) (old mid new : Option (List ℕ))
    → AreTold given t old mid
    → IsCut mid new n a t e
    → AreCounted e.tally (given ++ a ∷ [])
cut-counted given a n t e old mid new d (inl h) = rw h.0 (counted-more given a t d.0)
cut-counted given a n t e old mid new d (inr h) = rw h.0 (counted-more given a t d.0)

-- a fault with a line of its own is no failure of the writer
line_not_writer : (f : ℕ) → HasLine f → f ≢ 97
line_not_writer f (inl (inl e)) h = absurd (omega arith)
line_not_writer f (inl (inr (inl e))) h = absurd (omega arith)
line_not_writer f (inl (inr (inr e))) h = absurd (omega arith)
line_not_writer f (inr e) h = absurd (omega arith)

-- an answer that is no fault is one more
counted_by : (a : Answer) (t : Tally) → IsAnswer a → (with_answer a t).accepted + (with_answer a t).refused
    ≡ t.accepted + t.refused + 1
counted_by answers.Ok t good = omega arith
counted_by (answers.Refused why) t good = omega arith
counted_by (answers.Fault f) t good = absurd good

-- the cases of a stop, with what is known of the answers given and of how many lines are whole
module _ (P : List Answer → ℕ → Type 0) (given : List Answer) (n : ℕ) (t : Tally) (e : RunFault)
    (old mid new : Option (List ℕ)) (before was failed : Bool)
    (m : length given + 1 ≡ n) (all : t.accepted + t.refused ≡ length given) (d : AreTold given t old mid)
    (working : was ≡ before) where
  abbrev Result : Type 0
  Result = (told : List Answer) × IsStopped told e (written_as old before) (written_as new failed)
      × P told e.tally.written

  by_writer : e.fault.0 ≡ 97 → failed ≡ true → TellsWriter before failed e
  by_writer is down = (λ _. down, λ other. absurd (other is))

  -- at the line of an answer, because the writer failed
  at_answer : (a : Answer) → IsAnswer a → (e.fault.0 ≡ 97) → failed ≡ true → IsCut mid new n a t e
      → ((w : ℕ) → length given ≤ w → P (given ++ a ∷ []) w) → Result
  at_answer a good is down cut more =
      let (bytes, wrote, at) = cut-stopped given a n t e old mid new m d cut in
      let stopped : IsStopped (given ++ a ∷ []) e (written_as old before) (written_as new failed) = record {
        counted = cut-counted given a n t e old mid new d cut;
        all = one_counted cut;
        text = inr (is, given ++ a ∷ [], inl refl, bytes, wrote, at);
        writer = by_writer is down;
      } in
      (given ++ a ∷ [], stopped, more e.tally.written (cut-written given a n t e old mid new d cut).0)
    where
      one_more : (with_answer a t).accepted + (with_answer a t).refused ≡ length (given ++ a ∷ [])
      one_more = omega (arith, counted_by a t good, all, length-append given (a ∷ []))

      one_counted : IsCut mid new n a t e → e.tally.accepted + e.tally.refused ≡ length (given ++ a ∷ [])
      one_counted (inl h) = rw h.0 one_more
      one_counted (inr h) = rw h.0 one_more

  -- at the line of a fault, because the writer failed
  fault_cut : (f : Fault) → HasLine f.0 → (e.fault.0 ≡ 97) → failed ≡ true → IsCut mid new n (answers.Fault f) t e
      → ((w : ℕ) → length given ≤ w → P given w) → Result
  fault_cut f line is down cut here =
      let (bytes, wrote, at) = cut-stopped given (answers.Fault f) n t e old mid new m d cut in
      let stopped : IsStopped given e (written_as old before) (written_as new failed) = record {
        counted = same cut;
        all = same_count cut;
        text = inr (is, given ++ answers.Fault f ∷ [], inr (f, line, refl), bytes, wrote, at);
        writer = by_writer is down;
      } in
      (given, stopped, here e.tally.written (cut-written given (answers.Fault f) n t e old mid new d cut).0)
    where
      same : IsCut mid new n (answers.Fault f) t e → AreCounted e.tally given
      same (inl h) = rw h.0 d.0
      same (inr h) = rw h.0 d.0

      same_count : IsCut mid new n (answers.Fault f) t e → e.tally.accepted + e.tally.refused ≡ length given
      same_count (inl h) = rw h.0 all
      same_count (inr h) = rw h.0 all

  pub stopped-answer : (a : Answer) → IsAnswer a → Stops (written_as mid was) (written_as new failed) n a t e
      → ((w : ℕ) → length given ≤ w → P (given ++ a ∷ []) w) → Result
  stopped-answer a good (inl h) more = absurd (subst IsAnswer h.0 good)
  stopped-answer a good (inr (inl h)) more = at_answer a good h.0 h.1 (inl (h.2, h.3)) more
  stopped-answer a good (inr (inr h)) more = at_answer a good h.0 h.1 (inr (h.2, h.3, h.4, h.5)) more

  pub stopped-fault : (f : Fault) → HasLine f.0 → Stops (written_as mid was) (written_as new failed) n (answers.Fault f)
      t e
      → ((w : ℕ) → length given ≤ w → P given w) → Result
  stopped-fault f line (inl h) here =
      let same : f ≡ e.fault = cc (h.0) in
      let at : e.tally.written ≡ length given + 1 = rw h.2 (ap (λ k. k + 1) d.1) in
      let not_writer : e.fault.0 ≢ 97 = rw (← same) (line_not_writer f.0 line) in
      let stopped : IsStopped given e (written_as old before) (written_as new failed) = record {
        counted = rw h.2 d.0;
        all = rw h.2 all;
        text = inl (
          not_writer,
          at,
          rw (← h.0, text-more given (answers.Fault f) n m)
              (Appends-trans _ _ _ _ _ d.2 h.3),
        );
        writer = (λ is. absurd (not_writer is), λ _. h.1 ∙ working);
      } in
      (given, stopped, here e.tally.written (omega arith))
  stopped-fault f line (inr (inl h)) here = fault_cut f line h.0 h.1 (inl (h.2, h.3)) here
  stopped-fault f line (inr (inr h)) here = fault_cut f line h.0 h.1 (inr (h.2, h.3, h.4, h.5)) here

  -- whichever it was
  pub stopped-with : (a : Answer) → OnFault a HasLine → Stops (written_as mid was) (written_as new failed) n a t e
      → (is_fault a ≡ true → (w : ℕ) → length given ≤ w → P given w)
      → (IsAnswer a → (w : ℕ) → length given ≤ w → P (given ++ a ∷ []) w) → Result
  stopped-with answers.Ok line s here more = stopped-answer answers.Ok tt s (more tt)
  stopped-with (answers.Refused why) line s here more = stopped-answer (answers.Refused why) tt s (more tt)
  stopped-with (answers.Fault f) line s here more = stopped-fault f line s (here refl)

-- ---- faults
pub run-line : (a : Answer) (b : Bool) → OnFault a (λ f. IsRunFault f b) → OnFault a HasLine
run-line answers.Ok b h = tt
run-line (answers.Refused why) b h = tt
run-line (answers.Fault f) b (inl e) = inl e
run-line (answers.Fault f) b (inr e) = inr e.0

pub read-line : (f : ℕ) (b : Bool) → IsReadFault f b → HasLine f
read-line f b (inl e) = inl (inl e)
read-line f b (inr e) = inr e.0

-- each answer is counted once
pub counted-once : (a : Answer) (t t2 : Tally) → IsAnswer a → t2 ≡ with_line (with_answer a t)
    → t2.accepted + t2.refused ≡ t.accepted + t.refused + 1
counted-once answers.Ok t t2 good e = rw e (omega arith)
counted-once (answers.Refused why) t t2 good e = rw e (omega arith)
counted-once (answers.Fault f) t t2 good e = absurd good

pub written-once : (a : Answer) (t t2 : Tally) → t2 ≡ with_line (with_answer a t) → t2.written ≡ t.written + 1
written-once a t t2 e = rw (e, written-with a t) refl
