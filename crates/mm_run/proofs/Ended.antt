-- The run of a list on a session that has to be opened again.
use Rattle.std.proofs.Common.{◌≡◌, ◌≢◌, ◌∙◌, ◌+◌, ◌<◌, inl, inr, ℕ, suc, List, [], ◌∷◌, ◌++◌, take, drop, length}
use Rattle.std.proofs.Common.{Option, Some, None, Ok, Err, Bool, true, false, refl, sym, ap, subst, arith}
use Rattle.std.specs.Prelude.{get_or, Result}
use Rattle.csv.specs.Reading.{Reached, ReadRecord, default_config, source_of, strip_bom}
use Rattle.csv.specs.declared.parser.State.{State}
use Rattle.csv.specs.declared.parser.State.TheVariants as states
use Rattle.csv.specs.declared.reader.Reader.{Reader}
use Rattle.csv.proofs.ReadFacts.{rows-end, rows-more}
use Rattle.mm_definitions.specs.declared.answers.Fault.{Fault}
use Rattle.mm_definitions.specs.Refusals.{Refusal}
use Rattle.mm_definitions.specs.declared.answers.Answer.{Answer}
use Rattle.mm_definitions.specs.declared.answers.Answer.TheVariants as answers
use Rattle.mm_definitions.specs.declared.answers.ReadFault.{ReadFault}
use Rattle.mm_definitions.specs.declared.answers.ReadFault.TheVariants as faults
use Rattle.mm_definitions.specs.declared.answers.RunFault.{RunFault}
use Rattle.mm_definitions.specs.declared.commands.Command.{Command}
use Rattle.mm_definitions.specs.declared.answers.Tally.{Tally}
use Rattle.mm_io.specs.Records.{IsReadFault, Record, records_of}
use Rattle.mm_io.proofs.RecordsFacts.{records-all, records-first}
use Rattle.mm_run.specs.Readings.{IsCommandRead, IsReadAs}
use Rattle.mm_run.specs.Answers.{accepted_of, is_fault, plain, refused_of}
use Rattle.mm_run.specs.Applied.{IsAnswer, OnFault}
use Rattle.mm_run.specs.Told.{AreTold, AreCounted, GoesOn, HasLine, IsStoppedText, Stops}
use Rattle.mm_run.specs.Runs.{IsStopped}
use Rattle.mm_run.specs.Ended.{AreAllRefused, ended_answer, AreRefused, AreRefusedSoFar, IsEndedAt, IsEndedRun}
use Rattle.mm_run.specs.Ended.{IsEndedTurn, IsReadNext, RanEnded, SpellsNext, refusals}
use Rattle.mm_run.proofs.Answered.{whole}
use Rattle.mm_run.proofs.Loops.{stopped-fault, stopped-with, told-more}
use Rattle.mm_definitions.specs.Streams.{Written, written_as}

-- ---- refusals
refused-more : (rows : List Record) (numbers : List ℕ) (fields : Record) (number : ℕ) → AreRefused rows numbers
    → IsReadAs fields (Err number)
    → AreRefused (rows ++ fields ∷ []) (numbers ++ number ∷ [])
unfolding AreRefused
refused-more [] [] fields number h is = (is, tt)
refused-more (row ∷ rows) (n ∷ numbers) fields number h is = (h.0, refused-more rows numbers fields number h.1 is)
refused-more [] (n ∷ numbers) fields number h is = absurd h
refused-more (row ∷ rows) [] fields number h is = absurd h

as_many : (rows : List Record) (numbers : List ℕ) → AreRefused rows numbers → length rows ≡ length numbers
unfolding AreRefused
as_many [] [] h = refl
as_many (row ∷ rows) (n ∷ numbers) h = ap suc (as_many rows numbers h.1)
as_many [] (n ∷ numbers) h = absurd h
as_many (row ∷ rows) [] h = absurd h

none_refused : AreRefused [] []
unfolding AreRefused
none_refused = tt

no_refusals : refusals [] ≡ []
unfolding refusals
no_refusals = refl

refusals-more : (numbers : List ℕ) (number : ℕ) → refusals (numbers ++ number ∷ []) ≡ refusals numbers
    ++ answers.Refused (plain number) ∷ []
unfolding refusals
refusals-more [] number = refl
refusals-more (n ∷ numbers) number = ap (λ l. answers.Refused (plain n) ∷ l) (refusals-more numbers number)

length-refusals : (numbers : List ℕ) → length (refusals numbers) ≡ length numbers
unfolding refusals
length-refusals [] = refl
length-refusals (n ∷ numbers) = ap suc (length-refusals numbers)

none_accepted : (numbers : List ℕ) → accepted_of (refusals numbers) ≡ 0
unfolding refusals accepted_of
none_accepted [] = refl
none_accepted (n ∷ numbers) = omega (arith, none_accepted numbers)

all_refused : (numbers : List ℕ) → refused_of (refusals numbers) ≡ length numbers
unfolding refusals refused_of
all_refused [] = refl
all_refused (n ∷ numbers) = omega (arith, all_refused numbers)

-- each refusal that was told is counted
all_counted : (t : Tally) (numbers : List ℕ) (old new : Option (List ℕ)) → AreTold (refusals numbers) t old new
    → t.accepted + t.refused ≡ length (refusals numbers)
all_counted t numbers old new told =
    omega (arith, told.0.0, told.0.1, none_accepted numbers, all_refused numbers, length-refusals numbers)

-- ---- the records so far
pub ended-none : (xs : List ℕ) (s : State) (source : Option (List ℕ)) (t : Tally) (w : Option (List ℕ))
    → source ≡ Some xs → AreTold [] t w w
    → AreRefusedSoFar xs s source s t w w
unfolding Reached
ended-none xs s source t w here told = record {
  numbers = [];
  rows = [];
  rest = xs;
  here = here;
  reached = (refl, refl);
  read = none_refused;
  told = subst (λ l. AreTold l t w w) (sym no_refusals) told;
}

-- ---- where a run stopped
-- 92 was told because it was the answer
was-92 : (f : Fault) (t : Tally) (e : RunFault) (n : ℕ) (mid new : Option (List ℕ)) (was failed : Bool)
    → Stops (written_as mid was) (written_as new failed) n (answers.Fault f) t e → e.fault.0 ≡ 92 → f.0 ≡ 92
was-92 f t e n mid new was failed (inl h) is = let same : f ≡ e.fault = cc (h.0) in ap (λ (x : Fault). x.0) same ∙ is
was-92 f t e n mid new was failed (inr (inl h)) is = absurd (let other = h.0 in omega arith)
was-92 f t e n mid new was failed (inr (inr h)) is = absurd (let other = h.0 in omega arith)

not-92 : (x : Answer) (t : Tally) (e : RunFault) (n : ℕ) (mid new : Option (List ℕ)) (was failed : Bool) → IsAnswer x
    → Stops (written_as mid was) (written_as new failed) n x t e → e.fault.0 ≡ 92 → ⊥
not-92 x t e n mid new was failed good (inl h) is = subst IsAnswer h.0 good
not-92 x t e n mid new was failed good (inr (inl h)) is = absurd (let other = h.0 in omega arith)
not-92 x t e n mid new was failed good (inr (inr h)) is = absurd (let other = h.0 in omega arith)

module _ (xs : List ℕ) (s : State) (t : Tally) (e : RunFault) (n : ℕ) (old mid new : Option (List ℕ))
    (before was failed : Bool) (working : was ≡ before) where
  -- these answers are the refusals of the first records
  abbrev StopsAt : List Answer → ℕ → Type 0
  StopsAt given w = (numbers : List ℕ) × (given ≡ refusals numbers) × (rows : List Record) × (state : State)
      × (rest : List ℕ) × Reached default_config s xs rows state rest × AreRefused rows numbers
      × (e.fault.0 ≡ 92 → IsReadNext xs s rows)

  stopped-at : (given : List Answer) × IsStopped given e (written_as old before) (written_as new failed)
      × StopsAt given e.tally.written
      → IsEndedAt xs s e old new
  stopped-at (given, stopped, (numbers, same, rows, state, rest, reached, read, next)) = record {
    numbers = numbers;
    rows = rows;
    state = state;
    rest = rest;
    reached = reached;
    read = read;
    counted = subst (AreCounted e.tally) same stopped.counted;
    text = subst (λ l. IsStoppedText l e old new) same stopped.text;
    next = next;
  }

  -- at a fault that is not 92
  pub ended-behind : (numbers : List ℕ) (rows : List Record) (state : State) (rest : List ℕ)
      → Reached default_config s xs rows state rest
      → AreRefused rows numbers → AreTold (refusals numbers) t old mid
      → t.written + 1 ≡ n → (f : Fault) → f.0 ≢ 92 → HasLine f.0
      → Stops (written_as mid was) (written_as new failed) n (answers.Fault f) t e
      → IsEndedAt xs s e old new
  ended-behind numbers rows state rest reached read told at f other line stops =
      stopped-at (stopped-fault StopsAt (refusals numbers) n t e old mid new before was failed (omega (arith, told.1))
      (all_counted t numbers old mid told) told working f line stops
      (λ w enough. (
        numbers,
        refl,
        rows,
        state,
        rest,
        reached,
        read,
        λ is. absurd
            (other (was-92 f t e n mid new was failed stops is)),
      )))

-- ---- one more record
module _ {T : Type 0} (remaining : T → Option (List ℕ)) (a b : Reader T) (xs : List ℕ) (s : State) (t : Tally)
    (old mid : Option (List ℕ)) (config : a.config ≡ default_config)
    (h : AreRefusedSoFar xs s (source_of remaining a) a.state t old mid) where
  one-more : (why : Refusal) (number : ℕ) → why ≡ plain number → refusals h.numbers ++ answers.Refused why
      ∷ [] ≡ refusals (h.numbers ++ number ∷ [])
  one-more why number same = ap (λ y. refusals h.numbers ++ answers.Refused y ∷ []) same
      ∙ sym (refusals-more h.numbers number)

  -- it was answered
  pub ended-more : (x : Answer) (t2 : Tally) (n : ℕ) (new : Option (List ℕ)) (was failed : Bool)
      → IsEndedTurn remaining a b (Some x)
      → GoesOn (written_as mid was) (written_as new failed) n x t t2 → t.written + 1 ≡ n
      → AreRefusedSoFar xs s (source_of remaining b) b.state t2 old new
  ended-more answers.Ok t2 n new was failed turn goes at = absurd turn
  ended-more (answers.Fault f) t2 n new was failed turn goes at = absurd (goes.0)
  ended-more (answers.Refused why) t2 n new was failed (fields, read, (number, same, is)) goes at =
      let (zs, here, reached) = rows-more remaining a b fields default_config s xs h.rest h.rows config h.here h.reached
      read in
      record {
        numbers = h.numbers ++ number ∷ [];
        rows = h.rows ++ fields ∷ [];
        rest = zs;
        here = here;
        reached = reached;
        read = refused-more h.rows h.numbers fields number h.read is;
        told = subst (λ l. AreTold l t2 old new) (one-more why number same)
            (told-more (refusals h.numbers) (answers.Refused why) t t2 n old mid new was failed h.told goes
            (omega (arith, h.told.1)));
      }

  -- there was none
  pub ended-all : IsEndedTurn remaining a b None → AreAllRefused xs s t old mid
  ended-all (fields, read) = record {
    numbers = h.numbers;
    rows = h.rows;
    are = (a.state, h.rest, h.reached, rows-end remaining a b fields default_config h.rest config h.here read);
    read = h.read;
    told = h.told;
  }

  module _ (e : RunFault) (n : ℕ) (new : Option (List ℕ)) (before was failed : Bool) (working : was ≡ before) where
    -- with its fault
    at_fault : (x : Answer) → is_fault x ≡ true → IsEndedTurn remaining a b (Some x)
        → Stops (written_as mid was) (written_as new failed) n x t e
        → e.fault.0 ≡ 92 → IsReadNext xs s h.rows
    at_fault answers.Ok faulted turn stops is = absurd (let g : false ≡ true = faulted in cc)
    at_fault (answers.Refused why) faulted turn stops is = absurd (let g : false ≡ true = faulted in cc)
    at_fault (answers.Fault f) faulted turn stops is =
        let (fields, read, command, spelled) = turn (was-92 f t e n mid new was failed stops is) in
        let (zs, here, reached) = rows-more remaining a b fields default_config s xs h.rest h.rows config h.here
        h.reached read in
        (fields, command, b.state, zs, reached, spelled)

    -- with its refusal
    at_refusal : (x : Answer) → IsAnswer x → IsEndedTurn remaining a b (Some x)
        → Stops (written_as mid was) (written_as new failed) n x t e → (w : ℕ)
        → StopsAt xs s t e n old mid new before was failed working (refusals h.numbers ++ x ∷ []) w
    at_refusal answers.Ok good turn stops w = absurd turn
    at_refusal (answers.Fault f) good turn stops w = absurd good
    at_refusal (answers.Refused why) good (fields, read, (number, same, is)) stops w =
        let (zs, here, reached) = rows-more remaining a b fields default_config s xs h.rest h.rows config h.here
        h.reached read in (
          h.numbers ++ number ∷ [],
          one-more why number same,
          h.rows ++ fields ∷ [],
          b.state,
          zs,
          reached,
          refused-more h.rows h.numbers fields number h.read is,
          λ told. absurd (not-92 (answers.Refused why) t e n mid new was failed tt stops told),
        )

    pub ended-stopped : (x : Answer) → OnFault x HasLine → IsEndedTurn remaining a b (Some x)
        → Stops (written_as mid was) (written_as new failed) n x t e → t.written + 1 ≡ n → IsEndedAt xs s e old new
    ended-stopped x line turn stops at =
        stopped-at xs s t e n old mid new before was failed working
        (stopped-with (StopsAt xs s t e n old mid new before was failed working) (refusals h.numbers) n t e old mid new
        before was failed (omega (arith, h.told.1)) (all_counted t h.numbers old mid h.told) h.told working x line stops
        (λ faulted w enough. (
          h.numbers,
          refl,
          h.rows,
          a.state,
          h.rest,
          h.reached,
          h.read,
          at_fault x faulted turn
              stops,
        ))
        (λ good w enough. at_refusal x good turn stops w))

-- what was read of a record was answered
pub ended_turn : {T : Type 0} (remaining : T → Option (List ℕ)) (a b : Reader T) (fields : Record)
    (read : Result Command ReadFault) (x : Answer)
    → ReadRecord remaining a b true fields → IsCommandRead fields read → x ≡ ended_answer read
    → IsEndedTurn remaining a b (Some x)
ended_turn remaining a b fields (Ok command) x record_read is e = rw e (λ told. (fields, record_read, command, is))
ended_turn remaining a b fields (Err (faults.Refused why)) x record_read is e =
    rw e (fields, record_read, (why.number, whole why is.0, is.1))
ended_turn remaining a b fields (Err faults.Memory) x record_read is e = rw e (λ told. absurd (omega arith))

-- a fault of reading is not 92
pub read_not_92 : (f : ℕ) (b : Bool) → IsReadFault f b → f ≢ 92
read_not_92 f b (inl e) h = absurd (omega arith)
read_not_92 f b (inr e) h = let e0 : f ≡ 96 = e.0 in absurd (omega arith)

-- ---- the report
-- the record behind the first ones
next_of : (rows : List Record) (fields : Record) (all : List Record) → rows ++ fields
    ∷ [] ≡ take (length (rows ++ fields ∷ [])) all
    → (length rows < length all) × (get_or all (length rows) [] ≡ fields)
next_of [] fields [] h = absurd (let e : fields ∷ [] ≡ [] = h in cc)
next_of [] fields (y ∷ all) h = (omega arith, let e : fields ∷ [] ≡ y ∷ [] = h in cc)
next_of (row ∷ rows) fields [] h = absurd (let e : row ∷ (rows ++ fields ∷ []) ≡ [] = h in cc)
next_of (row ∷ rows) fields (y ∷ all) h =
    let e : rows ++ fields ∷ [] ≡ take (length (rows ++ fields ∷ [])) all = ap (λ l. drop 1 l) h in
    let more = next_of rows fields all e in
    (omega (arith, more.0), more.1)

spells : (bytes : List ℕ) (rows : List Record) (numbers : List ℕ) → AreRefused rows numbers
    → IsReadNext (strip_bom bytes) states.StartRecord rows
    → SpellsNext bytes (length numbers)
spells bytes rows numbers read (fields, command, s2, rest, reached, is) =
    let next = next_of rows fields (records_of bytes)
    (records-first s2 (strip_bom bytes) rest (rows ++ fields ∷ []) reached) in
    let size : length rows ≡ length numbers = as_many rows numbers read in (
      subst (λ n. n < length (records_of bytes)) size next.0,
      command,
      subst (λ n. IsReadAs (get_or (records_of bytes) n []) (Ok command)) size
          (subst (λ l. IsReadAs l (Ok command)) (sym next.1) is),
    )

pub ran-ended : (bytes : List ℕ) (old new : Written) (r : Result Tally RunFault)
    → IsEndedRun (strip_bom bytes) states.StartRecord old new r
    → RanEnded bytes old new r
ran-ended bytes old new (Ok t) h = record {
  numbers = h.numbers;
  read = subst (λ l. AreRefused l h.numbers) (records-all (strip_bom bytes) h.rows h.are) h.read;
  text = h.told.2;
  accepted = h.told.0.0 ∙ none_accepted h.numbers;
  refused = h.told.0.1 ∙ all_refused h.numbers;
  written = h.told.1 ∙ length-refusals h.numbers;
}
ran-ended bytes old new (Err e) h =
    let size : length h.rows ≡ length h.numbers = as_many h.rows h.numbers h.read in
    let first : h.rows ≡ take (length h.numbers) (records_of bytes) = records-first h.state (strip_bom bytes) h.rest
    h.rows h.reached ∙ ap (λ n. take n (records_of bytes)) size in
    record {
      numbers = h.numbers;
      read = subst (λ l. AreRefused l h.numbers) first h.read;
      text = h.text;
      accepted = h.counted.0 ∙ none_accepted h.numbers;
      refused = h.counted.1 ∙ all_refused h.numbers;
      next = λ is. spells bytes h.rows h.numbers h.read (h.next is);
    }
