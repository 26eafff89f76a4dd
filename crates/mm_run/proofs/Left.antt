-- The records so far, and what may be left of them.
use Rattle.std.proofs.Common.{◌≡◌, ◌∙◌, ◌≤◌, ◌+◌, inl, inr, ℕ, zero, suc, List, [], ◌∷◌, ◌++◌, take, length, Bool}
use Rattle.std.proofs.Common.{Option, Some, None, Ok, refl, sym, ap, subst, arith, true, false, append-nil}
use Rattle.std.proofs.lemmas.List.{take_all}
use Rattle.std.proofs.Math.Seq.{take-append_seam}
use Rattle.csv.specs.Reading.{Reached, ReadRecord, default_config, source_of}
use Rattle.csv.specs.declared.parser.State.{State}
use Rattle.csv.specs.declared.reader.Reader.{Reader}
use Rattle.csv.proofs.ReadFacts.{rows-end, rows-more}
use Rattle.mm_definitions.specs.Bounds.{current}
use Rattle.mm_definitions.specs.Package.{Package}
use Rattle.mm_definitions.specs.Rules.{Meets}
use Rattle.mm_definitions.specs.Runs.{run, IsFirstPart}
use Rattle.mm_definitions.specs.Step.{refusal, step}
use Rattle.mm_definitions.specs.declared.answers.Fault.{Fault}
use Rattle.mm_definitions.specs.declared.answers.Answer.{Answer}
use Rattle.mm_definitions.specs.declared.answers.Answer.TheVariants as answers
use Rattle.mm_definitions.specs.declared.commands.Command.{Command}
use Rattle.mm_io.specs.Records.{Record}
use Rattle.mm_run.specs.Readings.{Reading, IsReadAs, AreReadAs}
use Rattle.mm_run.specs.Answers.{answer_of, answers_to, calls_of, is_fault, accepted_of}
use Rattle.mm_run.specs.Shown.{Shown}
use Rattle.mm_run.specs.Applied.{IsSound, LeavesOnly, LeavesEither, IsAnswer}
use Rattle.mm_run.specs.Runs.{AreFirstParts, IsAll, IsSoFar, IsSome, Turns, WorksOn}
use Rattle.mm_run.proofs.Answered.{goes_on}
use Rattle.mm_run.proofs.Lists.{accepted_of-more, answers-more, at_most_one, length-answers, none_read, part_of}
use Rattle.mm_run.proofs.Lists.{read_more, run-more}

-- a front of some answers, which lacks one at most
accepted-last : (given : List Answer) (a : Answer) (w : ℕ) → length given ≤ w
    → accepted_of (given ++ a ∷ []) ≤ accepted_of (take w (given ++ a ∷ [])) + 1
unfolding accepted_of
accepted-last [] a w h = omega (arith, at_most_one a)
accepted-last (x ∷ given) a zero h = absurd (omega arith)
accepted-last (x ∷ given) a (suc w) h = omega (arith, accepted-last given a w (omega arith))

accepted-front : (given : List Answer) (w : ℕ) → accepted_of (take w given) ≤ accepted_of given
unfolding accepted_of
accepted-front [] zero = omega arith
accepted-front [] (suc w) = omega arith
accepted-front (x ∷ given) zero = omega arith
accepted-front (x ∷ given) (suc w) = omega (arith, accepted-front given w)

-- nothing so far
pub so_far-none : (p : Package) (moment : ℕ) (xs : List ℕ) (s : State) (source : Option (List ℕ))
    (settled : Package → Type 0) → source ≡ Some xs
    → IsSound settled p
    → IsSoFar p moment xs s source s settled []
unfolding Reached answers_to calls_of
so_far-none p moment xs s source settled here sound =
    record {
      rows = [];
      rest = xs;
      here = here;
      reached = (refl, refl);
      readings = [];
      read = none_read;
      were = refl;
      stands = sound;
    }

as_given : (p : Package) (moment : ℕ) (given : List Answer) (readings : List Reading)
    → given ≡ answers_to p moment readings → length given ≡ length readings
as_given p moment given readings were = ap length were ∙ length-answers p moment readings

front_of : (p : Package) (moment : ℕ) (given : List Answer) (readings more : List Reading)
    → given ≡ answers_to p moment readings
    → given ≡ answers_to p moment (take (length given) (readings ++ more))
front_of p moment given readings more were =
    let size : length given ≡ length readings = as_given p moment given readings were in
    were ∙ ap (answers_to p moment) (sym (ap (λ n. take n (readings ++ more)) size ∙ take-append_seam readings more))

whole_of : (p : Package) (moment : ℕ) (given : List Answer) (readings : List Reading)
    → given ≡ answers_to p moment readings
    → given ≡ answers_to p moment (take (length given) readings)
whole_of p moment given readings were = front_of p moment given readings [] were
    ∙ ap (λ l. answers_to p moment (take (length given) l)) (append-nil readings)

module _ {D : Type 0} (p : Package) (moment : ℕ) (shows : Shown D) where
  -- where all that may be left stands for the package after the records
  pub parts-left : (readings : List Reading) (acknowledged : ℕ) → LeavesOnly shows (run p (calls_of moment readings))
      → Meets current (run p (calls_of moment readings))
      → acknowledged ≤ accepted_of (answers_to p moment readings)
      → accepted_of (answers_to p moment readings) ≤ acknowledged + 1
      → AreFirstParts shows p (calls_of moment readings) acknowledged
  parts-left readings acknowledged leaves meets least most db may = (
    run p (calls_of moment readings),
    leaves db may,
    subst (λ l. IsFirstPart p (calls_of moment l) acknowledged (run p (calls_of moment readings))) (append-nil readings)
        (part_of p moment readings [] acknowledged least most),
    meets,
  )

  module _ (xs : List ℕ) (s : State) (before : Bool) (given : List Answer) where
    -- all the records were answered, or all that were read
    some-of : (rows : List Record) (state : State) (rest : List ℕ) (readings : List Reading) (w : ℕ)
        → Reached default_config s xs rows state rest
        → AreReadAs rows readings
        → given ≡ answers_to p moment readings → LeavesOnly shows (run p (calls_of moment readings))
        → WorksOn before shows (run p (calls_of moment readings))
        → accepted_of (take w given) ≤ accepted_of given → accepted_of given ≤ accepted_of (take w given) + 1
        → IsSome p moment xs s before shows given w
    some-of rows state rest readings w reached read were leaves works least most =
        let count : accepted_of given ≡ accepted_of (answers_to p moment readings) = ap accepted_of were in
        record {
          rows = rows;
          state = state;
          rest = rest;
          reached = reached;
          readings = readings;
          read = read;
          were = whole_of p moment given readings were;
          session = inl (sym (as_given p moment given readings were), works);
          left = parts-left readings (accepted_of (take w given)) leaves works.1.1 (omega (arith, count, least))
              (omega (arith, count, most));
        }

    whole_front : (w : ℕ) → length given ≤ w → accepted_of (take w given) ≡ accepted_of given
    whole_front w h = ap accepted_of (take_all w given h)

    module _ (law : (q : Package) → shows.settled q → LeavesOnly shows q) (same : shows.failed ≡ before) where
      -- of a run that is at rest
      pub some-so_far : (source : Option (List ℕ)) (s2 : State) → IsSoFar p moment xs s source s2 shows.settled given
          → (w : ℕ) → length given ≤ w
          → IsSome p moment xs s before shows given w
      some-so_far source s2 h w enough =
          let front = whole_front w enough in
          some-of h.rows s2 h.rest h.readings w h.reached h.read h.were
          (law (run p (calls_of moment h.readings)) h.stands.0) (same, h.stands) (omega (arith, front))
          (omega (arith, front))

      pub some-all : IsAll p moment xs s shows.settled given → (w : ℕ) → length given ≤ w
          → IsSome p moment xs s before shows given w
      some-all h w enough =
          let front = whole_front w enough in
          some-of h.rows h.are.0 h.are.1 h.readings w h.are.2 h.read h.were
          (law (run p (calls_of moment h.readings)) h.stands.0) (same, h.stands) (omega (arith, front))
          (omega (arith, front))

-- the line of the last answer may be missing
pub some-last : {D : Type 0} (p : Package) (moment : ℕ) (shows : Shown D) (xs : List ℕ) (s : State) (before : Bool)
    (given : List Answer) (a : Answer)
    → ((q : Package) → shows.settled q → LeavesOnly shows q) → shows.failed ≡ before
    → (source : Option (List ℕ)) (s2 : State)
    → IsSoFar p moment xs s source s2 shows.settled (given ++ a ∷ []) → (w : ℕ) → length given ≤ w
    → IsSome p moment xs s before shows (given ++ a ∷ []) w
some-last p moment shows xs s before given a law same source s2 h w enough =
    some-of p moment shows xs s before (given ++ a ∷ []) h.rows s2 h.rest h.readings w h.reached h.read h.were
    (law (run p (calls_of moment h.readings)) h.stands.0) (same, h.stands) (accepted-front (given ++ a ∷ []) w)
    (accepted-last given a w enough)

-- ---- one more record
module _ {D T : Type 0} (remaining : T → Option (List ℕ)) (a b : Reader T) (p : Package) (moment : ℕ) (xs : List ℕ)
    (s : State) (settled : Package → Type 0) (shows : Shown D)
    (first before : Bool) (given : List Answer) (config : a.config ≡ default_config)
    (h : IsSoFar p moment xs s (source_of remaining a) a.state settled given) where
  abbrev here : Package
  here = run p (calls_of moment h.readings)

  -- it was answered
  pub so_far-more : (x : Answer) → ((q : Package) → IsSound settled q → Turns remaining a b q moment before (Some x)
      shows) → IsAnswer x
      → IsSoFar p moment xs s (source_of remaining b) b.state shows.settled (given ++ x ∷ [])
  so_far-more x turn good =
      let (fields, read, reading, is, same, sound) = goes_on remaining a b here moment before shows x good
      (turn here h.stands) in
      let (zs, at, reached) = rows-more remaining a b fields default_config s xs h.rest h.rows config h.here h.reached
      read in
      record {
        rows = h.rows ++ fields ∷ [];
        rest = zs;
        here = at;
        reached = reached;
        readings = h.readings ++ reading ∷ [];
        read = read_more h.rows h.readings fields reading h.read is;
        were = ap (λ l. l ++ x ∷ []) h.were
            ∙ (ap (λ y. answers_to p moment h.readings ++ y ∷ []) same
            ∙ sym (answers-more p moment h.readings reading));
        stands = subst (IsSound shows.settled) (sym (run-more p moment h.readings reading)) sound;
      }

  -- there was none
  pub all-answered : ((q : Package) → IsSound settled q → Turns remaining a b q moment before None shows)
      → IsAll p moment xs s shows.settled given
  all-answered turn =
      let (fields, read, sound) = turn here h.stands in
      record {
        rows = h.rows;
        are = (a.state, h.rest, h.reached, rows-end remaining a b fields default_config h.rest config h.here read);
        readings = h.readings;
        read = h.read;
        were = h.were;
        stands = sound;
      }

  module _ (law : (q : Package) → shows.settled q → LeavesOnly shows q) (so_far : before ≡ first) where
    -- nothing of it was done
    some-before : (w : ℕ) → length given ≤ w → WorksOn before shows here → IsSome p moment xs s first shows given w
    some-before w enough works =
        let front = whole_front p moment shows xs s first given w enough in
        some-of p moment shows xs s first given h.rows a.state h.rest h.readings w h.reached h.read h.were
        (law here works.1.0) (works.0 ∙ so_far, works.1) (omega (arith, front)) (omega (arith, front))

    -- it may have been done
    some-doubt : (w : ℕ) → length given ≤ w → (fields : Record) → ReadRecord remaining a b true fields
        → shows.failed ≡ true → (command : Command)
        → IsReadAs fields (Ok command)
        → Meets current (step here command moment) → LeavesEither shows here command moment
        → IsSome p moment xs s first shows given w
    some-doubt w enough fields read down command is meets either =
        let front = whole_front p moment shows xs s first given w enough in
        let count : accepted_of given ≡ accepted_of (answers_to p moment h.readings) = ap accepted_of h.were in
        let (zs, at, reached) = rows-more remaining a b fields default_config s xs h.rest h.rows config h.here h.reached
        read in
        let after_it : run p (calls_of moment (h.readings ++ Ok command ∷ [])) ≡ step here command moment =
        run-more p moment h.readings (Ok command) in
        record {
          rows = h.rows ++ fields ∷ [];
          state = b.state;
          rest = zs;
          reached = reached;
          readings = h.readings ++ Ok command ∷ [];
          read = read_more h.rows h.readings fields (Ok command) h.read is;
          were = front_of p moment given h.readings (Ok command ∷ []) h.were;
          session = inr (down, h.readings, command, refl, sym (as_given p moment given h.readings h.were));
          left = λ db may. elim (either db may) [
            | inl before ↦ (
              here,
              before,
              part_of p moment h.readings (Ok command ∷ []) (accepted_of (take w given))
                  (omega (arith, front, count)) (omega (arith, front, count)),
              h.stands.1,
            )
            | inr next ↦ done db next.0 next.1 front count after_it
          ];
        }
      where
        done : (db : D) → refusal here command ≡ None → shows.stands_for db (step here command moment)
            → accepted_of (take w given) ≡ accepted_of given
            → accepted_of given ≡ accepted_of (answers_to p moment h.readings)
            → run p (calls_of moment (h.readings ++ Ok command ∷ [])) ≡ step here command moment
            → (q : Package) × shows.stands_for db q × IsFirstPart p (calls_of moment (h.readings ++ Ok command ∷ []))
            (accepted_of (take w given)) q × Meets current q
        done db none stands front count after_it =
            let more : answers_to p moment (h.readings ++ Ok command ∷ []) ≡ answers_to p moment h.readings
            ++ answers.Ok ∷ [] =
            answers-more p moment h.readings (Ok command)
            ∙ ap (λ r. answers_to p moment h.readings ++ answer_of r ∷ []) none in
            let one : accepted_of (answers_to p moment (h.readings ++ Ok command ∷ []))
            ≡ accepted_of (answers_to p moment h.readings) + 1 =
            ap accepted_of more ∙ accepted_of-more (answers_to p moment h.readings) answers.Ok in
            let first = part_of p moment (h.readings ++ Ok command ∷ []) [] (accepted_of (take w given))
            (omega (arith, front, count, one)) (omega (arith, front, count, one)) in (
              step here command moment,
              stands,
              subst (λ q. IsFirstPart p (calls_of moment (h.readings ++ Ok command ∷ [])) (accepted_of (take w given))
                  q) after_it
                  (subst (λ l. IsFirstPart p (calls_of moment l) (accepted_of (take w given))
                  (run p (calls_of moment (h.readings ++ Ok command ∷ []))))
                  (append-nil (h.readings ++ Ok command ∷ [])) first),
              meets,
            )

    -- it was answered with a fault
    some-fault : (fault : Fault) → ((q : Package) → IsSound settled q → Turns remaining a b q moment before
        (Some (answers.Fault fault)) shows)
        → (w : ℕ) → length given ≤ w → IsSome p moment xs s first shows given w
    some-fault fault turn w enough = elim (turn here h.stands) [
      | inl works ↦ some-before w enough works
      | inr tried ↦ elim tried.2 [
        | inl works ↦ some-before w enough works
        | inr doubt ↦ some-doubt w enough tried.0 tried.1 doubt.0 doubt.1 doubt.2 doubt.3 doubt.4
      ]
    ]

    pub some-faulted : (x : Answer) → is_fault x ≡ true
        → ((q : Package) → IsSound settled q → Turns remaining a b q moment before (Some x) shows)
        → (w : ℕ) → length given ≤ w → IsSome p moment xs s first shows given w
    some-faulted answers.Ok faulted turn w enough = absurd (let e : false ≡ true = faulted in cc)
    some-faulted (answers.Refused why) faulted turn w enough = absurd (let e : false ≡ true = faulted in cc)
    some-faulted (answers.Fault fault) faulted turn w enough = some-fault fault turn w enough
