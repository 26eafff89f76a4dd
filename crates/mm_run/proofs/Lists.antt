-- How answers, calls and first parts grow with the records that were read.
use Rattle.std.proofs.Common.{◌≡◌, ◌∙◌, ◌+◌, ◌≤◌, ℕ, suc, List, [], ◌∷◌, ◌++◌, Option, Some, None, Ok, Err, take}
use Rattle.std.proofs.Common.{length, refl, sym, ap, subst, arith, add-zero, append-nil, length-append}
use Rattle.std.specs.Prelude.{if◌then◌else◌}
use Rattle.std.specs.List.{concat}
use Rattle.std.proofs.lemmas.List.Folds.{concat-append}
use Rattle.std.proofs.Math.Seq.{take-append_seam}
use Rattle.mm_definitions.specs.Package.{Package}
use Rattle.mm_definitions.specs.Step.{refusal, step}
use Rattle.mm_definitions.specs.Runs.{Call, run, accepted, if_ok, IsFirstPart}
use Rattle.mm_definitions.specs.Refusals.{Refusal}
use Rattle.mm_definitions.specs.declared.answers.Answer.{Answer}
use Rattle.mm_definitions.specs.declared.answers.Answer.TheVariants as answers
use Rattle.mm_io.specs.Lines.{line, lines, lines_from}
use Rattle.mm_io.specs.Records.{Record}
use Rattle.mm_run.specs.Readings.{Reading, IsReadAs, AreReadAs}
use Rattle.mm_run.specs.Answers.{answer_of, answer_to, after, answers_to, calls_of, is_accepted, is_refused}
use Rattle.mm_run.specs.Answers.{accepted_of, refused_of}
use Rattle.mm_laws.proofs.RunFacts.{run_accepted}
use Rattle.mm_laws.proofs.FirstParts.{if_ok_append}

-- ---- readings
pub read_more : (rows : List Record) (readings : List Reading) (fields : Record) (reading : Reading)
    → AreReadAs rows readings → IsReadAs fields reading
    → AreReadAs (rows ++ fields ∷ []) (readings ++ reading ∷ [])
unfolding AreReadAs
read_more [] [] fields reading h is = (is, tt)
read_more (row ∷ rows) (r ∷ readings) fields reading h is = (h.0, read_more rows readings fields reading h.1 is)
read_more [] (r ∷ readings) fields reading h is = absurd h
read_more (row ∷ rows) [] fields reading h is = absurd h

pub as_many : (rows : List Record) (readings : List Reading) → AreReadAs rows readings → length rows ≡ length readings
unfolding AreReadAs
as_many [] [] h = refl
as_many (row ∷ rows) (r ∷ readings) h = ap suc (as_many rows readings h.1)
as_many [] (r ∷ readings) h = absurd h
as_many (row ∷ rows) [] h = absurd h

pub none_read : AreReadAs [] []
unfolding AreReadAs
none_read = tt

-- ---- calls
pub calls-append : (moment : ℕ) (xs ys : List Reading) → calls_of moment (xs ++ ys) ≡ calls_of moment xs
    ++ calls_of moment ys
unfolding calls_of
calls-append moment [] ys = refl
calls-append moment (Ok command ∷ xs) ys = ap (λ l. record { command = command; moment = moment } ∷ l)
    (calls-append moment xs ys)
calls-append moment (Err number ∷ xs) ys = calls-append moment xs ys

pub run-append : (p : Package) (xs ys : List Call) → run p (xs ++ ys) ≡ run (run p xs) ys
run-append p [] ys = refl
run-append p (x ∷ xs) ys = run-append (step p x.command x.moment) xs ys

run-one : (p : Package) (moment : ℕ) (reading : Reading)
    → run p (calls_of moment (reading ∷ [])) ≡ after p moment reading
unfolding calls_of
run-one p moment (Ok command) = refl
run-one p moment (Err number) = refl

run-first : (p : Package) (moment : ℕ) (reading : Reading) (readings : List Reading)
    → run p (calls_of moment (reading ∷ readings)) ≡ run (after p moment reading) (calls_of moment readings)
unfolding calls_of
run-first p moment (Ok command) readings = refl
run-first p moment (Err number) readings = refl

pub run-more : (p : Package) (moment : ℕ) (readings : List Reading) (reading : Reading)
    → run p (calls_of moment (readings ++ reading ∷ [])) ≡ after (run p (calls_of moment readings)) moment reading
run-more p moment readings reading =
    ap (run p) (calls-append moment readings (reading ∷ []))
    ∙ (run-append p (calls_of moment readings) (calls_of moment (reading ∷ []))
    ∙ run-one (run p (calls_of moment readings)) moment reading)

-- ---- answers
pub answers-more : (p : Package) (moment : ℕ) (readings : List Reading) (reading : Reading)
    → answers_to p moment (readings ++ reading ∷ []) ≡ answers_to p moment readings
    ++ answer_to (run p (calls_of moment readings)) reading ∷ []
unfolding answers_to calls_of
answers-more p moment [] reading = refl
answers-more p moment (x ∷ readings) reading =
    ap (λ l. answer_to p x ∷ l) (answers-more (after p moment x) moment readings reading
    ∙ ap (λ q. answers_to (after p moment x) moment readings ++ answer_to q reading ∷ [])
    (sym (run-first p moment x readings)))

pub length-answers : (p : Package) (moment : ℕ) (readings : List Reading)
    → length (answers_to p moment readings) ≡ length readings
unfolding answers_to
length-answers p moment [] = refl
length-answers p moment (x ∷ readings) = ap suc (length-answers (after p moment x) moment readings)

one_each : (p : Package) (reading : Reading)
    → (if is_accepted (answer_to p reading) then 1 else 0) + (if is_refused (answer_to p reading) then 1 else 0) ≡ 1
one_each p (Ok command) = by (refusal p command)
  where
    by : (why : Option Refusal) → (if is_accepted (answer_of why) then 1 else 0) + (if is_refused (answer_of why) then 1
        else 0) ≡ 1
    by None = refl
    by (Some why) = refl
one_each p (Err number) = refl

pub counted-answers : (p : Package) (moment : ℕ) (readings : List Reading)
    → accepted_of (answers_to p moment readings) + refused_of (answers_to p moment readings) ≡ length readings
unfolding answers_to accepted_of refused_of
counted-answers p moment [] = refl
counted-answers p moment (x ∷ readings) =
    omega (arith, counted-answers (after p moment x) moment readings, one_each p x)

-- ---- counts
pub accepted_of-more : (given : List Answer) (a : Answer)
    → accepted_of (given ++ a ∷ []) ≡ accepted_of given + (if is_accepted a then 1 else 0)
unfolding accepted_of
accepted_of-more [] a = omega arith
accepted_of-more (x ∷ given) a = omega (arith, accepted_of-more given a)

pub refused_of-more : (given : List Answer) (a : Answer)
    → refused_of (given ++ a ∷ []) ≡ refused_of given + (if is_refused a then 1 else 0)
unfolding refused_of
refused_of-more [] a = omega arith
refused_of-more (x ∷ given) a = omega (arith, refused_of-more given a)

pub at_most_one : (a : Answer) → (if is_accepted a then 1 else 0) ≤ 1
at_most_one answers.Ok = omega arith
at_most_one (answers.Refused why) = omega arith
at_most_one (answers.Fault fault) = omega arith

-- ---- lines
pub lines_from-more : (n : ℕ) (given : List Answer) (a : Answer) → lines_from n (given ++ a ∷ []) ≡ lines_from n given
    ++ line (n + length given) a ∷ []
unfolding lines_from
lines_from-more n [] a = rw add-zero refl
lines_from-more n (x ∷ given) a =
    let e : n + 1 + length given ≡ n + length (x ∷ given) = omega arith in
    ap (λ l. line n x ∷ l) (rw e at (lines_from-more (n + 1) given a))

pub length-lines_from : (n : ℕ) (given : List Answer) → length (lines_from n given) ≡ length given
unfolding lines_from
length-lines_from n [] = refl
length-lines_from n (x ∷ given) = ap suc (length-lines_from (n + 1) given)

pub text-more : (given : List Answer) (a : Answer) (n : ℕ) → length given + 1 ≡ n
    → concat (lines (given ++ a ∷ [])) ≡ concat (lines given) ++ line n a
text-more given a n e =
    let at : 1 + length given ≡ n = omega arith in
    let whole : lines (given ++ a ∷ []) ≡ lines given ++ line n a ∷ [] = rw at at (lines_from-more 1 given a) in
    ap concat whole ∙ concat-append (lines given) (line n a ∷ [])
    ∙ ap (λ l. concat (lines given) ++ l) (append-nil (line n a))

-- ---- first parts

pub accepted-append : (p : Package) (xs ys : List Call) → accepted p (xs ++ ys) ≡ accepted p xs
    ++ accepted (run p xs) ys
accepted-append p [] ys = refl
accepted-append p (x ∷ xs) ys =
    ap (if_ok (refusal p x.command) x) (accepted-append (step p x.command x.moment) xs ys)
    ∙ if_ok_append (refusal p x.command) x _ _

pub length-accepted : (p : Package) (moment : ℕ) (readings : List Reading)
    → length (accepted p (calls_of moment readings)) ≡ accepted_of (answers_to p moment readings)
unfolding answers_to accepted_of calls_of
length-accepted p moment [] = refl
length-accepted p moment (Ok command ∷ readings) =
    by (refusal p command) (length-accepted (step p command moment) moment readings)
  where
    by : (r : Option Refusal)
        → length (accepted (step p command moment) (calls_of moment readings))
        ≡ accepted_of (answers_to (step p command moment) moment readings)
        → length (if_ok r (record { command = command; moment = moment })
        (accepted (step p command moment) (calls_of moment readings)))
        ≡ (if is_accepted (answer_of r) then 1 else 0) + accepted_of
        (answers_to (step p command moment) moment readings)
    by None h = omega (arith, h)
    by (Some why) h = omega (arith, h)
length-accepted p moment (Err number ∷ readings) = omega (arith, length-accepted p moment readings)

-- the package after the first calls, whatever comes behind them
pub part : (p : Package) (xs ys : List Call) (acknowledged : ℕ) → acknowledged ≤ length (accepted p xs)
    → length (accepted p xs) ≤ acknowledged + 1
    → IsFirstPart p (xs ++ ys) acknowledged (run p xs)
part p xs ys acknowledged least most =
    let all : accepted p (xs ++ ys) ≡ accepted p xs ++ accepted (run p xs) ys = accepted-append p xs ys in
    let front : take (length (accepted p xs)) (accepted p (xs ++ ys)) ≡ accepted p xs =
    ap (take (length (accepted p xs))) all ∙ take-append_seam (accepted p xs) (accepted (run p xs) ys) in
    record {
      count = length (accepted p xs);
      at_least = least;
      at_most = most;
      there = omega (arith, ap length all, length-append (accepted p xs) (accepted (run p xs) ys));
      is = sym (ap (run p) front ∙ run_accepted xs p);
    }

-- the same of records that were read
pub part_of : (p : Package) (moment : ℕ) (readings more : List Reading) (acknowledged : ℕ)
    → acknowledged ≤ accepted_of (answers_to p moment readings)
    → accepted_of (answers_to p moment readings) ≤ acknowledged + 1
    → IsFirstPart p (calls_of moment (readings ++ more)) acknowledged (run p (calls_of moment readings))
part_of p moment readings more acknowledged least most =
    let count = length-accepted p moment readings in
    subst (λ l. IsFirstPart p l acknowledged (run p (calls_of moment readings)))
    (sym (calls-append moment readings more))
    (part p (calls_of moment readings) (calls_of moment more) acknowledged (omega (arith, count))
    (omega (arith, count)))
