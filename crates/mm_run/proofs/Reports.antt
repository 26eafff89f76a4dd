-- What a run reports of all the records of its bytes.
use Rattle.std.proofs.Common.{◌≡◌, ◌∙◌, ◌+◌, ℕ, Bool, true, List, length, take, Result, Ok, Err, OnOk, inl, inr, sym}
use Rattle.std.proofs.Common.{ap, subst, arith, option_map}
use Rattle.std.specs.Io.KnownBytes.{IsAtEnd}
use Rattle.std.specs.declared.io.traits.Read as reads
use Rattle.std.specs.declared.io.traits.Write as writes
use Rattle.csv.specs.Reading.{strip_bom}
use Rattle.csv.specs.declared.parser.State.TheVariants as states
use Rattle.mm_definitions.specs.Package.{Package}
use Rattle.mm_definitions.specs.Runs.{run}
use Rattle.mm_definitions.specs.declared.answers.Answer.{Answer}
use Rattle.mm_definitions.specs.declared.answers.RunFault.{RunFault}
use Rattle.mm_definitions.specs.declared.answers.Tally.{Tally}
use Rattle.mm_io.specs.Records.{records_of}
use Rattle.mm_io.proofs.RecordsFacts.{records-all, records-first}
use Rattle.mm_run.specs.Readings.{Reading, AreReadAs}
use Rattle.mm_run.specs.Answers.{answers_to, calls_of, accepted_of, refused_of}
use Rattle.mm_run.specs.Applied.{LeavesOnly}
use Rattle.mm_run.specs.Shown.{Shown}
use Rattle.mm_run.specs.Told.{AreTold}
use Rattle.mm_run.specs.Runs.{AreFirstParts, IsAll, IsSome, IsStopped, RanAll, RanSome, StopsBehind, WorksOn, given_of}
use Rattle.mm_run.proofs.Left.{parts-left}
use Rattle.mm_run.proofs.Lists.{as_many, counted-answers, length-answers}
use Rattle.mm_definitions.specs.Streams.{Written, has_failed, inside}
use Rattle.mm_definitions.specs.declared.streams.Io.{Io}
use Rattle.mm_run.specs.Promised.{RunsList, RunsSource}
use Rattle.mm_run.specs.Sessions.{shown_since}
use Rattle.mm_run.specs.declared.apply.Apply as applies
use Rattle.mm_run.proofs.Ended.{ran-ended}

pub ran-all : {D : Type 0} (p : Package) (moment : ℕ) (bytes : List ℕ) (shows : Shown D) (old new : Written) (t : Tally)
    (given : List Answer)
    → ((q : Package) → shows.settled q → LeavesOnly shows q)
    → AreTold given t old.contents new.contents → IsAll p moment (strip_bom bytes) states.StartRecord shows.settled
    given
    → RanAll p moment bytes shows old new t
ran-all p moment bytes shows old new t given law told all =
    let same : all.rows ≡ records_of bytes = records-all (strip_bom bytes) all.rows all.are in
    let readings = all.readings in
    let size : length (records_of bytes) ≡ length readings = ap length (sym same)
    ∙ as_many all.rows readings all.read in
    let a : t.accepted ≡ accepted_of (answers_to p moment readings) = told.0.0 ∙ ap accepted_of all.were in
    let b : t.refused ≡ refused_of (answers_to p moment readings) = told.0.1 ∙ ap refused_of all.were in
    record {
      readings = readings;
      read = subst (λ rows. AreReadAs rows readings) same all.read;
      text = rw (← all.were) told.2;
      counted = (a, b);
      all = omega (arith, a, b, size, counted-answers p moment readings);
      written = told.1 ∙ (ap length all.were ∙ (length-answers p moment readings ∙ sym size));
      stands = all.stands;
      left = parts-left p moment shows readings t.accepted (law (run p (calls_of moment readings)) all.stands.0)
          all.stands.1 (omega (arith, a)) (omega (arith, a));
    }

-- the same, whether the session has to be opened again or not
pub ran-all-flagged : {D : Type 0} (p : Package) (moment : ℕ) (bytes : List ℕ) (shows : Shown D) (failed : Bool)
    (old new : Written) (t : Tally)
    → RanAll p moment bytes shows old new t
    → RanAll p moment bytes (record shows { failed = failed }) old new t
ran-all-flagged p moment bytes shows failed old new t it = record {
  readings = it.readings;
  read = it.read;
  text = it.text;
  counted = it.counted;
  all = it.all;
  written = it.written;
  stands = it.stands;
  left = it.left;
}

-- where a run stopped, told of less
pub stops-behind : (p : Package) (moment : ℕ) (readings : List Reading) (answered : ℕ) (works works2 : Package → Type 0)
    (failed failed2 : Type 0)
    → ((q : Package) → works q → works2 q) → (failed → failed2) → StopsBehind works failed p moment readings answered
    → StopsBehind works2 failed2 p moment readings answered
stops-behind p moment readings answered works works2 failed failed2 on down (inl it) = inl
    (it.0, on (run p (calls_of moment readings)) it.1)
stops-behind p moment readings answered works works2 failed failed2 on down (inr it) = inr
    (down it.0, it.1, it.2, it.3, it.4)

pub ran-some-less : {D : Type 0} (p : Package) (moment : ℕ) (bytes : List ℕ) (works works2 : Package → Type 0)
    (failed failed2 : Type 0) (shows : Shown D) (flag : Bool) (old new : Written) (e : RunFault)
    → ((q : Package) → works q → works2 q) → (failed → failed2)
    → RanSome p moment bytes works failed shows old new e
    → RanSome p moment bytes works2 failed2 (record shows { failed = flag }) old new e
ran-some-less p moment bytes works works2 failed failed2 shows flag old new e on down it = record {
  readings = it.readings;
  read = it.read;
  text = it.text;
  counted = it.counted;
  session = stops-behind p moment it.readings (e.tally.accepted + e.tally.refused) works works2 failed failed2 on down
      it.session;
  left = it.left;
}

pub ran-some : {D : Type 0} (p : Package) (moment : ℕ) (bytes : List ℕ) (before : Bool) (shows : Shown D)
    (old new : Written) (e : RunFault) (given : List Answer) → IsStopped given e old new
    → IsSome p moment (strip_bom bytes) states.StartRecord before shows given e.tally.written
    → RanSome p moment bytes (WorksOn before shows) (shows.failed ≡ true) shows old new e
ran-some p moment bytes before shows old new e given stopped some =
    let readings = some.readings in
    let first : some.rows ≡ take (length some.rows) (records_of bytes) = records-first some.state (strip_bom bytes)
    some.rest some.rows some.reached in
    let size : length some.rows ≡ length readings = as_many some.rows readings some.read in
    let rows : some.rows ≡ take (length readings) (records_of bytes) = first
    ∙ ap (λ n. take n (records_of bytes)) size in
    let a : e.tally.accepted ≡ accepted_of (answers_to p moment (take (length given) readings)) = stopped.counted.0
    ∙ ap accepted_of some.were in
    let b : e.tally.refused ≡ refused_of (answers_to p moment (take (length given) readings)) = stopped.counted.1
    ∙ ap refused_of some.were in
    let long : length given ≡ length (take (length given) readings) = ap length some.were
    ∙ length-answers p moment (take (length given) readings) in
    let count : e.tally.accepted + e.tally.refused ≡ length given =
    omega (arith, a, b, long, counted-answers p moment (take (length given) readings)) in
    let same : given_of p moment readings e.tally ≡ given = ap (λ n. answers_to p moment (take n readings)) count
    ∙ sym some.were in
    record {
      readings = readings;
      read = subst (λ l. AreReadAs l readings) rows some.read;
      text = rw same stopped.text;
      counted = rw same stopped.counted;
      session = subst (λ n. StopsBehind (WorksOn before shows) (shows.failed ≡ true) p moment readings n) (sym count)
          some.session;
      left = subst (λ n. AreFirstParts shows p (calls_of moment readings) n)
          (ap (λ l. accepted_of (take e.tally.written l)) (sym same)) some.left;
    }

-- from the records of a reader's bytes to the list of all of them
pub lists : {A R W : Type 0} (apply : applies.Ghosts A) (read : reads.Ghosts R) (write : writes.Ghosts W) (moment : ℕ)
    (old new : A) (input input_now : Io R) (output output_now : Io W) (result : Result Tally RunFault)
    → RunsSource apply write moment old new (option_map strip_bom (read.remaining (inside input))) states.StartRecord
    (has_failed input) (has_failed input_now) output output_now result
    → OnOk result (IsAtEnd (read.remaining (inside input_now)))
    → RunsList apply read write moment old new input input_now output output_now result
lists apply read write moment old new input input_now output output_now (Ok t) it at_end = record {
  clean = it.clean;
  seen = record {
    done = λ clean p sound bytes here.
        let (given, told, all) = it.done in
        ran-all p moment bytes (shown_since apply old p new) _ _ t given (λ q settled. settled.1) told
        (all clean p sound (strip_bom bytes) (ap (option_map strip_bom) here));
    stopped = tt;
    kept = it.kept;
  };
  end = at_end;
  working = it.working;
  told = (it.done.0, it.done.1, it.small.0);
  flushed = it.flushed;
  near = tt;
  session = it.session;
  writer = tt;
  why = tt;
  reader = it.reader;
  ended = λ was bytes here. ran-ended bytes _ _ (Ok t)
      (it.ended was (strip_bom bytes) (ap (option_map strip_bom) here));
}
lists apply read write moment old new input input_now output output_now (Err e) it at_end = record {
  clean = it.clean;
  seen = record {
    done = tt;
    stopped = λ clean p sound bytes here.
        let (given, stopped, some) = it.stopped in
        ran-some p moment bytes (apply.has_failed old) (shown_since apply old p new) _ _ e given stopped
        (some clean p sound (strip_bom bytes) (ap (option_map strip_bom) here));
    kept = it.kept;
  };
  end = tt;
  working = tt;
  told = (it.stopped.0, it.stopped.1);
  flushed = it.flushed;
  near = it.near;
  session = it.session;
  writer = it.stopped.1.writer;
  why = it.why;
  reader = it.reader;
  ended = λ was bytes here. ran-ended bytes _ _ (Err e)
      (it.ended was (strip_bom bytes) (ap (option_map strip_bom) here));
}
