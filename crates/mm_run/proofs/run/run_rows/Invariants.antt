use Rattle.std.proofs.Common.{◌≡◌, ◌+◌, List, true}
use Rattle.csv.specs.Reading.{reader_source, source_of}
use Rattle.mm_definitions.specs.Streams.{has_failed, inside, is_flushed}
use Rattle.mm_definitions.specs.declared.answers.Answer.{Answer}
use Rattle.mm_io.specs.Records.{IsSetUp, WorksStill}
use Rattle.mm_run.specs.Told.{AreTold}
use Rattle.mm_run.specs.Ended.{AreRefusedSoFar, OnEnded}
use Rattle.mm_run.specs.Sessions.{shown_since}
use Rattle.mm_run.specs.Runs.{IsKept, IsSoFar, OnRun, OnSound}
use Rattle.mm_run.proofs.run.run_rows.Given as goal

abbrev pub invariant-loop-n : goal.invariant-loop-n
invariant-loop-n g l = record {
  set_up : IsSetUp l.rows;
  counted : l.tally.accepted + l.tally.refused + 1 ≡ l.n;
  numbered : l.tally.written + 1 ≡ l.n;
  flushed : is_flushed l.fn.writer ≡ true → is_flushed l.writer ≡ true;
  working : has_failed l.writer ≡ has_failed l.fn.writer;
  clean : g.A.Apply.is_clean l.session → g.A.Apply.is_clean l.fn.session;
  same : g.A.Apply.has_failed l.session ≡ g.A.Apply.has_failed l.fn.session;
  ended : g.A.Apply.has_failed l.fn.session ≡ true → (l.session ≡ l.fn.session) × (l.tally.accepted ≡ 0);
  reading : WorksStill (g.T.Tells.has_failed (reader_source l.fn.rows)) (g.T.Tells.has_failed (reader_source l.rows));
  given : (given : List Answer) × AreTold given l.tally (g.W.Write.contents (inside l.fn.writer))
      (g.W.Write.contents (inside l.writer))
      × OnRun (g.A.Apply.is_clean l.session) (g.A.Apply.seen l.fn.session) (source_of g.T.Read.remaining l.fn.rows)
      (λ p xs. IsSoFar p l.at xs l.fn.rows.state (source_of g.T.Read.remaining l.rows) l.rows.state
      (shown_since g.A.Apply l.fn.session p l.session).settled given);
  kept : OnSound (g.A.Apply.is_clean l.session) (g.A.Apply.seen l.fn.session)
      (λ p. IsKept (g.A.Apply.has_failed l.fn.session) (shown_since g.A.Apply l.fn.session p l.session));
  refused : OnEnded (g.A.Apply.has_failed l.fn.session) (source_of g.T.Read.remaining l.fn.rows)
      (λ xs. AreRefusedSoFar xs l.fn.rows.state (source_of g.T.Read.remaining l.rows) l.rows.state l.tally
      (g.W.Write.contents (inside l.fn.writer)) (g.W.Write.contents (inside l.writer)));
}
