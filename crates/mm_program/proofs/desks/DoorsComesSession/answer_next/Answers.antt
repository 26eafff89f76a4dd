use Rattle.std.proofs.Common.{None, Err, false, true, refl, inl, inr, rules}
use Rattle.std.proofs.KnownBytes.{Appends-nil}
use Rattle.mm_desk.proofs.Told.{heard}
use Rattle.mm_definitions.specs.Faults.{input}
use Rattle.mm_definitions.specs.Streams.{written_as}
use Rattle.mm_desk.proofs.Sitting.{itself}
use Rattle.mm_program.proofs.desks.DoorsComesSession.answer_next.Goals as goal

pub returns-in_default-clause-exchange : goal.returns-in_default-clause-exchange
returns-in_default-clause-exchange g c = (0, written_as None false, itself _ _)

pub returns-in_default-now-clause-exchange : goal.returns-in_default-now-clause-exchange
returns-in_default-now-clause-exchange g c = (0, written_as None false, itself _ _)

pub returns-in_default-moment_or_now-clause-exchange : goal.returns-in_default-moment_or_now-clause-exchange
returns-in_default-moment_or_now-clause-exchange g c = (0, written_as None false, itself _ _)

pub returns-in_default-clause-told : goal.returns-in_default-clause-told
returns-in_default-clause-told g c = (
  record {
    gate = c.args.self.now.gate;
    input = None;
    reading = true;
    moment = 0;
    old = written_as None false;
    new = written_as None false;
    result = Err record { 0 = input };
  },
  refl,
  refl,
  (itself _ _, inl (inr (refl, refl), (false, Appends-nil None, λ on. tt)), λ on. tt),
)

pub returns-in_default-now-clause-told : goal.returns-in_default-now-clause-told
returns-in_default-now-clause-told g c = (
  record {
    gate = c.args.self.now.gate;
    input = None;
    reading = true;
    moment = 0;
    old = written_as None false;
    new = written_as None false;
    result = Err record { 0 = input };
  },
  refl,
  refl,
  (itself _ _, inl (inr (refl, refl), (false, Appends-nil None, λ on. tt)), λ on. tt),
)

pub returns-in_default-moment_or_now-clause-told : goal.returns-in_default-moment_or_now-clause-told
returns-in_default-moment_or_now-clause-told g c = (
  record {
    gate = c.args.self.now.gate;
    input = None;
    reading = true;
    moment = 0;
    old = written_as None false;
    new = written_as None false;
    result = Err record { 0 = input };
  },
  refl,
  refl,
  (itself _ _, inl (inr (refl, refl), (false, Appends-nil None, λ on. tt)), λ on. tt),
)

pub returns-clause-told : goal.returns-clause-told
returns-clause-told g c = search (rules, heard)
