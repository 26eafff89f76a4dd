use Rattle.std.proofs.Common.{◌≡◌, List, false}
use Rattle.mm_definitions.specs.Streams.{has_failed, inside}
use Rattle.mm_core.specs.Writing.{IsOut}
use Rattle.mm_desk.specs.Sittings.{Sat, Visit}
use Rattle.mm_desk.specs.Told.{AddsTo, AreAnswered, AreVisitsOf, Told}
use Rattle.mm_program.proofs.Answered.{Went}
use Rattle.mm_program.proofs.Attending.{Attended}
use Rattle.mm_program.proofs.sittings.attend.Given as goal

abbrev pub invariant-loop-answered : goal.invariant-loop-answered
invariant-loop-answered g l = record {
  sat : g.D.Apply.has_failed l.fn.desk ≡ false
      → (visits : List Visit) × Sat g.D.Apply l.fn.desk visits l.desk × (g.D.Apply.has_failed l.desk ≡ false);
  told : Attended l.answered (g.W.Write.contents (inside l.fn.output)) (g.W.Write.contents (inside l.output))
      (has_failed l.fn.output) (has_failed l.output);
  went : (all : List Told) × AddsTo (g.C.Comes.told l.fn.comes) (g.C.Comes.told l.comes) all
      × AreAnswered g.D.Viewer g.D.Apply l.fn.desk all l.desk
      × Went l.answered all (g.W.Write.contents (inside l.fn.output)) (g.W.Write.contents (inside l.output))
      (has_failed l.fn.output) (has_failed l.output)
      × (g.D.Apply.has_failed l.fn.desk ≡ false → (visits : List Visit) × Sat g.D.Apply l.fn.desk visits l.desk
      × AreVisitsOf all visits × (g.D.Apply.has_failed l.desk ≡ false));
  out : IsOut l.fn.output → IsOut l.output;
}
