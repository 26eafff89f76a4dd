use Rattle.std.proofs.Common.{◌∙◌, refl}
use Rattle.mm_reads.proofs.Leaving.{leaves_same, leaves_then}
use Rattle.mm_program.proofs.ServiceFacts.{told_cut, told_more, told_none, told_on}
use Rattle.mm_program.proofs.connections.serve_on.Goals as goal
use Rattle.mm_program.proofs.connections.serve_on.Goals.{in-Err+else-not-tell_page_fault, in-Ok}

pub returns-then-not-tell_page_fault-clause-kept : goal.returns-then-not-tell_page_fault-clause-kept
returns-then-not-tell_page_fault-clause-kept g c =
    leaves_then _ _ _ c.loop-served.invariant.kept c.serve_next.ensures.kept

pub returns-then-not-tell_page_fault-clause-served : goal.returns-then-not-tell_page_fault-clause-served
returns-then-not-tell_page_fault-clause-served g c =
    told_cut _ _ _ _ _ _ _ _ _ _ _ _ _ c.loop-served-test.true c.loop-served.invariant.told
    (rw c.in-Err.is at c.serve_next.ensures.told) c.in-Err.ensures.fault
    (rw c.if-not-tell_page_fault.true at c.tell_page_fault.ensures.told)

pub loop-served-init : goal.loop-served-init
loop-served-init g c = record {
  same = refl;
  kept = leaves_same _;
  told = told_none _ _ _;
  out = λ held. held;
}

pub loop-served-preserved : goal.loop-served-preserved
loop-served-preserved g c = record {
  same = c.serve_next.ensures.same ∙ c.loop-served.invariant.same;
  kept = leaves_then _ _ _ c.loop-served.invariant.kept c.serve_next.ensures.kept;
  told = elim c.match-serve_next.branch [
    | in-Err+else-not-tell_page_fault w ↦ rw (w.output-is, w.status-is)
        (told_more _ _ _ _ _ _ _ _ _ _ _ _ c.loop-served.invariant.told (rw w.in-Err.is at c.serve_next.ensures.told)
        w.in-Err.ensures.fault (rw w.if-not-tell_page_fault.false at w.tell_page_fault.ensures.told))
    | in-Ok w ↦ rw (w.output-is, w.status-is)
        (told_on _ _ _ _ _ _ _ _ _ _ c.loop-served.invariant.told (rw w.in-Ok.is at c.serve_next.ensures.told))
  ];
  out = elim c.match-serve_next.branch [
    | in-Err+else-not-tell_page_fault w ↦ rw w.output-is (λ held. w.tell_page_fault.ensures.out)
    | in-Ok w ↦ rw w.output-is c.loop-served.invariant.out
  ];
}
