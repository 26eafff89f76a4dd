use Rattle.std.proofs.Common.{Ok, Err, inr, refl}
use Rattle.std.proofs.KnownBytes.{Appends-nil}
use Rattle.mm_program.proofs.Answered.{ends_failed, list_turn}
use Rattle.mm_work.specs.Pages.{list_fault_text}
use Rattle.mm_program.proofs.Attending.{line_turn, quiet_turn}
use Rattle.mm_program.proofs.sittings.tell_list.Goals as goal

pub returns-in-Ok-clause-told : goal.returns-in-Ok-clause-told
returns-in-Ok-clause-told g c = quiet_turn _ _ _ (refl, refl) c.next_of.ensures.ends

pub returns-then-not-tell_list_fault-clause-told : goal.returns-then-not-tell_list_fault-clause-told
returns-then-not-tell_list_fault-clause-told g c =
    inr (inr (
      (
        list_fault_text c.in-Err.stopped.fault,
        (c.in-Err.stopped.fault, inr refl),
        rw c.if-not-tell_list_fault.true at c.tell_list_fault.ensures.told,
      ),
      refl,
    ))

pub returns-else-not-tell_list_fault-clause-told : goal.returns-else-not-tell_list_fault-clause-told
returns-else-not-tell_list_fault-clause-told g c =
    line_turn _ _ _ (
      list_fault_text c.in-Err.stopped.fault,
      (c.in-Err.stopped.fault, inr refl),
      rw c.if-not-tell_list_fault.false at c.tell_list_fault.ensures.told,
    )
    c.next_of-in-Err.ensures.ends

pub returns-in-Ok-clause-tells : goal.returns-in-Ok-clause-tells
returns-in-Ok-clause-tells g c =
    rw c.in-Ok.is (list_turn _ (Ok c.in-Ok.field-0) _ _ _ (Appends-nil _, refl) c.next_of.ensures.ends
    c.next_of.ensures.goes c.next_of.ensures.over)

pub returns-then-not-tell_list_fault-clause-tells : goal.returns-then-not-tell_list_fault-clause-tells
returns-then-not-tell_list_fault-clause-tells g c =
    rw c.in-Err.is (inr (rw c.if-not-tell_list_fault.true at c.tell_list_fault.ensures.told, refl))

pub returns-else-not-tell_list_fault-clause-tells : goal.returns-else-not-tell_list_fault-clause-tells
returns-else-not-tell_list_fault-clause-tells g c =
    rw c.in-Err.is (list_turn _ (Err c.in-Err.stopped) _ _ _
    (rw c.if-not-tell_list_fault.false at c.tell_list_fault.ensures.told)
    c.next_of-in-Err.ensures.ends c.next_of-in-Err.ensures.goes c.next_of-in-Err.ensures.over)

pub returns-in-Ok-clause-over : goal.returns-in-Ok-clause-over
returns-in-Ok-clause-over g c = ends_failed _ _ c.next_of.ensures.ends c.next_of.ensures.goes

pub returns-else-not-tell_list_fault-clause-over : goal.returns-else-not-tell_list_fault-clause-over
returns-else-not-tell_list_fault-clause-over g c =
    ends_failed _ _ c.next_of-in-Err.ensures.ends c.next_of-in-Err.ensures.goes
