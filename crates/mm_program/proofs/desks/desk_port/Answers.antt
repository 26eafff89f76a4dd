use Rattle.mm_core.proofs.Applies.{session_settled}
use Rattle.mm_desk.proofs.Sitting.{clean_before, one_run}
use Rattle.mm_program.proofs.Attending.{still_sits}
use Rattle.mm_program.proofs.desks.desk_port.Goals as goal

pub returns-then-not-is_printed-clause-sat : goal.returns-then-not-is_printed-clause-sat
returns-then-not-is_printed-clause-sat g c works = still_sits _

pub returns-clause-sat : goal.returns-clause-sat
returns-clause-sat g c works =
    let (visits, sat) = c.attend_doors.ensures.sat works in record {
      clean = clean_before _ visits _ _ sat;
      sat = λ clean p settled meets after may.
          let (calls, kept, sitting, parts) = one_run _ (session_settled g.S.Store) visits p _ _ sat clean
          (settled, meets) works in
          let (q, stands, part, sound) = parts after may in
          record {
            visits = visits;
            calls = calls;
            kept = kept;
            sitting = sitting;
            last = q;
            stands = stands;
            part = part;
            meets = sound;
          };
    }
