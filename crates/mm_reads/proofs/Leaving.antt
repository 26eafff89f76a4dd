-- Reads of one package, one after another.
use Rattle.std.proofs.Common.{Result, refl, inl, arith}
use Rattle.sqlite.specs.State.{State}
use Rattle.mm_definitions.specs.Bounds.{current}
use Rattle.mm_definitions.specs.Package.{Package}
use Rattle.mm_definitions.specs.declared.answers.Fault.{Fault}
use Rattle.mm_store.specs.Seen.{IsRead}
use Rattle.mm_store.proofs.Quiet.{quiet_then}
use Rattle.mm_reads.specs.Viewers.{LeavesPackage}

-- where nothing is asked, all is as it was
pub leaves_same : (s : State) → LeavesPackage s s
leaves_same s = record {
  survives = record {
    clean = omega arith;
    shield = λ shielded. shielded;
    counts = omega arith;
    limit = refl;
    closes = λ clean is_open. inl is_open;
    crash = λ clean db left. inl left;
  };
  seen = λ clean p seen. seen;
  settled = λ clean p settled. settled;
}

pub leaves_then : (a b c : State) → LeavesPackage a b → LeavesPackage b c → LeavesPackage a c
leaves_then a b c one two = record {
  survives = quiet_then a b c one.survives two.survives;
  seen = λ clean p seen. two.seen clean p (one.seen (omega (arith, two.survives.clean)) p seen);
  settled = λ clean p settled. two.settled clean p (one.settled (omega (arith, two.survives.clean)) p settled);
}

-- a read leaves it
pub leaves_by : {T : Type 0} (old new : State) (Says : Package → T → Type 0) (r : Result T Fault)
    → IsRead current old new Says r → LeavesPackage old new
leaves_by old new Says r it = record { survives = it.survives; seen = it.seen; settled = it.settled }
