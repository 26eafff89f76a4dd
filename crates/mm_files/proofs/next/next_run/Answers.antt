use Rattle.std.proofs.Math.Logic.{∥∥₁_elim, ∥∥₁_map}
use Rattle.mm_files.proofs.next.next_run.Goals as goal

pub returns : goal.returns
returns g c image a b x y worked may again db holds left later = ∥∥₁_elim (worked db holds _ may) squash₁ (λ between.
    ∥∥₁_map (again between.0 between.2.both left later) (λ end.
    (end.0, ∣ (between.0, between.1, end.1) ∣₁, end.2)))
