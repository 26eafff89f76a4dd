-- What leaves the package as it is leaves a session as it is.
use Rattle.std.proofs.Common.{◌⊎◌, inl, inr, arith}
use Rattle.sqlite.specs.Tree.{Trees}
use Rattle.sqlite.specs.State.{State, HasCleanDisk}
use Rattle.mm_reads.specs.Viewers.{LeavesPackage}

pub no_more : {P : Type 0} → P ⊎ ⊥ → P
no_more (inl p) = p
no_more (inr nothing) = absurd nothing

pub clean_before : (old new : State) → LeavesPackage old new → HasCleanDisk new → HasCleanDisk old
clean_before old new leaves clean = omega (arith, leaves.survives.clean, clean)

pub left_before : (old new : State) → LeavesPackage old new → HasCleanDisk new → (db : Trees) → new.may_leave db
    → old.may_leave db
left_before old new leaves clean db may = no_more (leaves.survives.crash clean db may)
