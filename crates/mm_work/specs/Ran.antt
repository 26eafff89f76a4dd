-- What a run comes to, by its exit status.
use Rattle.std.specs.Prelude.{◌≡◌, ◌≢◌, ◌⊎◌, ℕ, List, false, ⊤}
use Rattle.sqlite.specs.State.{State, HasCleanDisk}
use Rattle.sqlite.specs.Tree.{Trees}
use Rattle.mm_definitions.specs.Bounds.{current}
use Rattle.mm_definitions.specs.Package.{Package}
use Rattle.mm_definitions.specs.Rules.{Meets}
use Rattle.mm_definitions.specs.declared.answers.Tally.{Tally}
use Rattle.mm_definitions.specs.declared.answers.RunFault.{RunFault}
use Rattle.mm_definitions.specs.Streams.{Written}
use Rattle.mm_store.specs.Stands.{IsSettled}
use Rattle.mm_core.specs.Runs.{RanAll, RanSome}
use Rattle.mm_core.specs.Applied.{StandsForCurrent, shown_on}

-- 0 where no record was refused, and else 1
abbrev pub IsStatusOf : ℕ → ℕ → Type 0
IsStatusOf refused status = ((refused ≡ 0) × (status ≡ 0)) ⊎ ((refused ≢ 0) × (status ≡ 1))

-- All records were answered, with status 0 or 1; or a fault ended the run, with status 3. It is told by what a new
-- session on the connection shows.
abbrev pub IsListRun : Package → ℕ → List ℕ → State → Written → Written → ℕ → Type 0
IsListRun p moment bytes end old new status =
    ((t : Tally) × RanAll p moment bytes (shown_on false end) old new t × IsStatusOf t.refused status)
    ⊎ ((e : RunFault) × RanSome p moment bytes (IsSettled current end) ⊤ (shown_on false end) old new e × (status ≡ 3))

-- Whatever the input tells: where the connection was settled for a package that meets the rules, each database that may
-- be left stands for such a one.
abbrev pub KeepsRules : State → State → Type 0
KeepsRules old new = HasCleanDisk new → (p : Package) → IsSettled current old p → Meets current p
    → (db : Trees) → new.may_leave db → (q : Package) × StandsForCurrent db q × Meets current q
