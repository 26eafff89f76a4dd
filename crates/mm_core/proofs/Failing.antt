-- A package that meets the rules breaks none.
use Rattle.std.proofs.Common.{◌==◌, ℕ, inl, inr}
use Rattle.mm_definitions.specs.Bounds.{current}
use Rattle.mm_definitions.specs.Package.{Package}
use Rattle.mm_definitions.specs.Rules.{Meets}
use Rattle.mm_walk.proofs.InTurn.{either_holds}
use Rattle.mm_core.specs.Verdict.{rule, IsFailing}

rule_holds : (p : Package) (k : ℕ) → Meets current p → rule current k p
unfolding rule
rule_holds p k m =
    either_holds (k == 1) _ _ m.q1 (either_holds (k == 2) _ _ m.q2 (either_holds (k == 3) _ _ m.q3
    (either_holds (k == 4) _ _ m.q4 (either_holds (k == 5) _ _ m.q5 (either_holds (k == 6) _ _ m.q6
    (either_holds (k == 7) _ _ m.q7 (either_holds (k == 8) _ _ m.q8 (either_holds (k == 9) _ _ m.q9
    (either_holds (k == 10) _ _ m.q10 (either_holds (k == 11) _ _ m.q11 (either_holds (k == 12) _ _ m.q12
    (either_holds (k == 13) _ _ m.q13 (either_holds (k == 14) _ _ m.q14
    (either_holds (k == 15) _ _ m.q15 m.q16))))))))))))))

pub none_fails : (p : Package) (k : ℕ) → Meets current p → IsFailing current p k → ⊥
none_fails p k m (inl it) = it.1 (rule_holds p 16 m)
none_fails p k m (inr it) = it.3 (rule_holds p k m)
