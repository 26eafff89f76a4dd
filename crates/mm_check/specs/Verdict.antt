-- Which rule a package breaks first, and what the whole check answers.
use Rattle.std.specs.Prelude.{◌≡◌, ◌⊎◌, ℕ, ◌≤◌, ◌<◌, ◌==◌, false, Option, Some, None, Result, IfOk, IfErr, OnOk, IsTrue}
use Rattle.std.specs.Prelude.{⊤}
use Rattle.sqlite.specs.State.{State, HasCleanDisk}
use Rattle.mm_definitions.specs.Bounds.{Profile}
use Rattle.mm_definitions.specs.Package.{Package}
use Rattle.mm_definitions.specs.Rules.{Meets, GivenSystems, NamedSystems, DistinctIdentifiers, ProperNames, Registry}
use Rattle.mm_definitions.specs.Rules.{Extents, MatricesFit, HigherIsFiner, NextIsHalved, TilesInside, Items}
use Rattle.mm_definitions.specs.Rules.{RelationsSuited, PairingsJoin, ExactExtensions, Editions, Limits}
use Rattle.mm_definitions.specs.declared.answers.Fault.{Fault}
use Rattle.mm_definitions.specs.Faults.{IsStoreFault}
use Rattle.mm_store.specs.Seen.{IsSeenAs}
use Rattle.mm_store.specs.Stands.{IsSettled}
use Rattle.mm_store.specs.Statements.{CommitsNothing}
use Rattle.mm_walk.specs.InTurn.{chosen, HoldsBelow}

-- rule k, from 1 to 15; each other number is 16
unfoldable pub rule : Profile → ℕ → Package → Type 0
rule profile k p =
    chosen (k == 1) (GivenSystems p.systems)
    (chosen (k == 2) (NamedSystems p.systems p.contents p.kinds p.sets)
    (chosen (k == 3) (DistinctIdentifiers p.contents)
    (chosen (k == 4) (ProperNames p.contents p.relations p.editions)
    (chosen (k == 5) (Registry p.contents p.kinds p.sets)
    (chosen (k == 6) (Extents p.contents p.sets)
    (chosen (k == 7) (MatricesFit p.kinds p.sets p.matrices)
    (chosen (k == 8) (HigherIsFiner p.matrices)
    (chosen (k == 9) (NextIsHalved p.kinds p.matrices)
    (chosen (k == 10) (TilesInside p.matrices p.tiles)
    (chosen (k == 11) (Items p.kinds p.rows p.media)
    (chosen (k == 12) (RelationsSuited p.kinds p.relations)
    (chosen (k == 13) (PairingsJoin p.rows p.media p.relations p.pairings)
    (chosen (k == 14) (ExactExtensions p.kinds p.relations p.extensions)
    (chosen (k == 15) (Editions profile p.editions p.pieces)
    (Limits profile p)))))))))))))))

-- rule 16 holds, and each from 1 to k - 1
abbrev pub Before : Profile → ℕ → Package → Type 0
Before profile k p = rule profile 16 p × HoldsBelow (rule profile) k p

-- 16 where rule 16 fails, else the least that fails
abbrev pub IsFailing : Profile → Package → ℕ → Type 0
IsFailing profile p k = ((k ≡ 16) × (rule profile 16 p → ⊥))
    ⊎ ((1 ≤ k) × (k < 16) × Before profile k p × (rule profile k p → ⊥))

-- None where the package meets all sixteen rules, else the rule that is told of it
abbrev pub IsVerdict : Profile → Package → Option ℕ → Type 0
IsVerdict profile p None = Meets profile p
IsVerdict profile p (Some k) = IsFailing profile p k

-- It opens no transaction, writes nothing, and leaves the connection reading as before, and settled where it was. It
-- answers which rule the package breaks that the connection reads as, which is known to meet `Known`; where it does,
-- the store is open. No fault is a rule's.
pub record IsVerifiedWhere (profile : Profile) (Known : Package → Type 0) (old new : State)
    (result : Result (Option ℕ) Fault) : Type 0 where
  pub mode : old.in_transaction ≡ false → new.in_transaction ≡ false
  pub survives : CommitsNothing old new
  pub is_open : HasCleanDisk new → OnOk result (IsTrue new.is_open)
  pub seen : HasCleanDisk new → (p : Package) → IsSeenAs profile old p → IsSeenAs profile new p
  pub settled : HasCleanDisk new → (p : Package) → IsSettled profile old p → IsSettled profile new p
  pub says : HasCleanDisk new → (p : Package) → IsSeenAs profile old p → Known p → IfOk result (IsVerdict profile p)
  pub faults : IfErr result IsStoreFault

-- the same of any package
abbrev pub IsVerified : Profile → State → State → Result (Option ℕ) Fault → Type 0
IsVerified profile = IsVerifiedWhere profile (λ _. ⊤)
