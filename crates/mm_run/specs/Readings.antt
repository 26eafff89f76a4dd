-- What a record is read as.
use Rattle.std.specs.Prelude.{◌≡◌, ◌⊎◌, ℕ, List, [], ◌∷◌, None, Result, Ok, Err, ⊤}
use Rattle.csv.specs.Records.{AllText}
use Rattle.mm_definitions.specs.declared.refusals.TheConstants.{NO_SUCH_RECORD}
use Rattle.mm_definitions.specs.Bounds.{current}
use Rattle.mm_definitions.specs.Records.{Spells, HoldsAgainst, IsLeast}
use Rattle.mm_definitions.specs.declared.commands.Command.{Command}
use Rattle.mm_definitions.specs.declared.answers.ReadFault.{ReadFault}
use Rattle.mm_definitions.specs.declared.answers.ReadFault.TheVariants as faults
use Rattle.mm_io.specs.Records.{Record}

-- a command, or the number that refuses the record
abbrev pub Reading : Type 0
Reading = Result Command ℕ

-- The command that the fields spell, or the least number that holds against them. A record with a field that isn't
-- text is refused 10.
abbrev pub IsReadAs : Record → Reading → Type 0
IsReadAs fields (Ok command) = AllText fields × Spells current fields command
IsReadAs fields (Err number) =
    (AllText fields × IsLeast (HoldsAgainst current fields) number)
    ⊎ (¬ (AllText fields) × (number ≡ NO_SUCH_RECORD))

-- each record in turn
unfoldable pub AreReadAs : List Record → List Reading → Type 0
AreReadAs [] [] = ⊤
AreReadAs (fields ∷ rows) (reading ∷ readings) = IsReadAs fields reading × AreReadAs rows readings
AreReadAs _ _ = ⊥

-- what a reader of records answers; want of memory says nothing of the record
abbrev pub IsCommandRead : Record → Result Command ReadFault → Type 0
IsCommandRead fields (Ok command) = IsReadAs fields (Ok command)
IsCommandRead fields (Err (faults.Refused why)) = (why.piece ≡ None) × IsReadAs fields (Err why.number)
IsCommandRead fields (Err faults.Memory) = ⊤
