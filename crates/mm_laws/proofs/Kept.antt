-- What is shown of each command and each piece.
use Rattle.std.proofs.Common.{◌≡◌, ℕ, None}
use Rattle.mm_definitions.specs.Keys.{Text}
use Rattle.mm_definitions.specs.Bounds.{Profile, IsMoment}
use Rattle.mm_definitions.specs.Package.{Package}
use Rattle.mm_definitions.specs.Within.{IsWithin, IsPieceWithin}
use Rattle.mm_definitions.specs.Stamp.{IsStamp}
use Rattle.mm_definitions.specs.Rules.{Meets}
use Rattle.mm_definitions.specs.Conditions.{least, own_reasons, piece_reasons}
use Rattle.mm_definitions.specs.Effects.{effect, piece_effect}
use Rattle.mm_definitions.specs.declared.commands.Command.{Command}
use Rattle.mm_definitions.specs.declared.commands.Piece.{Piece}

-- Where a package meets the rules and the command has no reason to be refused, what it gives meets the rules.
abbrev pub Keeps : Command → Type 0
Keeps c = (profile : Profile) (p : Package) (moment : ℕ) (stamp : Text) → Meets profile p → IsWithin profile c
    → IsMoment moment → IsStamp moment stamp
    → least (own_reasons p c) ≡ None → Meets profile (effect p c stamp)

-- the same of a piece
abbrev pub PieceKeeps : Piece → Type 0
PieceKeeps q = (profile : Profile) (p : Package) (moment : ℕ) (stamp : Text) → Meets profile p → IsPieceWithin profile q
    → IsMoment moment → IsStamp moment stamp
    → least (piece_reasons p q) ≡ None → Meets profile (piece_effect p q stamp)
