-- One command: whether it is refused, and the package after it.
use Rattle.std.specs.Prelude.{ℕ, Bool, false, ◌&&◌, [], ◌∷◌, ◌++◌, Option, Some, None, Result, Ok, Err, is_err}
use Rattle.std.specs.Prelude.{if◌then◌else◌, ◌==◌}
use Rattle.mm_definitions.specs.Keys.{Text}
use Rattle.mm_definitions.specs.Package.{Package}
use Rattle.mm_definitions.specs.Conditions.{Reasons, least, own_reasons, is_open}
use Rattle.mm_definitions.specs.Effects.{effect}
use Rattle.mm_definitions.specs.Editions.{PieceRefusal, edition_trial, closed}
use Rattle.mm_definitions.specs.Stamp.{stamp}
use Rattle.mm_definitions.specs.Refusals.{Refusal}
use Rattle.mm_definitions.specs.declared.commands.Command.{Command}
use Rattle.mm_definitions.specs.declared.commands.Command.TheVariants as commands
use Rattle.mm_definitions.specs.declared.refusals.TheConstants.{PIECE_REFUSED}

-- what publishing would give
abbrev pub publishing : Package → Command → Text → Result Package PieceRefusal
publishing p (commands.Publish edition) stamp = edition_trial p edition stamp
publishing p (commands.Rehearse edition) stamp = edition_trial p edition stamp
publishing p _ stamp = Ok p

-- the command publishes or rehearses an edition that is open
abbrev pub is_publishing : Package → Command → Bool
is_publishing p (commands.Publish edition) = is_open p edition
is_publishing p (commands.Rehearse edition) = is_open p edition
is_publishing p _ = false

-- every reason, where the pieces are tried at this stamp
abbrev pub reasons_at : Package → Command → Text → Reasons
reasons_at p c stamp = own_reasons p c ++ (PIECE_REFUSED, is_publishing p c && is_err (publishing p c stamp)) ∷ []

-- the piece that is refused, with its refusal, if one is
abbrev pub refused_piece : Result Package PieceRefusal → Option PieceRefusal
refused_piece (Ok p) = None
refused_piece (Err r) = Some r

-- the least reason; 53 carries the piece and its refusal
abbrev pub refusal_of : Option ℕ → Option PieceRefusal → Option Refusal
refusal_of None piece = None
refusal_of (Some number) piece =
    Some (record { number = number; piece = if number == PIECE_REFUSED then piece else None })

-- what a command is refused with where the pieces are tried at this stamp, or None where it is ok
abbrev pub refusal_at : Package → Command → Text → Option Refusal
refusal_at p c stamp = refusal_of (least (reasons_at p c stamp)) (refused_piece (publishing p c stamp))

-- No reason looks at last_change, so every stamp tells the same.
abbrev pub reasons : Package → Command → Reasons
reasons p c = reasons_at p c []

-- what a command is refused with on this package, or None where it is ok
abbrev pub refusal : Package → Command → Option Refusal
refusal p c = refusal_at p c []

-- what the pieces gave, with the edition closed; the package as it was where one is refused
abbrev pub closed_by : Text → Result Package PieceRefusal → Package → Package
closed_by edition (Ok q) p = closed edition q
closed_by edition (Err r) p = p

-- the package after an accepted command
abbrev pub done : Package → Command → Text → Package
done p (commands.Publish edition) stamp = closed_by edition (edition_trial p edition stamp) p
done p c stamp = effect p c stamp

-- the next package, or the one before where there is a refusal
abbrev pub unless_refused : Option Refusal → Package → Package → Package
unless_refused None next p = next
unless_refused (Some r) next p = p

-- the package after a command at a moment
abbrev pub step : Package → Command → ℕ → Package
step p c moment = unless_refused (refusal p c) (done p c (stamp moment)) p
