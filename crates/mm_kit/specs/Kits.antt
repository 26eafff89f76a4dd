-- A kit: the pieces of a list and a folder, and the answer to its import.
use Rattle.std.specs.Prelude.{◌≡◌, ◌+◌, ℕ, nat_le, nat_lt, ◌&&◌, length, if◌then◌else◌, List, [], ◌∷◌, Option, Some}
use Rattle.std.specs.Prelude.{None, Result, Ok, Err}
use Rattle.mm_definitions.specs.declared.refusals.TheConstants.{OUT_OF_LIMITS, NO_EDITION, NOT_THE_NEXT_PIECE}
use Rattle.mm_definitions.specs.declared.refusals.TheConstants.{PUBLISHED_ALREADY, NO_FILE}
use Rattle.mm_definitions.specs.Bounds.{MostTileBytes, MostMediaBytes}
use Rattle.mm_definitions.specs.Pieces.{piece_row, same_piece}
use Rattle.mm_definitions.specs.declared.commands.Piece.{Piece}
use Rattle.mm_definitions.specs.declared.commands.Piece.TheVariants as pieces
use Rattle.mm_definitions.specs.declared.answers.Staged.{Staged}
use Rattle.mm_definitions.specs.declared.answers.Staged.TheVariants.{Complete, Refused}
use Rattle.mm_kit.specs.Editions.{Edition, Open, Published, numbered}
use Rattle.mm_kit.specs.Folders.{Files}
use Rattle.mm_kit.specs.declared.entries.KitEntry.{KitEntry}
use Rattle.mm_kit.specs.declared.entries.KitEntry.TheVariants.{Ready, Tile, Media}

-- ---- the pieces

-- the piece of a file's bytes: 57 where there is no such file, 11 where it has none or too many
abbrev pub with_file : ℕ → (List ℕ → Piece) → Option (List ℕ) → Result Piece ℕ
with_file most make None = Err NO_FILE
with_file most make (Some bytes) = if nat_le 1 (length bytes) && nat_le (length bytes) most then Ok (make bytes)
    else Err OUT_OF_LIMITS

-- the piece of an entry, with its file's bytes where it names one: no more than a tile or a medium has
abbrev pub filled : Files → KitEntry → Result Piece ℕ
filled files (Ready q) = Ok q
filled files (Tile table place file) =
    with_file MostTileBytes (λ bytes. pieces.Tile table place bytes) (files file)
filled files (Media table id content_type file) =
    with_file MostMediaBytes (λ bytes. pieces.Media table id content_type bytes) (files file)

-- a piece with the later ones behind it; a file that is refused ends them
abbrev pub or_end : Result Piece ℕ → List Piece → List Piece
or_end (Ok q) later = q ∷ later
or_end (Err n) later = []

-- the pieces before the first whose file is missing or of a wrong length
unfoldable pub kit_pieces : Files → List KitEntry → List Piece
kit_pieces files [] = []
kit_pieces files (e ∷ rest) = or_end (filled files e) (kit_pieces files rest)

-- a list that is refused is no kit
abbrev pub kit_of : Files → Result (List KitEntry) (ℕ × ℕ) → List Piece
kit_of files (Ok entries) = kit_pieces files entries
kit_of files (Err at) = []

-- ---- the first entry with a condition

-- the number with which a file is refused, if it is
abbrev pub error_of : Result Piece ℕ → Option ℕ
error_of (Ok q) = None
error_of (Err n) = Some n

-- the first place with its number: this place i, where a number is against its entry, and else a later one
abbrev pub or_later : ℕ → Option ℕ → Option (ℕ × ℕ) → Option (ℕ × ℕ)
or_later i (Some n) later = Some (i, n)
or_later i None later = later

-- the first in order with a number against it, counted from i, and the number
unfoldable pub first_number : (ℕ → KitEntry → Option ℕ) → ℕ → List KitEntry → Option (ℕ × ℕ)
first_number condition i [] = None
first_number condition i (e ∷ rest) = or_later i (condition i e) (first_number condition (i + 1) rest)

-- each file is there and has a length within its limits
abbrev pub IsWholeKit : Files → List KitEntry → Type 0
IsWholeKit files entries = first_number (λ i e. error_of (filled files e)) 1 entries ≡ None

-- ---- the answer

-- 52 where another piece stands at the number
abbrev pub beside : Option Piece → Piece → Option ℕ
beside None q = None
beside (Some other) q = if same_piece (piece_row q) (piece_row other) then None else Some NOT_THE_NEXT_PIECE

-- what is against the entry at place i, for an edition with these pieces: the number of its file, or 52
abbrev pub against_piece : List Piece → ℕ → Result Piece ℕ → Option ℕ
against_piece old i (Err n) = Some n
against_piece old i (Ok q) = beside (numbered old i) q

-- what is against an entry, for an edition with these pieces: 57 or 11 of its file, or 52
abbrev pub against : Files → List Piece → ℕ → KitEntry → Option ℕ
against files old i e = against_piece old i (filled files e)

-- complete with n pieces, or refused at the first place that has a number against it
abbrev pub first_answer : ℕ → Option (ℕ × ℕ) → Staged
first_answer n None = Complete n
first_answer n (Some at) = Refused at.0 at.1

-- the answer for the entries of a list: 51 where there is no such edition, 55 where it is published
abbrev pub edition_answer : Files → List KitEntry → Option Edition → Staged
edition_answer files entries None = Refused 0 NO_EDITION
edition_answer files entries (Some Published) = Refused 0 PUBLISHED_ALREADY
edition_answer files entries (Some (Open old)) = if nat_lt (length entries) (length old)
    then Refused (length entries + 1) NOT_THE_NEXT_PIECE
    else first_answer (length entries) (first_number (against files old) 1 entries)

-- the answer for a list and an edition; a list that is refused is answered with its place and number, whatever the
-- edition
abbrev pub kit_answer : Files → Result (List KitEntry) (ℕ × ℕ) → Option Edition → Staged
kit_answer files (Ok entries) edition = edition_answer files entries edition
kit_answer files (Err at) edition = Refused at.0 at.1

-- what is made of the bytes that were read, if they were
abbrev pub made : (List ℕ → Piece) → Result (List ℕ) ℕ → Result Piece ℕ
made make (Ok bytes) = Ok (make bytes)
made make (Err n) = Err n
