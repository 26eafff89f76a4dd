-- A record of a kit's list: its number, and the record of a piece, in which the last field of a tile or a media item is
-- the name of the file that holds the bytes.
use Rattle.mm_definitions.specs.declared.refusals.TheConstants.{NO_SUCH_RECORD, TOO_MANY_PIECES, NOT_THE_PLACE, NO_FILE}
use Rattle.mm_definitions.specs.Bounds.{current, MostPieces}
use Rattle.std.specs.Prelude.{◌≡◌, ◌≢◌, ◌⊎◌, ◌≤◌, ◌<◌, ◌-◌, ℕ, ℤ, pos, Bool, false, ◌||◌, length, take, get_or}
use Rattle.std.specs.Prelude.{if◌then◌else◌, [], ◌∷◌, ◌++◌, Option, Some, None, Result, Ok, Err, codes, bytes_eq}
use Rattle.std.specs.Prelude.{nat_lt, ⊤}
use Rattle.std.specs.Borrow.{Bor}
use Rattle.csv.specs.Records.{AllText}
use Rattle.mm_definitions.specs.Fields.{IsAgainst}
use Rattle.mm_definitions.specs.Keys.{Text}
use Rattle.mm_definitions.specs.Numbers.{SpellsNumber}
use Rattle.mm_definitions.specs.Reading.{refused}
use Rattle.mm_definitions.specs.declared.answers.ReadFault.{ReadFault}
use Rattle.mm_definitions.specs.declared.answers.ReadFault.TheVariants as faults
use Rattle.mm_definitions.specs.Records.{SpellsPiece, HoldsAgainstPiece, IsLeast, id_field}
use Rattle.mm_definitions.specs.declared.commands.Piece.{Piece}
use Rattle.mm_definitions.specs.declared.commands.Piece.TheVariants as pieces
use Rattle.mm_io.specs.Records.{Record}
use Rattle.mm_kit.specs.FileNames.{IsFileName}
use Rattle.mm_kit.specs.declared.entries.KitEntry.{KitEntry}
use Rattle.mm_kit.specs.declared.entries.KitEntry.TheVariants.{Ready, Tile, Media}

-- the last field of the piece's record is a file's name
abbrev pub takes_file : Record → Bool
takes_file [] = false
takes_file (word ∷ rest) = bytes_eq word (codes "tile") || bytes_eq word (codes "media")

-- the name of the file, where the record takes one
abbrev pub file_of : Record → Option Text
file_of r = if takes_file r then Some (get_or r (length r - 1) []) else None

-- the piece's record, with 00 in the place of the file's name
abbrev pub without_file : Record → Record
without_file r = if takes_file r then take (length r - 1) r ++ codes "00" ∷ [] else r

-- the entry of the piece that is then spelled
abbrev pub entry_of : Piece → Option Text → KitEntry
entry_of (pieces.Tile table place bytes) (Some file) = Tile table place file
entry_of (pieces.Media table id content_type bytes) (Some file) = Media table id content_type file
entry_of q file = Ready q

-- the file's name is in form, where there is one
abbrev pub IsInForm : Option Text → Type 0
IsInForm None = ⊤
IsInForm (Some name) = IsFileName name

-- the record at this place of the list is this entry
abbrev pub IsEntry : ℕ → Record → KitEntry → Type 0
IsEntry place [] e = ⊥
IsEntry place (number ∷ r) e = SpellsNumber number (pos place) × (place ≤ MostPieces) × IsInForm (file_of r)
    × (q : Piece) × SpellsPiece current (without_file r) q × (e ≡ entry_of q (file_of r))

-- The numbers against the record at this place: 10 to 12 as against every record of a piece, 54 where there are too
-- many records, 56 where its number isn't its place, 57 where the file's name is out of form.
abbrev pub HoldsAgainstEntry : ℕ → Record → ℕ → Type 0
HoldsAgainstEntry place [] n = n ≡ NO_SUCH_RECORD
HoldsAgainstEntry place (number ∷ r) n =
    IsAgainst id_field number n ⊎ HoldsAgainstPiece current (without_file r) n
    ⊎ ((n ≡ TOO_MANY_PIECES) × (MostPieces < place)) ⊎ ((n ≡ NOT_THE_PLACE) × ¬ (SpellsNumber number (pos place)))
    ⊎ ((n ≡ NO_FILE) × ¬ (IsInForm (file_of r)))

-- The entry, or the least number that is against the record. One with a field that isn't text is refused 10.
abbrev pub IsEntryReadAs : ℕ → Record → Result KitEntry ℕ → Type 0
IsEntryReadAs place r (Ok e) = AllText r × IsEntry place r e
IsEntryReadAs place r (Err n) = (AllText r × IsLeast (HoldsAgainstEntry place r) n)
    ⊎ (¬ (AllText r) × (n ≡ NO_SUCH_RECORD))

-- ---- inside the reader
-- a field that may be missing, as its text
abbrev pub text_of : Option (Bor Text) → Option Text
text_of None = None
text_of (Some field) = Some field.now

-- the name of the file, or 57
abbrev pub file_read : Option Text → Result (Option Text) ℕ → Type 0
file_read field (Ok file) = (file ≡ field) × IsInForm field
file_read field (Err n) = (n ≡ NO_FILE) × ¬ (IsInForm field)

-- what is left to be asked of a record whose number and piece were read
abbrev pub IsLeftToAsk : ℕ → ℤ → Option Text → Result (Option Text) ℕ → Type 0
IsLeftToAsk place number field (Ok file) =
    (place ≤ MostPieces) × (number ≡ pos place) × (file ≡ field) × IsInForm field
IsLeftToAsk place number field (Err n) =
    ((n ≡ TOO_MANY_PIECES) × (MostPieces < place))
    ⊎ ((n ≡ NOT_THE_PLACE) × (place ≤ MostPieces) × (number ≢ pos place))
    ⊎ ((n ≡ NO_FILE) × (place ≤ MostPieces) × (number ≡ pos place) × ¬ (IsInForm field))

-- the least number that is against a record whose number is refused; want of memory goes before all
abbrev pub least_fault : ℕ → Result Piece ReadFault → ReadFault
least_fault n (Ok q) = refused n
least_fault n (Err faults.Memory) = faults.Memory
least_fault n (Err (faults.Refused why)) = if nat_lt why.number n then faults.Refused why else refused n
