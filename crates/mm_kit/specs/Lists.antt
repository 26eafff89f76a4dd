-- What the list of a kit says: its entries, or the first record that is refused.
use Rattle.std.specs.Prelude.{◌≡◌, ◌⊎◌, ◌≤◌, ◌<◌, ◌+◌, ℕ, length, List, [], ◌∷◌, ◌++◌, Option, Some, None, Result, Ok}
use Rattle.std.specs.Prelude.{Err, codes, ⊤}
use Rattle.csv.specs.Reading.{Reached, default_config}
use Rattle.csv.specs.declared.parser.State.{State}
use Rattle.csv.specs.declared.parser.State.TheVariants as states
use Rattle.mm_definitions.specs.Bounds.{MostPieces}
use Rattle.mm_definitions.specs.declared.refusals.TheConstants.{OUT_OF_LIMITS, NO_FILE}
use Rattle.mm_definitions.specs.declared.answers.ReadFault.{ReadFault}
use Rattle.mm_definitions.specs.declared.answers.ReadFault.TheVariants as faults
use Rattle.mm_io.specs.Records.{Record, records_of}
use Rattle.mm_kit.specs.Entries.{IsEntryReadAs}
use Rattle.mm_kit.specs.Folders.{Files}
use Rattle.mm_kit.specs.declared.entries.KitEntry.{KitEntry}
use Rattle.mm_kit.specs.declared.lists.Listed.{Listed}
use Rattle.mm_kit.specs.declared.lists.Listed.TheVariants.{Entries, Refused}

-- the records from this place on are these entries
unfoldable pub AreEntries : ℕ → List Record → List KitEntry → Type 0
AreEntries place [] [] = ⊤
AreEntries place (r ∷ rs) (e ∷ es) = IsEntryReadAs place r (Ok e) × AreEntries (place + 1) rs es
AreEntries _ _ _ = ⊥

-- the record at this place is refused with this number, and those before it are entries
pub record IsFirstRefused (rows : List Record) (place number : ℕ) : Type 0 where
  pub before : List Record
  pub row : Record
  pub after : List Record
  pub are : rows ≡ before ++ row ∷ after
  pub place_is : place ≡ length before + 1
  pub entries : List KitEntry
  pub read : AreEntries 1 before entries
  pub refused : IsEntryReadAs place row (Err number)

-- the entries of the records, or the place and the number of the first that is refused
abbrev pub IsListRead : List Record → Result (List KitEntry) (ℕ × ℕ) → Type 0
IsListRead rows (Ok entries) = AreEntries 1 rows entries
IsListRead rows (Err at) = IsFirstRefused rows at.0 at.1

-- how many bytes a list has at the most
abbrev pub MostListBytes : ℕ
MostListBytes = 16777216

-- the list of a folder: 57 where it has none, 11 where it is too long
abbrev pub IsListOf : Option (List ℕ) → Result (List KitEntry) (ℕ × ℕ) → Type 0
IsListOf None list = list ≡ Err (0, NO_FILE)
IsListOf (Some bytes) list =
    ((MostListBytes < length bytes) × (list ≡ Err (0, OUT_OF_LIMITS)))
    ⊎ ((length bytes ≤ MostListBytes) × IsListRead (records_of bytes) list)

-- the list of a kit is that of its file `kit.csv`
abbrev pub IsKitList : Files → Result (List KitEntry) (ℕ × ℕ) → Type 0
IsKitList files list = IsListOf (files (codes "kit.csv")) list

-- ---- what the readers answer
-- what was read, as the entries or as place and number of the record that is refused
abbrev pub list_read : Listed → Result (List KitEntry) (ℕ × ℕ)
list_read (Entries entries) = Ok entries.items
list_read (Refused place number) = Err (place, number)

-- want of memory says nothing of the record
abbrev pub IsEntryRead : ℕ → Record → Result KitEntry ReadFault → Type 0
IsEntryRead place r (Ok e) = IsEntryReadAs place r (Ok e)
IsEntryRead place r (Err (faults.Refused why)) = (why.piece ≡ None) × IsEntryReadAs place r (Err why.number)
IsEntryRead place r (Err faults.Memory) = ⊤

-- at most as many entries as an edition has pieces
abbrev pub AreFew : List KitEntry → Type 0
AreFew entries = length entries ≤ MostPieces

-- a list that is read as entries has not too many
abbrev pub AreSound : Listed → Type 0
AreSound (Entries entries) = AreFew entries.items
AreSound (Refused place number) = ⊤

-- the records so far are these entries, and the reader stands behind them
pub record AreSoFar (bytes : List ℕ) (source : Option (List ℕ)) (s : State) (entries : List KitEntry) (place : ℕ) : Type
    0 where
  pub rows : List Record
  pub rest : List ℕ
  pub here : source ≡ Some rest
  pub reached : Reached default_config states.StartRecord bytes rows s rest
  pub count : length rows + 1 ≡ place
  pub read : AreEntries 1 rows entries
