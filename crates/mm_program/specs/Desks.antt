-- A desk: the key in its address, what it prints, and what it leaves of a database.
use Rattle.std.specs.Prelude.{◌≡◌, ◌≤◌, ◌⊎◌, ◌++◌, ◌||◌, ◌&&◌, ℕ, List, [], ◌∷◌, Bool, true, false, not, nat_le, nat_eq}
use Rattle.std.specs.Prelude.{Option, Some, None, Result, Ok, Err, All, codes, decimal, length, option_map, take}
use Rattle.std.specs.Borrow.{Bor}
use Rattle.std.specs.List.{concat, list_any}
use Rattle.std.specs.Io.KnownBytes.{Appends}
use Rattle.sqlite.specs.Tree.{Trees}
use Rattle.sqlite.specs.State.{State, HasCleanDisk}
use Rattle.mm_definitions.specs.Bounds.{IsName, current}
use Rattle.mm_definitions.specs.Keys.{Text}
use Rattle.mm_definitions.specs.Package.{Package}
use Rattle.mm_definitions.specs.Rules.{Meets}
use Rattle.mm_definitions.specs.Runs.{Call, IsFirstPart}
use Rattle.mm_definitions.specs.Streams.{Written}
use Rattle.mm_definitions.specs.declared.answers.Fault.{Fault}
use Rattle.mm_store.specs.Stands.{IsSettled}
use Rattle.mm_core.specs.Applied.{StandsForCurrent}
use Rattle.mm_desk.specs.Sittings.{IsSitting, Visit}
use Rattle.mm_work.specs.Pages.{IsPrinted, list_fault_text, page_fault_text}
use Rattle.mm_work.specs.Told.{IsTold, stop_status, stop_text}
use Rattle.mm_work.specs.declared.stop.Stop.{Stop}
use Rattle.mm_program.specs.Left.{IsDeclinedFor, WasFoundWell}
use Rattle.mm_program.specs.Served.{EndsWell, PrintsNothing, ServiceEnds}
use Rattle.mm_program.specs.Stops.{StopsAny}
use Rattle.mm_program.specs.declared.sittings.Turn.{Turn}
use Rattle.mm_program.specs.declared.sittings.Turn.TheVariants as turns

-- ---- the key

-- a letter of either case, a digit, a dash or a low line
abbrev pub is_key_byte : ℕ → Bool
is_key_byte c =
    (nat_le 97 c && nat_le c 122) || (nat_le 65 c && nat_le c 90) || (nat_le 48 c && nat_le c 57)
    || nat_eq c 45 || nat_eq c 95

-- how many of them a key has, at the least and at the most
abbrev pub ShortestKey : ℕ
ShortestKey = 16

abbrev pub LongestKey : ℕ
LongestKey = 64

-- so many of them
abbrev pub IsKey : Text → Type 0
IsKey key = (ShortestKey ≤ length key) × (length key ≤ LongestKey) × (list_any (λ c. not (is_key_byte c)) key ≡ false)

-- ---- what is printed

-- the table that the words name for pages, where they name one
abbrev pub table_of : Option (Bor Text) → Option Text
table_of page = option_map (λ (table : Bor Text). table.now) page

-- the table of the page is given by what is no name
abbrev pub NamesNone : Option Text → Type 0
NamesNone (Some name) = ¬ (IsName name)
NamesNone None = ⊥

-- where to look: at the first page of a table, where one is named, and else at the desk itself
abbrev pub address_text : ℕ → Text → Option Text → List ℕ
address_text port key (Some table) =
    codes "desk http://127.0.0.1:" ++ decimal port ++ codes "/" ++ key ++ codes "/media/" ++ table ++ codes "/1\n"
address_text port key None = codes "desk http://127.0.0.1:" ++ decimal port ++ codes "/" ++ key ++ codes "/\n"

-- the line of a request that was not answered, or of a list that was ended
abbrev pub IsDeskLine : List ℕ → Type 0
IsDeskLine line = (fault : Fault) × ((line ≡ page_fault_text fault) ⊎ (line ≡ list_fault_text fault))

-- So many lines at most were printed whole, and the status is 0 or 3; or the last could not be, and 3 is answered.
abbrev pub IsAttended : ℕ → Written → Written → ℕ → Type 0
IsAttended count old new status = (lines : List (List ℕ)) × All IsDeskLine lines × (length lines ≤ count)
    × ((Appends old.contents new.contents (concat lines) × (new.failed ≡ old.failed) × ((status ≡ 0) ⊎ (status ≡ 3)))
    ⊎ ((new.failed ≡ true) × (status ≡ 3) × (first : List (List ℕ)) × (last : List ℕ) × (lines ≡ first ++ last ∷ [])
    × (taken : ℕ) × (taken ≤ length last) × Appends old.contents new.contents (concat first ++ take taken last)))

-- a line was printed whole, or could not be
abbrev pub PrintsLine : Written → Written → Bool → Type 0
PrintsLine old new whole = (line : List ℕ) × IsDeskLine line × IsPrinted old new line whole

-- What is printed of one request: nothing, or its line; a request ends the desk well, or since its command failed, or
-- since the line could not be printed.
abbrev pub PrintsTurn : Written → Written → Turn → Type 0
PrintsTurn old new turns.Next = PrintsNothing old new ⊎ PrintsLine old new true
PrintsTurn old new (turns.Last status) =
    (PrintsNothing old new × ((status ≡ 0) ⊎ (status ≡ 3))) ⊎ (PrintsLine old new true × (status ≡ 3))
    ⊎ (PrintsLine old new false × (status ≡ 3))

-- The address could not be printed whole, and the status is 3; or it was, and requests were answered.
abbrev pub IsSeated : ℕ → ℕ → Text → Option Text → Written → Written → ℕ → Type 0
IsSeated port count key table old new status =
    (IsPrinted old new (address_text port key table) false × (status ≡ 3))
    ⊎ ((between : Written) × IsPrinted old between (address_text port key table) true
    × IsAttended count between new status)

-- it was so, and no fault ended it
abbrev pub WasSeated : ℕ → ℕ → Text → Option Text → Written → Written → Type 0
WasSeated port count key table = EndsWell (IsSeated port count key table)

-- By some key the desk was there; or why it was not is told, also where the files could not be closed behind it; or a
-- key of the environment was refused, which tells no contract its bytes.
abbrev pub TellsSeat : ℕ → ℕ → Option Text → Written → Written → ℕ → Type 0
TellsSeat port count table old new result =
    IsTold old new (codes "refused 11\n") 1 result
    ⊎ ((key : Text) × IsKey key × IsSeated port count key table old new result)
    ⊎ ((why : Stop) × (between : Written)
    × (PrintsNothing old between ⊎ ((key : Text) × IsKey key × WasSeated port count key table old between))
    × IsTold between new (stop_text why) (stop_status why) result)

-- the name of a page's table that is none is refused, and no other
abbrev pub TellsDesk : ℕ → ℕ → Option Text → Written → Written → ℕ → Type 0
TellsDesk port count table old new result =
    (NamesNone table × IsTold old new (codes "refused 12\n") 1 result)
    ⊎ (¬ (NamesNone table) × TellsSeat port count table old new result)

-- what the work of a desk comes to
abbrev pub IsDeskDone : ℕ → ℕ → Text → Option Text → Written → Written → Result ℕ Stop → Type 0
IsDeskDone port count key table = ServiceEnds (IsSeated port count key table)

-- ---- what it leaves

-- Some lists were run, one behind another, and the database stands for the package of a first part of all their
-- accepted commands, with each that was acknowledged; and that package meets the rules.
pub record HasSat (p : Package) (after : Trees) : Type 0 where
  pub visits : List Visit
  pub calls : List Call
  pub kept : ℕ
  pub sitting : IsSitting p visits calls kept
  pub last : Package
  pub stands : StandsForCurrent after last
  pub part : IsFirstPart p calls kept last
  pub meets : Meets current last

-- so of each database that a crash may leave, where the connection was settled for a package that meets the rules
pub record Sits (old new : State) : Type 0 where
  pub clean : HasCleanDisk new → HasCleanDisk old
  pub sat : HasCleanDisk new → (p : Package) → IsSettled current old p → Meets current p → (after : Trees)
      → new.may_leave after → HasSat p after

-- the database was adopted; or its package is declined; or there was no memory, or no port
abbrev pub TellsSat : Trees → Result ℕ Stop → Type 0
TellsSat found (Ok status) = WasFoundWell found
TellsSat found (Err why) =
    (p : Package) → StandsForCurrent found p → IsDeclinedFor p why ⊎ (Meets current p × StopsAny why)

-- of each package of the rules that the database stood for; nothing where none was adopted, or the port could not be
-- bound
abbrev pub LeavesDesk : Trees → Trees → Result ℕ Stop → Type 0
LeavesDesk found after (Ok status) = (p : Package) → StandsForCurrent found p → Meets current p → HasSat p after
LeavesDesk found after (Err why) = after ≡ found
