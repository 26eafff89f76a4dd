-- What serving a request does to a reader and a writer.
use Rattle.std.specs.Prelude.{◌≡◌, ◌⊎◌, ◌≤◌, ℕ, Bool, true, Option, Some, codes, length, take}
use Rattle.std.specs.Io.KnownBytes.{Appends, Keeps}
use Rattle.mm_definitions.specs.Faults as faults
use Rattle.mm_definitions.specs.Keys.{Text}
use Rattle.mm_definitions.specs.Package.{Package}
use Rattle.mm_definitions.specs.declared.answers.Fault.{Fault}
use Rattle.mm_reads.specs.Viewers.{IsViewFault}
use Rattle.httparse.specs.Grammar.{RequestHead}
use Rattle.mm_page.specs.Asked.{IsRouted, Wanted}
use Rattle.mm_page.specs.Heads.{IsHead, MostHeadBytes, MostHeadLines}
use Rattle.mm_page.specs.Page.{Page, path_of}

-- ---- what is written

-- the page of each package that the viewer is on, and of all that the reader had still to give
abbrev pub Served : (Package → Type 0) → Option Text → Text → Type 0
Served on source response = (p : Package) → on p → (input : Text) → source ≡ Some input → Page p input response

-- that was written, and nothing else
abbrev pub ServedTo : (Package → Type 0) → Option Text → Option Text → Option Text → Type 0
ServedTo on source old new = (response : Text) × Served on source response × Appends old new response

-- Why no response was made: 90 where there was no memory for it, or for reading the path before anything is asked for;
-- or what the viewer tells.
abbrev pub IsPageFault : Bool → Fault → Type 0
IsPageFault failed fault = (fault.0 ≡ faults.memory.0) ⊎ IsViewFault failed fault

-- Why it wasn't written whole: 90, 91, 92, or 96 where the reader has failed, and then nothing was written; or 97 where
-- the writer has, and then a front of it was.
abbrev pub IsCutResponse : Bool → (Package → Type 0) → Option Text → Bool → Option Text → Option Text → Bool → Fault
    → Type 0
IsCutResponse failed on source reading old new writing fault =
    (IsPageFault failed fault × Keeps old new)
    ⊎ ((fault.0 ≡ faults.input.0) × (reading ≡ true) × Keeps old new)
    ⊎ ((fault.0 ≡ faults.output.0) × (writing ≡ true) × (response : Text) × Served on source response
    × (k : ℕ) × (k ≤ length response) × Appends old new (take k response))

-- ---- what is asked for

-- the input asks for a part of the package
abbrev pub AsksForPart : Option Text → Type 0
AsksForPart source = (input : Text) → source ≡ Some input → (h : RequestHead)
    × IsHead MostHeadBytes MostHeadLines input h
    × (h.method ≡ codes "GET") × (w : Wanted) × IsRouted (path_of h.target) w
