-- Why work on a file is not told.
use Rattle.std.specs.Prelude.{◌≡◌, ◌⊎◌, ℕ, Bool, true, false, length, Option, None}
use Rattle.sqlite.specs.Recovery.{Image}
use Rattle.mm_definitions.specs.Faults.{IsStoreFault}
use Rattle.mm_files.specs.declared.left.NotDone.{NotDone}
use Rattle.mm_files.specs.declared.left.NotDone.TheVariants as why
use Rattle.mm_definitions.specs.Streams.{Written}

-- the files hold no byte
abbrev pub HoldNoByte : Image → Type 0
HoldNoByte image = (length image.log ≡ 0) × (length image.db ≡ 0)

-- whether they do
abbrev pub TellsBare : Image → Bool → Type 0
TellsBare image true = HoldNoByte image
TellsBare image false = HoldNoByte image → ⊥

-- Bytes are told of files alone that are to be new, which are given no length; else it is a fault of the store.
abbrev pub IsWhyNot : Option ℕ → NotDone → Type 0
IsWhyNot bytes why.NotEmpty = bytes ≡ None
IsWhyNot bytes (why.Fault fault) = IsStoreFault fault

-- The file was not opened, and nothing was printed; or the work was done to its end, and the files could not be closed
-- behind it.
abbrev pub IsUntold : {Done : Type 0} → (Written → Written → Done → Type 0) → (Done → Bool) → Written → Written → Type 0
IsUntold {Done} comes_to closes old new = (new ≡ old) ⊎ ((done : Done) × comes_to old new done × (closes done ≡ true))

-- Where bytes stand nothing was printed.
abbrev pub IsUntoldFor : {Done : Type 0} → (Written → Written → Done → Type 0) → (Done → Bool) → Written → Written
    → NotDone → Type 0
IsUntoldFor comes_to closes old new why.NotEmpty = new ≡ old
IsUntoldFor comes_to closes old new (why.Fault fault) = IsUntold comes_to closes old new
