-- What became of bytes that were sent.
use Rattle.std.specs.Prelude.{◌≡◌, true, ◌++◌, Result, Ok, Err}
use Rattle.std.specs.Io.KnownBytes.{Appends}
use Rattle.mm_definitions.specs.Faults.{output}
use Rattle.mm_definitions.specs.Keys.{Text}
use Rattle.mm_definitions.specs.Streams.{Written}
use Rattle.mm_definitions.specs.declared.answers.Fault.{Fault}
use Rattle.mm_definitions.specs.declared.answers.PageFault.{PageFault}

-- they were written whole, and the output works on
abbrev pub IsSentWhole : Written → Written → Text → Type 0
IsSentWhole old new bytes = Appends old.contents new.contents bytes × (new.failed ≡ old.failed)

-- a front of them was, and the output has failed
abbrev pub IsCut : Written → Written → Text → Fault → Type 0
IsCut old new bytes fault = (fault.0 ≡ output.0) × (new.failed ≡ true) × (begun : Text) × (more : Text)
    × (bytes ≡ begun ++ more) × Appends old.contents new.contents begun

-- they were sent whole, or cut
abbrev pub IsSentOff : Written → Written → Text → Result (Unit {0}) PageFault → Type 0
IsSentOff old new bytes (Ok done) = IsSentWhole old new bytes
IsSentOff old new bytes (Err e) = IsCut old new bytes e.0
