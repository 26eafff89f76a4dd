-- A body of a known length.
use Rattle.std.specs.Prelude.{◌≡◌, ◌≤◌, ◌<◌, ◌+◌, ◌++◌, ℕ, List, length, take, Option, Some, None}
use Rattle.std.specs.declared.vec.Vec.{Vec}
use Rattle.std.specs.declared.alloc.Global.{Global}
use Rattle.std.specs.Io.KnownBytes.{Consumes, IsAtEnd}

-- of the bytes that are here, and those that were read: so many; or the input has ended before
abbrev pub IsBody : List ℕ → ℕ → Option (List ℕ) → Option (List ℕ) → Option (Vec ℕ Global) → Type 0
IsBody here wanted old now (Some body) =
    (length body.items ≡ wanted) × (read : List ℕ) × Consumes old now read × (body.items ≡ take wanted here ++ read)
IsBody here wanted old now None =
    IsAtEnd now × (read : List ℕ) × Consumes old now read × (length here + length read < wanted)

-- no more was read than is wanted
abbrev pub IsReadFrugally : List ℕ → ℕ → Option (List ℕ) → Option (List ℕ) → Type 0
IsReadFrugally here wanted old now = (read : List ℕ) × Consumes old now read
    × (length (take wanted here) + length read ≤ wanted)
