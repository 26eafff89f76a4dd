-- What became of bytes that were sent.
use Rattle.std.specs.Prelude.{◌≡◌, ◌<◌, ◌⊎◌, ℕ, List, length, take, true}
use Rattle.std.specs.Io.KnownBytes.{Appends}
use Rattle.mm_io.specs.declared.sending.Sent.{Sent}
use Rattle.mm_io.specs.declared.sending.Sent.TheVariants as sent
use Rattle.mm_definitions.specs.Streams.{Written, has_failed, is_flushed}
use Rattle.mm_definitions.specs.declared.streams.Io.{Io}

-- by what was written before and then is
abbrev pub Sends : Written → Written → List ℕ → Sent → Type 0
Sends old new bytes sent.Flushed = Appends old.contents new.contents bytes × (new.failed ≡ old.failed)
Sends old new bytes sent.Unflushed = Appends old.contents new.contents bytes × (new.failed ≡ true)
Sends old new bytes sent.Cut = (new.failed ≡ true) × (taken : ℕ) × (taken < length bytes)
    × Appends old.contents new.contents (take taken bytes)

-- all that was written through it is flushed, or a call of it has failed
abbrev pub IsOut : {T : Type 0} → Io T → Type 0
IsOut io = (is_flushed io ≡ true) ⊎ (has_failed io ≡ true)
