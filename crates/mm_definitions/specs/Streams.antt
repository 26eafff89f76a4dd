-- What a clause reads of an `Io`.
use Rattle.std.specs.Prelude.{ℕ, Bool, List, Option}
use Rattle.std.specs.declared.io.traits.Read.{Ghosts}
use Rattle.mm_definitions.specs.declared.streams.Io.{Io}
use Rattle.mm_definitions.specs.declared.ends.UntilEnd.{UntilEnd}

-- the reader or writer inside
abbrev pub inside : {T : Type 0} → Io T → T
inside io = io.inner

-- a read, write or flush through it answered an error
abbrev pub has_failed : {T : Type 0} → Io T → Bool
has_failed io = io.failed

-- what a writer holds, where that is told, and whether a call of it has failed
pub record Written : Type 0 where
  pub contents : Option (List ℕ)
  pub failed : Bool

-- the two of a writer, as one value
abbrev pub written_as : Option (List ℕ) → Bool → Written
written_as contents failed = record { contents = contents; failed = failed }

-- by what tells what the writer inside holds
abbrev pub written : {W : Type 0} → (W → Option (List ℕ)) → Io W → Written
written contents io = written_as (contents (inside io)) (has_failed io)

-- nothing was written through it since it was made or last flushed
abbrev pub is_flushed : {T : Type 0} → Io T → Bool
is_flushed io = io.flushed

-- the reader that is asked until it has told its end
abbrev pub inner_reader : {R : Type 0} {ghosts : Ghosts R} → UntilEnd R ghosts → R
inner_reader reader = reader.inner
