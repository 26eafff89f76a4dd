-- What a clause reads of a session.
use Rattle.std.specs.Prelude.{Bool, true, false, Result, Ok, Err, ⊤}
use Rattle.sqlite.specs.Tree.{Trees}
use Rattle.sqlite.specs.Held.{Held, state}
use Rattle.sqlite.specs.Store.{Ghosts}
use Rattle.mm_definitions.specs.declared.answers.Fault.{Fault}
use Rattle.mm_definitions.specs.Faults.{reopen}
use Rattle.mm_run.specs.Shown.{Shown}
use Rattle.mm_core.specs.Applied.{shown_on}
use Rattle.mm_core.specs.declared.session.Session.{Session}

-- its connection
abbrev pub connection : {S : Type 0} {g : Ghosts S} → Session S g → Held S
connection session = session.conn

-- an earlier command was answered a fault
abbrev pub must_reopen : {S : Type 0} {g : Ghosts S} → Session S g → Bool
must_reopen session = session.failed

-- what stands against a read: 92 where the session has to be opened again
abbrev pub readiness : Bool → Result ⊤ Fault
readiness true = Err reopen
readiness false = Ok tt

-- what it shows
abbrev pub shown : {S : Type 0} (g : Ghosts S) → Session S g → Shown Trees
shown g session = shown_on (must_reopen session) (state g (connection session))
