-- What the dispatch of a command does with the transaction that it is handed. It leaves it the transaction on the same
-- connection (`same`).
use Rattle.std.specs.Prelude.{ℕ, Result}
use Rattle.sqlite.specs.Held.{state}
use Rattle.sqlite.specs.Store.{Ghosts}
use Rattle.sqlite.specs.declared.transaction.Transaction.{Transaction}
use Rattle.mm_definitions.specs.Bounds.{current}
use Rattle.mm_definitions.specs.Keys.{Text}
use Rattle.mm_definitions.specs.Stamp.{IsStamp}
use Rattle.mm_definitions.specs.declared.answers.Fault.{Fault}
use Rattle.mm_definitions.specs.declared.answers.Outcome.{Outcome}
use Rattle.mm_definitions.specs.declared.commands.Command.{Command}
use Rattle.mm_store.specs.Handed.{IsSame}
use Rattle.mm_store.specs.Shapes.{IsTried}

module _ {S : Type 0} (g : Ghosts S) (old new : Transaction S) where
  -- it does the command, and writes the stamp of the moment as last_change; after a refusal nothing is said of the
  -- transaction
  pub record TriesCommand (command : Command) (last_change : Text) (result : Result Outcome Fault) : Type 0 where
    pub same : IsSame old new
    pub tried : (moment : ℕ) → IsStamp moment last_change
        → IsTried current command moment (state g old.conn.now) (state g new.conn.now) result
