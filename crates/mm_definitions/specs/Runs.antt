-- Runs of commands.
use Rattle.std.specs.Prelude.{◌≡◌, ℕ, ◌+◌, ◌≤◌, List, [], ◌∷◌, length, take, Option, Some, None}
use Rattle.mm_definitions.specs.Package.{Package}
use Rattle.mm_definitions.specs.Step.{refusal, step}
use Rattle.mm_definitions.specs.Refusals.{Refusal}
use Rattle.mm_definitions.specs.declared.commands.Command.{Command}

-- a command at a moment
pub record Call : Type 0 where
  pub command : Command
  pub moment : ℕ

-- the last package
abbrev pub run : Package → List Call → Package
run p [] = p
run p (c ∷ cs) = run (step p c.command c.moment) cs

-- the answers in order: None is ok
abbrev pub answers : Package → List Call → List (Option Refusal)
answers p [] = []
answers p (c ∷ cs) = refusal p c.command ∷ answers (step p c.command c.moment) cs

-- this call before the others, if it was answered ok
abbrev pub if_ok : Option Refusal → Call → List Call → List Call
if_ok None c cs = c ∷ cs
if_ok (Some r) c cs = cs

-- the calls that were answered ok, in order
abbrev pub accepted : Package → List Call → List Call
accepted p [] = []
accepted p (c ∷ cs) = if_ok (refusal p c.command) c (accepted (step p c.command c.moment) cs)

-- Where a ok answers were acknowledged, at most one more command is done.
pub record IsFirstPart (p : Package) (calls : List Call) (a : ℕ) (q : Package) : Type 0 where
  pub count : ℕ
  pub at_least : a ≤ count
  pub at_most : count ≤ a + 1
  pub there : count ≤ length (accepted p calls)
  pub is : q ≡ run p (take count (accepted p calls))
