-- What `explain` prints.
use Rattle.std.specs.Prelude.{ℕ, Option, Some, None}
use Rattle.mm_definitions.specs.Keys.{Text}
use Rattle.mm_definitions.specs.Streams.{Written}
use Rattle.mm_work.specs.Told.{IsTold}
use Rattle.mm_remarks.specs.Words.{text_of}
use Rattle.mm_remarks.specs.declared.explaining.TheConstants.{UNKNOWN}

-- a text with status 0; or that there is none, as of wrong words
abbrev pub TellsText : Option Text → Written → Written → ℕ → Type 0
TellsText (Some text) old new result = IsTold old new text 0 result
TellsText None old new result = IsTold old new UNKNOWN.now 2 result

-- the text of the number or rule that the last word names
abbrev pub TellsExplained : Text → Written → Written → ℕ → Type 0
TellsExplained answer old new result = TellsText (text_of answer) old new result
