-- What `touch` does: it sets last_change of a table that stands, and is refused 25 where none has the name. No rule is
-- asked of the package.
use Rattle.std.specs.Prelude.{◌≡◌, false, None, Some, option_map}
use Rattle.std.specs.FinMap.{contains_key, get}
use Rattle.mm_definitions.specs.Effects.{touch}
use Rattle.mm_definitions.specs.Keys.{Text}
use Rattle.mm_definitions.specs.Package.{Package, Contents}
use Rattle.mm_definitions.specs.Parts.{Stands}
use Rattle.mm_definitions.specs.declared.answers.Outcome.{Outcome}
use Rattle.mm_definitions.specs.declared.answers.Outcome.TheVariants.{Done, Refused}
use Rattle.mm_definitions.specs.Refusals.{Refusal}

-- the refusal where no table has the name
abbrev pub no_such_table : Refusal
no_such_table = record { number = 25; piece = None }

-- the package after the call
abbrev pub touched : Text → Text → Package → Outcome → Package
touched table at p Done = touch p table at
touched table at p (Refused why) = p

-- done only where a table has the name, and refused only where none has
abbrev pub IsTouched : Text → Package → Outcome → Type 0
IsTouched table p Done = Stands p.contents table
IsTouched table p (Refused why) = (contains_key p.contents table ≡ false) × (why ≡ no_such_table)

-- a table that stands has this last_change
abbrev pub IsStampedAs : Package → Text → Text → Type 0
IsStampedAs p table at = option_map (λ (c : Contents). c.last_change) (get p.contents table) ≡ Some at
