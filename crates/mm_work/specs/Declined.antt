-- Why a connection was not adopted, as it is told.
use Rattle.std.specs.Prelude.{◌≡◌}
use Rattle.sqlite.specs.State.{State}
use Rattle.mm_definitions.specs.declared.answers.Open.{Open}
use Rattle.mm_definitions.specs.declared.answers.Open.TheVariants as opens
use Rattle.mm_core.specs.Adopted.{IsNotAdopted}
use Rattle.mm_work.specs.declared.stop.NoPackage.TheVariants as causes
use Rattle.mm_work.specs.declared.stop.Stop.{Stop}
use Rattle.mm_work.specs.declared.stop.Stop.TheVariants as stops

-- why a file is not opened, as it is told: that it is no package, and why, or the rule that fails, or a fault
abbrev pub stop_of : Open → Stop
stop_of (opens.Version version) = stops.NotPackage causes.Version
stop_of opens.NoProfile = stops.NotPackage causes.NoProfile
stop_of opens.BadProfile = stops.NotPackage causes.BadProfile
stop_of opens.BadBlobs = stops.NotPackage causes.BadBlobs
stop_of (opens.Rule rule) = stops.Rule rule
stop_of (opens.Fault fault) = stops.Fault fault

-- It wrote nothing to the package, and why it was not adopted is told: the rule that fails of a package that it is
-- settled for, or a fault.
abbrev pub IsDeclined : State → State → Stop → Type 0
IsDeclined old new why = (cause : Open) × IsNotAdopted old new cause × (why ≡ stop_of cause)
