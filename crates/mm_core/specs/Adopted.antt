-- What becomes of a connection that is to be adopted.
use Rattle.std.specs.Prelude.{◌≡◌, ⊤, ℤ, Err, IsTrue}
use Rattle.sqlite.specs.State.{State, HasCleanDisk}
use Rattle.mm_definitions.specs.Bounds.{Profile, current}
use Rattle.mm_definitions.specs.Package.{Package}
use Rattle.mm_definitions.specs.Rules.{Meets}
use Rattle.mm_definitions.specs.declared.answers.Open.{Open}
use Rattle.mm_definitions.specs.declared.answers.Open.TheVariants as opens
use Rattle.mm_store.specs.Seen.{IsSeenAs}
use Rattle.mm_store.specs.Stands.{ReadsAs, IsSettled}
use Rattle.mm_store.specs.Statements.{CommitsNothing}
use Rattle.mm_definitions.specs.Faults.{IsStoreFault}
use Rattle.mm_meta.specs.Opening.{IsBlank}
use Rattle.mm_meta.specs.Look.{ShowsProfile, AnswersLook}
use Rattle.mm_check.specs.Verdict.{IsFailing}
use Rattle.mm_check.specs.Form.{BlobsStand, TellsForm}

-- no package of another version is read
abbrev pub IsOfThisVersion : State → Type 0
IsOfThisVersion s = (version : ℤ) (p : Package) → (IsTrue s.is_open → ReadsAs version s.now p)
    → version ≡ current.version

-- It wrote nothing, the store is open, and the profile's table shows this profile's row alone, so there is a table. The
-- blobs have their form. It reads as the package that it read as, which meets the rules, and is settled for it where it
-- was.
pub record IsAdopted (old new : State) : Type 0 where
  pub survives : CommitsNothing old new
  pub is_open : HasCleanDisk new → IsTrue new.is_open
  pub row : HasCleanDisk new → ShowsProfile current.version old
  pub some : HasCleanDisk new → IsBlank old → ⊥
  pub profile : HasCleanDisk new → IsOfThisVersion old
  pub blobs : HasCleanDisk new → BlobsStand old
  pub seen : HasCleanDisk new → (p : Package) → IsSeenAs current old p → IsSeenAs current new p
  pub settled : HasCleanDisk new → (p : Package) → IsSettled current old p → IsSettled current new p
  pub meets : HasCleanDisk new → (p : Package) → IsSeenAs current old p → Meets current p

-- It was adopted before it became what it is now: so its profile's table shows this profile's row alone, there is a
-- table, its blobs have their form, and a package meets the rules.
pub record WasAdopted (old new : State) : Type 0 where
  pub row : HasCleanDisk new → ShowsProfile current.version old
  pub some : HasCleanDisk new → IsBlank old → ⊥
  pub profile : HasCleanDisk new → IsOfThisVersion old
  pub blobs : HasCleanDisk new → BlobsStand old
  pub meets : HasCleanDisk new → (p : Package) → IsSeenAs current old p → Meets current p

-- A package that is not adopted breaks the rule that is told, or there was a fault.
abbrev pub Declines : Package → Open → Type 0
Declines p (opens.Rule rule) = IsFailing current p rule
Declines p (opens.Fault fault) = ⊤
Declines p _ = ⊥

-- 93, 94 and 95 tell of the profile's row; 98 and a rule are told of a database of this version alone.
abbrev pub TellsProfile : State → State → Open → Type 0
TellsProfile old new opens.BadBlobs = ShowsProfile current.version old × IsOfThisVersion old
TellsProfile old new (opens.Rule rule) = ShowsProfile current.version old × IsOfThisVersion old
TellsProfile old new (opens.Fault fault) = IsStoreFault fault
TellsProfile old new why = AnswersLook old new (Err why)

-- Where there was no table, there is none still, and it is told that there is no profile; or there was a fault.
abbrev pub DeclinesNone : State → Open → Type 0
DeclinesNone new opens.NoProfile = IsBlank new
DeclinesNone new (opens.Fault fault) = ⊤
DeclinesNone new _ = ⊥

-- It wrote nothing, and tells why it adopts no package. In whatever profile it reads as a package or is settled for
-- one, it does so still.
pub record IsNotAdopted (old new : State) (why : Open) : Type 0 where
  pub survives : CommitsNothing old new
  pub profile : HasCleanDisk new → TellsProfile old new why
  pub blobs : HasCleanDisk new → TellsForm old (Err why)
  pub seen : HasCleanDisk new → (profile : Profile) (p : Package) → IsSeenAs profile old p → IsSeenAs profile new p
  pub settled : HasCleanDisk new → (profile : Profile) (p : Package) → IsSettled profile old p → IsSettled profile new p
  pub declines : HasCleanDisk new → (p : Package) → IsSeenAs current old p → Declines p why
  pub none : HasCleanDisk new → IsBlank old → DeclinesNone new why
