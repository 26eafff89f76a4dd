-- What a session shows, by what tells it.
use Rattle.std.specs.Prelude.{◌≡◌, ◌⊎◌, Bool}
use Rattle.mm_definitions.specs.Package.{Package}

-- What a session shows: whether it has to be opened again, the packages that it is settled for, the databases that a
-- crash may leave, and the packages that each stands for.
pub record Shown (D : Type 0) : Type 1 where
  pub failed : Bool
  pub settled : Package → Type 0
  pub may_leave : D → Type 0
  pub stands_for : D → Package → Type 0

-- what a session shows, by what tells each of these of it
abbrev pub shown_by : {A D : Type 0} → (A → Bool) → (A → Package → Type 0) → (A → D → Type 0) → (D → Package → Type 0)
    → A → Shown D
shown_by has_failed settled may_leave stands_for session =
    record {
      failed = has_failed session;
      settled = settled session;
      may_leave = may_leave session;
      stands_for = stands_for;
    }

-- the database stands for the package, or might be left at first, and the package is the one that the session read as
-- then
abbrev pub stands_since : {A D : Type 0} → (A → D → Type 0) → (D → Package → Type 0) → A → Package → D → Package
    → Type 0
stands_since may_leave stands_for first was db p = (may_leave first db × (p ≡ was)) ⊎ stands_for db p

-- the session reads as the package, and each database that may be left stands so for it
abbrev pub settled_since : {A D : Type 0} → (A → Package → Type 0) → (A → D → Type 0) → (D → Package → Type 0) → A
    → Package
    → A → Package → Type 0
settled_since {A} {D} seen may_leave stands_for first was session p =
    seen session p × ((db : D) → may_leave session db → stands_since may_leave stands_for first was db p)

-- what a session shows that at first read as this package, whatever a crash would leave
abbrev pub seen_since : {A D : Type 0} → (A → Bool) → (A → Package → Type 0) → (A → D → Type 0) → (D → Package → Type 0)
    → A → Package
    → A → Shown D
seen_since has_failed seen may_leave stands_for first was session =
    shown_by has_failed (settled_since seen may_leave stands_for first was) may_leave
    (stands_since may_leave stands_for first was) session
