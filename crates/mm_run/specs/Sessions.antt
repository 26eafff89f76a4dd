-- What a session shows, by its trait.
use Rattle.mm_definitions.specs.Package.{Package}
use Rattle.mm_run.specs.Shown.{Shown, seen_since, shown_by}
use Rattle.mm_run.specs.declared.apply.Apply.{Ghosts}

-- what a session shows that commands are applied to
abbrev pub shown : {A : Type 0} (ghosts : Ghosts A) → A → Shown ghosts.Database
shown ghosts session = shown_by ghosts.has_failed ghosts.settled ghosts.may_leave ghosts.stands_for session

-- what it shows that stood like this at first, and read as this package
abbrev pub shown_since : {A : Type 0} (ghosts : Ghosts A) → A → Package → A → Shown ghosts.Database
shown_since ghosts first was session = seen_since ghosts.has_failed ghosts.seen ghosts.may_leave ghosts.stands_for first
    was session
