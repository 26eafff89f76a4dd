-- What a clause reads of a disk that lapses.
use Rattle.std.specs.Prelude.{◌≡◌, false}
use Rattle.mm_test_disk.specs.declared.lapse.Lapse.{Lapse}

-- the disk inside
abbrev pub inside : {D : Type 0} → Lapse D → D
inside lapse = lapse.inner

-- No call has lapsed so far, so it is as usable, and counts as many faults, as the disk inside.
abbrev pub HasNotLapsed : {D : Type 0} → Lapse D → Type 0
HasNotLapsed lapse = (lapse.refused ≡ 0) × (lapse.sync_refused ≡ false)
