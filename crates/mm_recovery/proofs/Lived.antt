-- What a package is that is made, run on, closed, opened again and run on.
use Rattle.std.proofs.Common.{Bool, ℕ, List, Option}
use Rattle.std.proofs.KnownBytes.{Appends-trans}
use Rattle.sqlite_disk.specs.declared.Disk.{Ghosts}
use Rattle.sqlite_disk.specs.declared.Files.{Files}
use Rattle.sqlite.specs.State.{State, HasCleanDisk}
use Rattle.mm_definitions.specs.Bounds.{current}
use Rattle.mm_definitions.specs.Opening.{opening}
use Rattle.mm_definitions.specs.Runs.{run}
use Rattle.mm_definitions.specs.Streams.{Written}
use Rattle.mm_definitions.specs.declared.answers.Tally.{Tally}
use Rattle.mm_laws.proofs.Opened.{opened}
use Rattle.mm_core.specs.Answers.{calls_of}
use Rattle.mm_core.specs.Runs.{OnRun, RanAll}
use Rattle.mm_core.specs.Applied.{shown_on}
use Rattle.mm_store.specs.Stands.{IsSettled}
use Rattle.mm_recovery.specs.Lived.{HasLived}
use Rattle.mm_recovery.specs.Made.{IsMadeOn}
use Rattle.mm_recovery.specs.Recovered.{IsReopened}

module _ {D : Type 0} (g : Ghosts D) (files : Files D) (made ran again ended : State) (moment : ℕ)
    (source source2 : Option (List ℕ)) (old mid new : Written) (failed failed2 : Bool) (t t2 : Tally) where
  abbrev RunTellsAll : State → State → Bool → Option (List ℕ) → Written → Written → Tally → Type 0
  RunTellsAll before after flag from w v tally =
      OnRun (HasCleanDisk after) (λ p. IsSettled current before p) from
      (λ p bytes. RanAll p moment bytes (shown_on flag after) w v tally)

  pub has_lived : IsMadeOn g files made → (HasCleanDisk ran → HasCleanDisk made)
      → RunTellsAll made ran failed source old mid t → IsReopened ran again
      → (HasCleanDisk ended → HasCleanDisk again) → RunTellsAll again ended failed2 source2 mid new t2
      → HasLived g files moment source source2 old new ended
  has_lived is_made calm first reopened calm2 second clean are bytes is bytes2 is2 =
      let clean_again = calm2 clean in
      let clean_ran = reopened.clean clean_again in
      let one = first clean_ran opening (is_made.settled (calm clean_ran) are, opened current) bytes is in
      let middle = run opening (calls_of moment one.readings) in
      let two = second clean middle (reopened.kept clean_again middle one.stands.0) bytes2 is2 in
      record {
        readings = one.readings;
        read = one.read;
        readings2 = two.readings;
        read2 = two.read;
        text = Appends-trans _ _ _ _ _ one.text two.text;
        stands = two.stands;
      }
