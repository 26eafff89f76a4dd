-- Rule 16 by its parts.
use Rattle.std.proofs.Common.{◌≡◌, ℕ, ◌+◌, ◌<◌, ◌==◌, Bool, true, false, Result, Ok, Err, subst, arith}
use Rattle.sqlite.specs.State.{State}
use Rattle.mm_definitions.specs.Bounds.{Profile}
use Rattle.mm_definitions.specs.Package.{Package}
use Rattle.mm_definitions.specs.Rules.{Limits}
use Rattle.mm_definitions.specs.declared.answers.Fault.{Fault}
use Rattle.mm_walk.specs.Check.{IsCheck}
use Rattle.mm_walk.proofs.Compose.{stops, gives_up}
use Rattle.mm_walk.specs.InTurn.{HoldsBelow, HasPassed}
use Rattle.mm_column_limits.specs.LimitParts.{part}
use Rattle.mm_walk.proofs.InTurn.{either_holds, none_below, one_more, none_asked, next_passes, asked_alone, all_passed}

-- where all are within their limits, each part is
part_holds : (profile : Profile) (p : Package) (k : ℕ) → Limits profile p → part profile k p
unfolding part
part_holds profile p k l =
    either_holds (k == 1) _ _ l.systems
    (either_holds (k == 2) _ _ l.contents
    (either_holds (k == 3) _ _ l.kinds (either_holds (k == 4) _ _ l.sets (either_holds (k == 5) _ _ l.matrices
    (either_holds (k == 6) _ _ l.extensions
    (either_holds (k == 7) _ _ l.tiles (either_holds (k == 8) _ _ l.rows (either_holds (k == 9) _ _ l.media
    (either_holds (k == 10) _ _ l.relations
    (either_holds (k == 11) _ _ l.pairings (either_holds (k == 12) _ _ l.editions l.pieces)))))))))))

-- and the thirteen parts are all
all_parts : (profile : Profile) (p : Package) → HoldsBelow (part profile) 14 p → Limits profile p
unfolding part
all_parts profile p t = record {
  systems = t 1 (omega arith) (omega arith);
  contents = t 2 (omega arith) (omega arith);
  kinds = t 3 (omega arith) (omega arith);
  sets = t 4 (omega arith) (omega arith);
  matrices = t 5 (omega arith) (omega arith);
  extensions = t 6 (omega arith) (omega arith);
  tiles = t 7 (omega arith) (omega arith);
  rows = t 8 (omega arith) (omega arith);
  media = t 9 (omega arith) (omega arith);
  relations = t 10 (omega arith) (omega arith);
  pairings = t 11 (omega arith) (omega arith);
  editions = t 12 (omega arith) (omega arith);
  pieces = t 13 (omega arith) (omega arith);
}

module _ (profile : Profile) (Known : Package → Type 0) where
  pub no_part : (now : State) → HasPassed profile Known now now (1 < 1) (HoldsBelow (part profile) 1)
  no_part now = none_asked profile Known now (1 < 1) (HoldsBelow (part profile) 1) (λ asked. omega (arith, asked))
      (λ p. none_below (part profile) p)

  module _ (old mid new : State) (k : ℕ)
      (so_far : HasPassed profile Known old mid (1 < k) (HoldsBelow (part profile) k)) where
    pub part_passes : (r : Result Bool Fault) {b : Bool} → r ≡ Ok b → b ≡ true
        → IsCheck profile mid new Known (part profile k) r
        → HasPassed profile Known old new (1 < k + 1) (HoldsBelow (part profile) (k + 1))
    part_passes r is told h = next_passes profile Known old mid new (1 < k) (HoldsBelow (part profile) k) Known
        (part profile k) (λ p known _. known) so_far (HoldsBelow (part profile) (k + 1)) (1 < k + 1)
        (λ p below here. one_more (part profile) p k below here) r is told h

    alone : (r : Result Bool Fault) → IsCheck profile mid new Known (part profile k) r
        → IsCheck profile old new Known (part profile k) r
    alone r h = asked_alone profile Known old mid new (1 < k) (HoldsBelow (part profile) k) Known (part profile k)
        (λ p known _. known) so_far r h

    pub part_stops : (r : Result Bool Fault) {b : Bool} → r ≡ Ok b → b ≡ false
        → IsCheck profile mid new Known (part profile k) r
        → IsCheck profile old new Known (λ p. Limits profile p) (Ok false)
    part_stops r is told h = stops profile old new Known (part profile k) (λ p. Limits profile p)
        (λ p. Limits profile p) (λ p. (λ both. both.1, λ l. (part_holds profile p k l, l))) r is told (alone r h)

    pub part_fails : (r : Result Bool Fault) (fault : Fault) → r ≡ Err fault
        → IsCheck profile mid new Known (part profile k) r
        → IsCheck profile old new Known (λ p. Limits profile p) (Err fault)
    part_fails r fault is h =
        gives_up profile old new Known Known (part profile k) (λ p. Limits profile p) r fault is (alone r h)

  pub parts_pass : (old new : State) (k : ℕ) → k ≡ 14
      → HasPassed profile Known old new (1 < k) (HoldsBelow (part profile) k)
      → IsCheck profile old new Known (λ p. Limits profile p) (Ok true)
  parts_pass old new k is passed =
      all_passed profile Known old new (1 < 14) (HoldsBelow (part profile) 14) (λ p. Limits profile p) (omega arith)
      (λ p. (all_parts profile p, λ l. λ j from to. part_holds profile p j l))
      (subst (λ n. HasPassed profile Known old new (1 < n) (HoldsBelow (part profile) n)) is passed)
