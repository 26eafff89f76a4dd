-- The lines of a desk, one request behind another, and what it leaves.
use Rattle.std.proofs.Common.{◌≡◌, ◌∙◌, ◌+◌, ◌<◌, ◌⊎◌, ℕ, List, [], ◌∷◌, ◌++◌, length, Option, Ok, Err}
use Rattle.std.proofs.Common.{refl, sym, ap, subst, inl, inr, Bool, true, false, All, arith, length-append}
use Rattle.std.proofs.Common.{append-nil}
use Rattle.std.specs.Prelude.{◌≤◌}
use Rattle.std.specs.List.{concat}
use Rattle.std.specs.Io.KnownBytes.{Appends}
use Rattle.std.proofs.KnownBytes.{Appends-nil, Appends-trans}
use Rattle.std.proofs.lemmas.List.Elements.{All-append, All-cons}
use Rattle.std.proofs.lemmas.List.Folds.{concat-append}
use Rattle.sqlite.specs.State.{State, HasCleanDisk}
use Rattle.sqlite.specs.Tree.{Trees}
use Rattle.mm_definitions.specs.Bounds.{current}
use Rattle.mm_definitions.specs.Package.{Package}
use Rattle.mm_definitions.specs.Rules.{Meets}
use Rattle.mm_definitions.specs.Streams.{Written, written_as}
use Rattle.mm_core.specs.Adopted.{IsAdopted}
use Rattle.mm_core.specs.Applied.{StandsForCurrent}
use Rattle.mm_store.specs.Statements.{CommitsNothing}
use Rattle.mm_core.proofs.Opened.{nothing_less, opened_settles}
use Rattle.mm_desk.specs.Sittings.{IsSitting}
use Rattle.mm_files.specs.Worked.{IsJustOpened}
use Rattle.mm_work.specs.declared.stop.Stop.{Stop}
use Rattle.mm_program.specs.Desks.{HasSat, IsAttended, IsDeskLine, LeavesDesk, PrintsLine, PrintsTurn, Sits, TellsSat}
use Rattle.mm_program.specs.Served.{PrintsNothing}
use Rattle.mm_program.specs.Stops.{StopsAny}
use Rattle.mm_program.specs.declared.sittings.Turn.{Turn}
use Rattle.mm_program.specs.declared.sittings.Turn.TheVariants as turns
use Rattle.mm_program.proofs.Left.{was_well}

-- ---- what is printed

-- so many requests were answered, and each line was printed whole
pub record Attended (count : ℕ) (old new : Option (List ℕ)) (before failed : Bool) : Type 0 where
  pub lines : List (List ℕ)
  pub all : All IsDeskLine lines
  pub few : length lines ≤ count
  pub text : Appends old new (concat lines)
  pub working : failed ≡ before

none_of : All IsDeskLine []
none_of k d lt = absurd (omega arith)

pub attended_none : (held : Option (List ℕ)) (working : Bool) → Attended 0 held held working working
attended_none held working =
    record { lines = []; all = none_of; few = omega arith; text = Appends-nil held; working = refl }

module _ (count : ℕ) (old held new : Option (List ℕ)) (before between failed : Bool)
    (it : Attended count old held before between) where
  on : new ≡ held → failed ≡ between → Attended (count + 1) old new before failed
  on same still = record {
    lines = it.lines;
    all = it.all;
    few = omega (arith, it.few);
    text = subst (λ x. Appends old x (concat it.lines)) (sym same) it.text;
    working = still ∙ it.working;
  }

  lines_of : (line : List ℕ) → concat (it.lines ++ line ∷ []) ≡ concat it.lines ++ line
  lines_of line = concat-append it.lines (line ∷ []) ∙ ap (λ l. concat it.lines ++ l) (append-nil line)

  all_with : (line : List ℕ) → IsDeskLine line → All IsDeskLine (it.lines ++ line ∷ [])
  all_with line is = All-append IsDeskLine it.lines (line ∷ []) it.all (All-cons IsDeskLine line [] is none_of)

  few_with : (line : List ℕ) → length (it.lines ++ line ∷ []) ≤ count + 1
  few_with line = omega (arith, it.few, length-append it.lines (line ∷ []))

  more : PrintsLine (written_as held between) (written_as new failed) true → Attended (count + 1) old new before failed
  more (line, is, printed) = record {
    lines = it.lines ++ line ∷ [];
    all = all_with line is;
    few = few_with line;
    text = subst (λ l. Appends old new l) (sym (lines_of line)) (Appends-trans _ _ _ _ _ it.text printed.0);
    working = printed.1 ∙ it.working;
  }

  cut : (most : ℕ) → count < most → PrintsLine (written_as held between) (written_as new failed) false
      → IsAttended most (written_as old before) (written_as new failed) 3
  cut most room (line, is, broken) = (
    it.lines ++ line ∷ [],
    all_with line is,
    omega (arith, room, few_with line),
    inr (broken.0, refl, it.lines, line, refl, broken.1, broken.2, Appends-trans _ _ _ _ _ it.text broken.3),
  )

  pub turn_next : PrintsTurn (written_as held between) (written_as new failed) turns.Next
      → Attended (count + 1) old new before failed
  turn_next (inl (same, still)) = on same still
  turn_next (inr line) = more line

pub attended : (count most : ℕ) (old new : Option (List ℕ)) (before failed : Bool) (status : ℕ)
    → Attended count old new before failed → count ≤ most
    → (status ≡ 0) ⊎ (status ≡ 3) → IsAttended most (written_as old before) (written_as new failed) status
attended count most old new before failed status it room is =
    (it.lines, it.all, omega (arith, room, it.few), inl (it.text, it.working, is))

pub turn_last : (count most : ℕ) (old held new : Option (List ℕ)) (before between failed : Bool) (status : ℕ)
    → Attended count old held before between → count < most
    → PrintsTurn (written_as held between) (written_as new failed) (turns.Last status)
    → IsAttended most (written_as old before) (written_as new failed) status
turn_last count most old held new before between failed status it room (inl (nothing, is)) =
    attended (count + 1) most old new before failed status
    (on count old held new before between failed it nothing.0 nothing.1) (omega (arith, room)) is
turn_last count most old held new before between failed status it room (inr (inl (line, is))) =
    attended (count + 1) most old new before failed status (more count old held new before between failed it line)
    (omega (arith, room)) (inr is)
turn_last count most old held new before between failed status it room (inr (inr (line, is))) =
    subst (λ s. IsAttended most (written_as old before) (written_as new failed) s) (sym is)
    (cut count old held new before between failed it most room line)

-- ---- what is left

-- where no list was run
pub still_sits : (s : State) → Sits s s
unfolding IsSitting
still_sits s = record {
  clean = λ clean. clean;
  sat = λ clean p settled meets after may. record {
    visits = [];
    calls = [];
    kept = 0;
    sitting = (refl, refl);
    last = p;
    stands = settled.left after may;
    part = record { count = 0; at_least = omega arith; at_most = omega arith; there = omega arith; is = refl };
    meets = meets;
  };
}

module _ (old mid new : State) (fresh : HasCleanDisk old → IsJustOpened old) (clean : HasCleanDisk new)
    (adopted : IsAdopted old mid) (sits : Sits mid new) where
  was_clean : HasCleanDisk old
  was_clean = nothing_less _ _ adopted.survives.clean (sits.clean clean)

  settled : (p : Package) → StandsForCurrent old.committed.trees p → Meets current p → (after : Trees)
      → new.may_leave after → HasSat p after
  settled p stands meets =
      sits.sat clean p (adopted.settled (sits.clean clean) p (opened_settles old (fresh was_clean) current p stands))
      meets

  pub leaves_desk : (status : ℕ) (after : Trees) → new.may_leave after
      → LeavesDesk old.committed.trees after (Ok status)
  leaves_desk status after may p stands meets = settled p stands meets after may

  pub tells_desk : (status : ℕ) → TellsSat old.committed.trees (Ok status)
  tells_desk status = was_well old mid fresh adopted (sits.clean clean)

-- where the port was not bound
module _ (old mid new : State) (fresh : HasCleanDisk old → IsJustOpened old) (clean : HasCleanDisk new)
    (adopted : IsAdopted old mid) (quiet : CommitsNothing mid new) where
  pub tells_unseated : (why : Stop) → StopsAny why → TellsSat old.committed.trees (Err why)
  tells_unseated why stops p stands =
      inr ((was_well old mid fresh adopted (nothing_less _ _ quiet.clean clean)).meets p stands, stops)

-- ---- a turn

pub quiet_turn : (old new : Written) (turn : Turn) → PrintsNothing old new → (turn ≡ turns.Next) ⊎ (turn ≡ turns.Last 3)
    → PrintsTurn old new turn
quiet_turn old new turn nothing (inl is) = subst (λ t. PrintsTurn old new t) (sym is) (inl nothing)
quiet_turn old new turn nothing (inr is) = subst (λ t. PrintsTurn old new t) (sym is) (inl (nothing, inr refl))

pub line_turn : (old new : Written) (turn : Turn) → PrintsLine old new true → (turn ≡ turns.Next)
    ⊎ (turn ≡ turns.Last 3) → PrintsTurn old new turn
line_turn old new turn line (inl is) = subst (λ t. PrintsTurn old new t) (sym is) (inr line)
line_turn old new turn line (inr is) = subst (λ t. PrintsTurn old new t) (sym is) (inr (inl (line, refl)))
