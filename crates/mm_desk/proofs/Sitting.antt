-- A sitting is one run of its lists.
use Rattle.std.proofs.Common.{◌≡◌, inl, inr, ℕ, ◌+◌, List, [], ◌∷◌, ◌++◌, true, false, Result, Ok, Err, refl, sym, ap}
use Rattle.std.proofs.Common.{subst, ◌∙◌, length, take, take_all, length-append, arith, suc}
use Rattle.std.specs.Prelude.{◌≤◌, Some}
use Rattle.mm_definitions.specs.Package.{Package}
use Rattle.mm_definitions.specs.Runs.{Call, run, accepted}
use Rattle.mm_definitions.specs.declared.answers.RunFault.{RunFault}
use Rattle.mm_definitions.specs.declared.answers.Tally.{Tally}
use Rattle.mm_laws.proofs.FirstParts.{first_part_after}
use Rattle.mm_run.specs.Answers.{calls_of}
use Rattle.mm_run.specs.Applied.{IsSound}
use Rattle.mm_run.specs.Readings.{Reading, AreReadAs}
use Rattle.mm_run.specs.Promised.{KeepsRun}
use Rattle.mm_run.specs.Runs.{AreFirstParts, StopsBehind, WorksOn}
use Rattle.mm_run.specs.Sessions.{shown}
use Rattle.mm_run.specs.declared.apply.Apply.{Ghosts}
use Rattle.mm_run.proofs.Since.{SettledIs, settled_runs}
use Rattle.mm_desk.specs.Exchanges.{IsDeskTurn}
use Rattle.mm_desk.specs.Sittings.{AreReadOf, IsSitting, RunsVisit, Sat, Stays, Visit, acknowledged_by, answered_by}

as_many : (rows : List (List (List ℕ))) (readings : List Reading) → AreReadAs rows readings
    → length readings ≡ length rows
unfolding AreReadAs
as_many [] [] it = refl
as_many [] (r ∷ rs) it = absurd it
as_many (x ∷ xs) [] it = absurd it
as_many (x ∷ xs) (r ∷ rs) it = ap (λ n. suc n) (as_many xs rs it.1)

whole : (rows : List (List (List ℕ))) (readings : List Reading) → AreReadAs rows readings
    → AreReadAs (take (length readings) rows) readings
whole rows readings it = let n = as_many rows readings it in subst (λ l. AreReadAs l readings)
    (sym (take_all (length readings) rows (omega (arith, n)))) it

enough : (works : Package → Type 0) (failed : Type 0) (p : Package) (moment : ℕ) (readings : List Reading)
    (answered : ℕ)
    → StopsBehind works failed p moment readings answered → answered ≤ length readings
enough works failed p moment readings answered (inl it) = omega (arith, it.0)
enough works failed p moment readings answered (inr (broken, first, command, is, many)) =
    omega (arith, many, ap (λ l. length l) is, length-append first (Ok command ∷ []))

module _ {A : Type 0} (apply : Ghosts A) where
  kept_left : (p : Package) (calls : List Call) (kept : ℕ) (old new : A) → Stays apply old new → apply.is_clean new
      → AreFirstParts
      (shown apply old) p calls kept → AreFirstParts (shown apply new) p calls kept
  kept_left p calls kept old new stays clean parts db may = parts db (stays.left clean db may)

  kept_sound : (p : Package) (old new : A) → Stays apply old new → apply.is_clean new → IsSound (apply.settled old) p
      → IsSound (apply.settled new) p
  kept_sound p old new stays clean sound = (stays.settled clean p sound.0, sound.1)

  pub clean_before : (visits : List Visit) (old new : A) → Sat apply old visits new → apply.is_clean new
      → apply.is_clean old
  unfolding Sat
  clean_before [] old new sat clean = sat.clean clean
  clean_before (v ∷ []) old new (before, behind, first, ran, last) clean = first.clean (ran.clean (last.clean clean))
  clean_before (v ∷ w ∷ vs) old new (before, behind, first, ran, same, more) clean =
      first.clean (ran.clean (clean_before (w ∷ vs) behind new more clean))

  -- ---- a sitting that goes on

  pub itself : (s : A) → Stays apply s s
  itself s = record { clean = λ clean. clean; same = refl; settled = λ clean p it. it; left = λ clean db may. may }

  then : (a b c : A) → Stays apply a b → Stays apply b c → Stays apply a c
  then a b c one two = record {
    clean = λ clean. one.clean (two.clean clean);
    same = two.same ∙ one.same;
    settled = λ clean p it. two.settled clean p (one.settled (two.clean clean) p it);
    left = λ clean db may. one.left (two.clean clean) db (two.left clean db may);
  }

  -- it is read
  pub rests : (visits : List Visit) (old mid new : A) → Sat apply old visits mid → Stays apply mid new
      → Sat apply old visits new
  unfolding Sat
  rests [] old mid new sat stays = then old mid new sat stays
  rests (v ∷ []) old mid new (before, behind, first, ran, last) stays = (
    before,
    behind,
    first,
    ran,
    then behind mid new last stays,
  )
  rests (v ∷ w ∷ vs) old mid new (before, behind, first, ran, same, more) stays =
      (before, behind, first, ran, same, rests (w ∷ vs) behind mid new more stays)

  -- one more list is run, where none has failed it
  pub grows : (visits : List Visit) (v : Visit) (old mid new : A) → Sat apply old visits mid
      → apply.has_failed mid ≡ apply.has_failed old
      → RunsVisit apply v mid new → Sat apply old (visits ++ v ∷ []) new
  unfolding Sat
  grows [] v old mid new sat works run = (mid, new, sat, run, itself new)
  grows (u ∷ []) v old mid new (before, behind, first, ran, last) works run =
      (before, behind, first, ran, sym last.same ∙ works ∙ sym first.same, (mid, new, last, run, itself new))
  grows (u ∷ w ∷ vs) v old mid new (before, behind, first, ran, same, more) works run =
      (before, behind, first, ran, same, grows (w ∷ vs) v behind mid new more (works ∙ sym first.same ∙ sym same) run)

  pub begins : (s : A) → Sat apply s [] s
  unfolding Sat
  begins s = itself s

  -- one more turn
  pub turns : (visits : List Visit) (old mid new : A) → apply.has_failed old ≡ false → Sat apply old visits mid
      → apply.has_failed mid ≡ false
      → IsDeskTurn apply mid new → (more : List Visit) × Sat apply old more new
  turns visits old mid new works sat here (inl stays) = (visits, rests visits old mid new sat stays)
  turns visits old mid new works sat here (inr (v, run)) =
      (visits ++ v ∷ [], grows visits v old mid new sat (here ∙ sym works) run)

  -- ---- as one run

  module _ (law : SettledIs apply) where
    -- what one list comes to: its readings, no fewer than were answered, what may be left, and, where it did not fail
    -- the session, that no more were read, and what it is settled for
    abbrev Came : Package → Visit → A → A → Type 0
    Came p v before behind = (readings : List Reading) × AreReadOf v readings × (answered_by v.result ≤ length readings)
        × AreFirstParts (shown apply behind) p (calls_of v.moment readings)
        (acknowledged_by p v.moment readings v.result)
        × (apply.has_failed before ≡ false → apply.has_failed behind ≡ apply.has_failed before
        → IsSound (apply.settled behind)
        (run p (calls_of v.moment readings)) × (length readings ≡ answered_by v.result))

    as_settled : (v : Visit) (before behind : A) → RunsVisit apply v before behind
        → KeepsRun v.moment (apply.is_clean behind) (apply.settled before) (Some v.bytes) (apply.has_failed before)
        (λ p. shown apply behind) v.old v.new
        v.result
    as_settled v before behind ran =
        settled_runs apply law v.moment (apply.is_clean behind) before behind (Some v.bytes) v.old v.new v.result
        ran.seen

    came_by : (result : Result Tally RunFault) (p : Package) (v : Visit) (before behind : A) → v.result ≡ result
        → RunsVisit apply v before behind
        → apply.is_clean behind → IsSound (apply.settled before) p → Came p v before behind
    came_by (Ok t) p v before behind is ran clean sound =
        let all = rw is at (as_settled v before behind ran).done clean p sound v.bytes refl in
        let n : length all.readings ≡ answered_by (Ok t) = as_many _ _ all.read ∙ sym all.all in (
          all.readings,
          whole _ _ all.read,
          subst (λ r. answered_by r ≤ length all.readings) (sym is) (omega (arith, n)),
          subst
              (λ r. AreFirstParts (shown apply behind) p (calls_of v.moment all.readings)
              (acknowledged_by p v.moment all.readings r))
              (sym is) all.left,
          λ works same. (all.stands, subst (λ r. length all.readings ≡ answered_by r) (sym is) n),
        )
    came_by (Err e) p v before behind is ran clean sound =
        let some = rw is at (as_settled v before behind ran).stopped clean p sound v.bytes refl in (
          some.readings,
          some.read,
          subst (λ r. answered_by r ≤ length some.readings) (sym is)
              (enough (WorksOn (apply.has_failed before) (shown apply behind)) (apply.has_failed behind ≡ true) p
              v.moment some.readings
              (e.tally.accepted + e.tally.refused) some.session),
          subst (λ r. AreFirstParts (shown apply behind) p (calls_of v.moment some.readings)
              (acknowledged_by p v.moment some.readings r)) (sym is) some.left,
          λ works same. elim some.session [
            | inl it ↦ (it.1.1, subst (λ r. length some.readings ≡ answered_by r) (sym is) it.0)
            | inr it ↦ absurd (let e : true ≡ false = sym it.0 ∙ same ∙ works in cc)
          ],
        )

    came : (p : Package) (v : Visit) (before behind : A) → RunsVisit apply v before behind → apply.is_clean behind
        → IsSound (apply.settled before) p
        → Came p v before behind
    came p v before behind = came_by v.result p v before behind refl

    pub one_run : (visits : List Visit) (p : Package) (old new : A) → Sat apply old visits new → apply.is_clean new
        → IsSound (apply.settled old) p
        → apply.has_failed old ≡ false
        → (calls : List Call) × (kept : ℕ) × IsSitting p visits calls kept
        × AreFirstParts (shown apply new) p calls kept
    unfolding Sat IsSitting
    one_run [] p old new sat clean sound works = (
      [],
      0,
      (refl, refl),
      λ db may. (
        p,
        ((law new p).0 (sat.settled clean p sound.0)).1 db may,
        record { count = 0; at_least = omega arith; at_most = omega arith; there = omega arith; is = refl },
        sound.1,
      ),
    )
    one_run (v ∷ []) p old new (before, behind, first, ran, last) clean sound works =
        let end = last.clean clean in
        let (readings, read, many, parts, goes) = came p v before behind ran end
        (kept_sound p old before first (ran.clean end) sound) in (
          calls_of v.moment readings,
          acknowledged_by p v.moment readings v.result,
          (readings, read, many, refl, refl),
          kept_left p _ _ behind new last clean parts,
        )
    one_run (v ∷ w ∷ vs) p old new (before, behind, first, ran, same, more) clean sound works =
        let end = clean_before (w ∷ vs) behind new more clean in
        let (readings, read, many, parts, goes) = came p v before behind ran end
        (kept_sound p old before first (ran.clean end) sound) in
        let start : apply.has_failed before ≡ false = first.same ∙ works in
        let (rest, count, is, left) = one_run (w ∷ vs) (run p (calls_of v.moment readings)) behind new more clean
        (goes start same).0 (same ∙ start) in (
          calls_of v.moment readings ++ rest,
          length (accepted p (calls_of v.moment readings)) + count,
          (readings, read, (goes start same).1, rest, count, is, refl, refl),
          λ db may. let (q, stands, part, meets) =
              left db may in (q, stands, first_part_after p q (calls_of v.moment readings) rest count part, meets),
        )
