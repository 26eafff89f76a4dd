-- What is shown since a session was as it was at first, and what that comes to where it was settled.
use Rattle.std.proofs.Common.{◌≡◌, ◌∙◌, ◌+◌, ℕ, List, Bool, Option, None, Some, Result, Ok, Err, inl, inr, refl, subst}
use Rattle.std.proofs.Common.{sym, true}
use Rattle.std.specs.Prelude.{◌↔◌}
use Rattle.csv.specs.declared.reader.Reader.{Reader}
use Rattle.mm_definitions.specs.Package.{Package}
use Rattle.mm_definitions.specs.Runs.{Call}
use Rattle.mm_definitions.specs.Step.{step}
use Rattle.mm_definitions.specs.Streams.{Written}
use Rattle.mm_definitions.specs.declared.answers.Answer.{Answer}
use Rattle.mm_definitions.specs.declared.answers.Answer.TheVariants as answers
use Rattle.mm_definitions.specs.declared.answers.RunFault.{RunFault}
use Rattle.mm_definitions.specs.declared.answers.Tally.{Tally}
use Rattle.mm_definitions.specs.declared.commands.Command.{Command}
use Rattle.mm_io.specs.Records.{Record}
use Rattle.mm_run.specs.Answers.{after}
use Rattle.mm_run.specs.Applied.{IsSound, LeavesEither}
use Rattle.mm_run.specs.Promised.{KeepsRun}
use Rattle.mm_run.specs.Runs.{AreFirstParts, IsAnswered, IsKept, OnSound, RanAll, RanSome, Turns, WorksOn}
use Rattle.mm_run.specs.Sessions.{shown, shown_since}
use Rattle.mm_run.specs.Shown.{Shown}
use Rattle.mm_run.specs.declared.apply.Apply.{Ghosts}
use Rattle.mm_run.proofs.Reports.{stops-behind}

-- What the one shows, the other shows too, by another account of what a database stands for.
pub record Eases {D : Type 0} (a b : Shown D) : Type 0 where
  pub failed : b.failed ≡ a.failed
  pub settled : (q : Package) → a.settled q → b.settled q
  pub left : (db : D) → b.may_leave db → a.may_leave db
  pub stands : (db : D) (q : Package) → a.stands_for db q → b.stands_for db q

module _ {D : Type 0} (a b : Shown D) (eases : Eases a b) where
  pub sound_eased : (q : Package) → IsSound a.settled q → IsSound b.settled q
  sound_eased q it = (eases.settled q it.0, it.1)

  pub either_eased : (p : Package) (c : Command) (moment : ℕ) → LeavesEither a p c moment → LeavesEither b p c moment
  either_eased p c moment it db may = elim (it db (eases.left db may)) [
    | inl was ↦ inl (eases.stands db p was)
    | inr next ↦ inr (next.0, eases.stands db (step p c moment) next.1)
  ]

  works_eased : (before : Bool) (p : Package) → WorksOn before a p → WorksOn before b p
  works_eased before p it = (eases.failed ∙ it.0, sound_eased p it.1)

  answered_eased : (fields : Record) (p : Package) (moment : ℕ) (before : Bool) (x : Answer)
      → IsAnswered fields p moment before x a
      → IsAnswered fields p moment before x b
  answered_eased fields p moment before answers.Ok h = (h.0, h.1, h.2, sound_eased (after p moment h.0) h.3)
  answered_eased fields p moment before (answers.Refused why) h = (h.0, h.1, h.2, sound_eased (after p moment h.0) h.3)
  answered_eased fields p moment before (answers.Fault fault) (inl works) = inl (works_eased before p works)
  answered_eased fields p moment before (answers.Fault fault) (inr h) =
      inr (eases.failed ∙ h.0, h.1, h.2, h.3, either_eased p h.1 moment h.4)

  pub turns_eased : {T : Type 0} (remaining : T → Option (List ℕ)) (x y : Reader T) (p : Package) (moment : ℕ)
      (before : Bool)
      (answer : Option Answer) → Turns remaining x y p moment before answer a
      → Turns remaining x y p moment before answer b
  turns_eased remaining x y p moment before None h = (h.0, h.1, sound_eased p h.2)
  turns_eased remaining x y p moment before (Some answers.Ok) h =
      (h.0, h.1, answered_eased h.0 p moment before answers.Ok h.2)
  turns_eased remaining x y p moment before (Some (answers.Refused why)) h =
      (h.0, h.1, answered_eased h.0 p moment before (answers.Refused why) h.2)
  turns_eased remaining x y p moment before (Some (answers.Fault fault)) (inl works) = inl (works_eased before p works)
  turns_eased remaining x y p moment before (Some (answers.Fault fault)) (inr h) =
      inr (h.0, h.1, answered_eased h.0 p moment before (answers.Fault fault) h.2)

  pub kept_eased : (before : Bool) → IsKept before a → IsKept before b
  kept_eased before it = (
    λ db may. let (q, stands, meets) = it.0 db (eases.left db may) in (q, eases.stands db q stands, meets),
    λ still. let (q, sound) = it.1 (sym eases.failed ∙ still) in (q, sound_eased q sound),
  )

  parts_eased : (p : Package) (calls : List Call) (acknowledged : ℕ) → AreFirstParts a p calls acknowledged
      → AreFirstParts b p calls acknowledged
  parts_eased p calls acknowledged it db may =
      let (q, stands, part, meets) = it db (eases.left db may) in (q, eases.stands db q stands, part, meets)

  ran-all_eased : (p : Package) (moment : ℕ) (bytes : List ℕ) (old new : Written) (t : Tally)
      → RanAll p moment bytes a old new t
      → RanAll p moment bytes b old new t
  ran-all_eased p moment bytes old new t it = record {
    readings = it.readings;
    read = it.read;
    text = it.text;
    counted = it.counted;
    all = it.all;
    written = it.written;
    stands = sound_eased _ it.stands;
    left = parts_eased p _ _ it.left;
  }

  ran-some_eased : (p : Package) (moment : ℕ) (bytes : List ℕ) (before : Bool) (old new : Written) (e : RunFault)
      → RanSome p moment bytes (WorksOn before a) (a.failed ≡ true) a old new e
      → RanSome p moment bytes (WorksOn before b) (b.failed ≡ true) b old new e
  ran-some_eased p moment bytes before old new e it = record {
    readings = it.readings;
    read = it.read;
    text = it.text;
    counted = it.counted;
    session =
        stops-behind p moment it.readings (e.tally.accepted + e.tally.refused) (WorksOn before a) (WorksOn before b)
        (a.failed ≡ true)
        (b.failed ≡ true) (works_eased before) (λ down. eases.failed ∙ down) it.session;
    left = parts_eased p _ _ it.left;
  }

module _ {A : Type 0} (ghosts : Ghosts A) where
  -- at first
  pub begins : (s : A) (p : Package) → IsSound (ghosts.seen s) p → IsSound (shown_since ghosts s p s).settled p
  begins s p sound = ((sound.0, λ db may. inl (may, refl)), sound.1)

  -- what is shown since a session between is shown since the first one
  pub since : (first : A) (was : Package) (mid : A) (q : Package) → (shown_since ghosts first was mid).settled q
      → (new : A)
      → Eases (shown_since ghosts mid q new) (shown_since ghosts first was new)
  since first was mid q here new = record {
    failed = refl;
    settled = λ r it. (it.0, λ db may. on db r (it.1 db may));
    left = λ db may. may;
    stands = on;
  }
    where
      on : (db : ghosts.Database) (r : Package) → (shown_since ghosts mid q new).stands_for db r
          → (shown_since ghosts first was new).stands_for db r
      on db r (inl at) = subst (λ x. (shown_since ghosts first was new).stands_for db x) (sym at.1) (here.1 db at.0)
      on db r (inr stands) = inr stands

  -- one turn more
  pub turns_since : {T : Type 0} (remaining : T → Option (List ℕ)) (x y : Reader T) (first : A) (was : Package)
      (mid new : A) (moment : ℕ)
      (before : Bool) (answer : Option Answer)
      → ((q : Package) → IsSound (ghosts.seen mid) q → Turns remaining x y q moment before answer
      (shown_since ghosts mid q new))
      → (q : Package) → IsSound (shown_since ghosts first was mid).settled q
      → Turns remaining x y q moment before answer (shown_since ghosts first was new)
  turns_since remaining x y first was mid new moment before answer turn q sound =
      turns_eased (shown_since ghosts mid q new) (shown_since ghosts first was new) (since first was mid q sound.0 new)
      remaining x y q moment
      before answer (turn q (sound.0.0, sound.1))

  pub kept_since : (first mid new : A) → (ghosts.is_clean new → ghosts.is_clean mid)
      → ghosts.has_failed mid ≡ ghosts.has_failed first
      → OnSound (ghosts.is_clean mid) (ghosts.seen first)
      (λ p. IsKept (ghosts.has_failed first) (shown_since ghosts first p mid))
      → OnSound (ghosts.is_clean new) (ghosts.seen mid)
      (λ q. IsKept (ghosts.has_failed mid) (shown_since ghosts mid q new))
      → OnSound (ghosts.is_clean new) (ghosts.seen first)
      (λ p. IsKept (ghosts.has_failed first) (shown_since ghosts first p new))
  kept_since first mid new early same so_far turn is p sound =
      let (q, stands) = (so_far (early is) p sound).1 same in
      subst (λ b. IsKept b (shown_since ghosts first p new)) same
      (kept_eased (shown_since ghosts mid q new) (shown_since ghosts first p new) (since first p mid q stands.0 new)
      (ghosts.has_failed mid)
      (turn is q (stands.0.0, stands.1)))

  -- ---- a session that is settled

  -- it is seen as the package, and each database that may be left stands for it
  abbrev pub SettledIs : Type 0
  SettledIs = (s : A) (p : Package)
      → ghosts.settled s p ↔ (ghosts.seen s p × ((db : ghosts.Database) → ghosts.may_leave s db
      → ghosts.stands_for db p))

  module _ (law : SettledIs) where
    -- what is shown since it was settled is settled
    pub settles : (first : A) (was : Package) → ghosts.settled first was → (new : A)
        → Eases (shown_since ghosts first was new) (shown ghosts new)
    settles first was settled new = record {
      failed = refl;
      settled = λ q it. (law new q).1 (it.0, λ db may. on db q (it.1 db may));
      left = λ db may. may;
      stands = on;
    }
      where
        on : (db : ghosts.Database) (q : Package) → (shown_since ghosts first was new).stands_for db q
            → ghosts.stands_for db q
        on db q (inl at) = subst (λ x. ghosts.stands_for db x) (sym at.1) (((law first was).0 settled).1 db at.0)
        on db q (inr stands) = stands

    pub sound_seen : (s : A) (p : Package) → IsSound (ghosts.settled s) p → IsSound (ghosts.seen s) p
    sound_seen s p sound = (((law s p).0 sound.0).0, sound.1)

    -- What is promised of a session that reads as a package holds of one that is settled for it.
    pub settled_runs : (moment : ℕ) (clean : Type 0) (old new : A) (told : Option (List ℕ))
        (output output_now : Written)
        (result : Result Tally RunFault)
        → KeepsRun moment clean (ghosts.seen old) told (ghosts.has_failed old) (λ p. shown_since ghosts old p new)
        output output_now result
        → KeepsRun moment clean (ghosts.settled old) told (ghosts.has_failed old) (λ p. shown ghosts new) output
        output_now result
    settled_runs moment clean old new told output output_now (Ok t) it = record {
      done = λ is p sound bytes here.
          ran-all_eased (shown_since ghosts old p new) (shown ghosts new) (settles old p sound.0 new) p moment bytes
          output output_now t
          (it.done is p (sound_seen old p sound) bytes here);
      stopped = tt;
      kept = λ is p sound.
          kept_eased (shown_since ghosts old p new) (shown ghosts new) (settles old p sound.0 new)
          (ghosts.has_failed old)
          (it.kept is p (sound_seen old p sound));
    }
    settled_runs moment clean old new told output output_now (Err e) it = record {
      done = tt;
      stopped = λ is p sound bytes here.
          ran-some_eased (shown_since ghosts old p new) (shown ghosts new) (settles old p sound.0 new) p moment bytes
          (ghosts.has_failed old)
          output output_now e (it.stopped is p (sound_seen old p sound) bytes here);
      kept = λ is p sound.
          kept_eased (shown_since ghosts old p new) (shown ghosts new) (settles old p sound.0 new)
          (ghosts.has_failed old)
          (it.kept is p (sound_seen old p sound));
    }
