-- A session as a thing that commands are applied to.
use Rattle.std.proofs.Common.{◌≡◌, ◌⊎◌, inl, inr, ℕ, Bool, true, false, refl, subst, arith}
use Rattle.std.proofs.lemmas.Bool.{cases_Bool}
use Rattle.sqlite.specs.Tree.{Trees}
use Rattle.sqlite.specs.State.{State, HasCleanDisk}
use Rattle.mm_definitions.specs.Bounds.{current}
use Rattle.mm_definitions.specs.Package.{Package}
use Rattle.mm_definitions.specs.Rules.{Meets}
use Rattle.mm_definitions.specs.declared.answers.Answer.{Answer}
use Rattle.mm_definitions.specs.declared.answers.Answer.TheVariants as answer
use Rattle.mm_definitions.specs.declared.commands.Command.{Command}
use Rattle.mm_definitions.specs.declared.commands.Command.TheVariants as commands
use Rattle.mm_definitions.specs.CommandGroups.{rehearses}
use Rattle.mm_definitions.specs.Step.{step}
use Rattle.mm_laws.proofs.Closed.{rehearse_same}
use Rattle.mm_store.specs.Seen.{IsSeenAs}
use Rattle.mm_store.specs.Stands.{IsSettled}
use Rattle.mm_run.specs.Applied as run
use Rattle.mm_run.specs.Shown.{Shown}
use Rattle.mm_run.specs.declared.apply.Apply as apply
use Rattle.mm_run.proofs.Since.{SettledIs}
use Rattle.mm_core.specs.Applied.{IsAppliedTo, IsSeenFor, StandsForCurrent}
use Rattle.mm_core.specs.Parts.{connection, must_reopen}
use Rattle.mm_core.specs.declared.session.Session.{Session}
use Rattle.sqlite.specs.Held.{state}
use Rattle.sqlite.specs.Store.{Ghosts}

-- what a session is as a thing that commands are applied to
abbrev pub session : {S : Type 0} (g : Ghosts S) → apply.Ghosts (Session S g)
session g = record {
  Database = Trees;
  stands_for = StandsForCurrent;
  may_leave = λ s db. (state g (connection s)).may_leave db;
  is_clean = λ s. HasCleanDisk (state g (connection s));
  settled = λ s p. IsSettled current (state g (connection s)) p;
  seen = λ s p. IsSeenAs current (state g (connection s)) p;
  has_failed = λ s. must_reopen s;
}

-- it is settled for a package where it is seen as it, and each database that may be left stands for it
pub session_settled : {S : Type 0} (g : Ghosts S) → SettledIs (session g)
session_settled g s p = (
  λ it. (record { mode = it.mode; back = it.back; reads = it.reads }, it.left),
  λ it. record { mode = it.0.mode; back = it.0.back; reads = it.0.reads; left = it.1 },
)

module _ (old new : State) (c : Command) (moment : ℕ) (a : Answer) where
  pub clean_so : (failed : Bool) → (failed ≡ true → new ≡ old) → (failed ≡ false → IsAppliedTo c moment old new a)
      → HasCleanDisk new → HasCleanDisk old
  clean_so true ended applied clean = subst HasCleanDisk (ended refl) clean
  clean_so false ended applied clean = let h = (applied refl).survives.clean in omega (arith, h)

-- a rehearsal leaves the package
only_rehearsed : (p : Package) (c : Command) (moment : ℕ) → rehearses c ≡ true → step p c moment ≡ p
only_rehearsed p (commands.Rehearse edition) moment is = rehearse_same p edition moment
only_rehearsed p _ moment is = absurd (let e : false ≡ true = is in cc)

-- A session that reads as a package, whatever a crash would leave: a database stands for a package, or it might be left
-- before, and the package is that one.
module _ (old new : State) (c : Command) (moment : ℕ) (p : Package) (reopen : Bool) where
  abbrev Stands : Trees → Package → Type 0
  Stands db q = (old.may_leave db × (q ≡ p)) ⊎ StandsForCurrent db q

  abbrev shown_now : Shown Trees
  shown_now = record {
    failed = reopen;
    settled = λ q. IsSeenAs current new q × ((db : Trees) → new.may_leave db → Stands db q);
    may_leave = λ db. new.may_leave db;
    stands_for = Stands;
  }

  answered_so : (a : Answer) → IsAppliedTo c moment old new a → HasCleanDisk new → IsSeenFor old p
      → run.IsApplied p c moment a shown_now
  answered_so answer.Ok it clean ready =
      let (free, seen, lasting) = it.seen clean p ready in (
        free,
        (
          seen,
          λ db may. elim (cases_Bool (rehearses c)) [
            | inl only ↦ elim (it.survives.crash clean db may) [
              | inl before ↦ inl (before, only_rehearsed p c moment only)
              | inr done ↦ inr ((done p ready).1)
            ]
            | inr lasts ↦ inr ((lasting lasts).left db may)
          ],
        ),
      )
  answered_so (answer.Refused why) it clean ready =
      let (is, seen) = it.seen clean p ready in (
        is,
        (
          seen,
          λ db may. elim (it.survives.crash clean db may)
              [ inl before ↦ inl (before, refl) | inr none ↦ absurd none ],
        ),
      )
  answered_so (answer.Fault fault) it clean ready = λ db may. elim (it.survives.crash clean db may) [
    | inl before ↦ inl (inl (before, refl))
    | inr done ↦ let next = done p ready in inr (next.0, inr next.1)
  ]

  pub applied_seen : (a : Answer) (failed : Bool)
      → (failed ≡ true → (a ≡ answer.Fault (record { 0 = 92 })) × (new ≡ old))
      → (failed ≡ false → IsAppliedTo c moment old new a)
      → HasCleanDisk new → IsSeenAs current old p → Meets current p
      → run.IsApplied p c moment a shown_now
  applied_seen a true ended applied clean seen meets =
      let it = ended refl in
      rw it.0 (λ db may. inl (inl (subst (λ (s : State). s.may_leave db) it.1 may, refl)))
  applied_seen a false ended applied clean seen meets = answered_so a (applied refl) clean
      (record { seen = seen; meets = meets })
