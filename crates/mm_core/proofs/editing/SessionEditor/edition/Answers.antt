use Rattle.std.proofs.Common.{inl, inr, refl, sym, subst}
use Rattle.std.proofs.lemmas.Bool.{cases_Bool}
use Rattle.sqlite.specs.Held.{state}
use Rattle.mm_definitions.specs.Bounds.{current}
use Rattle.mm_store.specs.Seen.{IsSeenAs}
use Rattle.mm_core.specs.Parts.{connection, must_reopen}
use Rattle.mm_core.proofs.editing.SessionEditor.edition.Goals as goal

pub returns-clause-settled : goal.returns-clause-settled
returns-clause-settled g c clean p seen meets = elim (cases_Bool (must_reopen c.args.self.now)) [
  | inl failed ↦
      let same = (c.edition.ensures.ended failed).1 in (
        subst (λ s. IsSeenAs current (state g.S.Store (connection s)) p) (sym same) seen,
        λ db may. inl (subst (λ s. (state g.S.Store (connection s)).may_leave db) same may, refl),
      )
  | inr works ↦
      let it = c.edition.ensures.read works in (
        it.seen clean p seen,
        λ db may. elim (it.survives.crash clean db may)
            [ inl was ↦ inl (was, refl) | inr none ↦ absurd none ],
      )
]
