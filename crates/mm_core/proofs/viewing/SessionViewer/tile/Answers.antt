use Rattle.std.proofs.Common.{inl, inr, sym, subst}
use Rattle.std.proofs.lemmas.Bool.{cases_Bool}
use Rattle.sqlite.specs.Held.{state}
use Rattle.mm_core.specs.Parts.{connection, must_reopen}
use Rattle.mm_reads.specs.Viewers.{LeavesPackage}
use Rattle.mm_reads.proofs.Leaving.{leaves_by, leaves_same}
use Rattle.mm_core.proofs.viewing.SessionViewer.tile.Goals as goal

pub returns-clause-kept : goal.returns-clause-kept
returns-clause-kept g c = elim (cases_Bool (must_reopen c.args.self.now)) [
  | inl failed ↦
      subst (λ s. LeavesPackage (state g.S.Store (connection c.args.self.now)) (state g.S.Store (connection s)))
      (sym (c.tile.ensures.ended failed).1)
      (leaves_same (state g.S.Store (connection c.args.self.now)))
  | inr works ↦ leaves_by _ _ _ _ (c.tile.ensures.read works)
]
