-- What a walk leaves of the package that a connection reads as.
use Rattle.std.proofs.Common.{inl, inr, ℕ, List, Bool, true, false, Result, Ok, Err, sym, subst, ◌∙◌}
use Rattle.sqlite.specs.Order.{Row}
use Rattle.sqlite.specs.State.{State}
use Rattle.mm_definitions.specs.Bounds.{Profile}
use Rattle.mm_definitions.specs.Package.{Package}
use Rattle.mm_definitions.specs.declared.answers.Fault.{Fault}
use Rattle.mm_store.specs.Stands.{ReadsAs}
use Rattle.mm_store.specs.Seen.{IsSeenAs}
use Rattle.mm_walk.specs.Walk.{Rests, Ends}

-- a connection that rests reads as before
pub seen_still : (profile : Profile) (old new : State) (p : Package) → Rests old new → IsSeenAs profile old p
    → IsSeenAs profile new p
seen_still profile old new p (inl same) it = record {
  mode = same.0.mode ∙ it.mode;
  back = λ up. subst (λ d. ReadsAs profile.version d p) (sym same.0.committed_is) (it.back same.0.was_open);
  reads = λ up. subst (λ d. ReadsAs profile.version d p) (sym same.0.now_is) (it.reads same.0.was_open);
}
seen_still profile old new p (inr undone) it = record {
  mode = undone.autocommit;
  back = λ up. subst (λ d. ReadsAs profile.version d p) (sym (undone.undone up).1) (it.back (undone.was_open up));
  reads = λ up. subst (λ d. ReadsAs profile.version d p) (sym (undone.undone up).0) (it.back (undone.was_open up));
}

-- however it ends, the connection rests
pub ends_rest : {V : Type 0} (takes : V → Row → V → Result Bool Fault → Type 0) (sql : List ℕ) (params : Row)
    (old new : State) (v w : V) (result : Result Bool Fault) → Ends takes sql params old new v w result → Rests old new
ends_rest takes sql params old new v w (Ok true) it = inl it.same
ends_rest takes sql params old new v w (Ok false) it = inl it.same
ends_rest takes sql params old new v w (Err fault) (inl it) = inl it.same
ends_rest takes sql params old new v w (Err fault) (inr it) = it.rests
