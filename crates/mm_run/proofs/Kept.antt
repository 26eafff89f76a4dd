-- What a session keeps of the rules, whatever the reader tells.
use Rattle.std.proofs.Common.{◌∙◌, inl, inr, ℕ, Bool, sym}
use Rattle.mm_definitions.specs.Bounds.{current}
use Rattle.mm_definitions.specs.Package.{Package}
use Rattle.mm_definitions.specs.Rules.{Meets}
use Rattle.mm_definitions.specs.Step.{step}
use Rattle.mm_definitions.specs.declared.answers.Answer.{Answer}
use Rattle.mm_definitions.specs.declared.answers.Answer.TheVariants as answers
use Rattle.mm_io.specs.Records.{Record}
use Rattle.mm_run.specs.Answers.{after}
use Rattle.mm_run.specs.Applied.{IsSound, LeavesOnly, TellsReopening}
use Rattle.mm_run.specs.Runs.{IsAnswered, IsKept}
use Rattle.mm_run.specs.Shown.{Shown}

module _ {D : Type 0} (shows : Shown D) (law : (q : Package) → shows.settled q → LeavesOnly shows q) where
  -- a session at rest
  pub kept-sound : (before : Bool) (p : Package) → IsSound shows.settled p → IsKept before shows
  kept-sound before p sound = (λ db may. (p, law p sound.0 db may, sound.1), λ _. (p, sound))

  -- a record was read and answered
  pub kept-answered : (fields : Record) (p : Package) (moment : ℕ) (before : Bool) (x : Answer) (same : Type 0)
      → Meets current p
      → (same → shows.settled p) → TellsReopening before shows.failed same x
      → IsAnswered fields p moment before x shows → IsKept before shows
  kept-answered fields p moment before answers.Ok same meets back tells h = kept-sound before (after p moment h.0) h.3
  kept-answered fields p moment before (answers.Refused why) same meets back tells h =
      kept-sound before (after p moment h.0) h.3
  kept-answered fields p moment before (answers.Fault fault) same meets back tells (inl works) =
      kept-sound before p works.1
  kept-answered fields p moment before (answers.Fault fault) same meets back tells (inr doubt) = (
    λ db may. elim (doubt.4 db may) [ inl was ↦ (p, was, meets) | inr next ↦ (step p doubt.1 moment, next.1, doubt.3) ],
    λ still. (p, (back (tells.3 (sym still ∙ doubt.0)), meets)),
  )
