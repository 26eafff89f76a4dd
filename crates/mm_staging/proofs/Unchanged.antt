-- A command that is accepted and changes nothing.
use Rattle.std.proofs.Common.{◌≡◌, ℕ, None, Ok}
use Rattle.std.specs.Prelude.{⊤}
use Rattle.sqlite.specs.Store.{Ghosts}
use Rattle.sqlite.specs.declared.transaction.Transaction.{Transaction}
use Rattle.mm_definitions.specs.Bounds.{Profile}
use Rattle.mm_definitions.specs.Package.{Package}
use Rattle.mm_definitions.specs.Rules.{Meets}
use Rattle.mm_definitions.specs.Step.{refusal, step}
use Rattle.mm_definitions.specs.declared.answers.Outcome.TheVariants.{Done}
use Rattle.mm_definitions.specs.declared.commands.Command.{Command}
use Rattle.mm_store.specs.Handed.{Goes, Applies}
use Rattle.mm_store.proofs.Going.{goes_given, goes_as}

pub applies_unchanged : {S T : Type 0} {g : Ghosts S} {a b : Transaction S} {c : Command}
    {Says : Profile → Package → T → Type 0} {x : T} → Goes g a b (λ profile p. ⊤) (λ p it. p) Says (Ok x)
    → ((moment : ℕ) (profile : Profile) (p : Package) → Meets profile p → Says profile p x → (refusal p c ≡ None)
    × (step p c moment ≡ p)) → Applies g a b c (Ok Done)
applies_unchanged h finds = record {
  goes = λ moment. goes_as (goes_given h (λ profile p meets. tt))
      (λ profile p meets says. let f = finds moment profile p meets says in (f.1, f.0));
}
