-- For which number `srs` is refused.
use Rattle.std.proofs.Common.{◌≡◌, ℤ, true, false, Some, None, refl}
use Rattle.std.specs.FinMap.{contains_key}
use Rattle.mm_definitions.specs.Keys.{Text}
use Rattle.mm_definitions.specs.Package.{Package}
use Rattle.mm_definitions.specs.Step.{refusal}
use Rattle.mm_definitions.specs.declared.commands.Command.TheVariants as commands
use Rattle.mm_definitions.proofs.RefusalFacts.{refused, refused_for, accepted_for}

module _ (p : Package) (id organization_id : ℤ) (name organization definition description : Text) where
  pub srs_taken : contains_key p.systems id ≡ true
      → refusal p (commands.Srs id name organization organization_id definition description) ≡ Some (refused 20)
  srs_taken is = refused_for _ 20 (rw is refl)

  pub srs_free : contains_key p.systems id ≡ false
      → refusal p (commands.Srs id name organization organization_id definition description) ≡ None
  srs_free is = accepted_for _ (rw is refl)
