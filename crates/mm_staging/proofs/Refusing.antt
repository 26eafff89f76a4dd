-- For which number a command on an edition is refused, from how the edition stands.
use Rattle.std.proofs.Common.{◌≡◌, ℕ, not, ◌&&◌, [], ◌∷◌, Option, Some, None, is_some, sym, ap}
use Rattle.std.specs.FinMap.{get}
use Rattle.mm_definitions.specs.Keys.{Text, same_text}
use Rattle.mm_definitions.specs.Parts.{at_value}
use Rattle.mm_definitions.specs.Package.{Package, open_state, published_state}
use Rattle.mm_definitions.specs.Conditions.{least, own_reasons}
use Rattle.mm_definitions.specs.declared.commands.Command.TheVariants as commands

-- why an edition that stands so is not one that takes pieces
abbrev of_closed : Option Text → Option ℕ
of_closed v = least ((51, not (is_some v)) ∷ (55, is_some v && not (at_value (same_text open_state) v)) ∷ [])

module _ (p : Package) (edition : Text) where
  pub closed_51 : get p.editions edition ≡ None → Some 51 ≡ least (own_reasons p (commands.Discard edition))
  closed_51 is = sym (ap of_closed is)

  pub closed_55 : get p.editions edition ≡ Some published_state
      → Some 55 ≡ least (own_reasons p (commands.Discard edition))
  closed_55 is = sym (ap of_closed is)

  pub closed_not : get p.editions edition ≡ Some open_state → None ≡ least (own_reasons p (commands.Discard edition))
  closed_not is = sym (ap of_closed is)

  pub taken_50 : {state : Text} → get p.editions edition ≡ Some state → least (own_reasons p (commands.Edition edition))
      ≡ Some 50
  taken_50 is = ap (λ v. least ((50, is_some v) ∷ [])) is

  pub free_50 : get p.editions edition ≡ None → least (own_reasons p (commands.Edition edition)) ≡ None
  free_50 is = ap (λ v. least ((50, is_some v) ∷ [])) is
