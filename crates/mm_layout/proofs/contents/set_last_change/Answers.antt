use Rattle.std.proofs.Common.{[], ◌∷◌, rules, refl}
use Rattle.sqlite.specs.declared.types.Value.TheVariants.{Text as Words}
use Rattle.mm_store.proofs.Updating as statement
use Rattle.mm_store.proofs.Steps.{updates}
use Rattle.mm_store.proofs.Going.{goes_as, goes_less, next_change}
use Rattle.mm_layout.proofs.Stamped.{touched_already}
use Rattle.mm_layout.proofs.Touching.{touches}
use Rattle.mm_layout.proofs.contents.set_last_change.Goals as goal

pub returns-then-branch : goal.returns-then-branch
returns-then-branch g c =
    goes_as c.in_ok-is_stamped.ensures
    (λ profile p when says. (touched_already p c.args.table.now c.args.last_change.now (says c.if-branch.true), tt))

pub returns : goal.returns
returns g c =
    let table = c.args.table.now in
    let at = c.args.last_change.now in
    goes_less (next_change c.in_ok-is_stamped.ensures
    (updates c.run.ensures statement.touch (Words table ∷ Words at ∷ []) (search rules)
    (λ version db p h any. touches version db p h table at))) (λ profile p it when says. (refl, tt))
