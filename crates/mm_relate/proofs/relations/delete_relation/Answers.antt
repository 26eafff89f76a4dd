use Rattle.std.proofs.Common.{rules}
use Rattle.sqlite.specs.declared.types.Value.TheVariants.{Text as Words}
use Rattle.mm_store.proofs.Cascading as statement
use Rattle.mm_store.specs.Kept.{no_spare}
use Rattle.mm_store.proofs.Removals.{drops_relation}
use Rattle.mm_store.proofs.Steps.{cascades}
use Rattle.mm_relate.proofs.relations.delete_relation.Goals as goal

pub returns : goal.returns
returns g c =
    let mapping = c.args.mapping.now in
    cascades c.run.ensures statement.delete_relation (Words mapping) (search rules)
    (λ version db p h any. drops_relation mapping no_spare no_spare version db p h (λ z spared. spared))
