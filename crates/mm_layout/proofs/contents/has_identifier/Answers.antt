use Rattle.std.proofs.Common.{[], ◌∷◌, rules}
use Rattle.mm_store.proofs.Entries.{identified_is}
use Rattle.sqlite.specs.declared.types.Value.TheVariants.{Text as Words}
use Rattle.mm_store.proofs.Selecting as statement
use Rattle.mm_store.proofs.Steps.{asks_any}
use Rattle.mm_layout.proofs.contents.has_identifier.Goals as goal

pub returns : goal.returns
returns g c =
    asks_any statement.has_identifier c.exists.ensures (Words c.args.identifier.now ∷ []) (search rules)
    (λ version p db h. identified_is p (db 1) h.contents c.args.identifier.now)
