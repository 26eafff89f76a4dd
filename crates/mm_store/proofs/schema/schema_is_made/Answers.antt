use Rattle.mm_store.proofs.Creating.{all_made}
use Rattle.mm_store.proofs.schema.schema_is_made.Goals as goal

pub returns : goal.returns
returns c = all_made
