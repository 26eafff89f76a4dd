-- The text of the list is a query, whatever the schema.
use Rattle.std.proofs.Common.{refl}
use Rattle.sqlite.specs.Schema.{Schema}
use Rattle.sql_forms.specs.Compute.{everything}
use Rattle.mm_walk.specs.Walk.{OnlyAsks}
use Rattle.mm_walk.proofs.Quiet.{IsQuiet, only_asks}
use Rattle.mm_reads.proofs.Listed.{list_text}

quiet : IsQuiet list_text
unfolding everything
quiet = λ schema base. refl

pub list_asks : (schema : Schema) → OnlyAsks schema list_text
list_asks = only_asks list_text quiet
