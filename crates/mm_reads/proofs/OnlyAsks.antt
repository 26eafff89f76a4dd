-- The text of the list of mapping rows is a query, whatever the schema.
use Rattle.std.proofs.Common.{refl}
use Rattle.sqlite.specs.Schema.{Schema}
use Rattle.sql_forms.specs.Compute.{everything}
use Rattle.mm_walk.specs.Walk.{OnlyAsks}
use Rattle.mm_walk.proofs.Quiet as asking
use Rattle.mm_walk.proofs.Quiet.{IsQuiet}
use Rattle.mm_reads.proofs.Asked.{listed_text}

quiet : IsQuiet listed_text
unfolding everything
quiet = λ schema base. refl

pub only_asks : (schema : Schema) → OnlyAsks schema listed_text
only_asks = asking.only_asks listed_text quiet
