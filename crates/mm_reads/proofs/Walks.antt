-- The two walks of a listing.
use Rattle.std.proofs.Common.{ℕ, Bool, List, [], Option, Result, refl}
use Rattle.sql_forms.specs.Values.TheVariants.{Null}
use Rattle.sqlite.specs.Order.{Row}
use Rattle.sqlite.specs.Query.{IsAnswer}
use Rattle.sqlite.specs.State.{State}
use Rattle.sqlite.proofs.Callers.{reads_as, begins_as}
use Rattle.sql_forms.specs.Program.{overlay}
use Rattle.sql_forms.specs.Compute.{everything}
use Rattle.sql_forms.specs.Forms.{query, no_limit}
use Rattle.sql_forms.specs.Tables.{tables_of}
use Rattle.sql_forms.proofs.Queries.{no_overlay}
use Rattle.mm_store.specs.Tables.{schema}
use Rattle.mm_definitions.specs.Bounds.{Profile}
use Rattle.mm_definitions.specs.Package.{Package}
use Rattle.mm_definitions.specs.declared.answers.Fault.{Fault}
use Rattle.mm_store.specs.Seen.{IsSeenAs}
use Rattle.mm_walk.specs.Walk.{Ends, IsWalk}
use Rattle.mm_walk.proofs.Quiet.{IsQuiet, only_asks}
use Rattle.mm_reads.specs.Listing.{table_lines, editions}
use Rattle.mm_reads.specs.ShownLines.{ShowsTable, ShowsEdition}
use Rattle.mm_reads.specs.Writing.{TakesLine, IsWritten, IsListed}
use Rattle.mm_reads.proofs.Written.{done_of, written, listed}
use Rattle.mm_reads.proofs.TableLines as table
use Rattle.mm_reads.proofs.TableLines.{tables_text, list_tables, tables_front}
use Rattle.mm_reads.proofs.EditionLines as edition
use Rattle.mm_reads.proofs.EditionLines.{editions_text, list_editions, editions_front}
use Rattle.mm_definitions.specs.Streams.{written_as}

quiet_tables : IsQuiet tables_text
unfolding everything
quiet_tables = λ schema base. refl

quiet_editions : IsQuiet editions_text
unfolding everything
quiet_editions = λ schema base. refl

module _ {V : Type 0} (takes : V → Row → V → Result Bool Fault → Type 0) (held : V → Option (List ℕ))
    (failed : V → Bool) where
  module _ (writes : (v u : V) (row : Row) (result : Result Bool Fault) → takes v row u result
      → TakesLine ShowsTable (written_as (held v) (failed v)) (written_as (held u) (failed u)) row result)
      (old new : State) (v w : V) (profile : Profile) where
    tables_written : (p : Package) → IsSeenAs profile old p → (result : Result Bool Fault)
        → Ends takes tables_text [] old new v w result
        → IsWritten (held v) (held w) (table_lines p) (done_of result)
    tables_written p s result =
        written ShowsTable takes held failed writes tables_text old new v w
        (IsAnswer (query table.joined [] table.shown table.by_name no_limit) (overlay old.now.trees []) [])
        (λ up rows shown. (reads_as tables_text [] old new schema (s.reads up).schema_is _ list_tables.compiled
        list_tables.plain list_tables.unlisted rows shown).answer Null)
        (λ up rows begun. let start = begins_as tables_text [] old old schema (s.reads up).schema_is _
        list_tables.compiled list_tables.plain list_tables.unlisted rows begun in (start.1.0, start.1.1 Null))
        (table_lines p)
        (λ up rows tail a text each.
        let stands = (s.reads up).stands in
        let trees = old.now.trees in
        tables_front profile.version p (tables_of schema trees) stands.holds (λ t. (stands.rows t).rise)
        (overlay trees []) (no_overlay trees 1) (no_overlay trees 13) (no_overlay trees 15) (no_overlay trees 17)
        (no_overlay trees 19) rows tail a text each)
        result

    pub tables_listed : (result : Result Bool Fault) → IsWalk takes tables_text [] old new v w result
        → IsListed profile table_lines old new (written_as (held v) (failed v)) (written_as (held w) (failed w))
        (done_of result)
    tables_listed result it = listed ShowsTable takes held failed writes tables_text old new v w profile table_lines
        (only_asks tables_text quiet_tables old.now.schema) tables_written result it

  module _ (writes : (v u : V) (row : Row) (result : Result Bool Fault) → takes v row u result
      → TakesLine ShowsEdition (written_as (held v) (failed v)) (written_as (held u) (failed u)) row result)
      (old new : State) (v w : V) (profile : Profile) where
    editions_written : (p : Package) → IsSeenAs profile old p → (result : Result Bool Fault)
        → Ends takes editions_text [] old new v w result
        → IsWritten (held v) (held w) (editions p) (done_of result)
    editions_written p s result =
        written ShowsEdition takes held failed writes editions_text old new v w
        (IsAnswer (query edition.joined [] edition.shown table.by_name no_limit) (overlay old.now.trees []) [])
        (λ up rows shown. (reads_as editions_text [] old new schema (s.reads up).schema_is _ list_editions.compiled
        list_editions.plain list_editions.unlisted rows shown).answer Null)
        (λ up rows begun. let start = begins_as editions_text [] old old schema (s.reads up).schema_is _
        list_editions.compiled list_editions.plain list_editions.unlisted rows begun in (start.1.0, start.1.1 Null))
        (editions p)
        (λ up rows tail a text each.
        let stands = (s.reads up).stands in
        let trees = old.now.trees in
        editions_front profile.version p (tables_of schema trees) stands.holds (λ t. (stands.rows t).rise)
        (overlay trees []) (no_overlay trees 23) (no_overlay trees 25) rows tail a text each)
        result

    pub editions_listed : (result : Result Bool Fault) → IsWalk takes editions_text [] old new v w result
        → IsListed profile editions old new (written_as (held v) (failed v)) (written_as (held w) (failed w))
        (done_of result)
    editions_listed result it = listed ShowsEdition takes held failed writes editions_text old new v w profile editions
        (only_asks editions_text quiet_editions old.now.schema) editions_written result it
