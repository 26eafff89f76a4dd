-- The listing of a package.
use Rattle.std.specs.Prelude.{ℕ, ◌++◌, [], if◌then◌else◌, ◌||◌, Option, Some, None, unwrap_or, flat_map}
use Rattle.std.specs.FinMap.{get, entries, len, retain_keys}
use Rattle.mm_definitions.specs.Keys.{Text, same_text}
use Rattle.mm_definitions.specs.Package.{Package, Contents, kind_text, open_state}
use Rattle.mm_definitions.specs.Conditions.{piece_count}
use Rattle.mm_definitions.specs.declared.commands.Kind.TheVariants.{Two, Other, Attributes, Media}
use Rattle.mm_reads.specs.Lines.{table_text, open_text, published_text}

-- which of three a table has, by its kind
abbrev pub by_kind : {A : Type 0} → Text → A → A → A → Option A
by_kind kind tiles rows media =
    if same_text kind (kind_text Two) || same_text kind (kind_text Other) then Some tiles else
    (if same_text kind (kind_text Attributes) then Some rows
    else (if same_text kind (kind_text Media) then Some media else None))

-- how many tiles the table has
abbrev pub tile_count : Package → Text → ℕ
tile_count p table = len (retain_keys p.tiles (λ k. same_text k.table table))

-- how many attribute rows it has
abbrev pub row_count : Package → Text → ℕ
row_count p table = len (retain_keys p.rows (λ k. same_text k.table table))

-- how many media it has
abbrev pub medium_count : Package → Text → ℕ
medium_count p table = len (retain_keys p.media (λ k. same_text k.table table))

-- as the registry has it
abbrev pub kind_of : Package → Text → Text
kind_of p table = unwrap_or (get p.kinds table) []

-- how many tiles, rows or media the table has
abbrev pub count_of : Package → Text → ℕ
count_of p table = unwrap_or (by_kind (kind_of p table) (tile_count p table) (row_count p table) (medium_count p table))
    0

-- the line of a table, by its name and its contents row
abbrev pub table_line : Package → Text × Contents → Text
table_line p (table, c) = table_text table (kind_of p table) (count_of p table) c.last_change c.identifier

-- the line of an edition, by its name and its state
abbrev pub edition_line : Package → Text × Text → Text
edition_line p (name, state) = if same_text state open_state then open_text name (piece_count p name)
    else published_text name

-- by rising name
abbrev pub table_lines : Package → Text
table_lines p = flat_map (table_line p) (entries p.contents)

-- the lines of the editions, by rising name
abbrev pub editions : Package → Text
editions p = flat_map (edition_line p) (entries p.editions)

-- the lines of the tables, and behind them those of the editions
abbrev pub listing : Package → Text
listing p = table_lines p ++ editions p
