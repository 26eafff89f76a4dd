-- What each UPDATE makes of the row that it changes.
use Rattle.std.proofs.Common.{◌≡◌, ℤ, true, List, [], ◌∷◌, codes, Option, Some, None, refl}
use Rattle.sqlite.specs.declared.types.Value.TheVariants.{Int, Text as Words}
use Rattle.sqlite.specs.Kind.TheVariants.{Integer}
use Rattle.sqlite.specs.Order.{Row}
use Rattle.sqlite.specs.Term.{Term, lit, col}
use Rattle.sql_forms.proofs.Casts.{is_of, are_of, cast_all_is}
use Rattle.sql_forms.proofs.Keys.{columns_are}
use Rattle.sql_forms.proofs.Updates.{updated}
use Rattle.mm_store.specs.Tables.{gpkg_contents, mm_tiles, mm_rows, mm_media, mm_editions}
use Rattle.mm_definitions.specs.Keys.{Text, TileKey, Item}
use Rattle.mm_definitions.specs.Package.{Contents, AttributeRow}
use Rattle.mm_definitions.specs.Effects.{changed_at}
use Rattle.mm_store.specs.Rows.{past_rowid, maybe, contents_row, tile_row, attribute_row, MediumRow, medium_row}
use Rattle.mm_store.specs.Rows.{edition_row}

abbrev pub tile_sets : List Term
tile_sets = col 1 1 ∷ col 1 2 ∷ col 1 3 ∷ col 1 4 ∷ col 0 4 ∷ []

pub tile_changed : (k : TileKey) (v w : ℤ) (r : Row) → past_rowid r ≡ tile_row k v
    → past_rowid (updated mm_tiles tile_sets (Words k.table ∷ Int k.zoom ∷ Int k.column ∷ Int k.row ∷ Int w ∷ []) r)
    ≡ tile_row k w
tile_changed k v w r is =
    rw (
      columns_are r (tile_row k v) 0 is,
      columns_are r (tile_row k v) 1 is,
      columns_are r (tile_row k v) 2 is,
      columns_are r (tile_row k v) 3 is,
    ) (cast_all_is mm_tiles.columns (tile_row k w) refl)

abbrev pub row_sets : List Term
row_sets = col 1 1 ∷ col 1 2 ∷ col 0 2 ∷ col 0 3 ∷ col 0 4 ∷ []

pub row_changed : (k : Item) (v w : AttributeRow) (r : Row) → past_rowid r ≡ attribute_row k v
    → past_rowid (updated mm_rows row_sets (Words k.table ∷ Int k.id ∷ Words w.title ∷ Words w.note ∷ Int w.amount ∷ [])
    r) ≡ attribute_row k w
row_changed k v w r is = rw (columns_are r (attribute_row k v) 0 is, columns_are r (attribute_row k v) 1 is)
    (cast_all_is mm_rows.columns (attribute_row k w) refl)

abbrev pub medium_sets : List Term
medium_sets = col 1 1 ∷ col 1 2 ∷ col 0 2 ∷ col 0 3 ∷ []

pub medium_changed : (k : Item) (v w : MediumRow) (r : Row) → past_rowid r ≡ medium_row k v
    → past_rowid (updated mm_media medium_sets (Words k.table ∷ Int k.id ∷ Int w.blob ∷ Words w.content_type ∷ []) r)
    ≡ medium_row k w
medium_changed k v w r is = rw (columns_are r (medium_row k v) 0 is, columns_are r (medium_row k v) 1 is)
    (cast_all_is mm_media.columns (medium_row k w) refl)

abbrev pub closed_sets : List Term
closed_sets = col 1 1 ∷ lit (Words (codes "published")) ∷ []

pub edition_closed : (name state : Text) (r : Row) → past_rowid r ≡ edition_row name state
    → past_rowid (updated mm_editions closed_sets (Words name ∷ []) r) ≡ edition_row name (codes "published")
edition_closed name state r is = rw (columns_are r (edition_row name state) 0 is) (cast_all_is mm_editions.columns (edition_row name (codes "published")) refl)

-- ---- last_change

is_maybe : (o : Option ℤ) → is_of Integer (maybe o) ≡ true
is_maybe None = refl
is_maybe (Some z) = refl

abbrev pub contents_sets : List Term
contents_sets = col 1 1 ∷ col 1 2 ∷ col 1 3 ∷ col 1 4 ∷ col 0 1 ∷ col 1 6 ∷ col 1 7 ∷ col 1 8 ∷ col 1 9 ∷ col 1 10 ∷ []

pub contents_typed : (table : Text) (c : Contents) → are_of gpkg_contents.columns (contents_row table c) ≡ true
contents_typed table c = rw (is_maybe c.min_x, is_maybe c.min_y, is_maybe c.max_x, is_maybe c.max_y, is_maybe c.system)
    refl

pub contents_changed : (table at : Text) (c : Contents) (r : Row) → past_rowid r ≡ contents_row table c
    → past_rowid (updated gpkg_contents contents_sets (Words table ∷ Words at ∷ []) r) ≡ contents_row table
    (changed_at at c)
contents_changed table at c r is =
    rw (
      columns_are r (contents_row table c) 0 is,
      columns_are r (contents_row table c) 1 is,
      columns_are r (contents_row table c) 2 is,
      columns_are r (contents_row table c) 3 is,
      columns_are r (contents_row table c) 5 is,
      columns_are r (contents_row table c) 6 is,
      columns_are r (contents_row table c) 7 is,
      columns_are r (contents_row table c) 8 is,
      columns_are r (contents_row table c) 9 is,
    )
    (cast_all_is gpkg_contents.columns (contents_row table (changed_at at c)) (contents_typed table (changed_at at c)))
