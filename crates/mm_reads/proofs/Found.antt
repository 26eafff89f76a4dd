-- What a row that was read tells of its part.
use Rattle.std.proofs.Common.{◌≡◌, ℕ, ℤ, Bool, List, [], ◌∷◌, Option, Some, None, option_map, sym, ap, subst, ◌∙◌}
use Rattle.std.specs.declared.cmp.Ordering.{Ordering}
use Rattle.std.specs.FinMap.{FinMap, get}
use Rattle.sqlite.specs.Order.{Row}
use Rattle.sqlite.specs.Term.{col}
use Rattle.sql_forms.specs.Tables.{FindsRow}
use Rattle.sql_forms.specs.Maps.{Holds}
use Rattle.sql_forms.proofs.Keys.{columns_are}
use Rattle.sql_forms.proofs.Selects.{shows}
use Rattle.mm_definitions.specs.Keys.{Item, item_cmp}
use Rattle.mm_definitions.specs.Package.{AttributeRow, Medium}
use Rattle.mm_definitions.specs.declared.entries.Media.{Media}
use Rattle.mm_definitions.specs.declared.entries.Row.{Row as RowTold}
use Rattle.mm_definitions.proofs.Parts.{same_some}
use Rattle.mm_store.specs.Blobs.{Shelf, Told, bytes_at}
use Rattle.mm_store.specs.Kept.{tile_id, tile_with, medium_id, medium_with}
use Rattle.mm_store.specs.Rows.{past_rowid, attribute_row, MediumRow, medium_row}
use Rattle.mm_store.proofs.Keys as parts
use Rattle.mm_store.proofs.Keys.{by_item, same_words, same_int}
use Rattle.mm_store.proofs.Parts.{IsPart, finds_none, finds_some}
use Rattle.mm_reads.specs.Told.{GivesFirst, ShowsMedium, IsMediumRow, ShowsRow, shown_medium, shown_row}

-- what is told of the row that the query shows is the entry
module _ {K V T : Type 0} {R : K → K → Ordering} {part : Row → Row} {shown : K → V → Row} {test : K → Row → Bool}
    (it : IsPart R part shown test) (rows : List Row) (m : FinMap R V) (h : Holds part shown rows m) (k : K)
    (show : Row → Row) (Shows : Row → T → Type 0) (of : T → V) (tells : (r : Row) (v : V) (x : T) → part r ≡ shown k v
    → Shows (show r) x → v ≡ of x) where
  pub entry_found : (o : Option T) (first : Option Row) → GivesFirst Shows o first → FindsRow (test k) show rows first
      → get m k ≡ option_map of o
  entry_found None first gives found = finds_none it rows m h k show (subst (FindsRow (test k) show rows) gives found)
  entry_found (Some x) first gives found =
      let at = finds_some it rows m h k show gives.0 (subst (FindsRow (test k) show rows) gives.1 found) in
      at.1 ∙ ap Some (tells at.2 at.0 x at.3 (subst (λ (r : Row). Shows r x) at.4 gives.2))

-- ---- the three parts

-- the row of a medium that was looked up by its key
module _ (rows : List Row) (ids : FinMap item_cmp MediumRow) (h : Holds past_rowid medium_row rows ids) (k : Item)
    (params : Row) where
  abbrev medium_shown : Row → Row
  medium_shown = shows (col 1 3 ∷ col 1 4 ∷ []) params

  by_row : (first : Option Row) → FindsRow (by_item k) medium_shown rows first → IsMediumRow (get ids k) first
  by_row None found = subst (λ o. IsMediumRow o None) (sym (finds_none parts.media rows ids h k medium_shown found)) tt
  by_row (Some row) found =
      let at = finds_some parts.media rows ids h k medium_shown row found in
      subst (λ o. IsMediumRow o (Some row)) (sym at.1)
      (subst (λ r. ShowsMedium r at.0) (sym at.4)
      (record {
        blob = columns_are at.2 (medium_row k at.0) 2 at.3;
        content_type = columns_are at.2 (medium_row k at.0) 3 at.3;
      }))

  pub medium_found : (x first : Option Row) → x ≡ first → FindsRow (by_item k) medium_shown rows first
      → IsMediumRow (get ids k) x
  medium_found x first gives found = subst (IsMediumRow (get ids k)) (sym gives) (by_row first found)

-- the medium of a row, with the bytes of the blob that it names
pub medium_told : (shelf : Shelf) (o : Option MediumRow) (entry : Option Medium) (row : Row) (m : Media)
    → IsMediumRow o (Some row)
    → Told medium_id medium_with shelf o entry
    → ((r : MediumRow) → ShowsMedium row r → (bytes_at shelf r.blob ≡ Some m.bytes) × (r.content_type ≡ m.content_type))
    → entry ≡ Some (shown_medium m)
medium_told shelf None entry row m is told tells = absurd is
medium_told shelf (Some r) entry row m is told tells =
    let it = tells r is in
    let bytes : told.0 ≡ m.bytes = same_some (sym told.1 ∙ it.0) in
    told.2 ∙ (λ i. Some (record { bytes = bytes i; content_type = it.1 i }))

pub no_medium : (shelf : Shelf) (o : Option MediumRow) (entry : Option Medium) → IsMediumRow o None
    → Told medium_id medium_with shelf o entry → entry ≡ None
no_medium shelf None entry is told = told
no_medium shelf (Some r) entry is told = absurd is

-- the bytes of a tile are those of the blob that it names
pub tile_told : (shelf : Shelf) (id : ℤ) (entry : Option (List ℕ)) (bytes : List ℕ)
    → Told tile_id tile_with shelf (Some id) entry
    → bytes_at shelf id ≡ Some bytes → entry ≡ Some bytes
tile_told shelf id entry bytes told is = told.2 ∙ ap Some (same_some (sym told.1 ∙ is))

pub row_told : (k : Item) (params r : Row) (v : AttributeRow) (x : RowTold) → past_rowid r ≡ attribute_row k v
    → ShowsRow (shows (col 1 3 ∷ col 1 4 ∷ col 1 5 ∷ []) params r) x → v ≡ shown_row x
row_told k params r v x is shown =
    let a = same_words (sym (columns_are r (attribute_row k v) 2 is) ∙ shown.title) in
    let b = same_words (sym (columns_are r (attribute_row k v) 3 is) ∙ shown.note) in
    let c = same_int (sym (columns_are r (attribute_row k v) 4 is) ∙ shown.amount) in
    λ i. record { title = a i; note = b i; amount = c i }
