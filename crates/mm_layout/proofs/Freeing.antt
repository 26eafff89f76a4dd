-- The rows that go with a table.
use Rattle.std.proofs.Common.{◌≡◌, inl, inr, ℤ, List, true, false, ◌&&◌, ◌∷◌, [], ap, sym, subst, ◌∙◌}
use Rattle.std.specs.List.{list_any}
use Rattle.std.proofs.lemmas.Bool.{or_left, or_right, not-false}
use Rattle.sqlite.specs.declared.types.Value.TheVariants.{Text as Words}
use Rattle.sql_forms.specs.Collation.TheVariants.{Binary}
use Rattle.sqlite.specs.Order.{Row}
use Rattle.sql_forms.specs.Rules.{equal}
use Rattle.sql_forms.specs.Forms.{equals}
use Rattle.sql_forms.specs.Tables.{passes}
use Rattle.sql_forms.proofs.Keys.{equal_text, columns_are}
use Rattle.mm_definitions.specs.Effects.{is_other}
use Rattle.mm_definitions.specs.Keys.{Text, same_text}
use Rattle.sqlite.specs.Tree.{Trees}
use Rattle.sql_forms.specs.Cascade.{cut}
use Rattle.mm_store.specs.Places.{table_place}
use Rattle.mm_store.specs.Kept.{Kept, Spare, no_spare, tile_id, medium_id}
use Rattle.mm_store.specs.Removals.{without_table_rows, kept_without_table, Freed, FreedByTable}
use Rattle.mm_store.specs.Rows.{past_rowid}
use Rattle.mm_store.proofs.Removals.{drops_table, drops_table_keeps}
use Rattle.mm_blobs.specs.Views.{View, HoldsAs, ListsEach, spare_each}
use Rattle.mm_blobs.proofs.Keeping.{at_id}

-- a row whose name is not another one is found by the name
pub hits_name : (table : Text) (r : Row) (name : Text) (rest : Row) → past_rowid r ≡ Words name ∷ rest
    → is_other table name ≡ false
    → passes (equals 1 0 ∷ []) (Words table ∷ []) r ≡ true
hits_name table r name rest is gone =
    ap (λ v. equal Binary v (Words table) && true) (columns_are r (Words name ∷ rest) 0 is)
    ∙ ap (λ b. b && true) (equal_text name table ∙ not-false (same_text name table) gone)

pub holds_without : (table : Text) (more : Spare) (version : ℤ) (db : Trees) (x : View) → HoldsAs no_spare version db x
    → ((z : ℤ) → FreedByTable table x.kept z → more z ≡ true)
    → HoldsAs more version (cut table_place (Words table) db)
    (record { content = without_table_rows table x.content; kept = kept_without_table table x.kept })
holds_without table more version db x h freed =
    let still : (z : ℤ) → false ≡ true → more z ≡ true = λ z e. cc in
    let also : (z : ℤ) → FreedByTable table h.0.kept z
    → more z ≡ true = subst (λ k. (z : ℤ) → FreedByTable table k z → more z ≡ true) (sym h.1) freed in (
      drops_table table no_spare more version db x.content h.0 still also,
      drops_table_keeps table no_spare more version
          db x.content h.0 still also ∙ ap (kept_without_table table) h.1,
    )

-- what is listed of the tiles and the media is all that the table frees
pub covers : (table : Text) (kept : Kept) (tiles media : List Row)
    → ListsEach tiles (Freed tile_id kept.tiles (λ k. is_other table k.table))
    → ListsEach media (Freed medium_id kept.media (λ k. is_other table k.table))
    → (z : ℤ) → FreedByTable table kept z → spare_each tiles (spare_each media no_spare) z ≡ true
covers table kept tiles media first second z (inl tile) = or_right (spare_each media no_spare z)
    (list_any (at_id 0 z) tiles) (first z tile)
covers table kept tiles media first second z (inr medium) = or_left (spare_each media no_spare z)
    (list_any (at_id 0 z) tiles) (or_right false (list_any (at_id 0 z) media) (second z medium))
