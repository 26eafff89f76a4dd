-- What the join of a relation's row and a mapping row tests, told by the relation and by the pairing that the rows
-- hold.
use Rattle.std.proofs.Common.{◌≡◌, ℕ, ℤ, Bool, true, ◌&&◌, refl}
use Rattle.sqlite.specs.declared.types.Value.TheVariants.{Int, Text as Words}
use Rattle.sql_forms.specs.Collation.TheVariants.{Binary}
use Rattle.sqlite.specs.Order.{Row, column}
use Rattle.sql_forms.specs.Rules.{equal}
use Rattle.sql_forms.proofs.Keys.{equal_text, equal_int, columns_are}
use Rattle.mm_definitions.specs.Keys.{Text, same_text, same_number, Pairing}
use Rattle.mm_definitions.specs.Package.{Relation}
use Rattle.mm_store.specs.Rows.{past_rowid, past_id, relation_row, pairing_row}
use Rattle.mm_store.proofs.Keys.{columns_after}

-- the test of the join by either end: which columns of the two rows name the table and the item
abbrev pub joins_by : ℕ → ℕ → Text → ℤ → Row → Row → Bool
joins_by c d table id r m = equal Binary (column m 1) (column r 7)
    && (equal Binary (column m d) (Int id) && (equal Binary (column r c) (Words table) && true))

pub base_tells : (table : Text) (id : ℤ) (r m : Row) (name : Text) (v : Relation) (k : Pairing)
    → past_id r ≡ relation_row name v
    → past_rowid m ≡ pairing_row k tt
    → joins_by 2 2 table id r m ≡ (same_text k.mapping name
    && (same_number k.base_id id && (same_text v.base table && true)))
base_tells table id r m name v k is there =
    rw (
      columns_after r (relation_row name v) 5 is,
      columns_after r (relation_row name v) 0 is,
      columns_are m
          (pairing_row k tt) 0 there,
      columns_are m (pairing_row k tt) 1 there,
      equal_text k.mapping name,
      equal_int k.base_id
          id,
      equal_text v.base table,
    ) refl

pub related_tells : (table : Text) (id : ℤ) (r m : Row) (name : Text) (v : Relation) (k : Pairing)
    → past_id r ≡ relation_row name v
    → past_rowid m ≡ pairing_row k tt
    → joins_by 4 3 table id r m ≡ (same_text k.mapping name
    && (same_number k.related_id id && (same_text v.related table && true)))
related_tells table id r m name v k is there =
    rw (
      columns_after r (relation_row name v) 5 is,
      columns_after r (relation_row name v) 2 is,
      columns_are m
          (pairing_row k tt) 0 there,
      columns_are m (pairing_row k tt) 2 there,
      equal_text k.mapping name,
      equal_int
          k.related_id id,
      equal_text v.related table,
    ) refl
