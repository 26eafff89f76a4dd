-- What a removal leaves of a package: a DELETE, with what its foreign keys take along.
use Rattle.std.specs.Prelude.{◌≡◌, ◌⊎◌, ℤ, Bool, false, Option, Some}
use Rattle.std.specs.declared.cmp.Ordering.{Ordering}
use Rattle.std.specs.FinMap.{FinMap, get, remove, retain_keys}
use Rattle.mm_definitions.specs.Keys.{Text}
use Rattle.mm_definitions.specs.Package.{Package}
use Rattle.mm_definitions.specs.Effects.{is_other}
use Rattle.mm_store.specs.Kept.{Kept, tile_id, medium_id, piece_id}

-- the package without the table, but for its extension row
abbrev pub without_table_rows : Text → Package → Package
without_table_rows table p = record p {
  contents = remove p.contents table;
  kinds = remove p.kinds table;
  sets = remove p.sets table;
  matrices = retain_keys p.matrices (λ k. is_other table k.table);
  tiles = retain_keys p.tiles (λ k. is_other table k.table);
  rows = retain_keys p.rows (λ k. is_other table k.table);
  media = retain_keys p.media (λ k. is_other table k.table);
}

-- the package without the relation and its mapping rows, but for its extension row
abbrev pub without_relation_rows : Text → Package → Package
without_relation_rows mapping p = record p {
  relations = remove p.relations mapping;
  pairings = retain_keys p.pairings (λ k. is_other mapping k.mapping);
}

-- the package without the edition and its pieces
abbrev pub without_edition_rows : Text → Package → Package
without_edition_rows name p = record p {
  editions = remove p.editions name;
  pieces = retain_keys p.pieces (λ k. is_other name k.edition);
}

-- ---- the entries that name blobs

-- what is kept without the table, and all blobs still
abbrev pub kept_without_table : Text → Kept → Kept
kept_without_table table kept =
    record kept {
      tiles = retain_keys kept.tiles (λ k. is_other table k.table);
      media = retain_keys kept.media (λ k. is_other table k.table);
    }

-- what is kept without the edition, and all blobs still
abbrev pub kept_without_edition : Text → Kept → Kept
kept_without_edition name kept = record kept { pieces = retain_keys kept.pieces (λ k. is_other name k.edition) }

-- an entry that goes names the blob
abbrev pub Freed : {K I : Type 0} {R : K → K → Ordering} → (I → Option ℤ) → FinMap R I → (K → Bool) → ℤ → Type 0
Freed {K} {I} id_of ids keep id = (k : K) × (i : I) × (keep k ≡ false) × (get ids k ≡ Some i) × (id_of i ≡ Some id)

-- a tile or a medium that goes with the table names the blob
abbrev pub FreedByTable : Text → Kept → ℤ → Type 0
FreedByTable table kept id = Freed tile_id kept.tiles (λ k. is_other table k.table) id
    ⊎ Freed medium_id kept.media (λ k. is_other table k.table) id

-- a piece that goes with the edition names the blob
abbrev pub FreedByEdition : Text → Kept → ℤ → Type 0
FreedByEdition name kept = Freed piece_id kept.pieces (λ k. is_other name k.edition)
