-- Which blob an entry of a view names, and a view with one entry put or removed.
use Rattle.std.specs.Prelude.{◌≡◌, ℕ, ℤ, List, Option, Some, None, option_map}
use Rattle.std.specs.declared.cmp.Ordering.{Ordering}
use Rattle.std.specs.FinMap.{FinMap, get, insert, remove}
use Rattle.mm_definitions.specs.Keys.{Text, TileKey, Item}
use Rattle.mm_store.specs.Kept.{Spare, medium_with}
use Rattle.mm_store.specs.Rows.{MediumRow}
use Rattle.mm_blobs.specs.Views.{View, spare_too}

-- the blob that the tile names, if one stands
abbrev pub tile_names : TileKey → View → Option ℤ
tile_names key x = get x.kept.tiles key

-- the blob that the medium names, if one stands
abbrev pub medium_names : Item → View → Option ℤ
medium_names key x = option_map (λ (m : MediumRow). m.blob) (get x.kept.media key)

-- the blob of an entry that went, if one stood, may be spared
abbrev pub spare_freed : Option ℤ → Spare → Spare
spare_freed None spare = spare
spare_freed (Some id) spare = spare_too id spare

-- the entry of the key names the blob
abbrev pub NamedAt : {K I : Type 0} {R : K → K → Ordering} → (I → Option ℤ) → FinMap R I → K → ℤ → Type 0
NamedAt {I = I} id_of ids k z = (i : I) × (get ids k ≡ Some i) × (id_of i ≡ Some z)

-- the tile is put, with its bytes in the package and its blob in what is kept
abbrev pub with_tile : TileKey → ℤ → List ℕ → View → View
with_tile key blob bytes x = record {
  content = record (x.content) { tiles = insert x.content.tiles key bytes };
  kept = record (x.kept) { tiles = insert x.kept.tiles key blob };
}

-- the tile is removed from both, and all blobs stay
abbrev pub without_tile : TileKey → View → View
without_tile key x = record {
  content = record (x.content) { tiles = remove x.content.tiles key };
  kept = record (x.kept) { tiles = remove x.kept.tiles key };
}

-- a medium as its row holds it, of this blob and content type
abbrev pub medium_of : ℤ → Text → MediumRow
medium_of blob content_type = record { blob = blob; content_type = content_type }

-- the medium is put, with its bytes in the package and its blob in what is kept
abbrev pub with_medium : Item → MediumRow → List ℕ → View → View
with_medium key i bytes x = record {
  content = record (x.content) { media = insert x.content.media key (medium_with i bytes) };
  kept = record (x.kept) { media = insert x.kept.media key i };
}

-- the medium is removed from both, and all blobs stay
abbrev pub without_medium : Item → View → View
without_medium key x = record {
  content = record (x.content) { media = remove x.content.media key };
  kept = record (x.kept) { media = remove x.kept.media key };
}
