-- Tiles, rows, media and mapping rows that are put or removed keep the rules.
use Rattle.std.proofs.Common.{◌≡◌, ◌≢◌, ℕ, ℤ, pos, ◌<ℤ◌, ◌≤ℤ◌, Bool, true, false, ◌&&◌, ◌||◌, List, Option, Some}
use Rattle.std.proofs.Common.{None, int_le, refl, sym, ap, ◌∙◌, ◌⊎◌, inl, inr, is_some, arith}
use Rattle.std.proofs.lemmas.Int.{ints}
use Rattle.std.specs.Bool.{⊤}
use Rattle.std.specs.FinMap.{get, contains_key, insert, remove}
use Rattle.std.proofs.lemmas.Bool.{and_from, not-false}
use Rattle.mm_definitions.specs.Keys.{Text, same_text, same_number, level, Item, item, Pairing, pairing}
use Rattle.mm_definitions.specs.Parts.{Has, at_value}
use Rattle.mm_definitions.specs.Package.{Package, Grid, Kinds, HasKind, has_kind, is_pyramid, AttributeRow, Medium}
use Rattle.mm_definitions.specs.Package.{Relation, RowsPart, MediaPart}
use Rattle.mm_definitions.specs.Rules.{IsInside, HasItem, Joins, IsSuited, TileWithin, RowWithin, MediumWithin}
use Rattle.mm_definitions.specs.Rules.{PairingWithin}
use Rattle.mm_definitions.specs.Places.{tile_at}
use Rattle.mm_definitions.specs.Conditions.{piece_reasons, outside, is_mapped, joins_item, lacks_row, lacks_medium}
use Rattle.mm_definitions.specs.declared.commands.Kind.TheVariants as kinds
use Rattle.mm_definitions.specs.declared.commands.Piece.TheVariants as pieces
use Rattle.mm_definitions.specs.declared.places.TilePlace.{TilePlace}
use Rattle.mm_definitions.proofs.Parts.{each_put, each_remove, stands_after_put, beside_remove, no_entry, either_false}
use Rattle.mm_definitions.proofs.Parts.{same_itself}
use Rattle.mm_definitions.proofs.KeyLaws.{numbers, texts, tile_keys, items, pairing_keys}
use Rattle.mm_laws.proofs.Kept.{PieceKeeps}
use Rattle.mm_laws.proofs.Reasons.{none_holds, is_suited, stands_where}
use Rattle.mm_laws.proofs.KindFacts.{has_kind_tells, has_kind_holds}
use Rattle.mm_laws.proofs.Touch.{touch_keeps}
use Rattle.mm_laws.proofs.OnePart.{with_media, with_pairings, with_rows, with_tiles}

-- ---- tiles
not_at_most : (a b : ℤ) → int_le a b ≡ false → b <ℤ a
not_at_most a b e = grind (arith, ints)

from_zero : (n : ℕ) → pos 0 ≤ℤ pos n
from_zero n = omega (arith, ints)

inside : (v : Option Grid) (column row : ℕ) → is_some v ≡ true → at_value (outside (pos column) (pos row)) v ≡ false
    → IsInside v (pos column) (pos row)
inside None column row e f = absurd (let g : false ≡ true = e in cc)
inside (Some g) column row e f =
    let p = either_false (int_le g.matrix_width (pos column)) (int_le g.matrix_height (pos row)) f in (
      from_zero column,
      not_at_most g.matrix_width (pos column) p.0,
      from_zero row,
      not_at_most g.matrix_height (pos row)
          p.1,
    )

pub tile_put : (table : Text) (place : TilePlace) (bytes : List ℕ) → PieceKeeps (pieces.Tile table place bytes)
tile_put table place bytes profile p moment stamp h within low is none =
    let r = none_holds (piece_reasons p (pieces.Tile table place bytes)) none in
    let pyramid : is_pyramid p.kinds table ≡ true = is_suited (contains_key p.contents table) (is_pyramid p.kinds table)
    r.0 r.1.0 in
    let stands : contains_key p.matrices (level table (pos place.zoom)) ≡ true =
    stands_where (is_pyramid p.kinds table) (contains_key p.matrices (level table (pos place.zoom))) r.1.1.0 pyramid in
    let key = tile_at table place in
    touch_keeps profile (record p { tiles = insert p.tiles key bytes }) table stamp moment low is
    (with_tiles profile p h _
    (each_put tile_keys p.tiles key bytes (λ k _. IsInside (get p.matrices (level k.table k.zoom)) k.column k.row)
    h.q10 (inside (get p.matrices (level table (pos place.zoom))) place.column place.row stands r.1.1.1.0))
    (each_put tile_keys p.tiles key bytes TileWithin h.q16.tiles (record {
      table = within.0;
      zoom = within.1.zoom;
      column = within.1.column;
      row = within.1.row;
      bytes = within.2;
    })))

pub tile_drop : (table : Text) (place : TilePlace) → PieceKeeps (pieces.TileDrop table place)
tile_drop table place profile p moment stamp h within low is none =
    let key = tile_at table place in
    touch_keeps profile (record p { tiles = remove p.tiles key }) table stamp moment low is (with_tiles profile p h _
    (each_remove tile_keys p.tiles key (λ k _. IsInside (get p.matrices (level k.table k.zoom)) k.column k.row) h.q10)
    (each_remove tile_keys p.tiles key TileWithin h.q16.tiles))

-- ---- rows and media
-- a relation that joins two items joins them still, where the ends still stand
joins_still : (rows next_rows : RowsPart) (media next_media : MediaPart) (v : Option Relation) (k : Pairing)
    → ((r : Relation) → v ≡ Some r → HasItem rows media r.base k.base_id → HasItem next_rows next_media r.base
    k.base_id)
    → ((r : Relation) → v ≡ Some r → HasItem rows media r.related k.related_id → HasItem next_rows next_media r.related
    k.related_id)
    → Joins rows media v k → Joins next_rows next_media v k
joins_still rows next_rows media next_media None k base related h = h
joins_still rows next_rows media next_media (Some r) k base related h = (base r refl h.0, related r refl h.1)

pub row_put : (table : Text) (id : ℤ) (title note : Text) (amount : ℤ)
    → PieceKeeps (pieces.Row table id title note amount)
row_put table id title note amount profile p moment stamp h within low is none =
    let r = none_holds (piece_reasons p (pieces.Row table id title note amount)) none in
    let kind = has_kind_tells p.kinds table kinds.Attributes
    (is_suited (contains_key p.contents table) (has_kind p.kinds table kinds.Attributes) r.0 r.1.0) in
    let row : AttributeRow = record { title = title; note = note; amount = amount } in
    let more : (t : Text) (i : ℤ) → HasItem p.rows p.media t i
    → HasItem (insert p.rows (item table id) row) p.media t i =
    λ t i e. elim e as (λ _. HasItem (insert p.rows (item table id) row) p.media t i)
    [ inl a ↦ inl (stands_after_put items p.rows (item table id) row (item t i) a) | inr b ↦ inr b ] in
    touch_keeps profile (record p { rows = insert p.rows (item table id) row }) table stamp moment low is
    (with_rows profile p h _
    (each_put items p.rows (item table id) row (λ k _. HasKind p.kinds k.table kinds.Attributes) h.q11.of_rows kind)
    (λ k u e. joins_still p.rows (insert p.rows (item table id) row) p.media p.media (get p.relations k.mapping) k
    (λ s _ a. more s.base k.base_id a) (λ s _ a. more s.related k.related_id a) (h.q13 k u e))
    (each_put items p.rows (item table id) row RowWithin h.q16.rows
    (record { table = within.0; id = within.1; title = within.2; note = within.3; amount = within.4 })))

pub media_put : (table : Text) (id : ℤ) (content_type : Text) (bytes : List ℕ)
    → PieceKeeps (pieces.Media table id content_type bytes)
media_put table id content_type bytes profile p moment stamp h within low is none =
    let r = none_holds (piece_reasons p (pieces.Media table id content_type bytes)) none in
    let kind = has_kind_tells p.kinds table kinds.Media
    (is_suited (contains_key p.contents table) (has_kind p.kinds table kinds.Media) r.0 r.1.0) in
    let medium : Medium = record { bytes = bytes; content_type = content_type } in
    let more : (t : Text) (i : ℤ) → HasItem p.rows p.media t i
    → HasItem p.rows (insert p.media (item table id) medium) t i =
    λ t i e. elim e as (λ _. HasItem p.rows (insert p.media (item table id) medium) t i)
    [ inl a ↦ inl a | inr b ↦ inr (stands_after_put items p.media (item table id) medium (item t i) b) ] in
    touch_keeps profile (record p { media = insert p.media (item table id) medium }) table stamp moment low is
    (with_media profile p h _
    (each_put items p.media (item table id) medium (λ k _. HasKind p.kinds k.table kinds.Media) h.q11.of_media kind)
    (λ k u e. joins_still p.rows p.rows p.media (insert p.media (item table id) medium) (get p.relations k.mapping) k
    (λ s _ a. more s.base k.base_id a) (λ s _ a. more s.related k.related_id a) (h.q13 k u e))
    (each_put items p.media (item table id) medium MediumWithin h.q16.media
    (record { table = within.0; id = within.1; content_type = within.2; bytes = within.3 })))

-- an item that no mapping row names is no end of one
unmapped : (p : Package) (table : Text) (id : ℤ) → is_mapped p table id ≡ false → (k : Pairing) (u : ⊤)
    → Has p.pairings k u → (r : Relation)
    → Has p.relations k.mapping r
    → (item r.base k.base_id ≢ item table id) × (item r.related k.related_id ≢ item table id)
unmapped p table id none k u e r f =
    let test : Relation → Bool = λ s. (same_text s.base table && same_number k.base_id id) ||
    (same_text s.related table && same_number k.related_id id) in
    let false_there : test r ≡ false = sym (ap (at_value test) f)
    ∙ no_entry pairing_keys (λ q _. joins_item p table id q) p.pairings none k u e in
    let parts = either_false (same_text r.base table && same_number k.base_id id)
    (same_text r.related table && same_number k.related_id id) false_there in
    let one : (t : Text) (i : ℤ) → (same_text t table && same_number i id) ≡ false
    → item t i ≢ item table id = λ t i no same.
    let a : same_text t table ≡ true = ap (λ (q : Item). same_text t q.table) (sym same) ∙ same_itself texts t in
    let b : same_number i id ≡ true = ap (λ (q : Item). same_number i q.id) (sym same) ∙ same_itself numbers i in
    let both : (same_text t table && same_number i id) ≡ true = and_from _ _ a b in
    let g : true ≡ false = sym both ∙ no in cc
    in
    (one r.base k.base_id parts.0, one r.related k.related_id parts.1)

pub row_drop : (table : Text) (id : ℤ) → PieceKeeps (pieces.RowDrop table id)
row_drop table id profile p moment stamp h within low is none =
    let r = none_holds (piece_reasons p (pieces.RowDrop table id)) none in
    let away = unmapped p table id r.1.1.1.0 in
    let still : (t : Text) (i : ℤ) → item t i ≢ item table id → HasItem p.rows p.media t i
    → HasItem (remove p.rows (item table id)) p.media t i =
    λ t i n e. elim e as (λ _. HasItem (remove p.rows (item table id)) p.media t i)
    [ inl a ↦ inl (ap is_some (beside_remove items p.rows (item table id) (item t i) n) ∙ a) | inr b ↦ inr b ] in
    touch_keeps profile (record p { rows = remove p.rows (item table id) }) table stamp moment low is
    (with_rows profile p h _
    (each_remove items p.rows (item table id) (λ k _. HasKind p.kinds k.table kinds.Attributes) h.q11.of_rows)
    (λ k u e. joins_still p.rows (remove p.rows (item table id)) p.media p.media (get p.relations k.mapping) k
    (λ s f a. still s.base k.base_id (away k u e s f).0 a) (λ s f a. still s.related k.related_id (away k u e s f).1 a)
    (h.q13 k u e))
    (each_remove items p.rows (item table id) RowWithin h.q16.rows))

pub media_drop : (table : Text) (id : ℤ) → PieceKeeps (pieces.MediaDrop table id)
media_drop table id profile p moment stamp h within low is none =
    let r = none_holds (piece_reasons p (pieces.MediaDrop table id)) none in
    let away = unmapped p table id r.1.1.1.0 in
    let still : (t : Text) (i : ℤ) → item t i ≢ item table id → HasItem p.rows p.media t i
    → HasItem p.rows (remove p.media (item table id)) t i =
    λ t i n e. elim e as (λ _. HasItem p.rows (remove p.media (item table id)) t i)
    [ inl a ↦ inl a | inr b ↦ inr (ap is_some (beside_remove items p.media (item table id) (item t i) n) ∙ b) ] in
    touch_keeps profile (record p { media = remove p.media (item table id) }) table stamp moment low is
    (with_media profile p h _
    (each_remove items p.media (item table id) (λ k _. HasKind p.kinds k.table kinds.Media) h.q11.of_media)
    (λ k u e. joins_still p.rows p.rows p.media (remove p.media (item table id)) (get p.relations k.mapping) k
    (λ s f a. still s.base k.base_id (away k u e s f).0 a) (λ s f a. still s.related k.related_id (away k u e s f).1 a)
    (h.q13 k u e))
    (each_remove items p.media (item table id) MediumWithin h.q16.media))

-- ---- mapping rows
-- an end of a suited relation that lacks no row and no medium is an item
an_end : (p : Package) (table : Text) (id : ℤ) → HasKind p.kinds table kinds.Attributes
    ⊎ HasKind p.kinds table kinds.Media
    → lacks_row p table id ≡ false → lacks_medium p table id ≡ false → HasItem p.rows p.media table id
an_end p table id (inl a) no_row no_medium = inl (stands_where (has_kind p.kinds table kinds.Attributes)
    (contains_key p.rows (item table id)) no_row (has_kind_holds p.kinds table kinds.Attributes a))
an_end p table id (inr b) no_row no_medium = inr (stands_where (has_kind p.kinds table kinds.Media)
    (contains_key p.media (item table id)) no_medium (has_kind_holds p.kinds table kinds.Media b))

related_kind : (kinds_of : Kinds) (r : Relation) → IsSuited kinds_of r
    → HasKind kinds_of r.related kinds.Attributes ⊎ HasKind kinds_of r.related kinds.Media
related_kind kinds_of r s = elim s.related as (λ _. HasKind kinds_of r.related kinds.Attributes
    ⊎ HasKind kinds_of r.related kinds.Media) [ inl a ↦ inr a.1 | inr b ↦ inl b.1 ]

joins_new : (p : Package) (v : Option Relation) (k : Pairing) → ((r : Relation) → v ≡ Some r → IsSuited p.kinds r)
    → is_some v ≡ true
    → at_value (λ r. lacks_row p r.base k.base_id || lacks_row p r.related k.related_id) v ≡ false
    → at_value (λ r. lacks_medium p r.base k.base_id || lacks_medium p r.related k.related_id) v ≡ false
    → Joins p.rows p.media v k
joins_new p None k suited e f g = absurd (let no : false ≡ true = e in cc)
joins_new p (Some r) k suited e f g =
    let s = suited r refl in
    let rows = either_false (lacks_row p r.base k.base_id) (lacks_row p r.related k.related_id) f in
    let media = either_false (lacks_medium p r.base k.base_id) (lacks_medium p r.related k.related_id) g in (
      an_end p r.base k.base_id s.base rows.0 media.0,
      an_end p r.related k.related_id (related_kind p.kinds r s) rows.1
          media.1,
    )

pub map_put : (mapping : Text) (base_id related_id : ℤ) → PieceKeeps (pieces.Map mapping base_id related_id)
map_put mapping base_id related_id profile p moment stamp h within low is none =
    let r = none_holds (piece_reasons p (pieces.Map mapping base_id related_id)) none in
    let key = pairing mapping base_id related_id in
    let stands : contains_key p.relations mapping ≡ true = not-false (contains_key p.relations mapping) r.1.1.0 in
    with_pairings profile p h _
    (each_put pairing_keys p.pairings key tt (λ k _. Joins p.rows p.media (get p.relations k.mapping) k) h.q13
    (joins_new p (get p.relations mapping) key (λ s e. h.q12 mapping s e) stands r.0 r.1.0))
    (each_put pairing_keys p.pairings key tt PairingWithin h.q16.pairings
    (record { mapping = within.0; base_id = within.1; related_id = within.2 }))

pub map_drop : (mapping : Text) (base_id related_id : ℤ) → PieceKeeps (pieces.MapDrop mapping base_id related_id)
map_drop mapping base_id related_id profile p moment stamp h within low is none =
    let key = pairing mapping base_id related_id in
    with_pairings profile p h _
    (each_remove pairing_keys p.pairings key (λ k _. Joins p.rows p.media (get p.relations k.mapping) k) h.q13)
    (each_remove pairing_keys p.pairings key PairingWithin h.q16.pairings)
