-- Entries that are put, replaced and removed, with the blobs that they name.
use Rattle.std.proofs.Common.{◌≡◌, ◌≢◌, ◌⊎◌, inl, inr, ℕ, ℤ, Bool, true, false, not, ◌&&◌, ◌||◌, List, Option, Some}
use Rattle.std.proofs.Common.{None, option_map, is_some, refl, sym, ap, subst, subst₂, ◌∙◌}
use Rattle.std.specs.declared.cmp.Ordering.{Ordering}
use Rattle.std.specs.FinMap.{FinMap, get, contains_key, insert, remove}
use Rattle.sqlite.specs.declared.types.Value.TheVariants.{Int}
use Rattle.sqlite.specs.Order.{Row, column}
use Rattle.sqlite.specs.Tree.{Trees, with_tree}
use Rattle.sql_forms.specs.Maps.{Holds}
use Rattle.sql_forms.specs.Tables.{FindsRow}
use Rattle.mm_store.proofs.Parts.{IsPart, finds_none, finds_some}
use Rattle.mm_definitions.specs.Keys.{same_number, TileKey, tile_cmp, Item, item_cmp, PieceKey, piece_cmp}
use Rattle.mm_definitions.specs.Package.{Package, Medium, PieceRow}
use Rattle.mm_definitions.proofs.Parts.{IsKeyOrder, same_key, same_some, at_put, beside_put, at_remove, beside_remove}
use Rattle.mm_definitions.proofs.KeyLaws.{numbers, tile_keys, items, piece_keys}
use Rattle.mm_store.specs.Blobs.{Shelf, StandsAt, Told, Tells, NamesBlob}
use Rattle.mm_store.specs.Kept.{Kept, Spare, HoldsKept, tile_id, tile_with, medium_id, medium_with, piece_id}
use Rattle.mm_store.specs.Kept.{piece_with}
use Rattle.mm_store.specs.Rows.{past_rowid, tile_row, MediumRow, medium_row, StagedRow, staged_row}
use Rattle.mm_blobs.specs.Views.{View, HoldsAs, spare_too, spare_but}
use Rattle.mm_blobs.specs.Entries.{NamedAt, spare_freed}
use Rattle.mm_blobs.specs.Moves.{GivesNumber}
use Rattle.mm_blobs.proofs.Keeping.{too_before, too_itself}

-- ---- the entries alone

told_some : {I V : Type 0} (id_of : I → Option ℤ) (filled : I → List ℕ → V) (shelf : Shelf) (o : Option I)
    (entry : Option V)
    → Told id_of filled shelf o entry → is_some o ≡ is_some entry
told_some id_of filled shelf None entry e = sym (ap is_some e)
told_some id_of filled shelf (Some i) entry e = sym (ap is_some e.2)

-- the entries that name blobs have the keys of those that have bytes
pub told_there : {K I V : Type 0} {R : K → K → Ordering} (id_of : I → Option ℤ) (filled : I → List ℕ → V)
    (shelf : Shelf) (ids : FinMap R I) (m : FinMap R V) → Tells id_of filled shelf ids m → (k : K)
    → contains_key ids k ≡ contains_key m k
told_there id_of filled shelf ids m tells k = told_some id_of filled shelf (get ids k) (get m k) (tells k)

-- an entry with its bytes, from one that names a blob, and back
module _ {K I V : Type 0} {R : K → K → Ordering} (id_of : I → Option ℤ) (filled : I → List ℕ → V) (shelf : Shelf)
    (ids : FinMap R I) (m : FinMap R V) (tells : Tells id_of filled shelf ids m) (k : K) where
  pub entry_in : (i : I) → get ids k ≡ Some i → (bytes : List ℕ) × StandsAt shelf (id_of i) bytes
      × (get m k ≡ Some (filled i bytes))
  entry_in i is = subst (λ o. Told id_of filled shelf o (get m k)) is (tells k)

  pub entry_of : (v : V) → get m k ≡ Some v → (i : I) × (get ids k ≡ Some i) × (bytes : List ℕ)
      × StandsAt shelf (id_of i) bytes × (v ≡ filled i bytes)
  entry_of v is = go (get ids k) refl
    where
      go : (o : Option I) → get ids k ≡ o → (i : I) × (get ids k ≡ Some i) × (bytes : List ℕ)
          × StandsAt shelf (id_of i) bytes × (v ≡ filled i bytes)
      go None none = absurd (let e : None ≡ Some v =
          sym (subst (λ o. Told id_of filled shelf o (get m k)) none (tells k)) ∙ is in cc)
      go (Some i) some = let at = subst (λ o. Told id_of filled shelf o (get m k)) some (tells k) in
          (i, some, at.0, at.1, same_some (sym is ∙ at.2))

module _ {K I V : Type 0} {R : K → K → Ordering} (o : IsKeyOrder R) (id_of : I → Option ℤ) (filled : I → List ℕ → V)
    (shelf : Shelf) (ids : FinMap R I) (m : FinMap R V) (k : K) where
  pub tells_put : (i : I) (bytes : List ℕ) → Tells id_of filled shelf ids m → StandsAt shelf (id_of i) bytes
      → Tells id_of filled shelf (insert ids k i) (insert m k (filled i bytes))
  tells_put i bytes tells stands q = elim (same_key o q k) [
    | inl same ↦ subst₂ (Told id_of filled shelf) (sym (ap (get (insert ids k i)) same.0 ∙ at_put o ids k i))
        (sym (ap (get (insert m k (filled i bytes))) same.0 ∙ at_put o m k (filled i bytes))) (bytes, stands, refl)
    | inr other ↦ subst₂ (Told id_of filled shelf) (sym (beside_put o ids k i q other.0))
        (sym (beside_put o m k (filled i bytes) q other.0)) (tells q)
  ]

  pub tells_removed : Tells id_of filled shelf ids m → Tells id_of filled shelf (remove ids k) (remove m k)
  tells_removed tells q = elim (same_key o q k) [
    | inl same ↦ subst₂ (Told id_of filled shelf) (sym (ap (get (remove ids k)) same.0 ∙ at_remove o ids k))
        (sym (ap (get (remove m k)) same.0 ∙ at_remove o m k)) refl
    | inr other ↦ subst₂ (Told id_of filled shelf) (sym (beside_remove o ids k q other.0))
        (sym (beside_remove o m k q other.0)) (tells q)
  ]

module _ {K I : Type 0} {R : K → K → Ordering} (o : IsKeyOrder R) (id_of : I → Option ℤ) (ids : FinMap R I) (k : K)
  where
    pub names_put : (i : I) (z : ℤ) → id_of i ≡ Some z → NamesBlob id_of (insert ids k i) z
    names_put i z is = (k, i, at_put o ids k i, is)

    pub named_put : (i : I) (z : ℤ) → NamesBlob id_of ids z → NamesBlob id_of (insert ids k i) z ⊎ NamedAt id_of ids k z
    named_put i z names = elim (same_key o names.0 k) [
      | inl same ↦ inr (names.1, ap (get ids) (sym same.0) ∙ names.2, names.3)
      | inr other ↦ inl (names.0, names.1, beside_put o ids k i names.0 other.0 ∙ names.2, names.3)
    ]

    pub named_removed : (z : ℤ) → NamesBlob id_of ids z → NamesBlob id_of (remove ids k) z ⊎ NamedAt id_of ids k z
    named_removed z names = elim (same_key o names.0 k) [
      | inl same ↦ inr (names.1, ap (get ids) (sym same.0) ∙ names.2, names.3)
      | inr other ↦ inl (names.0, names.1, beside_remove o ids k names.0 other.0 ∙ names.2, names.3)
    ]

-- the id that the entry of a key names, where the row shows it in its first column
module _ {K I : Type 0} {R : K → K → Ordering} {part : Row → Row} {row_of : K → I → Row} {test : K → Row → Bool}
    (it : IsPart R part row_of test) (rows : List Row) (ids : FinMap R I) (h : Holds part row_of rows ids) (k : K) where
  pub id_found : (show : Row → Row) (of : I → ℤ)
      → ((r : Row) (i : I) → part r ≡ row_of k i → column (show r) 0 ≡ Int (of i))
      → (answer : Option ℤ) (first : Option Row) → GivesNumber answer first
      → FindsRow (test k) show rows first → option_map of (get ids k) ≡ answer
  id_found show of shows None first gives found =
      ap (option_map of) (finds_none it rows ids h k show (subst (FindsRow (test k) show rows) gives found))
  id_found show of shows (Some id) first gives found =
      let at = finds_some it rows ids h k show gives.0 (subst (FindsRow (test k) show rows) gives.1 found) in
      let e : Int id ≡ Int (of at.0) = sym gives.2 ∙ ap (λ (r : Row). column r 0) at.4 ∙ shows at.2 at.0 at.3 in
      let same : of at.0 ≡ id = cc in
      ap (option_map of) at.1 ∙ ap Some same

pub as_it_is : (o : Option ℤ) → option_map (λ z. z) o ≡ o
as_it_is None = refl
as_it_is (Some z) = refl

-- ---- what may be spared once an entry names the blob

-- a blob that was kept and is named
pub named_again : (spare : Spare) (id z : ℤ) → spare_but id (spare_too id spare) z ≡ true → spare z ≡ true
named_again spare id z h = drops (spare z) (same_number z id) h
  where
    drops : (a b : Bool) → ((a || b) && not b) ≡ true → a ≡ true
    drops true b h = refl
    drops false true h = h
    drops false false h = h

pub freed_before : (o : Option ℤ) (spare : Spare) (z : ℤ) → spare z ≡ true → spare_freed o spare z ≡ true
freed_before None spare z h = h
freed_before (Some id) spare z h = too_before spare id z h

-- the blob that the entry named
pub freed_at : (o : Option ℤ) (spare : Spare) (z : ℤ) → o ≡ Some z → spare_freed o spare z ≡ true
freed_at None spare z is = absurd (let f : ◌≡◌ {A = Option ℤ} None (Some z) = is in cc)
freed_at (Some id) spare z is = let same : id ≡ z = same_some is in subst (λ y. spare_too id spare y ≡ true) same
    (too_itself spare id)

pub freed_only : (o : Option ℤ) (id : ℤ) (spare : Spare) → o ≡ Some id → (z : ℤ)
    → spare_but id (spare_freed o spare) z ≡ true → spare z ≡ true
freed_only o id spare is z h = named_again spare id z (subst (λ q. spare_but id (spare_freed q spare) z ≡ true) is h)

-- whether an entry names the blob
naming : (o : Option ℤ) (z : ℤ) → (o ≡ Some z) ⊎ (o ≢ Some z)
naming None z = inr (λ e. let f : ◌≡◌ {A = Option ℤ} None (Some z) = e in cc)
naming (Some id) z = elim (same_key numbers id z)
    [ inl same ↦ inl (ap Some same.0) | inr other ↦ inr (λ e. other.0 (same_some e)) ]

-- ---- what is kept

module _ (spare more : Spare) (tables : Trees) (x : Kept) (p : Package) (h : HoldsKept spare tables x p)
    (rows : List Row) where
  -- a tile names a blob: the blob need not be spared any more, and the one that it named before has to be
  pub keeps_tile : (key : TileKey) (id : ℤ) (bytes : List ℕ) → Holds past_rowid tile_row rows (insert x.tiles key id)
      → StandsAt x.shelf (Some id) bytes
      → ((z : ℤ) → spare z ≡ true → Some id ≢ Some z → more z ≡ true)
      → ((z : ℤ) → NamedAt tile_id x.tiles key z → Some id ≢ Some z → more z ≡ true)
      → HoldsKept more (with_tree tables 15 rows) (record x { tiles = insert x.tiles key id })
      (record p { tiles = insert p.tiles key bytes })
  keeps_tile key id bytes holds stands still freed = record {
    tiles = holds;
    media = h.media;
    pieces = h.pieces;
    blobs = h.blobs;
    tiles_told = tells_put tile_keys tile_id tile_with x.shelf x.tiles p.tiles key id bytes h.tiles_told stands;
    media_told = h.media_told;
    pieces_told = h.pieces_told;
    are = h.are;
    named = λ z b is. elim (naming (Some id) z) [
      | inl same ↦ inl (inl (names_put tile_keys tile_id x.tiles key id z same))
      | inr other ↦ elim (h.named z b is) [
        | inl named ↦ elim named [
          | inl tile ↦ elim (named_put tile_keys tile_id x.tiles key id z tile)
              [ inl stays ↦ inl (inl stays) | inr goes ↦ inr (freed z goes other) ]
          | inr others ↦ inl (inr others)
        ]
        | inr spared ↦ inr (still z spared other)
      ]
    ];
  }

  pub keeps_no_tile : (key : TileKey) → Holds past_rowid tile_row rows (remove x.tiles key)
      → ((z : ℤ) → spare z ≡ true → more z ≡ true)
      → ((z : ℤ) → NamedAt tile_id x.tiles key z → more z ≡ true)
      → HoldsKept more (with_tree tables 15 rows) (record x { tiles = remove x.tiles key })
      (record p { tiles = remove p.tiles key })
  keeps_no_tile key holds still freed = record {
    tiles = holds;
    media = h.media;
    pieces = h.pieces;
    blobs = h.blobs;
    tiles_told = tells_removed tile_keys tile_id tile_with x.shelf x.tiles p.tiles key h.tiles_told;
    media_told = h.media_told;
    pieces_told = h.pieces_told;
    are = h.are;
    named = λ z b is. elim (h.named z b is) [
      | inl named ↦ elim named [
        | inl tile ↦ elim (named_removed tile_keys tile_id x.tiles key z tile)
            [ inl stays ↦ inl (inl stays) | inr goes ↦ inr (freed z goes) ]
        | inr others ↦ inl (inr others)
      ]
      | inr spared ↦ inr (still z spared)
    ];
  }

  pub keeps_medium : (key : Item) (i : MediumRow) (bytes : List ℕ)
      → Holds past_rowid medium_row rows (insert x.media key i)
      → StandsAt x.shelf (medium_id i) bytes
      → ((z : ℤ) → spare z ≡ true → medium_id i ≢ Some z → more z ≡ true)
      → ((z : ℤ) → NamedAt medium_id x.media key z → medium_id i ≢ Some z → more z ≡ true)
      → HoldsKept more (with_tree tables 19 rows) (record x { media = insert x.media key i })
      (record p { media = insert p.media key (medium_with i bytes) })
  keeps_medium key i bytes holds stands still freed = record {
    tiles = h.tiles;
    media = holds;
    pieces = h.pieces;
    blobs = h.blobs;
    tiles_told = h.tiles_told;
    media_told = tells_put items medium_id medium_with x.shelf x.media p.media key i bytes h.media_told stands;
    pieces_told = h.pieces_told;
    are = h.are;
    named = λ z b is. elim (naming (medium_id i) z) [
      | inl same ↦ inl (inr (inl (names_put items medium_id x.media key i z same)))
      | inr other ↦ elim (h.named z b is) [
        | inl named ↦ elim named [
          | inl tile ↦ inl (inl tile)
          | inr others ↦ elim others [
            | inl medium ↦ elim (named_put items medium_id x.media key i z medium)
                [ inl stays ↦ inl (inr (inl stays)) | inr goes ↦ inr (freed z goes other) ]
            | inr piece ↦ inl (inr (inr piece))
          ]
        ]
        | inr spared ↦ inr (still z spared other)
      ]
    ];
  }

  pub keeps_no_medium : (key : Item) → Holds past_rowid medium_row rows (remove x.media key)
      → ((z : ℤ) → spare z ≡ true → more z ≡ true)
      → ((z : ℤ) → NamedAt medium_id x.media key z → more z ≡ true)
      → HoldsKept more (with_tree tables 19 rows) (record x { media = remove x.media key })
      (record p { media = remove p.media key })
  keeps_no_medium key holds still freed = record {
    tiles = h.tiles;
    media = holds;
    pieces = h.pieces;
    blobs = h.blobs;
    tiles_told = h.tiles_told;
    media_told = tells_removed items medium_id medium_with x.shelf x.media p.media key h.media_told;
    pieces_told = h.pieces_told;
    are = h.are;
    named = λ z b is. elim (h.named z b is) [
      | inl named ↦ elim named [
        | inl tile ↦ inl (inl tile)
        | inr others ↦ elim others [
          | inl medium ↦ elim (named_removed items medium_id x.media key z medium)
              [ inl stays ↦ inl (inr (inl stays)) | inr goes ↦ inr (freed z goes) ]
          | inr piece ↦ inl (inr (inr piece))
        ]
      ]
      | inr spared ↦ inr (still z spared)
    ];
  }

  pub keeps_piece : (key : PieceKey) (i : StagedRow) (bytes : List ℕ)
      → Holds past_rowid staged_row rows (insert x.pieces key i)
      → StandsAt x.shelf (piece_id i) bytes
      → ((z : ℤ) → spare z ≡ true → piece_id i ≢ Some z → more z ≡ true)
      → ((z : ℤ) → NamedAt piece_id x.pieces key z → piece_id i ≢ Some z → more z ≡ true)
      → HoldsKept more (with_tree tables 25 rows) (record x { pieces = insert x.pieces key i })
      (record p { pieces = insert p.pieces key (piece_with i bytes) })
  keeps_piece key i bytes holds stands still freed = record {
    tiles = h.tiles;
    media = h.media;
    pieces = holds;
    blobs = h.blobs;
    tiles_told = h.tiles_told;
    media_told = h.media_told;
    pieces_told = tells_put piece_keys piece_id piece_with x.shelf x.pieces p.pieces key i bytes h.pieces_told stands;
    are = h.are;
    named = λ z b is. elim (naming (piece_id i) z) [
      | inl same ↦ inl (inr (inr (names_put piece_keys piece_id x.pieces key i z same)))
      | inr other ↦ elim (h.named z b is) [
        | inl named ↦ elim named [
          | inl tile ↦ inl (inl tile)
          | inr others ↦ elim others [
            | inl medium ↦ inl (inr (inl medium))
            | inr piece ↦ elim (named_put piece_keys piece_id x.pieces key i z piece)
                [ inl stays ↦ inl (inr (inr stays)) | inr goes ↦ inr (freed z goes other) ]
          ]
        ]
        | inr spared ↦ inr (still z spared other)
      ]
    ];
  }

-- ---- the package with it

module _ (spare more : Spare) (version : ℤ) (tables : Trees) (x : View) (h : HoldsAs spare version tables x)
    (rows : List Row) (k : Kept) where
  pub holds_tiles : (m : FinMap tile_cmp (List ℕ))
      → HoldsKept more (with_tree tables 15 rows) k (record (x.content) { tiles = m })
      → HoldsAs more version (with_tree tables 15 rows)
      (record { content = record (x.content) { tiles = m }; kept = k })
  holds_tiles m keeps = (
    record {
      systems = h.0.systems;
      contents = h.0.contents;
      kinds = h.0.kinds;
      sets = h.0.sets;
      matrices = h.0.matrices;
      extensions = h.0.extensions;
      rows = h.0.rows;
      relations = h.0.relations;
      pairings = h.0.pairings;
      editions = h.0.editions;
      kept = k;
      keeps = keeps;
      profile = h.0.profile;
    },
    refl,
  )

  pub holds_media : (m : FinMap item_cmp Medium)
      → HoldsKept more (with_tree tables 19 rows) k (record (x.content) { media = m })
      → HoldsAs more version (with_tree tables 19 rows)
      (record { content = record (x.content) { media = m }; kept = k })
  holds_media m keeps = (
    record {
      systems = h.0.systems;
      contents = h.0.contents;
      kinds = h.0.kinds;
      sets = h.0.sets;
      matrices = h.0.matrices;
      extensions = h.0.extensions;
      rows = h.0.rows;
      relations = h.0.relations;
      pairings = h.0.pairings;
      editions = h.0.editions;
      kept = k;
      keeps = keeps;
      profile = h.0.profile;
    },
    refl,
  )

  pub holds_pieces : (m : FinMap piece_cmp PieceRow)
      → HoldsKept more (with_tree tables 25 rows) k (record (x.content) { pieces = m })
      → HoldsAs more version (with_tree tables 25 rows)
      (record { content = record (x.content) { pieces = m }; kept = k })
  holds_pieces m keeps = (
    record {
      systems = h.0.systems;
      contents = h.0.contents;
      kinds = h.0.kinds;
      sets = h.0.sets;
      matrices = h.0.matrices;
      extensions = h.0.extensions;
      rows = h.0.rows;
      relations = h.0.relations;
      pairings = h.0.pairings;
      editions = h.0.editions;
      kept = k;
      keeps = keeps;
      profile = h.0.profile;
    },
    refl,
  )
