-- What a DELETE with its cascades leaves of the parts of a package.
use Rattle.std.proofs.Common.{◌≡◌, ◌⊎◌, inl, inr, ℕ, ℤ, Bool, true, not, List, ◌∷◌, Option, Some, refl, sym, ap, subst₂}
use Rattle.std.proofs.Common.{◌∙◌}
use Rattle.std.specs.declared.cmp.Ordering.{Ordering}
use Rattle.std.specs.FinMap.{FinMap, retain_keys}
use Rattle.mm_definitions.proofs.Parts.{IsKeyOrder, kept, let_go, true_or_false}
use Rattle.mm_definitions.proofs.KeyLaws.{tile_keys, items, piece_keys}
use Rattle.sqlite.specs.declared.types.Value.TheVariants.{Text as Words}
use Rattle.sql_forms.specs.Collation.TheVariants.{Binary}
use Rattle.sqlite.specs.Order.{Row}
use Rattle.sqlite.specs.Tree.{Trees}
use Rattle.sql_forms.specs.Rules.{equal}
use Rattle.sql_forms.specs.Cascade.{has_at, cut}
use Rattle.sql_forms.proofs.Keys.{equal_text, columns_are}
use Rattle.mm_store.specs.Places.{table_place, mapping_place, edition_place}
use Rattle.mm_definitions.specs.Keys.{Text, same_text}
use Rattle.mm_definitions.specs.Effects.{is_other}
use Rattle.mm_definitions.specs.Package.{Package, Relation}
use Rattle.mm_store.specs.Rows.{past_rowid, past_id, relation_row}
use Rattle.mm_store.specs.Stands.{HoldingBut}
use Rattle.mm_store.specs.Blobs.{Shelf, Told, Tells, NamesBlob}
use Rattle.mm_store.specs.Kept.{Spare, tile_id, tile_with, medium_id, medium_with, piece_id, piece_with}
use Rattle.mm_store.specs.Removals.{without_table_rows, without_relation_rows, without_edition_rows, kept_without_table}
use Rattle.mm_store.specs.Removals.{kept_without_edition, Freed, FreedByTable, FreedByEdition}
use Rattle.mm_store.proofs.Parts.{removes_where, retains}
use Rattle.mm_store.proofs.Keys as parts
use Rattle.mm_store.proofs.Keys.{columns_after}

-- ---- entries that name blobs

module _ {K I V : Type 0} {R : K → K → Ordering} (o : IsKeyOrder R) (id_of : I → Option ℤ) (filled : I → List ℕ → V)
    (shelf : Shelf) (ids : FinMap R I) (m : FinMap R V) (keep : K → Bool) where
  -- those that are left tell what is left
  pub tells_left : Tells id_of filled shelf ids m → Tells id_of filled shelf (retain_keys ids keep) (retain_keys m keep)
  tells_left h q = elim (true_or_false (keep q)) [
    | inl stays ↦ subst₂ (Told id_of filled shelf) (sym (kept o ids keep q stays)) (sym (kept o m keep q stays)) (h q)
    | inr goes ↦ subst₂ (Told id_of filled shelf) (sym (let_go o ids keep q goes)) (sym (let_go o m keep q goes)) refl
  ]

  -- a blob that an entry names is named by one that is left, or freed by one that goes
  pub named_left : (id : ℤ) → NamesBlob id_of ids id → NamesBlob id_of (retain_keys ids keep) id
      ⊎ Freed id_of ids keep id
  named_left id names = elim (true_or_false (keep names.0)) [
    | inl stays ↦ inl (names.0, names.1, kept o ids keep names.0 stays ∙ names.2, names.3)
    | inr goes ↦ inr (names.0, names.1, goes, names.2, names.3)
  ]

module _ (name : Text) where
  abbrev names : Row → Bool
  names = has_at (Some 1) (Words name)

  named : (r : Row) (l : Text) (rest : Row) → past_rowid r ≡ Words l ∷ rest → names r ≡ same_text l name
  named r l rest is = ap (λ x. equal Binary x (Words name)) (columns_are r (Words l ∷ rest) 0 is) ∙ equal_text l name

  other : (r : Row) (l : Text) (rest : Row) → past_rowid r ≡ Words l ∷ rest → not (names r) ≡ is_other name l
  other r l rest is = ap not (named r l rest is)

  mapped : (r : Row) (l : Text) (v : Relation) → past_id r ≡ relation_row l v
      → has_at (Some 7) (Words name) r ≡ same_text l name
  mapped r l v is = ap (λ x. equal Binary x (Words name)) (columns_after r (relation_row l v) 5 is) ∙ equal_text l name

  module _ (spare more : Spare) (version : ℤ) (db : Trees) (p : Package) (h : HoldingBut spare version db p)
      (still : (z : ℤ) → spare z ≡ true → more z ≡ true) where
    pub drops_table : ((z : ℤ) → FreedByTable name h.kept z → more z ≡ true)
        → HoldingBut more version (cut table_place (Words name) db) (without_table_rows name p)
    drops_table freed = record {
      systems = h.systems;
      contents = removes_where parts.contents (db 1) p.contents h.contents name names (λ r l v is. named r l _ is);
      kinds = removes_where parts.kinds (db 13) p.kinds h.kinds name names (λ r l v is. named r l _ is);
      sets = removes_where parts.sets (db 4) p.sets h.sets name names (λ r l v is. named r l _ is);
      matrices = retains parts.matrices (db 6) p.matrices h.matrices names (λ k. is_other name k.table)
          (λ r l v is. other r l.table _ is);
      extensions = h.extensions;
      rows = retains parts.rows (db 17) p.rows h.rows names (λ k. is_other name k.table)
          (λ r l v is. other r l.table _ is);
      relations = h.relations;
      pairings = h.pairings;
      editions = h.editions;
      kept = kept_without_table name h.kept;
      keeps = record {
        tiles = retains parts.tiles (db 15) h.kept.tiles h.keeps.tiles names (λ k. is_other name k.table)
            (λ r l v is. other r l.table _ is);
        media = retains parts.media (db 19) h.kept.media h.keeps.media names (λ k. is_other name k.table)
            (λ r l v is. other r l.table _ is);
        pieces = h.keeps.pieces;
        blobs = h.keeps.blobs;
        tiles_told = tells_left tile_keys tile_id tile_with h.kept.shelf h.kept.tiles p.tiles
            (λ k. is_other name k.table) h.keeps.tiles_told;
        media_told = tells_left items medium_id medium_with h.kept.shelf h.kept.media p.media
            (λ k. is_other name k.table) h.keeps.media_told;
        pieces_told = h.keeps.pieces_told;
        are = h.keeps.are;
        named = λ z b is. elim (h.keeps.named z b is) [
          | inl named ↦ elim named [
            | inl tile ↦ elim (named_left tile_keys tile_id tile_with h.kept.shelf h.kept.tiles p.tiles
                (λ k. is_other name k.table) z tile)
                [ inl stays ↦ inl (inl stays) | inr goes ↦ inr (freed z (inl goes)) ]
            | inr others ↦ elim others [
              | inl medium ↦ elim (named_left items medium_id medium_with h.kept.shelf h.kept.media p.media
                  (λ k. is_other name k.table) z medium)
                  [ inl stays ↦ inl (inr (inl stays)) | inr goes ↦ inr (freed z (inr goes)) ]
              | inr piece ↦ inl (inr (inr piece))
            ]
          ]
          | inr spared ↦ inr (still z spared)
        ];
      };
      profile = h.profile;
    }

    pub drops_table_keeps : (freed : (z : ℤ) → FreedByTable name h.kept z → more z ≡ true)
        → (drops_table freed).kept ≡ kept_without_table name h.kept
    unfolding drops_table
    drops_table_keeps freed = refl

    pub drops_relation : HoldingBut spare version (cut mapping_place (Words name) db) (without_relation_rows name p)
    drops_relation = record {
      systems = h.systems;
      contents = h.contents;
      kinds = h.kinds;
      sets = h.sets;
      matrices = h.matrices;
      extensions = h.extensions;
      rows = h.rows;
      relations = removes_where parts.relations (db 10) p.relations h.relations name (has_at (Some 7) (Words name))
          mapped;
      pairings = retains parts.pairings (db 21) p.pairings h.pairings names (λ k. is_other name k.mapping)
          (λ r l v is. other r l.mapping _ is);
      editions = h.editions;
      kept = h.kept;
      keeps = record {
        tiles = h.keeps.tiles;
        media = h.keeps.media;
        pieces = h.keeps.pieces;
        blobs = h.keeps.blobs;
        tiles_told = h.keeps.tiles_told;
        media_told = h.keeps.media_told;
        pieces_told = h.keeps.pieces_told;
        are = h.keeps.are;
        named = h.keeps.named;
      };
      profile = h.profile;
    }

    pub drops_edition : ((z : ℤ) → FreedByEdition name h.kept z → more z ≡ true)
        → HoldingBut more version (cut edition_place (Words name) db) (without_edition_rows name p)
    drops_edition freed = record {
      systems = h.systems;
      contents = h.contents;
      kinds = h.kinds;
      sets = h.sets;
      matrices = h.matrices;
      extensions = h.extensions;
      rows = h.rows;
      relations = h.relations;
      pairings = h.pairings;
      editions = removes_where parts.editions (db 23) p.editions h.editions name names (λ r l v is. named r l _ is);
      kept = kept_without_edition name h.kept;
      keeps = record {
        tiles = h.keeps.tiles;
        media = h.keeps.media;
        pieces = retains parts.pieces (db 25) h.kept.pieces h.keeps.pieces names (λ k. is_other name k.edition)
            (λ r l v is. other r l.edition _ is);
        blobs = h.keeps.blobs;
        tiles_told = h.keeps.tiles_told;
        media_told = h.keeps.media_told;
        pieces_told = tells_left piece_keys piece_id piece_with h.kept.shelf h.kept.pieces p.pieces
            (λ k. is_other name k.edition) h.keeps.pieces_told;
        are = h.keeps.are;
        named = λ z b is. elim (h.keeps.named z b is) [
          | inl named ↦ elim named [
            | inl tile ↦ inl (inl tile)
            | inr others ↦ elim others [
              | inl medium ↦ inl (inr (inl medium))
              | inr piece ↦ elim (named_left piece_keys piece_id piece_with h.kept.shelf h.kept.pieces p.pieces
                  (λ k. is_other name k.edition) z piece)
                  [ inl stays ↦ inl (inr (inr stays)) | inr goes ↦ inr (freed z goes) ]
            ]
          ]
          | inr spared ↦ inr (still z spared)
        ];
      };
      profile = h.profile;
    }

    pub drops_edition_keeps : (freed : (z : ℤ) → FreedByEdition name h.kept z → more z ≡ true)
        → (drops_edition freed).kept ≡ kept_without_edition name h.kept
    unfolding drops_edition
    drops_edition_keeps freed = refl
