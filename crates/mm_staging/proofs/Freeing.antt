-- The rows that go with an edition.
use Rattle.std.proofs.Common.{◌≡◌, ◌⊎◌, inl, inr, ℤ, Bool, true, false, ◌&&◌, List, ◌∷◌, [], Some, ap, sym, subst}
use Rattle.std.proofs.Common.{◌∙◌, refl}
use Rattle.std.specs.List.{list_any}
use Rattle.std.specs.FinMap.{retain_keys}
use Rattle.std.proofs.lemmas.Bool.{or_right, not-false}
use Rattle.sqlite.specs.declared.types.Value.TheVariants.{Null, Int, Text as Words}
use Rattle.sql_forms.specs.Collation.TheVariants.{Binary}
use Rattle.sql_forms.specs.Order.{value_cmp}
use Rattle.sql_forms.specs.BinaryOp.TheVariants.{Is}
use Rattle.sql_forms.specs.UnaryOp.TheVariants.{Not}
use Rattle.sqlite.specs.Ops.{binary, unary, is_true}
use Rattle.sqlite.specs.Order.{Row, column}
use Rattle.sqlite.specs.Term.{op1}
use Rattle.sqlite.specs.Tree.{Trees, with_tree}
use Rattle.sql_forms.specs.Rules.{equal}
use Rattle.sql_forms.specs.Cascade.{cut}
use Rattle.sql_forms.specs.Forms.{equals, is_absent}
use Rattle.sql_forms.specs.Tables.{passes, without}
use Rattle.sql_forms.proofs.Keys.{equal_text, columns_are}
use Rattle.mm_store.specs.Places.{edition_place}
use Rattle.mm_definitions.specs.Effects.{is_other}
use Rattle.mm_definitions.specs.Keys.{Text, same_text, PieceKey}
use Rattle.mm_definitions.specs.Package.{Package}
use Rattle.mm_store.specs.Blobs.{NamesBlob}
use Rattle.mm_store.specs.Kept.{Kept, Spare, no_spare, HoldsKept, IsNamed, tile_id, medium_id, piece_id, piece_with}
use Rattle.mm_store.specs.Removals.{without_edition_rows, kept_without_edition, FreedByEdition}
use Rattle.mm_store.specs.Rows.{past_rowid, maybe, tile_row, medium_row, StagedRow, staged_row}
use Rattle.mm_definitions.proofs.KeyLaws.{piece_keys}
use Rattle.mm_definitions.proofs.Parts.{true_or_false}
use Rattle.mm_store.proofs.Keys as parts
use Rattle.mm_store.proofs.Keys.{by_text}
use Rattle.mm_store.proofs.Parts.{retains}
use Rattle.mm_store.proofs.Removals.{drops_edition, drops_edition_keeps, tells_left, named_left}
use Rattle.mm_blobs.specs.Views.{View, HoldsAs, ListsEach, TellsWhether, spare_each}
use Rattle.mm_blobs.proofs.Keeping.{kept_in, told_names, at_id, hits_id, only_id}
use Rattle.mm_blobs.proofs.Naming.{holds_pieces}
use Rattle.mm_staging.specs.Alone.{FreedByPiecesAlone}
use Rattle.mm_staging.proofs.Rows.{of_other}

present : (z : ℤ) → is_true (unary Not (binary (Is Binary) (Int z) Null)) ≡ true
unfolding unary binary value_cmp
present z = refl

-- a row of the edition that names a blob is found
pub hits_piece : (edition : Text) (r : Row) (k : PieceKey) (i : StagedRow) (z : ℤ) → past_rowid r ≡ staged_row k i
    → is_other edition k.edition ≡ false → piece_id i ≡ Some z
    → passes (equals 1 0 ∷ op1 Not (is_absent 14) ∷ []) (Words edition ∷ []) r ≡ true
hits_piece edition r k i z is gone named =
    let first : equal Binary (column r 1) (Words edition) ≡ true = ap (λ v. equal Binary v (Words edition))
    (columns_are r (staged_row k i) 0 is) ∙ equal_text k.edition edition
    ∙ not-false (same_text k.edition edition) gone in
    let second : is_true (unary Not (binary (Is Binary) (column r 14) Null)) ≡ true =
    ap (λ v. is_true (unary Not (binary (Is Binary) v Null))) (columns_are r (staged_row k i) 13 is ∙ ap maybe named)
    ∙ present z in
    ap (λ b. b && (is_true (unary Not (binary (Is Binary) (column r 14) Null)) && true)) first
    ∙ ap (λ b. b && true) second

pub holds_without : (edition : Text) (more : Spare) (version : ℤ) (db : Trees) (x : View)
    → HoldsAs no_spare version db x
    → ((z : ℤ) → FreedByEdition edition x.kept z → more z ≡ true)
    → HoldsAs more version (cut edition_place (Words edition) db)
    (record { content = without_edition_rows edition x.content; kept = kept_without_edition edition x.kept })
holds_without edition more version db x h freed =
    let still : (z : ℤ) → false ≡ true → more z ≡ true = λ z e. cc in
    let also : (z : ℤ) → FreedByEdition edition h.0.kept z
    → more z ≡ true = subst (λ k. (z : ℤ) → FreedByEdition edition k z → more z ≡ true) (sym h.1) freed in (
      drops_edition edition no_spare more version db x.content h.0 still also,
      drops_edition_keeps edition no_spare more
          version db x.content h.0 still also ∙ ap (kept_without_edition edition) h.1,
    )

-- ---- whether a tile or a medium names a blob, by the rows

module _ (spare : Spare) (tables : Trees) (x : Kept) (p : Package) (h : HoldsKept spare tables x p) (id : ℤ) where
  pub tile_told : (it : Bool) → list_any (at_id 5 id) (tables 15) ≡ it → TellsWhether (NamesBlob tile_id x.tiles id) it
  tile_told = told_names tile_id tile_row (tables 15) x.tiles h.tiles id (at_id 5 id)
      (λ r k i same. hits_id 5 id r (tile_id i) (columns_are r (tile_row k i) 4 same))
      (λ r k i same. only_id 5 id r (tile_id i) (columns_are r (tile_row k i) 4 same))

  pub medium_told : (it : Bool) → list_any (at_id 3 id) (tables 19) ≡ it
      → TellsWhether (NamesBlob medium_id x.media id) it
  medium_told = told_names medium_id medium_row (tables 19) x.media h.media id (at_id 3 id)
      (λ r k i same. hits_id 3 id r (medium_id i) (columns_are r (medium_row k i) 2 same))
      (λ r k i same. only_id 3 id r (medium_id i) (columns_are r (medium_row k i) 2 same))

-- ---- the rows of an edition's pieces go, and the edition stays

module _ (edition : Text) (more : Spare) (version : ℤ) (db : Trees) (x : View) (h : HoldsAs no_spare version db x)
    (freed : (z : ℤ) → FreedByPiecesAlone edition x.kept z → more z ≡ true) where
  kept : HoldsKept no_spare db x.kept x.content
  kept = kept_in no_spare no_spare version db x h

  -- a blob that such a piece names is named still, or may be spared
  named_or_spared : (z : ℤ) → FreedByEdition edition x.kept z
      → IsNamed (kept_without_edition edition x.kept) z ⊎ (more z ≡ true)
  named_or_spared z goes = elim (true_or_false (list_any (at_id 5 z) (db 15))) [
    | inl some ↦ inl (inl (tile_told no_spare db x.kept x.content kept z true some))
    | inr no_tile ↦ elim (true_or_false (list_any (at_id 3 z) (db 19))) [
      | inl some ↦ inl (inr (inl (medium_told no_spare db x.kept x.content kept z true some)))
      | inr no_medium ↦ inr (freed z (
        goes,
        tile_told no_spare db x.kept x.content kept z false no_tile,
        medium_told no_spare db x.kept x.content kept z false no_medium,
      ))
    ]
  ]

  pub holds_without_pieces : HoldsAs more version (with_tree db 25 (without (by_text edition) (db 25)))
      (record {
        content = record (x.content) { pieces = retain_keys x.content.pieces (λ k. is_other edition k.edition) };
        kept = kept_without_edition edition x.kept;
      })
  holds_without_pieces =
      holds_pieces no_spare more version db x h _ _ (retain_keys x.content.pieces (λ k. is_other edition k.edition))
      (record {
        tiles = kept.tiles;
        media = kept.media;
        pieces = retains parts.pieces (db 25) x.kept.pieces kept.pieces (by_text edition)
            (λ k. is_other edition k.edition) (of_other edition);
        blobs = kept.blobs;
        tiles_told = kept.tiles_told;
        media_told = kept.media_told;
        pieces_told = tells_left piece_keys piece_id piece_with x.kept.shelf x.kept.pieces x.content.pieces
            (λ k. is_other edition k.edition) kept.pieces_told;
        are = kept.are;
        named = λ z b is. elim (kept.named z b is) [
          | inl named ↦ elim named [
            | inl tile ↦ inl (inl tile)
            | inr others ↦ elim others [
              | inl medium ↦ inl (inr (inl medium))
              | inr piece ↦ elim (named_left piece_keys piece_id piece_with x.kept.shelf x.kept.pieces x.content.pieces
                  (λ k. is_other edition k.edition) z piece)
                  [ inl stays ↦ inl (inr (inr stays)) | inr goes ↦ named_or_spared z goes ]
            ]
          ]
          | inr spared ↦ absurd (let e : false ≡ true = spared in cc)
        ];
      })

-- what is listed of the blobs that go is all that may be unnamed then
pub listed_too : (Freed : ℤ → Type 0) (blobs : List Row) → ListsEach blobs Freed → (z : ℤ) → Freed z
    → spare_each blobs no_spare z ≡ true
listed_too Freed blobs listed z freed = or_right false (list_any (at_id 0 z) blobs) (listed z freed)
