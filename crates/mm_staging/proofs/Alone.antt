-- The blobs that the pieces of an edition alone name, as one query lists them.
use Rattle.std.proofs.Common.{◌≡◌, inl, inr, ℕ, ℤ, pos, Bool, true, false, ◌&&◌, if◌then◌else◌, List, [], ◌∷◌, ◌++◌}
use Rattle.std.proofs.Common.{length, codes, Some, refl, sym, ap, subst, ◌∙◌}
use Rattle.std.specs.Prelude.{min}
use Rattle.std.specs.List.{list_any, list_all, flat_map}
use Rattle.std.proofs.lemmas.Bool.{or_parts}
use Rattle.sqlite.specs.declared.types.Value.TheVariants.{Null, Int, Text as Words}
use Rattle.sql_forms.specs.Collation.TheVariants.{Binary}
use Rattle.sql_forms.specs.BinaryOp.TheVariants.{Compare}
use Rattle.sql_forms.specs.CompareOp.TheVariants.{Eq}
use Rattle.sql_forms.specs.UnaryOp.TheVariants.{Not}
use Rattle.sqlite.specs.Ops.{unary}
use Rattle.sqlite.specs.Order.{Row, column}
use Rattle.sqlite.specs.Term.{Term, Env, col, op1, op2, holds}
use Rattle.sqlite.specs.Query.{Join, Query, inner, counted, end, matches, IsAnswer}
use Rattle.sqlite.specs.Program.{overlay}
use Rattle.sqlite.specs.Tree.{Trees}
use Rattle.sqlite.specs.Effect.{Answers}
use Rattle.sqlite.specs.Listing.{understood}
use Rattle.sqlite.specs.State.{State, Shown, IsUnchanged}
use Rattle.sql_forms.specs.Compute.{everything}
use Rattle.sql_forms.specs.Lists.{Has}
use Rattle.sql_forms.specs.Rules.{equal}
use Rattle.sql_forms.specs.Forms.{query, alone, no_limit, equals, is_absent}
use Rattle.sql_forms.specs.Tables.{is_table, tables_of, passes}
use Rattle.sql_forms.proofs.Joins as joins
use Rattle.sql_forms.proofs.Keys.{columns_are}
use Rattle.sql_forms.proofs.ListLemmas.{some_from}
use Rattle.sql_forms.proofs.Lists.{flat_has}
use Rattle.sql_forms.proofs.Queries.{no_overlay}
use Rattle.sql_forms.proofs.Selects.{IsSelect}
use Rattle.sql_forms.proofs.States.{shows_as}
use Rattle.sql_forms.proofs.Tables.{rows_at}
use Rattle.mm_definitions.specs.Keys.{Text}
use Rattle.mm_definitions.specs.Package.{Package}
use Rattle.mm_definitions.proofs.Parts.{true_or_false}
use Rattle.mm_store.specs.Kept.{Kept, Spare, HoldsKept}
use Rattle.mm_store.specs.Rows.{maybe, staged_row}
use Rattle.mm_store.specs.Tables.{schema}
use Rattle.mm_blobs.specs.Views.{ListsEach}
use Rattle.mm_blobs.proofs.Keeping.{at_id, hits_id}
use Rattle.mm_blobs.proofs.Sweeping.{there_if}
use Rattle.mm_staging.specs.Alone.{FreedByPiecesAlone}
use Rattle.mm_staging.proofs.Freeing.{hits_piece, tile_told, medium_told}

-- ---- the query

-- a column of a slot against the blob of the piece
abbrev names : ℕ → ℕ → Term
names slot place = op2 (Compare Eq Binary) (col slot place) (col 1 14)

abbrev by_media : Join
by_media = counted 1 (inner 19 end) (names 3 3 ∷ []) end

abbrev by_tiles : Join
by_tiles = counted 1 (inner 15 end) (names 2 5 ∷ []) by_media

-- a piece of the edition that names a blob
abbrev of_edition : List Term
of_edition = equals 1 0 ∷ op1 Not (is_absent 14) ∷ []

-- the same, where no tile and no medium was counted
abbrev of_edition_alone : List Term
of_edition_alone = equals 1 0 ∷ op1 Not (is_absent 14) ∷ op1 Not (col 2 0) ∷ op1 Not (col 3 0) ∷ []

abbrev asked : Query
asked = query (inner 25 by_tiles) of_edition_alone (col 1 14 ∷ []) [] no_limit

abbrev text : List ℕ
text = codes "SELECT p.blob FROM mm_pieces AS p WHERE p.edition = ?1 AND p.blob IS NOT NULL AND NOT EXISTS (SELECT 1 FROM mm_tiles AS t WHERE t.blob = p.blob) AND NOT EXISTS (SELECT 1 FROM mm_media AS m WHERE m.blob = p.blob)"

statement : IsSelect schema text 25 asked (codes "blob" ∷ [])
unfolding understood everything
statement = record { compiled = refl; plain = (refl, refl); unlisted = refl; listed = refl }

-- ---- a piece that the query shows

abbrev zero : Row
zero = Int (pos 0) ∷ []

-- where no row passes the test, none is counted
none_counted : (counts test : Row → Bool) (f : Row → Env) (rows : List Row) → ((t : Row) → counts t ≡ test t)
    → list_any test rows ≡ false → flat_map (λ t. if counts t then f t ∷ [] else []) rows ≡ []
none_counted counts test f [] is none = refl
none_counted counts test f (t ∷ rows) is none =
    let parts = or_parts (test t) (list_any test rows) none in
    ap (λ b. (if b then f t ∷ [] else []) ++ flat_map (λ u. if counts u then f u ∷ [] else []) rows) (is t ∙ parts.0)
    ∙ none_counted counts test f rows is parts.1

holds_alone : (params r : Row) → passes of_edition params r ≡ true
    → list_all (holds (params ∷ r ∷ zero ∷ zero ∷ [])) of_edition_alone ≡ true
unfolding unary
holds_alone params r h = h

module _ (db : Trees) (params r : Row) (id : ℤ) (at : column r 14 ≡ Int id) where
  abbrev after_tiles : List Env → List Env
  after_tiles found = matches db of_edition_alone by_media (params ∷ r ∷ (Int (pos (min 1 (length found))) ∷ []) ∷ [])

  abbrev after_media : List Env → List Env
  after_media found = matches db of_edition_alone end (params ∷ r ∷ zero ∷ (Int (pos (min 1 (length found))) ∷ []) ∷ [])

  -- where no row of a tile or a medium names its blob
  alone_shown : (rows : List Row) → IsAnswer asked db params rows → Has (db 25) r → passes of_edition params r ≡ true
      → list_any (at_id 5 id) (db 15) ≡ false → list_any (at_id 3 id) (db 19) ≡ false → Has rows (column r 14 ∷ [])
  alone_shown rows a there passed no_tile no_medium =
      let zeros : Env = params ∷ r ∷ zero ∷ zero ∷ [] in
      let one : matches db of_edition_alone by_tiles (params ∷ r ∷ []) ≡ after_tiles [] =
      ap after_tiles (none_counted (λ t. list_all (holds (params ∷ r ∷ t ∷ [])) (names 2 5 ∷ [])) (at_id 5 id)
      (λ t. params ∷ r ∷ t ∷ []) (db 15) (λ t. ap (λ v. equal Binary (column t 5) v && true) at) no_tile) in
      let two : after_tiles [] ≡ after_media [] =
      ap after_media (none_counted (λ t. list_all (holds (params ∷ r ∷ zero ∷ t ∷ [])) (names 3 3 ∷ [])) (at_id 3 id)
      (λ t. params ∷ r ∷ zero ∷ t ∷ []) (db 19) (λ t. ap (λ v. equal Binary (column t 3) v && true) at) no_medium) in
      let last : Has (after_media []) zeros = there_if (list_all (holds zeros) of_edition_alone) zeros
      (holds_alone params r passed) in
      let found : Has (matches db of_edition_alone by_tiles (params ∷ r ∷ [])) zeros =
      subst (λ l. Has l zeros) (sym (one ∙ two)) last in
      joins.shows (inner 25 by_tiles) of_edition_alone (col 1 14 ∷ []) [] db params rows a zeros
      (flat_has (λ (row : Row). matches db of_edition_alone by_tiles (params ∷ row ∷ [])) (db 25) r zeros there found)

-- ---- from the rows that the query shows

module _ (old new : State) (has : old.now.schema ≡ schema) (edition : Text) (given : Row)
    (same : given ≡ Words edition ∷ []) (rows : List Row) (shown : Shown text given old new rows) where
  abbrev db : Trees
  db = overlay old.now.trees []

  abbrev seen_in : ℕ → List Row
  seen_in = tables_of schema old.now.trees

  read : Answers old.now (alone asked) (Words edition ∷ []) rows × IsUnchanged old new
  read = shows_as old new text (Words edition ∷ []) schema has _ statement.compiled statement.plain statement.unlisted
      rows (subst (λ p. Shown text p old new rows) same shown)

  pub alone_same : IsUnchanged old new
  alone_same = read.1

  at_table : (n : ℕ) → is_table schema n ≡ true → db n ≡ seen_in n
  at_table n listed = no_overlay old.now.trees n ∙ sym (rows_at schema n old.now.trees listed)

  -- each blob that goes with the pieces alone is listed
  pub each_alone : (spare : Spare) (x : Kept) (p : Package) → HoldsKept spare seen_in x p
      → ListsEach rows (FreedByPiecesAlone edition x)
  each_alone spare x p h id freed =
      let piece = freed.0 in
      let r = h.pieces.complete piece.0 piece.1 piece.3 in
      let at : column r.0 14 ≡ Int id = columns_are r.0 (staged_row piece.0 piece.1) 13 r.2 ∙ ap maybe piece.4 in
      let here : Has (db 25) r.0 = subst (λ l. Has l r.0) (sym (at_table 25 refl)) r.1 in
      let no_tile : list_any (at_id 5 id) (seen_in 15) ≡ false =
      elim (true_or_false (list_any (at_id 5 id) (seen_in 15)))
      [ inl some ↦ absurd (freed.1 (tile_told spare seen_in x p h id true some)) | inr none ↦ none ] in
      let no_medium : list_any (at_id 3 id) (seen_in 19) ≡ false =
      elim (true_or_false (list_any (at_id 3 id) (seen_in 19)))
      [ inl some ↦ absurd (freed.2 (medium_told spare seen_in x p h id true some)) | inr none ↦ none ] in
      let there = alone_shown db (Words edition ∷ []) r.0 id at rows (read.0.answer Null) here
      (hits_piece edition r.0 piece.0 piece.1 id r.2 piece.2 piece.4)
      (ap (list_any (at_id 5 id)) (at_table 15 refl) ∙ no_tile)
      (ap (list_any (at_id 3 id)) (at_table 19 refl) ∙ no_medium) in
      some_from (at_id 0 id) rows (column r.0 14 ∷ []) there (hits_id 0 id (column r.0 14 ∷ []) (Some id) at refl)
