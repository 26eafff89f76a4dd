-- The blobs that nothing names, as one query lists them.
use Rattle.std.proofs.Common.{◌≡◌, ◌⊎◌, inl, inr, ℕ, ℤ, pos, Bool, true, false, ◌++◌, List, [], ◌∷◌, length}
use Rattle.std.proofs.Common.{if◌then◌else◌, Some, refl, sym, ap, subst, ◌∙◌}
use Rattle.std.specs.Prelude.{min}
use Rattle.std.specs.List.{list_any, list_all, flat_map}
use Rattle.std.specs.FinMap.{get}
use Rattle.std.proofs.lemmas.Bool.{both_ways, false_from_ne_true, or_right}
use Rattle.sqlite.specs.declared.types.Value.TheVariants.{Null, Int}
use Rattle.sql_forms.specs.Collation.TheVariants.{Binary}
use Rattle.sql_forms.specs.BinaryOp.TheVariants.{Compare}
use Rattle.sql_forms.specs.CompareOp.TheVariants.{Eq}
use Rattle.sql_forms.specs.UnaryOp.TheVariants.{Not}
use Rattle.sqlite.specs.Ops.{unary}
use Rattle.sqlite.specs.Order.{Row}
use Rattle.sqlite.specs.Term.{Term, Env, col, op1, op2, holds}
use Rattle.sqlite.specs.Query.{Join, inner, counted, end, matches, IsAnswer}
use Rattle.sqlite.specs.Program.{overlay}
use Rattle.sqlite.specs.Tree.{Trees}
use Rattle.sqlite.specs.Effect.{Answers}
use Rattle.sqlite.specs.State.{State, Shown, IsUnchanged}
use Rattle.sql_forms.specs.Lists.{Has}
use Rattle.sql_forms.proofs.ListLemmas.{some_from}
use Rattle.sql_forms.specs.Forms.{query, alone, no_limit}
use Rattle.sql_forms.specs.Tables.{is_table, tables_of}
use Rattle.sql_forms.proofs.Joins as joins
use Rattle.sql_forms.proofs.Keys.{columns_are}
use Rattle.sql_forms.proofs.Lists.{flat_has}
use Rattle.sql_forms.proofs.Queries.{no_overlay}
use Rattle.sql_forms.proofs.States.{shows_as}
use Rattle.sql_forms.proofs.Tables.{rows_at}
use Rattle.mm_store.specs.Tables.{schema}
use Rattle.mm_store.specs.Compiled.{unnamed_blobs}
use Rattle.mm_store.proofs.Selecting as statement
use Rattle.mm_definitions.specs.Package.{Package}
use Rattle.mm_definitions.proofs.Parts.{true_or_false}
use Rattle.mm_store.specs.Blobs.{Blob, blob_row}
use Rattle.mm_store.specs.Kept.{Kept, Spare, no_spare, HoldsKept, IsNamed, tile_id, medium_id, piece_id}
use Rattle.mm_store.specs.Rows.{tile_row, medium_row, staged_row}
use Rattle.mm_blobs.specs.Views.{spare_each}
use Rattle.mm_blobs.proofs.Keeping.{at_id, hits_id, only_id, told_names}

-- a column of a slot against the rowid of the blob
abbrev names : ℕ → ℕ → Term
names slot place = op2 (Compare Eq Binary) (col slot place) (col 1 0)

abbrev no_names : List Term
no_names = op1 Not (col 2 0) ∷ op1 Not (col 3 0) ∷ op1 Not (col 4 0) ∷ []

abbrev by_pieces : Join
by_pieces = counted 1 (inner 25 end) (names 4 14 ∷ []) end

abbrev by_media : Join
by_media = counted 1 (inner 19 end) (names 3 3 ∷ []) by_pieces

abbrev by_tiles : Join
by_tiles = counted 1 (inner 15 end) (names 2 5 ∷ []) by_media

abbrev zero : Row
zero = Int (pos 0) ∷ []

all_zero : (params r : Row) → list_all (holds (params ∷ r ∷ zero ∷ zero ∷ zero ∷ [])) no_names ≡ true
unfolding unary
all_zero params r = refl

-- ---- a count of no rows

none_flat : {X Y : Type 0} (f : X → List Y) (xs : List X) → ((x : X) → Has xs x → f x ≡ []) → flat_map f xs ≡ []
none_flat f [] none = refl
none_flat f (x ∷ xs) none = ap (λ l. l ++ flat_map f xs) (none x (inl refl))
    ∙ none_flat f xs (λ y there. none y (inr there))

left_out : (b : Bool) (e : Env) → b ≡ false → (if b then e ∷ [] else []) ≡ []
left_out true e h = absurd (let f : true ≡ false = h in cc)
left_out false e h = refl

pub there_if : (b : Bool) (e : Env) → b ≡ true → Has (if b then e ∷ [] else []) e
there_if true e h = inl refl
there_if false e h = absurd (let f : false ≡ true = h in cc)

none_matches : (db : Trees) (tree : ℕ) (terms : List Term) (env : Env) (test : Row → Bool)
    → ((t : Row) → list_all (holds (env ++ t ∷ [])) terms ≡ test t) → list_any test (db tree) ≡ false
    → matches db terms (inner tree end) env ≡ []
none_matches db tree terms env test is none =
    none_flat (λ t. matches db terms end (env ++ t ∷ [])) (db tree)
    (λ t there. left_out (list_all (holds (env ++ t ∷ [])) terms) (env ++ t ∷ [])
    (is t ∙ false_from_ne_true (test t) (λ hit. both_ways _ none (some_from test (db tree) t there hit))))

module _ (db : Trees) (params : Row) (id : ℤ) (b : Blob) where
  abbrev row : Row
  row = blob_row id b

  abbrev after_tiles : List Env → List Env
  after_tiles found = matches db no_names by_media (params ∷ row ∷ (Int (pos (min 1 (length found))) ∷ []) ∷ [])

  abbrev after_media : List Env → List Env
  after_media found = matches db no_names by_pieces (params ∷ row ∷ zero ∷ (Int (pos (min 1 (length found))) ∷ []) ∷ [])

  abbrev after_pieces : List Env → List Env
  after_pieces found = matches db no_names end (params ∷ row ∷ zero ∷ zero ∷ (Int (pos (min 1 (length found))) ∷ [])
      ∷ [])

  -- the blob is shown where no row names it
  pub unnamed_shown : (rows : List Row) → IsAnswer (query (inner 27 by_tiles) no_names (col 1 0 ∷ []) [] no_limit) db
      params rows → Has (db 27) row
      → list_any (at_id 5 id) (db 15) ≡ false → list_any (at_id 3 id) (db 19) ≡ false
      → list_any (at_id 14 id) (db 25) ≡ false → Has rows (Int id ∷ [])
  unnamed_shown rows a there no_tile no_medium no_piece =
      let zeros : Env = params ∷ row ∷ zero ∷ zero ∷ zero ∷ [] in
      let one : matches db no_names by_tiles (params ∷ row ∷ []) ≡ after_tiles [] =
      ap after_tiles (none_matches db 15 (names 2 5 ∷ []) (params ∷ row ∷ []) (at_id 5 id) (λ t. refl) no_tile) in
      let two : after_tiles [] ≡ after_media [] =
      ap after_media (none_matches db 19 (names 3 3 ∷ []) (params ∷ row ∷ zero ∷ []) (at_id 3 id) (λ t. refl)
      no_medium) in
      let three : after_media [] ≡ after_pieces [] =
      ap after_pieces (none_matches db 25 (names 4 14 ∷ []) (params ∷ row ∷ zero ∷ zero ∷ []) (at_id 14 id) (λ t. refl)
      no_piece) in
      let last : Has (after_pieces []) zeros = there_if (list_all (holds zeros) no_names) zeros (all_zero params row) in
      let found : Has (matches db no_names by_tiles (params ∷ row ∷ [])) zeros = subst (λ l. Has l zeros)
      (sym (one ∙ two ∙ three)) last in
      joins.shows (inner 27 by_tiles) no_names (col 1 0 ∷ []) [] db params rows a zeros
      (flat_has (λ (r : Row). matches db no_names by_tiles (params ∷ r ∷ [])) (db 27) row zeros there found)

-- ---- from the rows that the query shows

module _ (old new : State) (has : old.now.schema ≡ schema) (given : Row) (same : given ≡ []) (rows : List Row)
    (shown : Shown unnamed_blobs given old new rows) where
  abbrev db : Trees
  db = overlay old.now.trees []

  abbrev seen_in : ℕ → List Row
  seen_in = tables_of schema old.now.trees

  read : Answers old.now (alone (query (inner 27 by_tiles) no_names (col 1 0 ∷ []) [] no_limit)) [] rows
      × IsUnchanged old new
  read = shows_as old new unnamed_blobs [] schema has _ statement.unnamed_blobs.compiled statement.unnamed_blobs.plain
      statement.unnamed_blobs.unlisted rows (subst (λ p. Shown unnamed_blobs p old new rows) same shown)

  pub unnamed_same : IsUnchanged old new
  unnamed_same = read.1

  at : (n : ℕ) → is_table schema n ≡ true → db n ≡ seen_in n
  at n listed = no_overlay old.now.trees n ∙ sym (rows_at schema n old.now.trees listed)

  -- each blob is named, or listed
  pub each_named : (spare : Spare) (x : Kept) (p : Package) → HoldsKept spare seen_in x p → (id : ℤ) (b : Blob)
      → get x.shelf id ≡ Some b
      → IsNamed x id ⊎ (spare_each rows no_spare id ≡ true)
  each_named spare x p h id b is = elim (true_or_false (list_any (at_id 5 id) (seen_in 15))) [
    | inl some ↦ inl (inl (told_names tile_id tile_row (seen_in 15) x.tiles h.tiles id (at_id 5 id)
        (λ r k i same. hits_id 5 id r (tile_id i) (columns_are r (tile_row k i) 4 same))
        (λ r k i same. only_id 5 id r (tile_id i) (columns_are r (tile_row k i) 4 same)) true some))
    | inr no_tile ↦ elim (true_or_false (list_any (at_id 3 id) (seen_in 19))) [
      | inl some ↦ inl (inr (inl (told_names medium_id medium_row (seen_in 19) x.media h.media id (at_id 3 id)
          (λ r k i same. hits_id 3 id r (medium_id i) (columns_are r (medium_row k i) 2 same))
          (λ r k i same. only_id 3 id r (medium_id i) (columns_are r (medium_row k i) 2 same)) true some)))
      | inr no_medium ↦ elim (true_or_false (list_any (at_id 14 id) (seen_in 25))) [
        | inl some ↦ inl (inr (inr (told_names piece_id staged_row (seen_in 25) x.pieces h.pieces id (at_id 14 id)
            (λ r k i same. hits_id 14 id r (piece_id i) (columns_are r (staged_row k i) 13 same))
            (λ r k i same. only_id 14 id r (piece_id i) (columns_are r (staged_row k i) 13 same)) true some)))
        | inr no_piece ↦
            let r = h.blobs.complete id b is in
            let here : Has (db 27) (blob_row id b) = subst (λ l. Has l (blob_row id b)) (sym (at 27 refl))
            (subst (Has (seen_in 27)) r.2 r.1) in
            let there = unnamed_shown db [] id b rows (read.0.answer Null) here
            (ap (list_any (at_id 5 id)) (at 15 refl) ∙ no_tile) (ap (list_any (at_id 3 id)) (at 19 refl) ∙ no_medium)
            (ap (list_any (at_id 14 id)) (at 25 refl) ∙ no_piece) in
            inr (or_right false (list_any (at_id 0 id) rows)
            (some_from (at_id 0 id) rows (Int id ∷ []) there (hits_id 0 id (Int id ∷ []) (Some id) refl refl)))
      ]
    ]
  ]
