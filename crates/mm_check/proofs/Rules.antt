-- What the queries of the form show.
use Rattle.std.proofs.Common.{◌≡◌, ◌↔◌, ◌⊎◌, inl, inr, ℕ, suc, ℤ, pos, Bool, true, false, not, ◌&&◌, ◌||◌}
use Rattle.std.proofs.Common.{List, [], ◌∷◌, length, filter, if◌then◌else◌, Option, Some, None, refl, sym, ap, subst}
use Rattle.std.proofs.Common.{◌∙◌, arith}
use Rattle.std.specs.Prelude.{◌<ℤ◌, min}
use Rattle.std.specs.declared.cmp.Ordering.{Ordering}
use Rattle.std.specs.declared.cmp.Ordering.TheVariants.{Less, Equal, Greater}
use Rattle.std.specs.Ordering.{int_cmp}
use Rattle.std.specs.List.{AllByRecursion, list_any, list_all}
use Rattle.std.specs.FinMap.{get}
use Rattle.std.proofs.lemmas.Bool.{cases_Bool, and_parts, and_from}
use Rattle.std.proofs.lemmas.Cmp.{int_ranked}
use Rattle.std.proofs.lemmas.Int.{ints}
use Rattle.sqlite.specs.Ops.{binary, is_true}
use Rattle.sql_forms.specs.Ops.{unary}
use Rattle.sqlite.specs.declared.types.Value.{Value}
use Rattle.sqlite.specs.declared.types.Value.TheVariants.{Null, Int, Text as Words, Blob as Bytes}
use Rattle.sql_forms.specs.Collation.TheVariants.{Binary}
use Rattle.sql_forms.specs.BinaryOp.TheVariants.{Compare}
use Rattle.sql_forms.specs.CompareOp.TheVariants.{Lt}
use Rattle.sqlite.specs.Order.{Row, column}
use Rattle.sqlite.specs.Term.{Env, col, holds}
use Rattle.sqlite.specs.Query.{inner, end, matches}
use Rattle.sqlite.specs.Program.{overlay}
use Rattle.sqlite.specs.Effect.{Database}
use Rattle.sqlite.specs.Tree.{Trees}
use Rattle.sql_forms.specs.Compute.{everything}
use Rattle.sql_forms.specs.Rules.{equal}
use Rattle.sql_forms.proofs.Keys.{columns_are}
use Rattle.sql_forms.proofs.Lists.{flat_counted}
use Rattle.mm_definitions.proofs.KeyLaws.{texts}
use Rattle.sql_forms.specs.Maps.{Holds}
use Rattle.mm_store.specs.Rows.{whole, tile_row, medium_row, staged_row}
use Rattle.mm_store.specs.Blobs.{Blob, Shelf, blob_row, digest_of}
use Rattle.mm_store.specs.Kept.{Kept, IsNamed, tile_id, medium_id, piece_id}
use Rattle.mm_blobs.specs.Views.{TellsWhether}
use Rattle.mm_blobs.proofs.Keeping.{equal_bytes, at_id, hits_id, only_id, told_names}
use Rattle.mm_walk.specs.RowTests.{OnTrue}
use Rattle.mm_walk.proofs.Joined.{as_whole, covered_whole, each_row, joined}
use Rattle.mm_walk.proofs.Keys.{tie, texts_are, number_is, less_is, on_true, same}
use Rattle.mm_walk.proofs.Named.{null_equals, equals_null, JoinsBlob, also}
use Rattle.mm_check.specs.Form.{KeepsAs, IsDigestedRow, IsShortRow, AreDigested, AreApart, AreNamed, AreInForm}
use Rattle.mm_check.specs.Form.{AreShort}
use Rattle.mm_check.proofs.Queries.{two_twice, equal_terms, no_names, by_tiles, by_media, by_pieces}
use Rattle.mm_check.proofs.Checks.{SaysForm}

-- ---- each alone

pub digested : SaysForm [] (inner 27 end) [] (col 1 2 ∷ col 1 3 ∷ []) IsDigestedRow AreDigested
digested db kept h = each_row as_whole blob_row (db.trees 27) kept.shelf (covered_whole h.blobs) _ _ (λ id b x. same)

pub short : (longest : ℕ)
    → SaysForm [] (inner 27 end) [] (col 1 2 ∷ col 1 3 ∷ []) (IsShortRow longest) (AreShort longest)
short longest db kept h =
    each_row as_whole blob_row (db.trees 27) kept.shelf (covered_whole h.blobs) _ _ (λ id b x. same)

-- ---- two of one digest

bytes_are : (a b : List ℕ) → (equal Binary (Bytes a) (Bytes b) ≡ true) ↔ (a ≡ b)
bytes_are a b = let t = tie texts a b in (λ e. t.0 (sym (equal_bytes a b) ∙ e), λ e. equal_bytes a b ∙ t.1 e)

-- the bytes that a LEFT JOIN shows of a blob, or NULL
abbrev shown : Option Blob → Value
shown None = Null
shown (Some b) = Bytes b.bytes

-- both joins find a blob, and the two have the same bytes
abbrev AreAlike : Option Blob → Option Blob → Type 0
AreAlike None p = ⊥
AreAlike (Some v) None = ⊥
AreAlike (Some v) (Some w) = w.bytes ≡ v.bytes

alike_is : (o p : Option Blob) → (equal Binary (shown p) (shown o) ≡ true) ↔ AreAlike o p
alike_is None p = (λ e. absurd (let f : false ≡ true = sym (equals_null (shown p)) ∙ e in cc), λ h. absurd h)
alike_is (Some v) None = (
  λ e. absurd (let f : false ≡ true = sym (null_equals (shown (Some v))) ∙ e in cc),
  λ h. absurd
      h,
)
alike_is (Some v) (Some w) = bytes_are w.bytes v.bytes

equal_is : (i j : ℤ) (b c : Blob) (o p : Option Blob)
    → ((equal Binary (Words c.digest) (Words b.digest)
    && (is_true (binary (Compare Lt Binary) (Int i) (Int j)) && (equal Binary (shown p) (shown o) && true))) ≡ true)
    ↔ ((c.digest ≡ b.digest) × (i <ℤ j) × AreAlike o p)
equal_is i j b c o p =
    let d = texts_are c.digest b.digest in
    let l = less_is i j in
    let s = alike_is o p in (
      λ e.
          let f = and_parts (equal Binary (Words c.digest) (Words b.digest)) _ e in
          let q = and_parts (is_true (binary (Compare Lt Binary) (Int i) (Int j))) _ f.1 in
          (d.0 f.0, l.0 q.0, s.0 (and_parts (equal Binary (shown p) (shown o)) true q.1).0),
      λ e. and_from _ _ (d.1 e.0) (and_from _ _ (l.1 e.1) (and_from _ _ (s.1 e.2) refl)),
    )

module _ (rows : List Row) (shelf : Shelf) (h : Holds whole blob_row rows shelf) (i j : ℤ) (b c : Blob) where
  -- no two are found that have one digest and the same bytes
  abbrev IsApart : Option Blob → Option Blob → Type 0
  IsApart o p = (c.digest ≡ b.digest) × (i <ℤ j) × AreAlike o p → ⊥

  -- nothing is shown of the two, with these rows of the joins
  abbrev Hides : Row → Row → Type 0
  Hides r s = OnTrue (list_all (holds ([] ∷ blob_row i b ∷ blob_row j c ∷ r ∷ s ∷ [])) equal_terms) ⊥

  second : (o : Option Blob) (r : Row) → ((p : Option Blob) (s : Row) → column s 3 ≡ shown p → Hides r s ↔ IsApart o p)
      → ((s : Row) → JoinsBlob rows (Int j) s → Hides r s) ↔ IsApart o (get shelf j)
  second o r each =
      joined as_whole blob_row rows shelf (covered_whole h) (λ s. equal Binary (column s 0) (Int j) && true) j
      (λ l w x. number_is l j)
      (Hides r) (IsApart o) (each None [] refl) (λ w x. each (Some w) (blob_row j w) refl)

  of_row : (o p : Option Blob) (r s : Row) → column r 3 ≡ shown o → column s 3 ≡ shown p → Hides r s ↔ IsApart o p
  of_row o p r s shows_o shows_p =
      on_true _ ((c.digest ≡ b.digest) × (i <ℤ j) × AreAlike o p) ⊥
      (subst (λ v. ((equal Binary (Words c.digest) (Words b.digest)
      && (is_true (binary (Compare Lt Binary) (Int i) (Int j)) && (equal Binary (column s 3) v && true))) ≡ true)
      ↔ ((c.digest ≡ b.digest) × (i <ℤ j) × AreAlike o p)) (sym shows_o)
      (subst (λ v. ((equal Binary (Words c.digest) (Words b.digest)
      && (is_true (binary (Compare Lt Binary) (Int i) (Int j)) && (equal Binary v (shown o) && true))) ≡ true)
      ↔ ((c.digest ≡ b.digest) × (i <ℤ j) × AreAlike o p)) (sym shows_p)
      (equal_is i j b c o p)))

  of_pair : ((r : Row) → JoinsBlob rows (Int i) r → (s : Row) → JoinsBlob rows (Int j) s → Hides r s)
      ↔ IsApart (get shelf i) (get shelf j)
  of_pair =
      joined as_whole blob_row rows shelf (covered_whole h) (λ r. equal Binary (column r 0) (Int i) && true) i
      (λ l v x. number_is l i)
      (λ r. (s : Row) → JoinsBlob rows (Int j) s → Hides r s) (λ o. IsApart o (get shelf j))
      (second None [] (λ p s is. of_row None p [] s refl is))
      (λ v x. second (Some v) (blob_row i v) (λ p s is. of_row (Some v) p (blob_row i v) s refl is))

pub apart : SaysForm [] two_twice equal_terms (col 1 0 ∷ []) (λ _. ⊥) AreApart
apart db kept h =
    let here = covered_whole h.blobs in
    also (each_row as_whole blob_row (db.trees 27) kept.shelf here _ _
    (λ i b x. each_row as_whole blob_row (db.trees 27) kept.shelf here _ _
    (λ j c y. of_pair (db.trees 27) kept.shelf h.blobs i j b c))) (
      λ all i b at_i j c at_j. subst (λ o. IsApart (db.trees 27) kept.shelf h.blobs i j b c o (Some c)) at_i
          (subst (IsApart (db.trees 27) kept.shelf h.blobs i j b c (get kept.shelf i)) at_j (all i b at_i j c at_j)),
      λ all i b at_i j c at_j. subst (λ o. IsApart (db.trees 27) kept.shelf h.blobs i j b c o (get kept.shelf j))
          (sym at_i) (subst (IsApart (db.trees 27) kept.shelf h.blobs i j b c (Some b)) (sym at_j)
          (all i b at_i j c at_j)),
    )

-- ---- those that nothing names

-- what EXISTS shows
abbrev exists_value : Bool → Value
exists_value true = Int (pos 1)
exists_value false = Int (pos 0)

min_one : (n : ℕ) → min 1 (suc n) ≡ 1
min_one n = omega arith

counted_is : (p : Row → Bool) (rows : List Row)
    → Int (pos (min 1 (length (filter p rows)))) ≡ exists_value (list_any p rows)
counted_is p [] = refl
counted_is p (x ∷ xs) = elim (cases_Bool (p x)) as
    (λ _. Int (pos (min 1 (length (filter p (x ∷ xs))))) ≡ exists_value (list_any p (x ∷ xs))) [
      | inl hit ↦ rw hit (ap (λ n. Int (pos n)) (min_one (length (filter p xs))))
      | inr off ↦ rw off (counted_is p xs)
    ]

shown_where : (row : Row) (x y z : Bool)
    → list_all (holds ([] ∷ row ∷ (exists_value x ∷ []) ∷ (exists_value y ∷ []) ∷ (exists_value z ∷ []) ∷ [])) no_names
    ≡ not (x || (y || z))
unfolding everything unary
shown_where row true y z = refl
shown_where row false true z = refl
shown_where row false false true = refl
shown_where row false false false = refl

decide : (x y z : Bool) (A B C : Type 0) (e : Env) → TellsWhether A x → TellsWhether B y → TellsWhether C z
    → AllByRecursion (λ (_ : Env). ⊥) (if not (x || (y || z)) then e ∷ [] else []) ↔ (A ⊎ (B ⊎ C))
decide true y z A B C e a b c = (λ _. inl a, λ _. tt)
decide false true z A B C e a b c = (λ _. inr (inl b), λ _. tt)
decide false false true A B C e a b c = (λ _. inr (inr c), λ _. tt)
decide false false false A B C e a b c = (λ all. absurd all.0, λ named. absurd (none named))
  where
    none : A ⊎ (B ⊎ C) → ⊥
    none (inl h) = a h
    none (inr (inl h)) = b h
    none (inr (inr h)) = c h

module _ (db : Database) (kept : Kept) (h : KeepsAs db kept) (id : ℤ) (b : Blob) where
  abbrev trees : Trees
  trees = overlay db.trees []

  abbrev row : Row
  row = blob_row id b

  abbrev in_tiles : Bool
  in_tiles = list_any (at_id 5 id) (db.trees 15)

  abbrev in_media : Bool
  in_media = list_any (at_id 3 id) (db.trees 19)

  abbrev in_pieces : Bool
  in_pieces = list_any (at_id 14 id) (db.trees 25)

  abbrev after_tiles : Value → List Env
  after_tiles v = matches trees no_names by_media ([] ∷ row ∷ (v ∷ []) ∷ [])

  abbrev after_media : Value → List Env
  after_media v = matches trees no_names by_pieces ([] ∷ row ∷ (exists_value in_tiles ∷ []) ∷ (v ∷ []) ∷ [])

  abbrev last_env : Value → Env
  last_env v = [] ∷ row ∷ (exists_value in_tiles ∷ []) ∷ (exists_value in_media ∷ []) ∷ (v ∷ []) ∷ []

  abbrev after_pieces : Value → List Env
  after_pieces v = matches trees no_names end (last_env v)

  all_counted : matches trees no_names by_tiles ([] ∷ row ∷ []) ≡ (if not (in_tiles || (in_media || in_pieces))
      then last_env (exists_value in_pieces) ∷ [] else [])
  all_counted =
      ap (λ n. after_tiles (Int (pos (min 1 n)))) (flat_counted (at_id 5 id) (λ s. [] ∷ row ∷ s ∷ []) (db.trees 15))
      ∙ ap after_tiles (counted_is (at_id 5 id) (db.trees 15))
      ∙ ap (λ n. after_media (Int (pos (min 1 n))))
      (flat_counted (at_id 3 id) (λ s. [] ∷ row ∷ (exists_value in_tiles ∷ []) ∷ s ∷ []) (db.trees 19))
      ∙ ap after_media (counted_is (at_id 3 id) (db.trees 19))
      ∙ ap (λ n. after_pieces (Int (pos (min 1 n))))
      (flat_counted (at_id 14 id) (λ s. [] ∷ row ∷ (exists_value in_tiles ∷ []) ∷ (exists_value in_media ∷ []) ∷ s
      ∷ []) (db.trees 25)) ∙ ap after_pieces (counted_is (at_id 14 id) (db.trees 25))
      ∙ ap (λ t. if t then last_env (exists_value in_pieces) ∷ [] else []) (shown_where row in_tiles in_media in_pieces)

  pub named_is : AllByRecursion (λ (_ : Env). ⊥) (matches trees no_names by_tiles ([] ∷ row ∷ [])) ↔ IsNamed kept id
  named_is =
      subst (λ found. AllByRecursion (λ (_ : Env). ⊥) found ↔ IsNamed kept id) (sym all_counted)
      (decide in_tiles in_media in_pieces _ _ _ (last_env (exists_value in_pieces))
      (told_names tile_id tile_row (db.trees 15) kept.tiles h.tiles id (at_id 5 id)
      (λ r k i same. hits_id 5 id r (tile_id i) (columns_are r (tile_row k i) 4 same))
      (λ r k i same. only_id 5 id r (tile_id i) (columns_are r (tile_row k i) 4 same)) in_tiles refl)
      (told_names medium_id medium_row (db.trees 19) kept.media h.media id (at_id 3 id)
      (λ r k i same. hits_id 3 id r (medium_id i) (columns_are r (medium_row k i) 2 same))
      (λ r k i same. only_id 3 id r (medium_id i) (columns_are r (medium_row k i) 2 same)) in_media refl)
      (told_names piece_id staged_row (db.trees 25) kept.pieces h.pieces id (at_id 14 id)
      (λ r k i same. hits_id 14 id r (piece_id i) (columns_are r (staged_row k i) 13 same))
      (λ r k i same. only_id 14 id r (piece_id i) (columns_are r (staged_row k i) 13 same)) in_pieces refl))

pub named : SaysForm [] (inner 27 by_tiles) no_names (col 1 0 ∷ []) (λ _. ⊥) AreNamed
named db kept h = each_row as_whole blob_row (db.trees 27) kept.shelf (covered_whole h.blobs) _ _
    (λ id b x. named_is db kept h id b)

-- ---- the whole form

pub in_form : (kept : Kept) → (AreDigested kept × (AreApart kept × AreNamed kept)) ↔ AreInForm kept
in_form kept = (
  λ h. (
    record {
      digested = λ id b is. (h.0 id b is).1;
      filled = λ id b is. (h.0 id b is).0;
      single = λ i j b c at_i at_j alike. single h.0 h.1.0 i j b c at_i at_j alike (int_cmp i j) refl;
    },
    h.1.1,
  ),
  λ f. (
    λ id b is. (f.0.filled id b is, f.0.digested id b is),
    (
      λ i b at_i j c at_j e. let alike : i ≡ j = f.0.single i j b c at_i at_j (sym e.2) in let low =
          e.1 in omega (arith, ints, alike, low),
      f.1,
    ),
  ),
)
  where
    single : AreDigested kept → AreApart kept → (i j : ℤ) (b c : Blob) → get kept.shelf i ≡ Some b
        → get kept.shelf j ≡ Some c → b.bytes ≡ c.bytes
        → (o : Ordering) → o ≡ int_cmp i j → i ≡ j
    single right apart i j b c at_i at_j alike Equal is = int_ranked i j Equal is
    single right apart i j b c at_i at_j alike Less is =
        absurd (apart i b at_i j c at_j (
          (right j c at_j).1 ∙ ap digest_of (sym alike)
              ∙ sym (right i b at_i).1,
          int_ranked i j Less is,
          sym alike,
        ))
    single right apart i j b c at_i at_j alike Greater is =
        absurd (apart j c at_j i b at_i
        ((right i b at_i).1 ∙ ap digest_of alike ∙ sym (right j c at_j).1, int_ranked i j Greater is, alike))
