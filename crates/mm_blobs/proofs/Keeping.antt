-- Blobs and tiles against the rows of their tables.
use Rattle.std.proofs.Common.{◌≡◌, ◌≢◌, inl, inr, ℕ, ℤ, Bool, true, false, ◌&&◌, ◌||◌, List, [], ◌∷◌, Option, Some}
use Rattle.std.proofs.Common.{None, option_map, refl, sym, ap, subst, ◌∙◌}
use Rattle.std.specs.Ordering.{is_eq, nat_cmp}
use Rattle.std.specs.Cmp.Lexicographic.{slice_cmp}
use Rattle.std.specs.List.{list_any}
use Rattle.std.specs.FinMap.{FinMap, get, insert, remove}
use Rattle.std.proofs.lemmas.Bool.{and_parts, both_ways}
use Rattle.std.specs.Cmp.{Equal-is}
use Rattle.sqlite.specs.declared.types.Value.TheVariants.{Null, Int, Text as Words, Blob as Bytes}
use Rattle.sql_forms.specs.Collation.TheVariants.{Binary}
use Rattle.sql_forms.specs.Order.{value_cmp}
use Rattle.sql_forms.proofs.OrderLemmas.{value_cmp-Int, value_cmp-Blob}
use Rattle.sqlite.specs.Ops.{binary}
use Rattle.sqlite.specs.Order.{Row, column}
use Rattle.sqlite.specs.Tree.{Trees, with_tree, put_row, rowid}
use Rattle.sqlite.specs.Edit.{is_taken}
use Rattle.sql_forms.specs.Rules.{equal}
use Rattle.sql_forms.proofs.ListLemmas.{some_from, some_has}
use Rattle.sql_forms.specs.Tables.{has_key, FindsRow, without}
use Rattle.sql_forms.specs.Maps.{Holds}
use Rattle.sql_forms.proofs.Keys.{as_truth, equal_text, equal_int}
use Rattle.mm_definitions.specs.Keys.{Text, tile}
use Rattle.mm_definitions.proofs.Parts.{not_none, same_key, same_itself, apart, beside_put, after_put, at_remove}
use Rattle.mm_definitions.proofs.Parts.{beside_remove}
use Rattle.mm_definitions.proofs.KeyLaws.{numbers, texts}
use Rattle.mm_store.specs.Rows.{past_rowid, maybe}
use Rattle.mm_store.proofs.Parts.{puts, removes}
use Rattle.mm_store.proofs.Keys as parts
use Rattle.mm_store.proofs.Keys.{by_number}
use Rattle.std.specs.declared.cmp.Ordering.{Ordering}
use Rattle.mm_definitions.specs.Package.{Package}
use Rattle.mm_store.specs.Blobs.{Blob, Shelf, AreBlobs, blob_of, blob_row, bytes_at, digest_of, StandsAt, Told}
use Rattle.mm_store.specs.Blobs.{NamesBlob}
use Rattle.mm_store.specs.Kept.{Kept, Spare, HoldsKept, IsNamed, tile_id, tile_with, medium_id, medium_with, piece_id}
use Rattle.mm_store.specs.Kept.{piece_with}
use Rattle.mm_blobs.specs.Views.{View, HoldsAs, spare_too, spare_but, Lacks, IsFound, TellsWhether}
use Rattle.mm_blobs.specs.Moves.{GivesNumber}

-- ---- SQL's equality at bytes

pub equal_bytes : (a b : List ℕ) → equal Binary (Bytes a) (Bytes b) ≡ is_eq (slice_cmp nat_cmp a b)
unfolding binary
equal_bytes a b = as_truth _ ∙ ap is_eq (value_cmp-Blob a b)

same_bytes : (a b : List ℕ) → equal Binary (Bytes a) (Bytes b) ≡ true → a ≡ b
same_bytes a b h = texts.exact a b ((Equal-is _).0 (sym (equal_bytes a b) ∙ h))

same_int : (a b : ℤ) → Int a ≡ Int b → a ≡ b
same_int a b e = cc

itself_text : (a : Text) → equal Binary (Words a) (Words a) ≡ true
itself_text a = equal_text a a ∙ same_itself texts a

itself_bytes : (a : List ℕ) → equal Binary (Bytes a) (Bytes a) ≡ true
itself_bytes a = equal_bytes a a ∙ same_itself texts a

null_is : (id : ℤ) → (equal Binary Null (Int id) && true) ≡ true → ⊥
unfolding binary
null_is id e = cc

itself_int : (a : ℤ) → equal Binary (Int a) (Int a) ≡ true
itself_int a = equal_int a a ∙ same_itself numbers a

-- ---- which blobs may be spared

pub too_before : (spare : Spare) (id z : ℤ) → spare z ≡ true → spare_too id spare z ≡ true
too_before spare id z h = rw h refl

or_last : (b : Bool) → (b || true) ≡ true
or_last true = refl
or_last false = refl

pub too_itself : (spare : Spare) (id : ℤ) → spare_too id spare id ≡ true
too_itself spare id = ap (λ b. spare id || b) (same_itself numbers id) ∙ or_last (spare id)

pub but_other : (spare : Spare) (id z : ℤ) → z ≢ id → spare z ≡ true → spare_but id spare z ≡ true
but_other spare id z n h = rw (h, apart numbers z id n) refl

-- ---- the blob of some bytes

abbrev pub by_bytes : Text → List ℕ → Row → Bool
by_bytes digest bytes = has_key (2 ∷ 3 ∷ []) (Words digest ∷ Bytes bytes ∷ [])

module _ (spare : Spare) (tables : Trees) (x : Kept) (p : Package) (h : HoldsKept spare tables x p) where
  module _ (digest : Text) (bytes : List ℕ) (is_digest : digest ≡ digest_of bytes) where
    hits : (id : ℤ) (b : Blob) → get x.shelf id ≡ Some b → b.bytes ≡ bytes → (r : Row) → r ≡ blob_row id b
        → by_bytes digest bytes r ≡ true
    hits id b is same r row =
        let named : b.digest ≡ digest = h.are.digested id b is ∙ ap digest_of same ∙ sym is_digest in
        ap (by_bytes digest bytes) row ∙ ap
        (λ d. equal Binary (Words d) (Words digest) && (equal Binary (Bytes b.bytes) (Bytes bytes) && true)) named
        ∙ ap (λ c. equal Binary (Words digest) (Words digest) && (equal Binary (Bytes c) (Bytes bytes) && true)) same
        ∙ ap (λ t. t && (equal Binary (Bytes bytes) (Bytes bytes) && true)) (itself_text digest)
        ∙ ap (λ t. t && true) (itself_bytes bytes)

    pub found_blob : (it : Option ℤ) (first : Option Row) → GivesNumber it first
        → FindsRow (by_bytes digest bytes) (λ r. column r 0 ∷ []) (tables 27) first → IsFound x.shelf bytes it
    found_blob None first gives found = λ id b is same.
        let none : list_any (by_bytes digest bytes) (tables 27) ≡ false =
        subst (FindsRow (by_bytes digest bytes) (λ r. column r 0 ∷ []) (tables 27)) gives found in
        let r = h.blobs.complete id b is in
        both_ways _ none (some_from (by_bytes digest bytes) (tables 27) r.0 r.1 (hits id b is same r.0 r.2))
    found_blob (Some id) first gives found =
        let some = subst (FindsRow (by_bytes digest bytes) (λ r. column r 0 ∷ []) (tables 27)) gives.1 found in
        let at = h.blobs.sound some.0 some.1 in
        let passes : by_bytes digest bytes (blob_row at.0 at.1) ≡ true = sym (ap (by_bytes digest bytes) at.3)
        ∙ some.2 in
        let second = (and_parts _ _ passes).1 in
        let same : at.1.bytes ≡ bytes = same_bytes _ _ (and_parts _ _ second).0 in
        let is : id ≡ at.0 = same_int id at.0 (sym gives.2 ∙ ap (λ (r : Row). column r 0) some.3
        ∙ ap (λ (r : Row). column r 0) at.3) in
        ap (bytes_at x.shelf) is ∙ ap (option_map (λ (b : Blob). b.bytes)) at.2 ∙ ap Some same

  -- ---- a new blob

  module _ (bytes : List ℕ) (some : bytes ≢ []) (lacks : Lacks x.shelf bytes) (id : ℤ) (rest : Row)
      (fresh : is_taken (tables 27) (Int id ∷ rest) ≡ false) where
    free : get x.shelf id ≡ None
    free = go (get x.shelf id) refl
      where
        go : (o : Option Blob) → get x.shelf id ≡ o → o ≡ None
        go None is = refl
        go (Some b) is =
            let r = h.blobs.complete id b is in
            let tie : is_eq (value_cmp (rowid r.0) (Int id)) ≡ true =
            ap (λ (y : Row). is_eq (value_cmp (rowid y) (Int id))) r.2 ∙ ap is_eq (value_cmp-Int id id)
            ∙ same_itself numbers id in
            absurd (both_ways _ fresh (some_from (λ y. is_eq (value_cmp (rowid y) (Int id))) (tables 27) r.0 r.1 tie))

    abbrev longer : Shelf
    longer = insert x.shelf id (blob_of bytes)

    still : (z : ℤ) (b : Blob) → get x.shelf z ≡ Some b → get longer z ≡ Some b
    still z b is = beside_put numbers x.shelf id (blob_of bytes) z (λ e. not_none is (ap (get x.shelf) e ∙ free)) ∙ is

    bytes_still : (z : ℤ) (at : List ℕ) → bytes_at x.shelf z ≡ Some at → bytes_at longer z ≡ Some at
    bytes_still z at is = go (get x.shelf z) refl is
      where
        go : (o : Option Blob) → get x.shelf z ≡ o → option_map (λ (b : Blob). b.bytes) o ≡ Some at
            → bytes_at longer z ≡ Some at
        go None none e = absurd cc
        go (Some b) has e = ap (option_map (λ (c : Blob). c.bytes)) (still z b has) ∙ e

    at_still : (o : Option ℤ) (bytes : List ℕ) → StandsAt x.shelf o bytes → StandsAt longer o bytes
    at_still None bytes e = e
    at_still (Some z) bytes e = bytes_still z bytes e

    told_still : {I V : Type 0} (id_of : I → Option ℤ) (filled : I → List ℕ → V) (o : Option I) (entry : Option V)
        → Told id_of filled x.shelf o entry
        → Told id_of filled longer o entry
    told_still id_of filled None entry e = e
    told_still id_of filled (Some i) entry e = (e.0, at_still (id_of i) e.0 e.1, e.2)

    are_still : AreBlobs longer
    are_still = record {
      digested = λ z b is. elim (after_put numbers x.shelf id (blob_of bytes) z b is) [
        | inl new ↦ subst (λ (c : Blob). c.digest ≡ digest_of c.bytes) new.1 refl
        | inr old ↦ h.are.digested z b old.1
      ];
      filled = λ z b is. elim (after_put numbers x.shelf id (blob_of bytes) z b is) [
        | inl new ↦ subst (λ (c : Blob). c.bytes ≢ []) new.1 some
        | inr old ↦ h.are.filled z b old.1
      ];
      single = λ i j b c is js same. elim (after_put numbers x.shelf id (blob_of bytes) i b is) [
        | inl new ↦ elim (after_put numbers x.shelf id (blob_of bytes) j c js) [
          | inl also ↦ new.0 ∙ sym also.0
          | inr old ↦ absurd (lacks j c old.1 (sym same ∙ sym (ap (λ (d : Blob). d.bytes) new.1)))
        ]
        | inr old ↦ elim (after_put numbers x.shelf id (blob_of bytes) j c js) [
          | inl new ↦ absurd (lacks i b old.1 (same ∙ sym (ap (λ (d : Blob). d.bytes) new.1)))
          | inr also ↦ h.are.single i j b c old.1 also.1 same
        ]
      ];
    }

    pub keeps_more : rest ≡ Null ∷ Words (digest_of bytes) ∷ Bytes bytes ∷ []
        → HoldsKept (spare_too id spare) (with_tree tables 27 (put_row (Int id ∷ rest) (tables 27)))
        (record x { shelf = insert x.shelf id (blob_of bytes) }) p
    keeps_more row = record {
      tiles = h.tiles;
      media = h.media;
      pieces = h.pieces;
      blobs = puts parts.blobs (tables 27) x.shelf h.blobs id (blob_of bytes) (Int id ∷ rest) free
          (ap (λ r. Int id ∷ r) row) fresh;
      tiles_told = λ k. told_still tile_id tile_with (get x.tiles k) (get p.tiles k) (h.tiles_told k);
      media_told = λ k. told_still medium_id medium_with (get x.media k) (get p.media k) (h.media_told k);
      pieces_told = λ k. told_still piece_id piece_with (get x.pieces k) (get p.pieces k) (h.pieces_told k);
      are = are_still;
      named = λ z b is. elim (after_put numbers x.shelf id (blob_of bytes) z b is) [
        | inl new ↦ inr (ap (spare_too id spare) new.0 ∙ too_itself spare id)
        | inr old ↦ elim (h.named z b old.1) [ inl named ↦ inl named | inr spared ↦ inr (too_before spare id z spared) ]
      ];
    }

  pub keeps_looser : (id : ℤ) → HoldsKept (spare_too id spare) tables x p
  keeps_looser id = record {
    tiles = h.tiles;
    media = h.media;
    pieces = h.pieces;
    blobs = h.blobs;
    tiles_told = h.tiles_told;
    media_told = h.media_told;
    pieces_told = h.pieces_told;
    are = h.are;
    named = λ z b is. elim (h.named z b is) [ inl named ↦ inl named | inr spared ↦ inr (too_before spare id z spared) ];
  }

  pub keeps_named : (id : ℤ) → IsNamed x id → HoldsKept (spare_but id spare) tables x p
  keeps_named id names = record {
    tiles = h.tiles;
    media = h.media;
    pieces = h.pieces;
    blobs = h.blobs;
    tiles_told = h.tiles_told;
    media_told = h.media_told;
    pieces_told = h.pieces_told;
    are = h.are;
    named = λ z b is. elim (h.named z b is) [
      | inl named ↦ inl named
      | inr spared ↦ elim (same_key numbers z id) [
        | inl same ↦ inl (subst (IsNamed x) (sym same.0) names)
        | inr other ↦ inr
            (but_other spare id z other.0 spared)
      ]
    ];
  }

  -- ---- a blob that nothing names is gone

  module _ (id : ℤ) (unnamed : ¬ IsNamed x id) where
    abbrev shorter : Shelf
    shorter = remove x.shelf id

    left : (z : ℤ) (b : Blob) → get shorter z ≡ Some b → (z ≢ id) × (get x.shelf z ≡ Some b)
    left z b is = elim (same_key numbers z id) [
      | inl same ↦ absurd (not_none is (ap (get shorter) same.0 ∙ at_remove numbers x.shelf id))
      | inr other ↦ (other.0, sym (beside_remove numbers x.shelf id z other.0) ∙ is)
    ]

    bytes_left : (z : ℤ) (bytes : List ℕ) → z ≢ id → bytes_at x.shelf z ≡ Some bytes → bytes_at shorter z ≡ Some bytes
    bytes_left z bytes n e = ap (option_map (λ (b : Blob). b.bytes)) (beside_remove numbers x.shelf id z n) ∙ e

    at_left : (o : Option ℤ) (bytes : List ℕ) → (o ≡ Some id → ⊥) → StandsAt x.shelf o bytes → StandsAt shorter o bytes
    at_left None bytes n e = e
    at_left (Some z) bytes n e = bytes_left z bytes (λ same. n (ap Some same)) e

    told_left : {K I V : Type 0} {R : K → K → Ordering} (id_of : I → Option ℤ) (filled : I → List ℕ → V)
        (ids : FinMap R I) → ¬ NamesBlob id_of ids id
        → (k : K) (o : Option I) (entry : Option V) → get ids k ≡ o → Told id_of filled x.shelf o entry
        → Told id_of filled shorter o entry
    told_left id_of filled ids none k None entry is e = e
    told_left id_of filled ids none k (Some i) entry is e =
        (e.0, at_left (id_of i) e.0 (λ names. none (k, i, is, names)) e.1, e.2)

    pub keeps_less : HoldsKept (spare_but id spare) (with_tree tables 27 (without (by_number id) (tables 27)))
        (record x { shelf = remove x.shelf id }) p
    keeps_less = record {
      tiles = h.tiles;
      media = h.media;
      pieces = h.pieces;
      blobs = removes parts.blobs (tables 27) x.shelf h.blobs id;
      tiles_told = λ k. told_left tile_id tile_with x.tiles (λ n. unnamed (inl n)) k (get x.tiles k) (get p.tiles k)
          refl (h.tiles_told k);
      media_told = λ k. told_left medium_id medium_with x.media (λ n. unnamed (inr (inl n))) k (get x.media k)
          (get p.media k) refl (h.media_told k);
      pieces_told = λ k. told_left piece_id piece_with x.pieces (λ n. unnamed (inr (inr n))) k (get x.pieces k)
          (get p.pieces k) refl (h.pieces_told k);
      are = record {
        digested = λ z b is. h.are.digested z b (left z b is).1;
        filled = λ z b is. h.are.filled z b (left z b is).1;
        single = λ i j b c is js. h.are.single i j b c (left i b is).1 (left j c js).1;
      };
      named = λ z b is. let was = left z b is in elim (h.named z b was.1)
          [ inl named ↦ inl named | inr spared ↦ inr (but_other spare id z was.0 spared) ];
    }

-- ---- whether an entry names a blob

module _ {K I : Type 0} {R : K → K → Ordering} (id_of : I → Option ℤ) (row_of : K → I → Row) (rows : List Row)
    (ids : FinMap R I) (h : Holds past_rowid row_of rows ids) (id : ℤ) (test : Row → Bool)
    (hits : (r : Row) (k : K) (i : I) → past_rowid r ≡ row_of k i → id_of i ≡ Some id → test r ≡ true)
    (only : (r : Row) (k : K) (i : I) → past_rowid r ≡ row_of k i → test r ≡ true → id_of i ≡ Some id) where
  pub told_names : (it : Bool) → list_any test rows ≡ it → TellsWhether (NamesBlob id_of ids id) it
  told_names true is =
      let r = some_has test rows is in
      let at = h.sound r.0 r.1 in
      (at.0, at.1, at.2, only r.0 at.0 at.1 at.3 r.2)
  told_names false is = λ named.
      let r = h.complete named.0 named.1 named.2 in
      both_ways _ is (some_from test rows r.0 r.1 (hits r.0 named.0 named.1 r.2 named.3))

-- a column that is the id, or NULL
abbrev pub at_id : ℕ → ℤ → Row → Bool
at_id place id = has_key (place ∷ []) (Int id ∷ [])

pub hits_id : (place : ℕ) (id : ℤ) (r : Row) (o : Option ℤ) → column r place ≡ maybe o → o ≡ Some id
    → at_id place id r ≡ true
hits_id place id r o is named = ap (λ v. equal Binary v (Int id) && true) (is ∙ ap maybe named)
    ∙ ap (λ b. b && true) (itself_int id)

pub only_id : (place : ℕ) (id : ℤ) (r : Row) (o : Option ℤ) → column r place ≡ maybe o → at_id place id r ≡ true
    → o ≡ Some id
only_id place id r None is h = absurd
    (let e : (equal Binary Null (Int id) && true) ≡ true = ap (λ v. equal Binary v (Int id) && true) (sym is)
    ∙ h in null_is id e)
only_id place id r (Some z) is h =
    ap Some (numbers.exact z id ((Equal-is _).0
    (sym (equal_int z id) ∙ (and_parts _ _ (ap (λ v. equal Binary v (Int id) && true) (sym is) ∙ h)).0)))

-- ---- from what is kept to the package with it

module _ (spare more : Spare) (version : ℤ) (tables : Trees) (x : View) (h : HoldsAs spare version tables x) where
  pub kept_in : HoldsKept spare tables x.kept x.content
  kept_in = subst (λ k. HoldsKept spare tables k x.content) h.1 h.0.keeps

  pub holds_with : (rows : List Row) (k : Kept) → HoldsKept more (with_tree tables 27 rows) k x.content
      → HoldsAs more version (with_tree tables 27 rows) (record x { kept = k })
  holds_with rows k keeps = (
    record {
      systems = h.0.systems;
      contents = h.0.contents;
      kinds = h.0.kinds;
      sets = h.0.sets;
      matrices = h.0.matrices;
      extensions = h.0.extensions;
      rows = h.0.rows;
      relations = h.0.relations;
      pairings = h.0.pairings;
      editions = h.0.editions;
      kept = k;
      keeps = keeps;
      profile = h.0.profile;
    },
    refl,
  )

  pub holds_still : HoldsKept more tables x.kept x.content → HoldsAs more version tables x
  holds_still keeps = (
    record {
      systems = h.0.systems;
      contents = h.0.contents;
      kinds = h.0.kinds;
      sets = h.0.sets;
      matrices = h.0.matrices;
      extensions = h.0.extensions;
      rows = h.0.rows;
      relations = h.0.relations;
      pairings = h.0.pairings;
      editions = h.0.editions;
      kept = x.kept;
      keeps = keeps;
      profile = h.0.profile;
    },
    refl,
  )

-- only the blobs are other
abbrev pub reshelved : View → Shelf → View
reshelved x shelf = record x { kept = record (x.kept) { shelf = shelf } }

pub same_but_shelf : (x y : View) → y ≡ x → y ≡ reshelved x y.kept.shelf
same_but_shelf x y p i = reshelved (p i) y.kept.shelf

pub shelf_in : (x y z : View) (shelf : Shelf) → y ≡ x → z ≡ reshelved y shelf → z ≡ reshelved x z.kept.shelf
shelf_in x y z shelf p q = (λ i. reshelved (q i) z.kept.shelf) ∙ (λ i. reshelved (p i) z.kept.shelf)

pub shelf_again : (x y z : View) → y ≡ reshelved x y.kept.shelf → z ≡ reshelved y z.kept.shelf
    → z ≡ reshelved x z.kept.shelf
shelf_again x y z p q = q ∙ (λ i. reshelved (p i) z.kept.shelf)

-- where no tile and no medium names it, a staged piece does or nothing does
pub none_of_three : (kept : Kept) (id : ℤ) (it : Bool) → ¬ NamesBlob tile_id kept.tiles id
    → ¬ NamesBlob medium_id kept.media id
    → TellsWhether (NamesBlob piece_id kept.pieces id) it → TellsWhether (IsNamed kept id) it
none_of_three kept id true no_tile no_medium piece = inr (inr piece)
none_of_three kept id false no_tile no_medium no_piece =
    λ named. elim named [
      | inl tile ↦ no_tile tile
      | inr others ↦ elim others
          [ inl medium ↦ no_medium medium | inr piece ↦ no_piece piece ]
    ]
