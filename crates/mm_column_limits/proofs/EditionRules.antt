-- What the queries of editions and pieces show, and rule 15.
use Rattle.std.proofs.Common.{codes, ◌≡◌, ◌≢◌, ◌↔◌, ◌⊎◌, inl, inr, Bool, true, false, ◌&&◌, ℕ, suc, zero, ℤ, pos}
use Rattle.std.proofs.Common.{negsuc, ◌-ℤ◌, ◌≤ℤ◌, ◌≤◌, ◌<◌, ◌^◌, nat_lt, unsigned_abs, [], ◌∷◌, List, Option, Some}
use Rattle.std.proofs.Common.{None, option_map, is_some, IsTrue, refl, sym, ap, ap₂, subst, ◌∙◌, arith}
use Rattle.std.proofs.lemmas.Bool.{and_parts, and_from}
use Rattle.std.proofs.lemmas.Bool.Decides.{nat_tests}
use Rattle.std.proofs.lemmas.Int.{ints}
use Rattle.std.specs.FinMap.{get}
use Rattle.sqlite.specs.Order.{Row, column}
use Rattle.sqlite.specs.Ops.{binary}
use Rattle.sqlite.specs.declared.types.Value.{Value}
use Rattle.sqlite.specs.declared.types.Value.TheVariants.{Null, Int, Blob, Text as Words}
use Rattle.sql_forms.specs.Collation.TheVariants.{Binary}
use Rattle.sql_forms.specs.ArithOp.TheVariants.{Sub}
use Rattle.sql_forms.specs.BinaryOp.TheVariants.{Arith}
use Rattle.sql_forms.specs.Numeral.{fits_i64}
use Rattle.sql_forms.specs.Term.{col}
use Rattle.sql_forms.specs.Query.{inner, left, end}
use Rattle.sql_forms.specs.Rules.{equal}
use Rattle.mm_definitions.proofs.Integers.{above_zero, natural}
use Rattle.mm_definitions.specs.Bounds.{Profile, IsName, IsMatrixSide, IsTileSide, IsId, IsFrom, IsZoom, IsTilePlace}
use Rattle.mm_definitions.specs.Bounds.{IsLong, IsTileBytes, IsMediaBytes, MostPieces}
use Rattle.mm_definitions.specs.Keys.{Text, PieceKey, piece}
use Rattle.mm_definitions.specs.Package.{Package, PieceRow, open_state}
use Rattle.mm_definitions.specs.Pieces.{piece_row, place_in}
use Rattle.mm_definitions.specs.Within.{IsPieceWithin, Takes}
use Rattle.mm_definitions.specs.Rules.{Limits, Editions, IsSpelled}
use Rattle.mm_definitions.specs.declared.commands.Piece.{Piece}
use Rattle.mm_definitions.specs.declared.commands.Piece.TheVariants.{Tile, TileDrop, Row as RowPiece, RowDrop, Media}
use Rattle.mm_definitions.specs.declared.commands.Piece.TheVariants.{MediaDrop, Map, MapDrop, Matrix}
use Rattle.mm_definitions.proofs.Parts.{same_some, some_of}
use Rattle.mm_store.specs.Rows.{edition_row, staged_row}
use Rattle.mm_store.specs.Blobs.{Shelf, AreBlobs, StandsAt}
use Rattle.mm_store.specs.Blobs.{Blob as Kept}
use Rattle.mm_store.specs.Kept.{piece_id, piece_with}
use Rattle.mm_blobs.proofs.Naming.{told_there}
use Rattle.mm_walk.specs.Columns.{is_there}
use Rattle.mm_column_limits.specs.LimitRows.{bytes_by}
use Rattle.mm_column_limits.specs.PieceRows.{IsContent, IsMatrix, IsStateRow, IsOpenRow, IsNumberedRow, IsSpelledRow}
use Rattle.mm_column_limits.specs.PieceRows.{PutsEntry, IsDrop}
use Rattle.mm_column_limits.specs.EditionParts.{EditionStates, PiecesOfOpen, PiecesNumbered, PiecesSpelled}
use Rattle.mm_walk.proofs.Joined.{after_rowid, covered, each_row, joined}
use Rattle.mm_walk.proofs.Named.{also, each_named, data_of, joined_blob}
use Rattle.mm_walk.proofs.Keys.{name_is, texts_are, ints_are, same}
use Rattle.mm_column_limits.proofs.Numbering.{numbered, follows_from}
use Rattle.mm_walk.proofs.Terms.{equals, follows}
use Rattle.mm_column_limits.proofs.Texts.{name_utf8, content_type_utf8}
use Rattle.mm_walk.proofs.Checks.{Says}

pub edition_states : (profile : Profile) → Says [] (inner 23 end) [] (col 1 2 ∷ []) IsStateRow (λ p. Limits profile p)
    EditionStates
edition_states profile version db p stands known =
    each_row after_rowid edition_row (db 23) p.editions (covered (λ k v. (_, _, refl)) stands.holds.editions) _ _
    (λ k v x. (
      λ h. elim h [ inl is ↦ inl (same_some is) | inr is ↦ inr (same_some is) ],
      λ h. elim h [ inl is ↦ inl (ap Some is) | inr is ↦ inr (ap Some is) ],
    ))

pub pieces_of_open : (profile : Profile)
    → Says [] (inner 25 (left 23 (equals 2 1 1 1 ∷ []) end)) [] (col 2 2 ∷ []) IsOpenRow (λ p. Limits profile p)
    PiecesOfOpen
pieces_of_open profile version db p stands known =
    let h = stands.holds in
    each_named piece_id piece_with h.kept.shelf h.kept.pieces p.pieces h.keeps.pieces_told after_rowid staged_row
    (db 25) (covered (λ k i. (_, _, refl)) h.keeps.pieces) _ _
    (λ k i x bytes at named. joined after_rowid edition_row (db 23) p.editions
    (covered (λ l s. (_, _, refl)) h.editions) _ k.edition (λ l s y. name_is l k.edition) _
    (λ o. o ≡ Some open_state) same (λ s y. same))

-- ---- numbers
below_next : (n : ℕ) → pos (suc n) -ℤ pos 1 ≡ pos n
below_next n = omega (arith, ints)

small_fits : (n : ℕ) → pos (suc n) ≤ℤ pos (2 ^ 53) → nat_lt n (2 ^ 63) ≡ true
small_fits n high = let low : n < 2 ^ 63 = omega (arith, ints, high) in grind (arith, nat_tests)

one_less : (z : ℤ) → IsId z → binary (Arith Sub) (Int z) (Int (pos 1)) ≡ Int (z -ℤ pos 1)
unfolding binary
one_less (pos zero) id = absurd (let low = id.0 in omega (arith, ints, low))
one_less (pos (suc n)) id =
    let fits : fits_i64 (pos (suc n) -ℤ pos 1) ≡ true = subst (λ w. fits_i64 w ≡ true) (sym (below_next n))
    (small_fits n id.1) in
    rw fits
one_less (negsuc n) id = absurd (let low = id.0 in omega (arith, ints, low))

before_is : (l k : PieceKey) → IsId k.number
    → ((equal Binary (Words l.edition) (Words k.edition)
    && (equal Binary (Int l.number) (binary (Arith Sub) (Int k.number) (Int (pos 1))) && true)) ≡ true)
    ↔ (l ≡ piece k.edition (k.number -ℤ pos 1))
before_is l k id =
    let t = texts_are l.edition k.edition in
    let n = ints_are l.number (k.number -ℤ pos 1) in
    subst (λ v. ((equal Binary (Words l.edition) (Words k.edition) && (equal Binary (Int l.number) v && true)) ≡ true)
    ↔ (l ≡ piece k.edition (k.number -ℤ pos 1))) (sym (one_less k.number id)) (
      λ e.
          let p = and_parts (equal Binary (Words l.edition) (Words k.edition))
          (equal Binary (Int l.number) (Int (k.number -ℤ pos 1)) && true) e in
          ap₂ piece (t.0 p.0) (n.0 (and_parts (equal Binary (Int l.number) (Int (k.number -ℤ pos 1))) true p.1).0),
      λ e. and_from _ _ (t.1 (ap (λ (x : PieceKey). x.edition) e))
          (and_from _ _ (n.1 (ap (λ (x : PieceKey). x.number) e)) refl),
    )

first_is : (z : ℤ) (A : Type 0)
    → (IsFrom (pos 1) (pos MostPieces) z × ((◌≡◌ {A = Option ℤ} (Some z) (Some (pos 1))) ⊎ A))
    ↔ (IsFrom (pos 1) (pos MostPieces) z × ((z ≡ pos 1) ⊎ A))
first_is z A = (
  λ h. (h.0, elim h.1 [ inl is ↦ inl (same_some is) | inr a ↦ inr a ]),
  λ h. (h.0, elim h.1 [ inl is ↦ inl (ap Some is) | inr a ↦ inr a ]),
)

there_too : {A B : Type 0} {b c : Bool} → b ≡ c → (A × (B ⊎ IsTrue b)) ↔ (A × (B ⊎ IsTrue c))
there_too {A} {B} {b} is = subst (λ t. (A × (B ⊎ IsTrue b)) ↔ (A × (B ⊎ IsTrue t))) is same

pub pieces_numbered : (profile : Profile)
    → Says [] (inner 25 (left 25 (equals 2 1 1 1 ∷ follows 2 2 1 2 ∷ []) end)) [] (col 1 2 ∷ col 2 2 ∷ []) IsNumberedRow
    (λ p. Limits profile p) PiecesNumbered
pieces_numbered profile version db p stands known =
    let h = stands.holds in
    let here = covered (λ k i. (_, _, refl)) h.keeps.pieces in
    each_named piece_id piece_with h.kept.shelf h.kept.pieces p.pieces h.keeps.pieces_told after_rowid staged_row
    (db 25) here _ _
    (λ k i x bytes at named.
    let before = piece k.edition (k.number -ℤ pos 1) in
    also (joined after_rowid staged_row (db 25) h.kept.pieces here _ before
    (λ l w y. before_is l k (known.pieces k _ at).1) _
    (λ o. IsFrom (pos 1) (pos MostPieces) k.number × ((k.number ≡ pos 1) ⊎ IsTrue (is_some o))) (first_is k.number _)
    (λ w y. first_is k.number _))
    (there_too (told_there piece_id piece_with h.kept.shelf h.kept.pieces p.pieces h.keeps.pieces_told before)))

-- ---- what a row spells
-- the data of the bytes: of none it is NULL
abbrev IsDataOf : List ℕ → Value → Type 0
IsDataOf bytes data_shown = ((bytes ≡ []) × (data_shown ≡ Null)) ⊎ ((bytes ≢ []) × (data_shown ≡ Blob bytes))

is_data : (shelf : Shelf) → AreBlobs shelf → (o : Option ℤ) (bytes : List ℕ) → StandsAt shelf o bytes
    → IsDataOf bytes (data_of o bytes)
is_data shelf are None bytes stands = inl (stands, refl)
is_data shelf are (Some id) bytes stands = go (get shelf id) refl
  where
    go : (o : Option Kept) → get shelf id ≡ o → IsDataOf bytes (Blob bytes)
    go None none = absurd (let e : None ≡ Some bytes = sym (ap (option_map (λ (b : Kept). b.bytes)) none)
        ∙ stands in cc)
    go (Some b) is = inr (
      (λ none. are.filled id b is
          (same_some (sym (ap (option_map (λ (c : Kept). c.bytes)) is) ∙ stands) ∙ none)),
      refl,
    )

module _ (bytes : List ℕ) (data_shown : Value) (is : IsDataOf bytes data_shown) where
  none_from : is_there data_shown ≡ false → bytes ≡ []
  none_from off = elim is as (λ _. bytes ≡ [])
      [ inl e ↦ e.0 | inr e ↦ absurd (let f : true ≡ false = sym (ap is_there e.1) ∙ off in cc) ]

  none_to : bytes ≡ [] → is_there data_shown ≡ false
  none_to none = elim is as (λ _. is_there data_shown ≡ false) [ inl e ↦ ap is_there e.1 | inr e ↦ absurd (e.0 none) ]

  bytes_from : (P : List ℕ → Type 0) → bytes_by P data_shown → P bytes
  bytes_from P h = elim is as (λ _. P bytes)
      [ inl e ↦ absurd (subst (bytes_by P) e.1 h) | inr e ↦ subst (bytes_by P) e.1 h ]

  bytes_to : (P : List ℕ → Type 0) → (P [] → ⊥) → P bytes → bytes_by P data_shown
  bytes_to P some h = elim is as (λ _. bytes_by P data_shown)
      [ inl e ↦ absurd (some (subst P e.0 h)) | inr e ↦ subst (bytes_by P) (sym e.1) h ]

not_long : (most : ℕ) → IsLong 1 most [] → ⊥
not_long most h = let low : 1 ≤ 0 = h.0 in omega (arith, low)

abbrev shown : PieceRow → Value → Row
shown v data_shown = Words v.kind ∷ Words v.name ∷ Int v.k1 ∷ Int v.k2 ∷ Int v.k3 ∷ Int v.k4 ∷ Int v.k5 ∷ Int v.k6
    ∷ Int v.k7 ∷ Words v.t1 ∷ Words v.t2 ∷ data_shown ∷ []

-- no number but the first three
abbrev HasThree : PieceRow → Type 0
HasThree v = (v.k4 ≡ pos 0) × (v.k5 ≡ pos 0) × (v.k6 ≡ pos 0) × (v.k7 ≡ pos 0)

-- a row with these columns
same_row : {kind : Text} {k1 k2 k3 : ℤ} {t1 t2 : Text} {bytes : List ℕ} (v : PieceRow) → HasThree v → v.kind ≡ kind
    → v.k1 ≡ k1 → v.k2 ≡ k2
    → v.k3 ≡ k3 → v.t1 ≡ t1 → v.t2 ≡ t2 → v.bytes ≡ bytes
    → v ≡ record {
      kind = kind;
      name = v.name;
      k1 = k1;
      k2 = k2;
      k3 = k3;
      k4 = pos 0;
      k5 = pos 0;
      k6 = pos 0;
      k7 = pos 0;
      t1 = t1;
      t2 = t2;
      bytes = bytes;
    }
same_row v (e, f, g, h) a b c d s t u =
    λ i. record {
      kind = a i;
      name = v.name;
      k1 = b i;
      k2 = c i;
      k3 = d i;
      k4 = e i;
      k5 = f i;
      k6 = g i;
      k7 = h i;
      t1 = s i;
      t2 = t i;
      bytes = u i;
    }

to_content : (profile : Profile) (v : PieceRow) (d : Value) → IsDataOf v.bytes d → IsName v.name → IsContent (shown v d)
    → IsSpelled profile v
to_content profile v d data_is named h = go h.1
  where
    three : HasThree v
    three = (same_some h.0.0, same_some h.0.1, same_some h.0.2, same_some h.0.3)

    no_bytes : is_there d ≡ false → v.bytes ≡ []
    no_bytes = none_from v.bytes d data_is

    go : PutsEntry (shown v d) ⊎ IsDrop (shown v d) → IsSpelled profile v
    go (inl (inl (is, (zoom, column, row), (a, b), bytes))) =
        let z = natural v.k1 zoom.0 in let c = natural v.k2 column.0 in let r = natural v.k3 row.0 in (
          Tile v.name (place_in v) v.bytes,
          same_row v three (same_some is) z c r (same_some a) (same_some b) refl,
          (
            named,
            record { zoom = subst IsZoom z zoom; column = subst IsTilePlace c column; row = subst IsTilePlace r row },
            bytes_from v.bytes d data_is IsTileBytes bytes,
          ),
          tt,
        )
    go (inl (inr (inl (is, id, amount, zero_is, title, note, none)))) = (
      RowPiece v.name v.k1 v.t1 v.t2 v.k2,
      same_row v three (same_some is) refl refl (same_some zero_is) refl refl (no_bytes none),
      (named, id, title.1, note.1, amount),
      tt,
    )
    go (inl (inr (inr (inl (is, (id, a, b), content_type, c, bytes))))) = (
      Media v.name v.k1 v.t1 v.bytes,
      same_row v three (same_some is) refl (same_some a) (same_some b) refl (same_some c) refl,
      (named, id, content_type.1, bytes_from v.bytes d data_is IsMediaBytes bytes),
      tt,
    )
    go (inl (inr (inr (inr (is, (base, related, a), (b, c), none))))) = (
      Map v.name v.k1 v.k2,
      same_row v three (same_some is) refl refl (same_some a) (same_some b) (same_some c)
          (no_bytes none),
      (named, base, related),
      tt,
    )
    go (inr (inl (is, (zoom, column, row), (a, b), none))) =
        let z = natural v.k1 zoom.0 in let c = natural v.k2 column.0 in let r = natural v.k3 row.0 in (
          TileDrop v.name (place_in v),
          same_row v three (same_some is) z c r (same_some a) (same_some b) (no_bytes none),
          (
            named,
            record { zoom = subst IsZoom z zoom; column = subst IsTilePlace c column; row = subst IsTilePlace r row },
          ),
          tt,
        )
    go (inr (inr (inl (is, (id, a, b), (c, d), none)))) = (
      RowDrop v.name v.k1,
      same_row v three (same_some is) refl (same_some a) (same_some b) (same_some c)
          (same_some d) (no_bytes none),
      (named, id),
      tt,
    )
    go (inr (inr (inr (inl (is, (id, a, b), (c, d), none))))) = (
      MediaDrop v.name v.k1,
      same_row v three (same_some is) refl (same_some a) (same_some b) (same_some c)
          (same_some d) (no_bytes none),
      (named, id),
      tt,
    )
    go (inr (inr (inr (inr (is, (base, related, a), (b, c), none))))) = (
      MapDrop v.name v.k1 v.k2,
      same_row v three (same_some is) refl refl (same_some a) (same_some b) (same_some c)
          (no_bytes none),
      (named, base, related),
      tt,
    )

matrix_row : (v : PieceRow) (k1 k2 k3 k4 k5 : ℤ) → v.kind ≡ codes "matrix" → v.k1 ≡ k1 → v.k2 ≡ k2 → v.k3 ≡ k3 → v.k4 ≡ k4 → v.k5 ≡ k5 → v.t1 ≡ []
    → v.t2 ≡ [] → v.bytes ≡ []
    → v ≡ record { kind = codes "matrix"; name = v.name; k1 = k1; k2 = k2; k3 = k3; k4 = k4; k5 = k5; k6 = v.k6; k7 = v.k7; t1 = []; t2 = []; bytes = [] }
matrix_row v k1 k2 k3 k4 k5 a b c d e f s t u =
    λ i. record {
      kind = a i;
      name = v.name;
      k1 = b i;
      k2 = c i;
      k3 = d i;
      k4 = e i;
      k5 = f i;
      k6 = v.k6;
      k7 = v.k7;
      t1 = s i;
      t2 = t i;
      bytes = u i;
    }

to_matrix : (profile : Profile) (v : PieceRow) (d : Value) → IsDataOf v.bytes d → IsName v.name
    → IsMatrix profile (shown v d) → IsSpelled profile v
to_matrix profile v d data_is named (takes, is, zoom, (mw, mh, tw, th), px, py, (a, b), none) =
    let z = natural v.k1 zoom.0 in let w = above_zero v.k2 mw.0 in let h = above_zero v.k3 mh.0 in let x =
    above_zero v.k4 tw.0 in let y = above_zero v.k5 th.0 in (
      Matrix v.name (unsigned_abs v.k1)
          (record {
            mw = unsigned_abs v.k2;
            mh = unsigned_abs v.k3;
            tw = unsigned_abs v.k4;
            th = unsigned_abs v.k5;
            px = v.k6;
            py = v.k7;
          }),
      matrix_row v _ _ _ _ _ (same_some is) z w h x y (same_some a) (same_some b) (none_from v.bytes d data_is none),
      (
        named,
        subst IsZoom z zoom,
        record {
          mw = subst IsMatrixSide w mw;
          mh = subst IsMatrixSide h mh;
          tw = subst IsTileSide x tw;
          th = subst IsTileSide y th;
          px = px;
          py = py;
        },
      ),
      takes,
    )

to_spelled : (profile : Profile) (v : PieceRow) (d : Value) → IsDataOf v.bytes d → IsSpelledRow profile (shown v d)
    → IsSpelled profile v
to_spelled profile v d data_is h =
    elim h.form [
      | inl content ↦ to_content profile v d data_is h.name.1 content
      | inr matrix ↦ to_matrix profile v d
          data_is h.name.1 matrix
    ]

of_piece : (profile : Profile) (q : Piece) (d : Value) → IsDataOf (piece_row q).bytes d → IsPieceWithin profile q
    → Takes profile q
    → IsSpelledRow profile (shown (piece_row q) d)
of_piece profile (Tile table place bytes) d data_is w takes =
    record {
      name = (name_utf8 table w.0, w.0);
      form = inl (
        (refl, refl, refl, refl),
        inl (inl (
          refl,
          (w.1.zoom, w.1.column, w.1.row),
          (refl, refl),
          bytes_to bytes d data_is IsTileBytes (not_long _) w.2,
        )),
      );
    }
of_piece profile (TileDrop table place) d data_is w takes =
    record {
      name = (name_utf8 table w.0, w.0);
      form = inl (
        (refl, refl, refl, refl),
        inr (inl (refl, (w.1.zoom, w.1.column, w.1.row), (refl, refl), none_to [] d data_is refl)),
      );
    }
of_piece profile (RowPiece table id title note amount) d data_is w takes =
    record {
      name = (name_utf8 table w.0, w.0);
      form = inl (
        (refl, refl, refl, refl),
        inl (inr (inl
            (refl, w.1, w.4, refl, (w.2.clean.utf8, w.2), (w.3.clean.utf8, w.3), none_to [] d data_is refl))),
      );
    }
of_piece profile (RowDrop table id) d data_is w takes =
    record {
      name = (name_utf8 table w.0, w.0);
      form = inl (
        (refl, refl, refl, refl),
        inr (inr
            (inl (refl, (w.1, refl, refl), (refl, refl), none_to [] d data_is refl))),
      );
    }
of_piece profile (Media table id content_type bytes) d data_is w takes =
    record {
      name = (name_utf8 table w.0, w.0);
      form = inl (
        (refl, refl, refl, refl),
        inl (inr (inr
            (inl (
              refl,
              (w.1, refl, refl),
              (content_type_utf8 content_type w.2, w.2),
              refl,
              bytes_to bytes d data_is IsMediaBytes (not_long _) w.3,
            )))),
      );
    }
of_piece profile (MediaDrop table id) d data_is w takes =
    record {
      name = (name_utf8 table w.0, w.0);
      form = inl (
        (refl, refl, refl, refl),
        inr (inr
            (inr (inl (refl, (w.1, refl, refl), (refl, refl), none_to [] d data_is refl)))),
      );
    }
of_piece profile (Map mapping base_id related_id) d data_is w takes =
    record {
      name = (name_utf8 mapping w.0, w.0);
      form = inl (
        (refl, refl, refl, refl),
        inl (inr
            (inr (inr (refl, (w.1, w.2, refl), (refl, refl), none_to [] d data_is refl)))),
      );
    }
of_piece profile (MapDrop mapping base_id related_id) d data_is w takes =
    record {
      name = (name_utf8 mapping w.0, w.0);
      form = inl (
        (refl, refl, refl, refl),
        inr (inr
            (inr (inr (refl, (w.1, w.2, refl), (refl, refl), none_to [] d data_is refl)))),
      );
    }
of_piece profile (Matrix table zoom m) d data_is w takes =
    record {
      name = (name_utf8 table w.0, w.0);
      form = inr
          (takes, refl, w.1, (w.2.mw, w.2.mh, w.2.tw, w.2.th), w.2.px, w.2.py, (refl, refl), none_to [] d data_is refl);
    }

pub pieces_spelled : (profile : Profile)
    → Says [] (inner 25 (left 27 (equals 2 0 1 14 ∷ []) end)) []
    (col 1 3 ∷ col 1 4 ∷ col 1 5 ∷ col 1 6 ∷ col 1 7 ∷ col 1 8 ∷ col 1 9 ∷ col 1 10 ∷ col 1 11 ∷ col 1 12 ∷ col 1 13
    ∷ col 2 3 ∷ []) (IsSpelledRow profile) (λ p. Limits profile p) (PiecesSpelled profile)
pieces_spelled profile version db p stands known =
    let h = stands.holds in
    each_named piece_id piece_with h.kept.shelf h.kept.pieces p.pieces h.keeps.pieces_told after_rowid staged_row
    (db 25) (covered (λ k i. (_, _, refl)) h.keeps.pieces) _ (λ _ r. IsSpelled profile r)
    (λ k i x bytes at named.
    let v = piece_with i bytes in
    let d = data_of i.blob bytes in
    let data_is = is_data h.kept.shelf h.keeps.are i.blob bytes named in
    also (joined_blob (db 27) h.kept.shelf h.keeps.blobs (λ shows. IsSpelledRow profile (shown v shows)) i.blob bytes
    named) (
      to_spelled profile v d data_is,
      λ s. subst (λ (y : PieceRow). IsSpelledRow profile (shown y d)) (sym s.1)
          (of_piece profile s.0 d (subst (λ (y : PieceRow). IsDataOf y.bytes d) s.1 data_is) s.2 s.3),
    ))

-- ---- all of rule 15
pub all_editions : (profile : Profile) (p : Package)
    → (EditionStates p × (PiecesOfOpen p × (PiecesSpelled profile p × PiecesNumbered p))) ↔ Editions profile p.editions
    p.pieces
all_editions profile p = (
  λ h. record {
    states = h.0;
    of_open = h.1.0;
    spelled = h.1.1.0;
    numbered = λ edition here. numbered p.pieces edition MostPieces
        (λ z s. let v = some_of (get p.pieces (piece edition z)) s in h.1.1.1 (piece edition z) v.0 v.1);
  },
  λ e. (
    e.states,
    (
      e.of_open,
      (
        e.spelled,
        λ k v is.
            let n = e.numbered k.edition (e.of_open k v is) in
            follows_from p.pieces k.edition MostPieces n.0 n.1 n.2 k.number (ap is_some is),
      ),
    ),
  ),
)
