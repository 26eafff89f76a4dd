-- What the row of a staged piece shows.
use Rattle.std.proofs.Common.{◌≡◌, ℕ, ℤ, not, [], ◌∷◌, List, Option, Some, None, refl, sym, ap, subst, ◌∙◌, Result, Ok}
use Rattle.sqlite.specs.declared.types.Value.TheVariants.{Int, Text as Words}
use Rattle.sqlite.specs.Order.{Row, column}
use Rattle.sqlite.specs.Term.{Term, col}
use Rattle.std.specs.FinMap.{FinMap, get}
use Rattle.sql_forms.specs.Tables.{FindsRow}
use Rattle.sql_forms.specs.Maps.{Holds}
use Rattle.sql_forms.specs.Collation.TheVariants.{Binary}
use Rattle.sql_forms.specs.Rules.{equal}
use Rattle.sql_forms.proofs.Keys.{columns_are, equal_text}
use Rattle.sql_forms.proofs.Selects.{shows}
use Rattle.mm_definitions.specs.Keys.{Text, PieceKey, piece_cmp}
use Rattle.mm_definitions.specs.Effects.{is_other}
use Rattle.mm_definitions.specs.Package.{PieceRow}
use Rattle.mm_store.specs.Blobs.{Shelf, StandsAt, Told}
use Rattle.mm_store.specs.Kept.{piece_id, piece_with}
use Rattle.mm_store.specs.Rows.{past_rowid, maybe, StagedRow, staged_row}
use Rattle.mm_store.proofs.Parts.{finds_none, finds_some}
use Rattle.mm_store.proofs.Keys as parts
use Rattle.mm_store.proofs.Keys.{by_piece, by_text, maybe_is}
use Rattle.mm_staging.specs.Kept.{Shows, IsPieceRow}
use Rattle.sqlite.specs.Held.{state}
use Rattle.sqlite.specs.Store.{Ghosts}
use Rattle.sqlite.specs.declared.transaction.Transaction.{Transaction}
use Rattle.sql_forms.proofs.Lists.{and_true}
use Rattle.mm_definitions.specs.declared.answers.Fault.{Fault}
use Rattle.mm_store.proofs.Single.{one_bytes}
use Rattle.mm_blobs.specs.Handed as handed
use Rattle.mm_blobs.specs.Views.{View, IsSeen}
use Rattle.mm_blobs.proofs.Moving.{then_moves_open}
use Rattle.mm_staging.specs.Handed.{TellsBytesOf}

abbrev pub piece_terms : List Term
piece_terms = col 1 3 ∷ col 1 4 ∷ col 1 5 ∷ col 1 6 ∷ col 1 7 ∷ col 1 8 ∷ col 1 9 ∷ col 1 10 ∷ col 1 11 ∷ col 1 12
    ∷ col 1 13 ∷ col 1 14 ∷ []

-- the columns that are asked for, of a row that holds the piece
pub shown_piece : (k : PieceKey) (v : StagedRow) (params r : Row) → past_rowid r ≡ staged_row k v
    → IsPieceRow (Some v) (Some (shows piece_terms params r))
shown_piece k v params r is =
    let at : (i : ℕ) → _ = λ i. columns_are r (staged_row k v) i is in (
      record {
        kind = at 2;
        name = at 3;
        k1 = at 4;
        k2 = at 5;
        k3 = at 6;
        k4 = at 7;
        k5 = at 8;
        k6 = at 9;
        k7 = at 10;
        t1 = at 11;
        t2 = at 12;
      },
      at 13,
    )

-- a row shows one piece with the same bytes
one_piece : (shown : Row) (a b : PieceRow) → Shows shown a → Shows shown b → a.bytes ≡ b.bytes → a ≡ b
one_piece shown a b s t bytes =
    let kind : a.kind ≡ b.kind = let e : Words a.kind ≡ Words b.kind = sym s.kind ∙ t.kind in cc in
    let name : a.name ≡ b.name = let e : Words a.name ≡ Words b.name = sym s.name ∙ t.name in cc in
    let k1 : a.k1 ≡ b.k1 = let e : Int a.k1 ≡ Int b.k1 = sym s.k1 ∙ t.k1 in cc in
    let k2 : a.k2 ≡ b.k2 = let e : Int a.k2 ≡ Int b.k2 = sym s.k2 ∙ t.k2 in cc in
    let k3 : a.k3 ≡ b.k3 = let e : Int a.k3 ≡ Int b.k3 = sym s.k3 ∙ t.k3 in cc in
    let k4 : a.k4 ≡ b.k4 = let e : Int a.k4 ≡ Int b.k4 = sym s.k4 ∙ t.k4 in cc in
    let k5 : a.k5 ≡ b.k5 = let e : Int a.k5 ≡ Int b.k5 = sym s.k5 ∙ t.k5 in cc in
    let k6 : a.k6 ≡ b.k6 = let e : Int a.k6 ≡ Int b.k6 = sym s.k6 ∙ t.k6 in cc in
    let k7 : a.k7 ≡ b.k7 = let e : Int a.k7 ≡ Int b.k7 = sym s.k7 ∙ t.k7 in cc in
    let t1 : a.t1 ≡ b.t1 = let e : Words a.t1 ≡ Words b.t1 = sym s.t1 ∙ t.t1 in cc in
    let t2 : a.t2 ≡ b.t2 = let e : Words a.t2 ≡ Words b.t2 = sym s.t2 ∙ t.t2 in cc in
    λ i. record {
      kind = kind i;
      name = name i;
      k1 = k1 i;
      k2 = k2 i;
      k3 = k3 i;
      k4 = k4 i;
      k5 = k5 i;
      k6 = k6 i;
      k7 = k7 i;
      t1 = t1 i;
      t2 = t2 i;
      bytes = bytes i;
    }

-- a row shows a piece whatever its bytes are
shown_with : (shown : Row) (r : PieceRow) (bytes : List ℕ) → Shows shown r → Shows shown (record r { bytes = bytes })
shown_with shown r bytes s =
    record {
      kind = s.kind;
      name = s.name;
      k1 = s.k1;
      k2 = s.k2;
      k3 = s.k3;
      k4 = s.k4;
      k5 = s.k5;
      k6 = s.k6;
      k7 = s.k7;
      t1 = s.t1;
      t2 = s.t2;
    }

-- the entry of the package is the piece of the row, with the bytes of the blob that the row names
pub row_tells : (shelf : Shelf) (o : Option StagedRow) (entry : Option PieceRow) (shown : Row) (a : PieceRow)
    → IsPieceRow o (Some shown)
    → Told piece_id piece_with shelf o entry → Shows shown a
    → ((blob : Option ℤ) → column shown 11 ≡ maybe blob → StandsAt shelf blob a.bytes) → entry ≡ Some a
row_tells shelf None entry shown a is told s stands = absurd is
row_tells shelf (Some r) entry shown a is told s stands =
    let row = shown_with shown (piece_with r []) told.0 is.0 in
    told.2 ∙ ap Some (one_piece shown (piece_with r told.0) a row s
    (one_bytes shelf r.blob told.0 a.bytes told.1 (stands r.blob is.1)))

-- whatever the bytes of its blob are
pub row_keeps : (shelf : Shelf) (o : Option StagedRow) (entry : Option PieceRow) (shown : Row) (a : PieceRow)
    (blob : Option ℤ) → IsPieceRow o (Some shown)
    → Told piece_id piece_with shelf o entry → Shows shown a → column shown 11 ≡ maybe blob
    → (bytes : List ℕ) × StandsAt shelf blob bytes × (entry ≡ Some (record a { bytes = bytes }))
row_keeps shelf None entry shown a blob is told s named = absurd is
row_keeps shelf (Some r) entry shown a blob is told s named = (
  told.0,
  subst (λ o. StandsAt shelf o told.0) (maybe_is r.blob blob (sym is.1 ∙ named)) told.1,
  told.2 ∙ ap Some
      (one_piece shown (piece_with r told.0) (record a { bytes = told.0 })
      (shown_with shown (piece_with r []) told.0 is.0) (shown_with shown a told.0 s) refl),
)

pub no_row_tells : (shelf : Shelf) (o : Option StagedRow) (entry : Option PieceRow) → IsPieceRow o None
    → Told piece_id piece_with shelf o entry → entry ≡ None
no_row_tells shelf None entry is told = told
no_row_tells shelf (Some r) entry is told = absurd is

-- the row that was looked up by the key shows the piece of the key
module _ (rows : List Row) (ids : FinMap piece_cmp StagedRow) (h : Holds past_rowid staged_row rows ids) (k : PieceKey)
    (params : Row) where
  by_row : (first : Option Row) → FindsRow (by_piece k) (shows piece_terms params) rows first
      → IsPieceRow (get ids k) first
  by_row None found = subst (λ o. IsPieceRow o None)
      (sym (finds_none parts.pieces rows ids h k (shows piece_terms params) found)) tt
  by_row (Some row) found =
      let at = finds_some parts.pieces rows ids h k (shows piece_terms params) row found in
      subst (λ o. IsPieceRow o (Some row)) (sym at.1)
      (subst (λ r. IsPieceRow (Some at.0) (Some r)) (sym at.4) (shown_piece k at.0 params at.2 at.3))

  pub found_row : (x first : Option Row) → x ≡ first → FindsRow (by_piece k) (shows piece_terms params) rows first
      → IsPieceRow (get ids k) x
  found_row x first gives found = subst (IsPieceRow (get ids k)) (sym gives) (by_row first found)

-- whether a row is of another edition
pub of_other : (edition : Text) (r : Row) (k : PieceKey) (v : StagedRow) → past_rowid r ≡ staged_row k v
    → not (by_text edition r) ≡ is_other edition k.edition
of_other edition r k v is = ap not
    (and_true _ ∙ ap (λ x. equal Binary x (Words edition)) (columns_are r (staged_row k v) 0 is)
    ∙ equal_text k.edition edition)

-- a look at a row, and then at the bytes of the blob that it names
pub finds_bytes : {S T U : Type 0} {g : Ghosts S} {a b c : Transaction S} {Says : View → T → Type 0} {x : T}
    {row : Row} {bytes_of : U → List ℕ}
    {r : Result U Fault} → handed.Finds g a b Says (Ok x) → TellsBytesOf g b c row bytes_of r
    → handed.Finds g a c (λ v it. Says v x
    × ((blob : Option ℤ) → column row 11 ≡ maybe blob → StandsAt v.kept.shelf blob (bytes_of it))) r
finds_bytes {g = g} {c = c} {Says = Says} {x = x} {row = row} {bytes_of = bytes_of} {r = r} h k = record {
  same = k.same ∙ h.same;
  found = λ profile spare.
      then_moves_open (λ base v it w. (w ≡ v) × IsSeen spare profile (state g c.conn.now) base w
      × (Says w x × ((blob : Option ℤ) → column row 11 ≡ maybe blob → StandsAt w.kept.shelf blob (bytes_of it))))
      _ _ _ x r (h.found profile spare) (k.told profile spare) (λ base v w up it mid. (up, mid.1))
      (λ base v w z it o mid last. (last.0 ∙ mid.0, last.1, (subst (λ u. Says u x) (sym last.0) mid.2, last.2)));
}
