-- What the growth of an edition comes to, in each case.
use Rattle.std.proofs.Common.{◌≡◌, ◌∙◌, inl, inr, ◌+◌, ◌-◌, ℕ, suc, pos, ℤ, zero, negsuc, ◌≤ℤ◌, ◌≤◌, List, [], ◌∷◌}
use Rattle.std.proofs.Common.{◌++◌, length, Option, Some, None, is_some, refl, sym, ap, subst, arith, append_assoc}
use Rattle.std.proofs.Common.{append-nil, false}
use Rattle.std.specs.Prelude.{◌==◌}
use Rattle.std.proofs.lemmas.Int.{ints}
use Rattle.std.proofs.lemmas.Bool.{ne_eqb}
use Rattle.std.specs.FinMap.{get, same_map}
use Rattle.mm_definitions.specs.Conditions.{pieces_of}
use Rattle.mm_definitions.specs.Editions.{edition_trial, trial}
use Rattle.mm_definitions.specs.Keys.{Text, PieceKey, piece}
use Rattle.mm_definitions.specs.Package.{Package, PieceRow, PiecesPart}
use Rattle.mm_definitions.specs.Pieces.{piece_row}
use Rattle.mm_definitions.specs.declared.commands.Piece.{Piece}
use Rattle.mm_definitions.proofs.KeyLaws.{piece_keys, texts}
use Rattle.mm_definitions.proofs.Parts.{not_none, same_key, same_some}
use Rattle.mm_laws.proofs.InOrder.{AreFrom, pieces_in_order}
use Rattle.mm_kit.specs.Editions.{HasPieces, numbered, rows_from}
use Rattle.mm_kit.specs.Imports.{AreRepeats, IsFirstOf, OnlyGrows, SameBut}
use Rattle.mm_kit.proofs.StageFacts.{has_one}

module _ (name : Text) (kit : List Piece) (p q : Package) where
  pub first : (old : List Piece) → OnlyGrows name kit p q → HasPieces p name old → IsFirstOf old kit
      → (new : List Piece) × HasPieces q name new × IsFirstOf old new × IsFirstOf new kit
  first old (inl same) has front =
      (old, subst (λ r. HasPieces r name old) (sym same) has, ([], sym (append-nil old)), front)
  first old (inr it) has front = (
    it.new,
    it.after,
    subst (λ l. IsFirstOf l it.new)
        (has_one p name it.old old it.before has) it.more,
    it.of_kit,
  )

  pub others : (old : List Piece) → OnlyGrows name kit p q → HasPieces p name old → (IsFirstOf old kit → ⊥) → q ≡ p
  others old (inl same) has bad = same
  others old (inr it) has bad =
      let (r, e) = it.more in
      let (s, f) = it.of_kit in
      absurd (bad (
        r ++ s,
        f ∙ ap (λ l. l ++ s) e ∙ append_assoc it.old r s
            ∙ ap (λ l. l ++ (r ++ s)) (has_one p name it.old old it.before has),
      ))

  pub not_open : OnlyGrows name kit p q → ((old : List Piece) → HasPieces p name old → ⊥) → q ≡ p
  not_open (inl same) bad = same
  not_open (inr it) bad = absurd (bad it.old it.before)

  one : OnlyGrows name kit p q → SameBut name p q
  one (inl same) = subst (SameBut name p) (sym same) (record { parts = refl; others = λ k d. refl })
  one (inr it) = it.same

both : (name : Text) (p q r : Package) → SameBut name p q → SameBut name q r → SameBut name p r
both name p q r s t = record {
  parts = t.parts ∙ ap (λ (x : Package). record x { pieces = r.pieces }) s.parts;
  others = λ k d. t.others k d ∙ s.others k d;
}

pub repeated : (name : Text) (kit : List Piece) (p q : Package) (stops : List Package) → AreRepeats name kit p stops q
    → SameBut name p q
unfolding AreRepeats
repeated name kit p q [] same = subst (SameBut name p) (sym same) (record { parts = refl; others = λ k d. refl })
repeated name kit p q (r ∷ rest) h = both name p r q (one name kit p r h.0) (repeated name kit r q rest h.1)

-- ---- a package by its edition's pieces

pub numbered-in : (list : List Piece) (i : ℕ) → 1 ≤ i → i ≤ length list → (x : Piece) × (numbered list i ≡ Some x)
unfolding numbered
numbered-in [] i a b = absurd (omega (arith, a, b))
numbered-in (x ∷ xs) zero a b = absurd (omega (arith, a))
numbered-in (x ∷ xs) (suc zero) a b = (x, refl)
numbered-in (x ∷ xs) (suc (suc n)) a b =
    let apart : (suc (suc n) == 1) ≡ false = ne_eqb _ _ (λ s. absurd (omega (arith, s))) in
    let back : suc (suc n) - 1 ≡ suc n = omega arith in
    rw (apart, back) (numbered-in xs (suc n) (omega arith) (omega (arith, b)))

module _ (name : Text) (list : List Piece) (q r : Package) (one : HasPieces q name list) (two : HasPieces r name list)
  where
    in_range : (n : ℤ) → pos 1 ≤ℤ n → n ≤ℤ pos (length list) → get q.pieces (piece name n) ≡ get r.pieces (piece name n)
    in_range (pos i) a b = let (x, e) = numbered-in list i (omega (arith, ints, a)) (omega (arith, ints, b)) in one.each
        i
        x e ∙ sym (two.each i x e)
    in_range (negsuc i) a b = absurd (omega (arith, ints, a))

    of_name : (n : ℤ) → get q.pieces (piece name n) ≡ get r.pieces (piece name n)
    of_name n = by (get q.pieces (piece name n)) (get r.pieces (piece name n)) refl refl
      where
        by : (v w : Option PieceRow) → get q.pieces (piece name n) ≡ v → get r.pieces (piece name n) ≡ w
            → get q.pieces (piece name n) ≡ get r.pieces (piece name n)
        by (Some a) w e f = let range = (one.numbers n).0 (ap is_some e) in in_range n range.0 range.1
        by None (Some b) e f = let range = (two.numbers n).0 (ap is_some f) in in_range n range.0 range.1
        by None None e f = e ∙ sym f

    -- packages that differ in these pieces at most are one
    same_kit : (p : Package) → SameBut name p q → SameBut name p r → q ≡ r
    same_kit p s t = s.parts ∙ ap (λ m. record p { pieces = m })
        (same_map piece_keys.total piece_keys.exact q.pieces r.pieces at_key) ∙ sym t.parts
      where
        at_key : (k : PieceKey) → get q.pieces k ≡ get r.pieces k
        at_key k = elim (same_key texts k.edition name) as (λ _. get q.pieces k ≡ get r.pieces k) [
          | inl is ↦ subst (λ n. get q.pieces (piece n k.number) ≡ get r.pieces (piece n k.number)) (sym is.0)
              (of_name k.number)
          | inr other ↦ s.others k other.0 ∙ sym (t.others k other.0)
        ]

pub by_any_stops : (name : Text) (kit : List Piece) (p q r : Package) (stops others : List Package)
    → AreRepeats name kit p stops q
    → AreRepeats name kit p others r
    → HasPieces q name kit → HasPieces r name kit → q ≡ r
by_any_stops name kit p q r stops others h k one two = same_kit name kit q r one two p (repeated name kit p q stops h)
    (repeated name kit p r others k)

none_before : (a b : List Piece) → [] ≡ a ++ b → a ≡ []
none_before [] b e = refl
none_before (x ∷ xs) b e = absurd cc

pub no_kit : (name : Text) (p q : Package) → OnlyGrows name [] p q → q ≡ p
no_kit name p q (inl same) = same
no_kit name p q (inr it) =
    let new : it.new ≡ [] = none_before it.new it.of_kit.0 it.of_kit.1 in
    let old : it.old ≡ [] = none_before it.old it.more.0 (sym new ∙ it.more.1) in
    same_kit name [] q p (subst (HasPieces q name) new it.after) (subst (HasPieces p name) old it.before) p it.same
    (record { parts = refl; others = λ k d. refl })

-- ---- the pieces that publishing goes along

module _ (m : PiecesPart) (name : Text) where
  rows_are : (list : List Piece) (i : ℕ) (es : List (PieceKey × PieceRow)) → AreFrom m name i es
      → ((k : ℕ) (q : Piece) → numbered list (k + 1) ≡ Some q → get m (piece name (pos (i + k))) ≡ Some (piece_row q))
      → get m (piece name (pos (i + length list))) ≡ None
      → es ≡ rows_from name i list
  unfolding numbered rows_from
  rows_are [] i [] from each end = refl
  rows_are [] i (e ∷ es) from each end =
      let at : i + length {A = Piece} [] ≡ i = omega arith in
      absurd (not_none from.1 (ap (get m) from.0 ∙ subst (λ k. get m (piece name (pos k)) ≡ None) at end))
  rows_are (x ∷ xs) i [] from each end =
      let at : i + 0 ≡ i = omega arith in
      absurd (not_none (subst (λ k. get m (piece name (pos k)) ≡ Some (piece_row x)) at (each 0 x refl)) from)
  rows_are (x ∷ xs) i (e ∷ es) from each end =
      let at : i + 0 ≡ i = omega arith in
      let row : e.1 ≡ piece_row x = same_some
      (sym from.1 ∙ ap (get m) from.0 ∙ subst (λ k. get m (piece name (pos k)) ≡ Some (piece_row x)) at
      (each 0 x refl)) in
      let next : suc i ≡ i + 1 = omega arith in
      let ended : suc i + length xs ≡ i + length (x ∷ xs) = omega arith in
      let rest : es ≡ rows_from name (suc i) xs = rows_are xs (suc i) es from.2
      (λ k q e.
      let apart : (k + 1 + 1 == 1) ≡ false = ne_eqb _ _ (λ s. absurd (omega (arith, s))) in
      let back : k + 1 + 1 - 1 ≡ k + 1 = omega arith in
      let on : i + (k + 1) ≡ suc i + k = omega arith in
      subst (λ n. get m (piece name (pos n)) ≡ Some (piece_row q)) on (each (k + 1) q (rw (apart, back) e)))
      (subst (λ n. get m (piece name (pos n)) ≡ None) (sym ended) end) in
      (λ j. (from.0 j, row j) ∷ rest j) ∙ ap (λ n. (piece name (pos i), piece_row x) ∷ rows_from name n xs) next

past_last : (n : ℕ) → pos (1 + n) ≤ℤ pos n → ⊥
past_last n h = omega (arith, ints, h)

pub pieces_are : (q : Package) (name : Text) (list : List Piece) → HasPieces q name list
    → pieces_of q name ≡ rows_from name 1 list
pieces_are q name list has =
    rows_are q.pieces name list 1 (pieces_of q name) (pieces_in_order q name (length list) has.numbers)
    (λ k x e. let on : k + 1 ≡ 1 + k =
    omega arith in subst (λ n. get q.pieces (piece name (pos n)) ≡ Some (piece_row x)) on (has.each (k + 1) x e))
    (none (get q.pieces (piece name (pos (1 + length list)))) refl)
  where
    none : (v : Option PieceRow) → get q.pieces (piece name (pos (1 + length list))) ≡ v → v ≡ None
    none None e = refl
    none (Some r) e = absurd (past_last (length list) ((has.numbers (pos (1 + length list))).0 (ap is_some e)).1)

pub published : (q : Package) (name : Text) (list : List Piece) (stamp : Text) → HasPieces q name list
    → edition_trial q name stamp ≡ trial (rows_from name 1 list) q stamp
published q name list stamp has = ap (λ es. trial es q stamp) (pieces_are q name list has)
