-- What one turn of an import does to the pieces that stand.
use Rattle.std.proofs.Common.{◌≡◌, ◌≢◌, ◌<◌, ◌≤◌, ◌+◌, ◌-◌, ◌∙◌, ◌⊎◌, inl, inr, ap, subst, ℕ, zero, suc}
use Rattle.std.proofs.Common.{ℤ, pos, ◌≤ℤ◌}
use Rattle.std.proofs.Common.{◌-ℤ◌, List, [], ◌∷◌, ◌++◌, length, Option, Some, None, is_some, Bool, true, false, refl}
use Rattle.std.proofs.Common.{sym, arith, rules, append_assoc, append-nil, length-append}
use Rattle.std.proofs.lemmas.Int.{ints}
use Rattle.std.specs.Prelude.{◌==◌, max, Ok, Err, Result, if◌then◌else◌}
use Rattle.std.proofs.lemmas.Bool.{ne_eqb}
use Rattle.std.proofs.Math.Nat.{max-eq_left, max-eq_right}
use Rattle.std.proofs.Math.Dec.{leb}
use Rattle.std.proofs.lemmas.Bool.Decides.{leb_tells}
use Rattle.std.specs.FinMap.{get, insert, contains_key}
use Rattle.mm_definitions.proofs.Integers.{same_pos}
use Rattle.mm_definitions.specs.Bounds.{IsFrom, IsId, current}
use Rattle.mm_definitions.specs.Keys.{Text, PieceKey, piece}
use Rattle.mm_definitions.specs.Package.{Package, PieceRow}
use Rattle.mm_definitions.specs.Parts.{Stands}
use Rattle.mm_definitions.specs.Pieces.{piece_row, row_piece, same_piece}
use Rattle.mm_definitions.specs.Rules.{Meets, IsNumbered}
use Rattle.mm_definitions.specs.Stamp.{stamp}
use Rattle.mm_definitions.specs.Step.{done, refusal, step, unless_refused}
use Rattle.mm_definitions.specs.Refusals.{Refusal}
use Rattle.mm_definitions.specs.declared.commands.Command.{Command}
use Rattle.mm_definitions.specs.declared.commands.Command.TheVariants as commands
use Rattle.mm_definitions.specs.declared.commands.Piece.{Piece}
use Rattle.mm_definitions.proofs.Parts.{same_key, at_put, beside_put, same_some}
use Rattle.mm_definitions.proofs.KeyLaws.{piece_keys}
use Rattle.mm_laws.proofs.Again.{same_row}
use Rattle.mm_laws.proofs.Counted.{piece_count-is}
use Rattle.mm_laws.proofs.Published.{read_back, row_itself}
use Rattle.mm_definitions.proofs.RefusalFacts.{accepted_for, refused, refused_for}
use Rattle.mm_laws.specs.NextNumber.{IsNextNumber}
use Rattle.mm_laws.proofs.PieceReasons.{stage_equal, stage_other, stage_next, again}
use Rattle.mm_run.specs.Applied.{IsSound}
use Rattle.mm_run.specs.Shown.{Shown}
use Rattle.mm_kit.specs.Editions.{HasPieces, numbered}
use Rattle.mm_kit.specs.Folders.{Files}
use Rattle.mm_kit.specs.Kits.{against, beside, filled, first_number, kit_pieces}
use Rattle.mm_kit.specs.Imports.{HasCounted, IsEntryStaged, IsFilled, IsFirstOf, SameBut, OnlyGrows, HasFirst, HasWhole}
use Rattle.mm_kit.specs.Imports.{IsCounted, IsPassed, IsImportedSoFar}
use Rattle.mm_kit.specs.declared.entries.KitEntry.{KitEntry}

-- ---- pieces by their numbers

one_is : (n : ℕ) → (n == n) ≡ true
one_is n = search rules

pub numbered-there : (done : List Piece) (q : Piece) (rest : List Piece)
    → numbered (done ++ q ∷ rest) (length done + 1) ≡ Some q
unfolding numbered
numbered-there [] q rest = refl
numbered-there (x ∷ xs) q rest =
    let apart : (length (x ∷ xs) + 1 == 1) ≡ false = ne_eqb _ _ (λ e. absurd (omega arith)) in
    let lower : length (x ∷ xs) + 1 - 1 ≡ length xs + 1 = omega arith in
    rw (apart, lower) (numbered-there xs q rest)

pub numbered-none : (list : List Piece) (i : ℕ) → length list < i → numbered list i ≡ None
unfolding numbered
numbered-none [] i h = refl
numbered-none (x ∷ xs) i h =
    let apart : (i == 1) ≡ false = ne_eqb _ _ (λ e. absurd (omega (arith, h))) in
    rw apart (numbered-none xs (i - 1) (omega (arith, h)))

eqb_is : (i k : ℕ) → (i == k) ≡ true → i ≡ k
eqb_is i k e = by (leb_tells i k) (leb_tells k i)
  where
    by : ((leb i k ≡ true) × (i ≤ k)) ⊎ ((leb i k ≡ false) × (k < i)) → ((leb k i ≡ true) × (k ≤ i))
        ⊎ ((leb k i ≡ false) × (i < k)) → i ≡ k
    by (inl a) (inl b) = omega (arith, a.1, b.1)
    by (inr a) f = absurd (differ (λ s. absurd (omega (arith, a.1, s))))
      where
        differ : (i ≢ k) → ⊥
        differ d = let f : true ≡ false = sym e ∙ ne_eqb i k d in cc
    by (inl a) (inr b) = absurd (differ (λ s. absurd (omega (arith, b.1, s))))
      where
        differ : (i ≢ k) → ⊥
        differ d = let f : true ≡ false = sym e ∙ ne_eqb i k d in cc

-- with one piece more, a number has the piece that it had, or the new one
more_at : (q r x : Piece) (xs : List Piece) (i : ℕ) (b : Bool) → (i == 1) ≡ b
    → (numbered (xs ++ q ∷ []) (i - 1) ≡ Some r → (numbered xs (i - 1) ≡ Some r) ⊎ ((i - 1 ≡ length xs + 1) × (q ≡ r)))
    → (if b then Some x else numbered (xs ++ q ∷ []) (i - 1)) ≡ Some r
    → ((if b then Some x else numbered xs (i - 1)) ≡ Some r) ⊎ ((i ≡ length (x ∷ xs) + 1) × (q ≡ r))
more_at q r x xs i true e more h = inl h
more_at q r x xs i false e more h =
    elim (more h) as (λ _. (numbered xs (i - 1) ≡ Some r) ⊎ ((i ≡ length (x ∷ xs) + 1) × (q ≡ r))) [
      | inl s ↦ inl s
      | inr s ↦ inr (omega (arith, s.0), s.1)
    ]

one_at : (q r : Piece) (i : ℕ) (b : Bool) → (i == 1) ≡ b → (if b then Some q else None) ≡ Some r → (i ≡ 1) × (q ≡ r)
one_at q r i true e h = (eqb_is i 1 e, same_some h)
one_at q r i false e h = absurd (let f : ◌≡◌ {A = Option Piece} None (Some r) = h in cc)

pub numbered-more : (list : List Piece) (q r : Piece) (i : ℕ) → numbered (list ++ q ∷ []) i ≡ Some r
    → (numbered list i ≡ Some r) ⊎ ((i ≡ length list + 1) × (q ≡ r))
unfolding numbered
numbered-more [] q r i h = let it = one_at q r i (i == 1) refl h in inr (it.0, it.1)
numbered-more (x ∷ xs) q r i h = more_at q r x xs i (i == 1) refl (numbered-more xs q r (i - 1)) h

at_zero : (list : List Piece) → numbered list 0 ≡ None
unfolding numbered
at_zero [] = refl
at_zero (x ∷ xs) = at_zero xs

pub numbered-low : (list : List Piece) (i : ℕ) (q : Piece) → numbered list i ≡ Some q → 1 ≤ i
numbered-low list zero q e = absurd (let f : ◌≡◌ {A = Option Piece} None (Some q) = sym (at_zero list) ∙ e in cc)
numbered-low list (suc i) q e = omega arith

pub numbered-high : (list : List Piece) (i : ℕ) (q : Piece) → numbered list i ≡ Some q → i ≤ length list
numbered-high list i q e = by (leb_tells i (length list))
  where
    by : ((leb i (length list) ≡ true) × (i ≤ length list)) ⊎ ((leb i (length list) ≡ false) × (length list < i))
        → i ≤ length list
    by (inl s) = s.1
    by (inr s) = absurd (let f : ◌≡◌ {A = Option Piece} None (Some q) = sym (numbered-none list i s.1) ∙ e in cc)

-- two lists with the same pieces at each number are one
pub same_list : (a b : List Piece) → length a ≡ length b
    → ((i : ℕ) (q r : Piece) → numbered a i ≡ Some q → numbered b i ≡ Some r → q ≡ r) → a ≡ b
unfolding numbered
same_list [] [] e h = refl
same_list [] (y ∷ ys) e h = absurd (omega (arith, e))
same_list (x ∷ xs) [] e h = absurd (omega (arith, e))
same_list (x ∷ xs) (y ∷ ys) e h =
    let first : x ≡ y = h 1 x y refl refl in
    let rest : xs ≡ ys = same_list xs ys (omega (arith, e)) (λ i q r f g.
    let low : 1 ≤ i = numbered-low xs i q f in
    let apart : (i + 1 == 1) ≡ false = ne_eqb _ _ (λ s. absurd (omega (arith, s, low))) in
    let back : i + 1 - 1 ≡ i = omega arith in
    h (i + 1) q r (rw (apart, back) f) (rw (apart, back) g)) in
    λ i. first i ∷ rest i

same_piece_of : (q r : Piece) → piece_row q ≡ piece_row r → q ≡ r
same_piece_of q r e = same_some (sym (read_back q) ∙ ap row_piece e ∙ read_back r)

-- an edition has one list of pieces
pub has_one : (p : Package) (name : Text) (a b : List Piece) → HasPieces p name a → HasPieces p name b → a ≡ b
has_one p name a b h k =
    same_list a b (sym (piece_count-is p name (length a) h.numbers) ∙ piece_count-is p name (length b) k.numbers)
    (λ i q r f g. same_piece_of q r (same_some (sym (h.each i q f) ∙ k.each i r g)))

-- ---- staging beside the pieces that stand

-- so many at most, by the rules
pub few : (p : Package) (name : Text) (list : List Piece) → Meets current p → HasPieces p name list → length list ≤ 4096
few p name list meets h =
    let it = meets.q15.numbered name h.is_open in
    let same : length list ≡ it.0 = sym (piece_count-is p name (length list) h.numbers)
    ∙ piece_count-is p name it.0 it.2 in
    omega (arith, same, it.1)

low_id : (i : ℕ) → 1 ≤ i → i ≤ 4097 → IsId (pos i)
low_id i a b = (omega (arith, ints, a), omega (arith, ints, b))

at_most : (n : ℕ) → n < 4096 → pos (n + 1) ≤ℤ pos 4096
at_most n h = omega (arith, ints, h)

past_last : (n : ℕ) → pos (n + 1) ≤ℤ pos n → ⊥
past_last n h = omega (arith, ints, h)

module _ (p : Package) (name : Text) (list : List Piece) (meets : Meets current p) (h : HasPieces p name list)
    (x : Piece) where
  gone : get p.pieces (piece name (pos (length list + 1))) ≡ None
  gone = by (get p.pieces (piece name (pos (length list + 1)))) refl
    where
      by : (v : Option PieceRow) → get p.pieces (piece name (pos (length list + 1))) ≡ v → v ≡ None
      by None e = refl
      by (Some r) e = absurd (past_last (length list) ((h.numbers (pos (length list + 1))).0 (ap is_some e)).1)

  behind : IsNextNumber p name (pos (length list + 1))
  behind = by (length list) refl
    where
      first : (n : ℕ) → n ≡ 0 → pos (n + 1) ≤ℤ pos 1
      first n e = omega (arith, ints, e)

      before_is : (n : ℕ) → pos (n + 1) -ℤ pos 1 ≡ pos n
      before_is n = omega (arith, ints)

      ranged : (n m : ℕ) → n ≡ suc m → (pos 1 ≤ℤ pos n) × (pos n ≤ℤ pos n)
      ranged n m e = (omega (arith, ints, e), omega (arith, ints))

      by : (m : ℕ) → length list ≡ m → IsNextNumber p name (pos (length list + 1))
      by zero e = inl (first (length list) e)
      by (suc m) e = inr (ap (λ z. contains_key p.pieces (piece name z)) (before_is (length list))
          ∙ (h.numbers (pos (length list))).1 (ranged (length list) m e))

  end_free : length list < 4096 → refusal p (commands.Stage name (pos (length list + 1)) x) ≡ None
  end_free less = accepted_for _ (stage_next p name (pos (length list + 1)) x (length list) (few p name list meets h)
      h.numbers (low_id (length list + 1) (omega arith) (omega (arith, less))) h.is_open gone behind
      (at_most (length list) less))

  pub end_step : length list < 4096 → (moment : ℕ)
      → step p (commands.Stage name (pos (length list + 1)) x) moment
      ≡ record p { pieces = insert p.pieces (piece name (pos (length list + 1))) (piece_row x) }
  end_step less moment = ap (λ v. unless_refused v
      (done p (commands.Stage name (pos (length list + 1)) x) (stamp moment)) p) (end_free less)

  abbrev pub grown : Package
  grown = record p { pieces = insert p.pieces (piece name (pos (length list + 1))) (piece_row x) }

  length_more : length (list ++ x ∷ []) ≡ length list + 1
  length_more = length-append list (x ∷ [])

  number_is : (i : ℕ) (k : ℕ) → piece name (pos i) ≡ piece name (pos k) → i ≡ k
  number_is i k e = same_pos i k (ap (λ (c : PieceKey). c.number) e)

  still_low : (n : ℕ) (z : ℤ) → z ≤ℤ pos n → z ≤ℤ pos (n + 1)
  still_low n z a = omega (arith, ints, a)

  is_last : (n : ℕ) → (pos 1 ≤ℤ pos (n + 1)) × (pos (n + 1) ≤ℤ pos (n + 1))
  is_last n = (omega (arith, ints), omega (arith, ints))

  one_less : (n : ℕ) (z : ℤ) → z ≤ℤ pos (n + 1) → z ≢ pos (n + 1) → z ≤ℤ pos n
  one_less n z a b = omega (arith, ints, a, b)

  grown_numbers : IsNumbered grown.pieces name (length (list ++ x ∷ []))
  grown_numbers = subst (IsNumbered grown.pieces name) (sym length_more)
      (λ z. elim (same_key piece_keys (piece name z) (piece name (pos (length list + 1)))) as
      (λ _. (Stands grown.pieces (piece name z) → IsFrom (pos 1) (pos (length list + 1)) z)
      × (IsFrom (pos 1) (pos (length list + 1)) z → Stands grown.pieces (piece name z))) [
        | inl s ↦
            let z_is : z ≡ pos (length list + 1) = ap (λ (c : PieceKey). c.number) s.0 in (
              λ there. subst (IsFrom (pos 1) (pos (length list + 1))) (sym z_is) (is_last (length list)),
              λ range. ap is_some
                  (ap (get grown.pieces) s.0 ∙ at_put piece_keys p.pieces (piece name (pos (length list + 1)))
                  (piece_row x)),
            )
        | inr n ↦
            let same = beside_put piece_keys p.pieces (piece name (pos (length list + 1))) (piece_row x) (piece name z)
            n.0 in (
              λ there. let r = (h.numbers z).0 (sym (ap is_some same) ∙ there) in (r.0, still_low (length list) z r.1),
              λ range. ap is_some same ∙ (h.numbers z).1
                  (range.0, one_less (length list) z range.1 (λ e. n.0 (ap (piece name) e))),
            )
      ])

  pub has_grown : HasPieces grown name (list ++ x ∷ [])
  has_grown = record {
    is_open = h.is_open;
    numbers = grown_numbers;
    each = λ i q e. elim (numbered-more list x q i e) as
        (λ _. get grown.pieces (piece name (pos i)) ≡ Some (piece_row q)) [
          | inl s ↦
              let high = numbered-high list i q s in
              beside_put piece_keys p.pieces (piece name (pos (length list + 1))) (piece_row x) (piece name (pos i))
              (λ f. absurd (let g = number_is i (length list + 1) f in past high g)) ∙ h.each i q s
          | inr s ↦ ap (λ k. get grown.pieces (piece name (pos k))) s.0
              ∙ at_put piece_keys p.pieces (piece name (pos (length list + 1))) (piece_row x)
              ∙ ap (λ y. Some (piece_row y)) s.1
        ];
  }
    where
      past : {i : ℕ} → i ≤ length list → i ≡ length list + 1 → ⊥
      past a b = omega (arith, a, b)

  pub same_grown : (o : Package) → SameBut name o p → SameBut name o grown
  same_grown o s = record {
    parts = ap (λ (q : Package). record q { pieces = grown.pieces }) s.parts;
    others = λ k d. beside_put piece_keys p.pieces (piece name (pos (length list + 1))) (piece_row x) k
        (λ e. d (ap (λ (c : PieceKey). c.edition) e)) ∙ s.others k d;
  }

  -- where a piece stands at the number
  module _ (i : ℕ) (y : Piece) (at : numbered list i ≡ Some y) where
    there : get p.pieces (piece name (pos i)) ≡ Some (piece_row y)
    there = h.each i y at

    low : IsId (pos i)
    low = low_id i (numbered-low list i y at) (omega (arith, numbered-high list i y at, few p name list meets h))

    equal_free : x ≡ y → refusal p (commands.Stage name (pos i) x) ≡ None
    equal_free e = accepted_for _ (stage_equal p name (pos i) x (length list) (few p name list meets h) h.numbers low
        h.is_open (piece_row y) there (ap piece_row e))

    pub equal_step : x ≡ y → (moment : ℕ) → step p (commands.Stage name (pos i) x) moment ≡ p
    equal_step e moment = again p name (pos i) x moment (equal_free e) (there ∙ ap (λ q. Some (piece_row q)) (sym e))

    pub other_refused : piece_row x ≢ piece_row y → refusal p (commands.Stage name (pos i) x) ≡ Some (refused 52)
    other_refused d = refused_for _ 52
        (stage_other p name (pos i) x (length list) (few p name list meets h) h.numbers low h.is_open (piece_row y)
        there d)

-- ---- a turn

-- a piece is the one that stands, or another
pub same_or_other : (x y : Piece) → ((x ≡ y) × (beside (Some y) x ≡ None))
    ⊎ ((piece_row x ≢ piece_row y) × (beside (Some y) x ≡ Some 52))
same_or_other x y = by (same_piece (piece_row x) (piece_row y)) refl
  where
    by : (b : Bool) → same_piece (piece_row x) (piece_row y) ≡ b
        → ((x ≡ y) × (beside (Some y) x ≡ None)) ⊎ ((piece_row x ≢ piece_row y) × (beside (Some y) x ≡ Some 52))
    by true e = inl (
      same_piece_of x y (same_row (piece_row x) (piece_row y) e),
      ap (λ b. if b then None else Some 52)
          e,
    )
    by false e = inr (
      λ s. let f : true ≡ false = sym (row_itself (piece_row x)) ∙ ap (same_piece (piece_row x)) s
          ∙ e in cc,
      ap (λ b. if b then None else Some 52) e,
    )

module _ (name : Text) (p q : Package) (old done : List Piece) (before : HasPieces p name old) (meets : Meets current q)
    (x : Piece) where
  abbrev c : Command
  c = commands.Stage name (pos (length done + 1)) x

  -- the pieces so far are all that stand
  module _ (has : HasPieces q name done) (all : length done < 4096) (front : IsFirstOf old done)
      (same : SameBut name p q) where
    at_end : (moment : ℕ) → IsPassed name p old (done ++ x ∷ []) (step q c moment)
        × (beside (numbered old (length done + 1)) x ≡ None)
    at_end moment = (
      subst (IsPassed name p old (done ++ x ∷ [])) (sym (end_step q name done meets has x all moment))
          (inr (
            (front.0 ++ x ∷ [], ap (λ l. l ++ x ∷ []) front.1 ∙ append_assoc old front.0 (x ∷ [])),
            has_grown q name
                done meets has x,
            same_grown q name done meets has x p same,
          )),
      ap (λ o. beside o x) (numbered-none old (length done + 1)
          (shorter (length-append old front.0) (ap length front.1))),
    )
      where
        shorter : length (old ++ front.0) ≡ length old + length front.0 → length done ≡ length (old ++ front.0)
            → length old < length done + 1
        shorter a b = omega (arith, a, b)

    not_refused : (why : Refusal) → refusal q c ≡ Some why → ⊥
    not_refused why e = let f : ◌≡◌ {A = Option Refusal} None (Some why) = sym (end_free q name done meets has x all)
        ∙ e in cc

  prefix_has : q ≡ p → old ≡ done ++ [] → HasPieces q name done
  prefix_has same e = subst (λ r. HasPieces r name done) (sym same)
      (subst (HasPieces p name) (e ∙ append-nil done) before)

  itself : old ≡ done ++ [] → IsFirstOf old done
  itself e = ([], sym (append-nil done) ∙ sym e ∙ sym (append-nil old))

  none_other : q ≡ p → SameBut name p q
  none_other same = subst (SameBut name p) (sym same) (record { parts = refl; others = λ k d. refl })

  at_old : (y : Piece) (rest : List Piece) → old ≡ done ++ y ∷ rest → numbered old (length done + 1) ≡ Some y
  at_old y rest e = ap (λ l. numbered l (length done + 1)) e ∙ numbered-there done y rest

  -- one more piece that is accepted
  pub accepted : (moment : ℕ) → length done < 4096 → IsPassed name p old done q → refusal q c ≡ None
      → IsPassed name p old (done ++ x ∷ []) (step q c moment) × (beside (numbered old (length done + 1)) x ≡ None)
  accepted moment all (inl (same, ([], e))) free = at_end (prefix_has same e) all (itself e) (none_other same) moment
  accepted moment all (inl (same, (y ∷ rest, e))) free =
      let has : HasPieces q name old = subst (λ r. HasPieces r name old) (sym same) before in
      elim (same_or_other x y) as (λ _. IsPassed name p old (done ++ x ∷ []) (step q c moment)
      × (beside (numbered old (length done + 1)) x ≡ None)) [
        | inl s ↦ (
          inl (
            equal_step q name old meets has x (length done + 1) y (at_old y rest e) s.0 moment
                ∙ same,
            (rest, e ∙ ap (λ z. done ++ z ∷ rest) (sym s.0) ∙ sym (append_assoc done (x ∷ []) rest)),
          ),
          ap (λ o. beside o x) (at_old y rest e) ∙ s.1,
        )
        | inr s ↦ absurd (let f : ◌≡◌ {A = Option Refusal} None (Some (refused 52)) = sym free
            ∙ other_refused q name old meets has x (length done + 1) y (at_old y rest e) s.0 in cc)
      ]
  accepted moment all (inr (front, has, same)) free = at_end has all front same moment

  -- one that is refused: another stands at its number
  pub one_refused : length done < 4096 → IsPassed name p old done q → (why : Refusal) → refusal q c ≡ Some why
      → (beside (numbered old (length done + 1)) x ≡ Some why.number) × (why.number ≡ 52)
  one_refused all (inl (same, ([], e))) why bad =
      absurd (not_refused (prefix_has same e) all (itself e) (none_other same) why bad)
  one_refused all (inl (same, (y ∷ rest, e))) why bad =
      let has : HasPieces q name old = subst (λ r. HasPieces r name old) (sym same) before in
      elim (same_or_other x y) as (λ _. (beside (numbered old (length done + 1)) x ≡ Some why.number)
      × (why.number ≡ 52)) [
        | inl s ↦ absurd (let f : ◌≡◌ {A = Option Refusal} None (Some why) =
            sym (equal_free q name old meets has x (length done + 1) y (at_old y rest e) s.0) ∙ bad in cc)
        | inr s ↦
            let is : why ≡ refused 52 = same_some
            (sym bad ∙ other_refused q name old meets has x (length done + 1) y (at_old y rest e) s.0) in (
              ap (λ o. beside o x) (at_old y rest e) ∙ s.1 ∙ ap Some (sym (ap (λ (r : Refusal). r.number) is)),
              ap
                  (λ (r : Refusal). r.number) is,
            )
      ]
  one_refused all (inr (front, has, same)) why bad = absurd (not_refused has all front same why bad)

-- ---- the loop

pub so_far-none : (files : Files) (name : Text) (entries : List KitEntry) (p : Package) (old : List Piece)
    → IsImportedSoFar files name entries entries p old 0 p
so_far-none files name entries p old = record {
  done = [];
  count = refl;
  kit = refl;
  whole = refl;
  answer = refl;
  passed = inl (refl, (old, refl));
}

-- what is filled is told by the files
pub fills : (files : Files) (told : Option Files) (e : KitEntry) (full : Result Piece ℕ) → told ≡ Some files
    → IsFilled told e full → filled files e ≡ full
fills files told e full tells it = sym (rw tells at it)

-- 52 is of no file
no_file : (n : ℕ) → n ≡ 52 → (n ≡ 57) ⊎ (n ≡ 11) → ⊥
no_file n e (inl h) = absurd (omega (arith, e, h))
no_file n e (inr h) = absurd (omega (arith, e, h))

module _ (files : Files) (name : Text) (entries : List KitEntry) (p : Package) (old : List Piece)
    (before : HasPieces p name old) where
  pub so_far-more : (left : List KitEntry) (e : KitEntry) (x : Piece) (k : ℕ) (q : Package)
      → IsImportedSoFar files name entries (e ∷ left) p old k q
      → filled files e ≡ Ok x → k < 4096 → Meets current q
      → (moment : ℕ) → refusal q (commands.Stage name (pos (k + 1)) x) ≡ None
      → IsImportedSoFar files name entries left p old (k + 1) (step q (commands.Stage name (pos (k + 1)) x) moment)
  unfolding first_number kit_pieces
  so_far-more left e x k q s full less meets moment ok =
      let free : refusal q (commands.Stage name (pos (length s.done + 1)) x) ≡ None = rw (s.count) ok in
      let turn = accepted name p q old s.done before meets x moment (rw (s.count) less) s.passed free in
      let (passed, none) = rw (s.count) at turn in
      record {
        done = s.done ++ x ∷ [];
        count = omega (arith, s.count, length-append s.done (x ∷ []));
        kit = s.kit ∙ rw full (sym (append_assoc s.done (x ∷ []) (kit_pieces files left)));
        whole = s.whole ∙ rw full refl;
        answer = s.answer ∙ rw (full, none) refl;
        passed = passed;
      }

  -- the same of an entry that was staged
  pub staged-more : {D : Type 0} (shows : Shown D) (left : List KitEntry) (e : KitEntry) (k : ℕ) (q : Package)
      → IsImportedSoFar files name entries (e ∷ left) p old k q → k < 4096 → Meets current q
      → (told : Option Files) → told ≡ Some files → (moment : ℕ)
      → IsEntryStaged told e name (k + 1) q moment shows (Ok None)
      → (r : Package) × IsSound shows.settled r × IsImportedSoFar files name entries left p old (k + 1) r
  staged-more shows left e k q s less meets told tells moment (x, it, good, goes) = (
    step q (commands.Stage name (pos (k + 1)) x) moment,
    goes,
    so_far-more left e x k q s
        (fills files told e (Ok x) tells it) less meets moment good,
  )

  -- ---- what stands then
  pub grows : (left : List KitEntry) (k : ℕ) (q : Package) → IsImportedSoFar files name entries left p old k q
      → OnlyGrows name (kit_pieces files entries) p q
  grows left k q s = by s.passed
    where
      by : IsPassed name p old s.done q → OnlyGrows name (kit_pieces files entries) p q
      by (inl it) = inl it.0
      by (inr it) = inr (record {
        old = old;
        new = s.done;
        before = before;
        after = it.1;
        more = it.0;
        of_kit = (kit_pieces files left, s.kit);
        same = it.2;
      })

  -- as many pieces as before, or as were staged
  size : (k : ℕ) (done : List Piece) (q : Package) → length done ≡ k → IsPassed name p old done q
      → (new : List Piece) × HasPieces q name new × (length new ≡ max (length old) k)
  size k done q count (inl (same, (rest, e))) = (
    old,
    subst (λ r. HasPieces r name old) (sym same) before,
    sym
        (max-eq_left (omega (arith, count, ap length e, length-append done rest))),
  )
  size k done q count (inr ((rest, e), has, same)) =
      (done, has, count ∙ sym (max-eq_right (omega (arith, count, ap length e, length-append old rest))))

  pub counted_all : (left : List KitEntry) (k : ℕ) (q : Package) → IsImportedSoFar files name entries left p old k q
      → HasCounted k name p q
  counted_all left k q s old2 has2 =
      let it = size k s.done q s.count s.passed in
      let is : old2 ≡ old = has_one p name old2 old has2 before in
      (it.0, it.1, it.2 ∙ ap (λ l. max (length l) k) (sym is))

  pub counted : (left : List KitEntry) (k : ℕ) (q : Package) → IsImportedSoFar files name entries left p old k q
      → IsCounted k name p q
  counted left k q s old2 has2 =
      let it = size k s.done q s.count s.passed in
      let is : old2 ≡ old = has_one p name old2 old has2 before in
      (it.0, it.1, inl (it.2 ∙ ap (λ l. max (length l) k) (sym is)))

  -- the same, where one more may stand
  pub doubted : (left : List KitEntry) (k : ℕ) (q : Package) → IsImportedSoFar files name entries left p old (k + 1) q
      → IsCounted k name p q
  doubted left k q s old2 has2 =
      let it = size (k + 1) s.done q s.count s.passed in
      let is : old2 ≡ old = has_one p name old2 old has2 before in (
        it.0,
        it.1,
        subst (λ l. (length it.0 ≡ max (length l) k) ⊎ ((length l ≤ k) × (length it.0 ≡ k + 1))) (sym is)
            (by it.0 it.2 (leb_tells (k + 1) (length old))),
      )
    where
      by : (new : List Piece) → length new ≡ max (length old) (k + 1)
          → ((leb (k + 1) (length old) ≡ true) × (k + 1 ≤ length old))
          ⊎ ((leb (k + 1) (length old) ≡ false) × (length old < k + 1))
          → (length new ≡ max (length old) k) ⊎ ((length old ≤ k) × (length new ≡ k + 1))
      by new all (inr it) = inr (omega (arith, it.1), all ∙ max-eq_right (omega (arith, it.1)))
      by new all (inl it) = inl (all ∙ max-eq_left it.1 ∙ sym (max-eq_left (omega (arith, it.1))))

  -- ---- the answers
  pub number_refused : (left : List KitEntry) (e : KitEntry) (x : Piece) (k : ℕ) (q : Package)
      → IsImportedSoFar files name entries (e ∷ left) p old k q
      → filled files e ≡ Ok x → k < 4096 → Meets current q
      → (why : Refusal) → refusal q (commands.Stage name (pos (k + 1)) x) ≡ Some why
      → (first_number (against files old) 1 entries ≡ Some (k + 1, why.number)) × (why.number ≡ 52)
  unfolding first_number
  number_refused left e x k q s full less meets why bad =
      let no : refusal q (commands.Stage name (pos (length s.done + 1)) x) ≡ Some why = rw (s.count) bad in
      let turn = one_refused name p q old s.done before meets x (rw (s.count) less) s.passed why no in
      let (number, is) = rw (s.count) at turn in
      (s.answer ∙ rw (full, number) refl, is)

  pub number_unfilled : (left : List KitEntry) (e : KitEntry) (k n : ℕ) (q : Package)
      → IsImportedSoFar files name entries (e ∷ left) p old k q
      → filled files e ≡ Err n → first_number (against files old) 1 entries ≡ Some (k + 1, n)
  unfolding first_number
  number_unfilled left e k n q s lacks = s.answer ∙ rw lacks refl

  none_left : (done rest : List Piece) → length (done ++ rest) ≤ length done → rest ≡ []
  none_left done [] h = refl
  none_left done (y ∷ r) h = absurd (omega (arith, h, length-append done (y ∷ r)))

  -- no more stood than were staged
  all_staged : (done : List Piece) (q : Package) → IsPassed name p old done q → length old ≤ length done
      → HasPieces q name done
  all_staged done q (inl (same, (rest, e))) h =
      let no_more : rest ≡ [] = none_left done rest (subst (λ l. length l ≤ length done) e h) in
      subst (λ r. HasPieces r name done) (sym same)
      (subst (HasPieces p name) (e ∙ ap (λ l. done ++ l) no_more ∙ append-nil done) before)
  all_staged done q (inr it) h = it.1

  pub has_first : (left : List KitEntry) (e : KitEntry) (k n : ℕ) (q : Package)
      → IsImportedSoFar files name entries (e ∷ left) p old k q
      → filled files e ≡ Err n → HasFirst files name entries p q n
  unfolding kit_pieces
  has_first left e k n q s lacks why old2 has2 (rest, front) =
      let is : old2 ≡ old = has_one p name old2 old has2 before in
      let kit : kit_pieces files entries ≡ s.done = s.kit ∙ rw lacks (append-nil s.done) in
      let long : s.done ≡ old ++ rest = sym kit ∙ front ∙ ap (λ l. l ++ rest) is in
      subst (HasPieces q name) (sym kit)
      (all_staged s.done q s.passed (omega (arith, ap length long, length-append old rest)))

  pub has_whole : (k : ℕ) (q : Package) → IsImportedSoFar files name entries [] p old k q → length old ≤ k
      → (first_number (against files old) 1 entries ≡ None) × HasWhole files name entries q k
  unfolding first_number kit_pieces
  has_whole k q s most =
      let kit : kit_pieces files entries ≡ s.done = s.kit ∙ append-nil s.done in (
        s.answer,
        record {
          whole = s.whole;
          pieces = subst (HasPieces q name) (sym kit) (all_staged s.done q s.passed (omega (arith, s.count, most)));
          count = ap length kit ∙ s.count;
        },
      )

  -- the entry was refused, for its file or as a command
  pub refused_at : (left : List KitEntry) (e : KitEntry) (k n : ℕ) (q : Package)
      → IsImportedSoFar files name entries (e ∷ left) p old k q → k < 4096
      → Meets current q → (told : Option Files) → told ≡ Some files
      → IsFilled told e (Err n) ⊎ ((x : Piece) × IsFilled told e (Ok x) × (why : Refusal) × (why.number ≡ n)
      × (refusal q (commands.Stage name (pos (k + 1)) x) ≡ Some why))
      → (first_number (against files old) 1 entries ≡ Some (k + 1, n)) × HasFirst files name entries p q n
  refused_at left e k n q s less meets told tells (inl it) =
      let lacks : filled files e ≡ Err n = fills files told e (Err n) tells it in
      (number_unfilled left e k n q s lacks, has_first left e k n q s lacks)
  refused_at left e k n q s less meets told tells (inr (x, it, why, is, bad)) =
      let (first, number) = number_refused left e x k q s (fills files told e (Ok x) tells it) less meets why bad in
      (first ∙ ap (λ m. Some (k + 1, m)) is, λ files. absurd (no_file n (sym is ∙ number) files))

  -- ---- a command in doubt
  pub left_in_doubt : {D : Type 0} (stands_for : D → Package → Type 0) (db : D) (left : List KitEntry) (e : KitEntry)
      (x : Piece) (k : ℕ) (q : Package)
      → IsImportedSoFar files name entries (e ∷ left) p old k q → filled files e ≡ Ok x → k < 4096 → Meets current q
      → (moment : ℕ) → Meets current (step q (commands.Stage name (pos (k + 1)) x) moment)
      → stands_for db q ⊎ ((refusal q (commands.Stage name (pos (k + 1)) x) ≡ None)
      × stands_for db (step q (commands.Stage name (pos (k + 1)) x) moment))
      → (r : Package) × stands_for db r × Meets current r × OnlyGrows name (kit_pieces files entries) p r
      × IsCounted k name p r
  left_in_doubt stands_for db left e x k q s full less meets moment next_meets (inl stands) =
      (q, stands, meets, grows (e ∷ left) k q s, counted (e ∷ left) k q s)
  left_in_doubt stands_for db left e x k q s full less meets moment next_meets (inr (good, stands)) =
      let next = so_far-more left e x k q s full less meets moment good in (
        step q (commands.Stage name (pos (k + 1)) x) moment,
        stands,
        next_meets,
        grows left (k + 1) _ next,
        doubted left
            k _ next,
      )
