-- The pieces of an open edition, in the list that publishing goes along, are numbered 1, 2, 3 and so on.
use Rattle.std.proofs.Common.{◌≡◌, ◌≢◌, ◌⊎◌, inl, inr, ℕ, suc, ◌≤◌, ℤ, pos, ◌≤ℤ◌, ◌<ℤ◌, Bool, true, false, cond}
use Rattle.std.proofs.Common.{List, [], ◌∷◌, Option, Some, None, is_some, refl, sym, ap, subst, ◌∙◌, arith}
use Rattle.std.proofs.lemmas.Int.{ints}
use Rattle.std.specs.Prelude.{T}
use Rattle.std.specs.declared.cmp.Ordering.{Ordering}
use Rattle.std.specs.declared.cmp.Ordering.TheVariants.{Less, Equal, Greater}
use Rattle.std.specs.Ordering.{is_eq, is_lt, int_cmp, ordering_then}
use Rattle.std.specs.Cmp.{int_cmp_is}
use Rattle.std.specs.Int.Signed.{≤ℤ_refl}
use Rattle.std.specs.FinMap.{get, entries, entries_sorted, find, is_sorted, get-entries, retain_keys}
use Rattle.std.specs.FinMap.Entries.{below_all}
use Rattle.mm_definitions.specs.Keys.{Text, text_cmp, same_text, PieceKey, piece, piece_cmp}
use Rattle.mm_definitions.specs.Parts.{Stands}
use Rattle.mm_definitions.specs.Package.{Package, PieceRow, PiecesPart}
use Rattle.mm_definitions.specs.Rules.{IsNumbered}
use Rattle.mm_definitions.specs.Conditions.{pieces_of}
use Rattle.mm_definitions.proofs.Parts.{same_key, same_itself, kept, after_retain}
use Rattle.mm_definitions.proofs.KeyLaws.{texts, piece_keys}
use Rattle.mm_laws.proofs.KindFacts.{are_same}
use Rattle.mm_definitions.proofs.Listed.{and_parts}

-- The list goes on with the pieces from this number on, each in its place, as far as there are any.
abbrev pub AreFrom : PiecesPart → Text → ℕ → List (PieceKey × PieceRow) → Type 0
AreFrom m edition i [] = get m (piece edition (pos i)) ≡ None
AreFrom m edition i (e ∷ es) = (e.0 ≡ piece edition (pos i)) × (get m e.0 ≡ Some e.1) × AreFrom m edition (suc i) es

-- ---- sorted lists

at_first : (e : PieceKey × PieceRow) (es : List (PieceKey × PieceRow)) → find piece_cmp e.0 (e ∷ es) ≡ Some e.1
at_first e es = ap (λ b. cond b (Some e.1) (find piece_cmp e.0 es)) (same_itself piece_keys e.0)

past_first : (e : PieceKey × PieceRow) (es : List (PieceKey × PieceRow)) (q : PieceKey) → q ≢ e.0
    → find piece_cmp q (e ∷ es) ≡ find piece_cmp q es
past_first e es q d = elim (same_key piece_keys q e.0) as (λ _. find piece_cmp q (e ∷ es) ≡ find piece_cmp q es) [
  | inl s ↦ absurd (d s.0)
  | inr n ↦ ap (λ b. cond b (Some e.1) (find piece_cmp q es)) n.1
]

found_below : (k q : PieceKey) (es : List (PieceKey × PieceRow)) → T (below_all piece_cmp k es)
    → is_some (find piece_cmp q es) ≡ true
    → T (is_lt (piece_cmp k q))
found_below k q [] below there = absurd (let f : false ≡ true = there in cc)
found_below k q (e ∷ es) below there =
    let parts = and_parts (is_lt (piece_cmp k e.0)) (below_all piece_cmp k es) below in
    elim (same_key piece_keys q e.0) as (λ _. T (is_lt (piece_cmp k q))) [
      | inl s ↦ subst (λ x. T (is_lt (piece_cmp k x))) (sym s.0) parts.0
      | inr n ↦ found_below k q es parts.1 (ap is_some (sym (past_first e es q n.0)) ∙ there)
    ]

-- in one edition the order is that of the numbers
higher_not_below : (edition : Text) (low high : ℤ) → low <ℤ high
    → T (is_lt (piece_cmp (piece edition high) (piece edition low))) → ⊥
higher_not_below edition low high h lt =
    let same : is_eq (text_cmp edition edition) ≡ true = same_itself texts edition in
    by (text_cmp edition edition) same (int_cmp high low) (int_cmp_is high low Greater h) lt
  where
    by : (t : Ordering) → is_eq t ≡ true → (n : Ordering) → Greater ≡ n → T (is_lt (ordering_then t n)) → ⊥
    by Less s n g l = let f : false ≡ true = s in cc
    by Equal s Less g l = let f : Greater ≡ Less = g in cc
    by Equal s Equal g l = let f : Greater ≡ Equal = g in cc
    by Equal s Greater g l = l
    by Greater s n g l = let f : false ≡ true = s in cc

-- ---- the list

lower_or_same : (i : ℕ) (k : ℤ) → pos i ≤ℤ k → (k ≡ pos i) ⊎ (pos i <ℤ k)
lower_or_same i k h = grind (arith, ints)

one_more : (i : ℕ) (k : ℤ) → pos i ≤ℤ k → k ≢ pos i → pos (suc i) ≤ℤ k
one_more i k h d = omega (arith, ints)

not_lower : (i : ℕ) (k : ℤ) → pos (suc i) ≤ℤ k → k ≡ pos i → ⊥
not_lower i k h e = omega (arith, ints)

looser : (i : ℕ) (k : ℤ) → pos (suc i) ≤ℤ k → pos i ≤ℤ k
looser i k h = omega (arith, ints)

at_most : (i n : ℕ) (k : ℤ) → pos i <ℤ k → k ≤ℤ pos n → pos i ≤ℤ pos n
at_most i n k a b = omega (arith, ints)

one_or_more : (i : ℕ) → 1 ≤ i → pos 1 ≤ℤ pos i
one_or_more i h = omega (arith, ints)

module _ (m : PiecesPart) (edition : Text) (n : ℕ) (numbered : IsNumbered m edition n) where
  pub in_order : (i : ℕ) → 1 ≤ i → (es : List (PieceKey × PieceRow)) → T (is_sorted piece_cmp es)
      → ((q : PieceKey) (x : PieceRow) → find piece_cmp q es ≡ Some x → (get m q ≡ Some x) × (q.edition ≡ edition)
      × (pos i ≤ℤ q.number))
      → ((z : ℤ) → pos i ≤ℤ z → Stands m (piece edition z) → is_some (find piece_cmp (piece edition z) es) ≡ true)
      → AreFrom m edition i es
  in_order i low [] sorted sound all = none (get m (piece edition (pos i))) refl
    where
      none : (v : Option PieceRow) → get m (piece edition (pos i)) ≡ v → v ≡ None
      none None e = refl
      none (Some x) e = absurd (let f : false ≡ true = all (pos i) (≤ℤ_refl (pos i)) (ap is_some e) in cc)
  in_order i low (e ∷ es) sorted sound all =
      let parts = and_parts (below_all piece_cmp e.0 es) (is_sorted piece_cmp es) sorted in
      let first = sound e.0 e.1 (at_first e es) in
      let named : e.0 ≡ piece edition e.0.number = ap (λ t. piece t e.0.number) first.1 in
      let is_i : e.0.number ≡ pos i = elim (lower_or_same i e.0.number first.2) as (λ _. e.0.number ≡ pos i) [
        | inl s ↦ s
        | inr less ↦
            let ranged = ((numbered e.0.number).0 (ap is_some (ap (get m) (sym named) ∙ first.0))).1 in
            let there = all (pos i) (≤ℤ_refl (pos i))
            ((numbered (pos i)).1 (one_or_more i low, at_most i n e.0.number less ranged)) in
            let apart : piece edition (pos i) ≢ e.0 = λ s. differ i e.0.number less
            (sym (ap (λ (k : PieceKey). k.number) s)) in
            let behind = ap is_some (sym (past_first e es (piece edition (pos i)) apart)) ∙ there in
            absurd (higher_not_below edition (pos i) e.0.number less
            (subst (λ k. T (is_lt (piece_cmp k (piece edition (pos i))))) named
            (found_below e.0 (piece edition (pos i)) es parts.0 behind)))
      ] in
      let key : e.0 ≡ piece edition (pos i) = named ∙ ap (piece edition) is_i in (
        key,
        first.0,
        in_order (suc i) (still i low) es parts.1
            (λ q x f.
            let other : q ≢ e.0 = λ s. lost q s x f parts.0 in
            let was = sound q x (past_first e es q other ∙ f) in (
              was.0,
              was.1,
              one_more i q.number was.2
                  (λ s. other (ap (λ t. piece t q.number) was.1 ∙ ap (piece edition) s ∙ sym key)),
            ))
            (λ z high stands. ap is_some (sym
            (past_first e es (piece edition z) (λ s. not_lower i z high (ap (λ (k : PieceKey). k.number) (s ∙ key)))))
            ∙ all z (looser i z high) stands),
      )
    where
      differ : (i : ℕ) (k : ℤ) → pos i <ℤ k → k ≡ pos i → ⊥
      differ i k h e = omega (arith, ints)

      still : (i : ℕ) → 1 ≤ i → 1 ≤ suc i
      still i h = omega arith

      -- the first key is not found behind itself
      lost : (q : PieceKey) → q ≡ e.0 → (x : PieceRow) → find piece_cmp q es ≡ Some x → T (below_all piece_cmp e.0 es)
          → ⊥
      lost q s x f below =
          let lt = found_below e.0 q es below (ap is_some f) in
          tied (piece_cmp e.0 e.0) (same_itself piece_keys e.0) (subst (λ k. T (is_lt (piece_cmp e.0 k))) s lt)
        where
          tied : (r : Ordering) → is_eq r ≡ true → T (is_lt r) → ⊥
          tied Less a b = let g : false ≡ true = a in cc
          tied Equal a b = b
          tied Greater a b = b

-- the pieces of an edition, from the first on
pub pieces_in_order : (p : Package) (edition : Text) (n : ℕ) → IsNumbered p.pieces edition n
    → AreFrom p.pieces edition 1 (pieces_of p edition)
pieces_in_order p edition n numbered =
    let test : PieceKey → Bool = λ k. same_text k.edition edition in
    let m = retain_keys p.pieces test in
    in_order p.pieces edition n numbered 1 (one_is) (entries m) (entries_sorted m)
    (λ q x f.
    let was = after_retain piece_keys p.pieces test q x (get-entries m q ∙ f) in
    let of_edition = are_same texts q.edition edition was.0 in (
      was.1,
      of_edition,
      ((numbered q.number).0
          (ap is_some (ap (λ t. get p.pieces (piece t q.number)) (sym of_edition) ∙ was.1))).0,
    ))
    (λ z low stands. ap is_some (sym (get-entries m (piece edition z)) ∙ kept piece_keys p.pieces test (piece edition z)
    (same_itself texts edition)) ∙ stands)
  where
    one_is : 1 ≤ 1
    one_is = omega arith
