-- Pixel sizes over the zooms of a pyramid.
use Rattle.std.proofs.Common.{◌≡◌, ℤ, pos, ◌+ℤ◌, ◌*ℤ◌, ◌<ℤ◌, Bool, true, false, not, ◌&&◌, ◌||◌, int_lt, refl, sym, ap}
use Rattle.std.proofs.Common.{subst, ◌∙◌, inl, inr, arith}
use Rattle.std.proofs.lemmas.Int.{ints}
use Rattle.std.specs.FinMap.{FinMap, get, insert}
use Rattle.std.proofs.lemmas.Bool.{not-false, and_parts}
use Rattle.mm_definitions.specs.Keys.{Text, same_text, same_number, Level, level, level_cmp}
use Rattle.mm_definitions.specs.Parts.{Has}
use Rattle.mm_definitions.specs.Package.{Package, Grid, Kinds, HasKind, has_kind}
use Rattle.mm_definitions.specs.Rules.{HigherIsFiner, NextIsHalved, IsFiner, IsHalved}
use Rattle.mm_definitions.specs.Conditions.{is_finer, is_double, suits_above, suits, clashes}
use Rattle.mm_definitions.specs.declared.commands.Kind.TheVariants.{Two}
use Rattle.mm_definitions.proofs.Parts.{no_entry, after_put, same_itself}
use Rattle.mm_definitions.proofs.KeyLaws.{levels, texts, numbers}
use Rattle.mm_laws.proofs.Reasons.{and_false}
use Rattle.mm_laws.proofs.KindFacts.{are_same, has_kind_holds}

pub below : (a b : ℤ) → int_lt a b ≡ true → a <ℤ b
below a b e = grind (arith, ints)

pub is_below : (a b : ℤ) → a <ℤ b → int_lt a b ≡ true
is_below a b h = grind (arith, ints)

above_itself : (a : ℤ) → a <ℤ a → ⊥
above_itself a h = omega (arith, ints)

or_not : (a b : Bool) → (not a || b) ≡ true → a ≡ true → b ≡ true
or_not true b e t = e
or_not false b e t = absurd (let f : false ≡ true = t in cc)

finer_tells : (g h : Grid) → is_finer g h ≡ true → IsFiner g h
finer_tells g h e = let p = and_parts _ _ e in record { across = below _ _ p.0; down = below _ _ p.1 }

double_tells : (g h : Grid) → is_double g h ≡ true → IsHalved g h
double_tells g h e = let p = and_parts _ _ e in record {
  across = are_same numbers g.pixel_x_size (pos 2 *ℤ h.pixel_x_size) p.0;
  down = are_same numbers g.pixel_y_size (pos 2 *ℤ h.pixel_y_size) p.1;
}

-- what the test says of two matrices, the first at the lower zoom
pub finer_above : (halved : Bool) (low high : ℤ) (g h : Grid) → suits_above halved low g high h ≡ true → IsFiner g h
finer_above halved low high g h e = finer_tells g h (and_parts _ _ e).0

pub halved_above : (low high : ℤ) (g h : Grid) → suits_above true low g high h ≡ true → high ≡ low +ℤ pos 1
    → IsHalved g h
halved_above low high g h e next =
    double_tells g h (or_not (same_number high (low +ℤ pos 1)) (is_double g h) (and_parts _ _ e).1
    (ap (same_number high) (sym next) ∙ same_itself numbers high))

-- the matrix suits each that the table has
abbrev pub SuitsAll : FinMap level_cmp Grid → Text → ℤ → Grid → Bool → Type 0
SuitsAll matrices table zoom g halved = (other : ℤ) (h : Grid) → Has matrices (level table other) h
    → suits halved zoom g other h ≡ true

pub suits_unless_clashes : (p : Package) (table : Text) (zoom : ℤ) (g : Grid) → clashes p table zoom g ≡ false
    → SuitsAll p.matrices table zoom g (has_kind p.kinds table Two)
suits_unless_clashes p table zoom g none other h e =
    let test : Level → Grid → Bool = λ k d. same_text k.table table
    && not (suits (has_kind p.kinds table Two) zoom g k.zoom d) in
    not-false _ (and_false _ _ (no_entry levels test p.matrices none (level table other) h e) (same_itself texts table))

module _ (matrices : FinMap level_cmp Grid) (table : Text) (zoom : ℤ) (g : Grid) (halved : Bool)
    (all : SuitsAll matrices table zoom g halved) where
  -- what the test says where the other zoom is higher, and where it is lower
  over : (other : ℤ) (h : Grid) → Has matrices (level table other) h → zoom <ℤ other
      → suits_above halved zoom g other h ≡ true
  over other h e up = or_not _ _ (and_parts _ _ (all other h e)).0 (is_below zoom other up)

  under : (other : ℤ) (h : Grid) → Has matrices (level table other) h → other <ℤ zoom
      → suits_above halved other h zoom g ≡ true
  under other h e down = or_not _ _ (and_parts _ _ (all other h e)).1 (is_below other zoom down)

  pub still_finer : HigherIsFiner matrices → HigherIsFiner (insert matrices (level table zoom) g)
  still_finer h t low high a b e f up =
      elim (after_put levels matrices (level table zoom) g (level t low) a e) as (λ _. IsFiner a b) [
        | inl s ↦ elim (after_put levels matrices (level table zoom) g (level t high) b f) as (λ _. IsFiner a b) [
          | inl r ↦ absurd (above_itself high (subst (λ z. z <ℤ high) (ap (λ (k : Level). k.zoom) (s.0 ∙ sym r.0)) up))
          | inr r ↦
              let same : t ≡ table = ap (λ (k : Level). k.table) s.0 in
              let at : low ≡ zoom = ap (λ (k : Level). k.zoom) s.0 in
              subst (λ d. IsFiner d b) s.1 (finer_above halved zoom high g b
              (over high b (ap (λ n. get matrices (level n high)) (sym same) ∙ r.1) (subst (λ z. z <ℤ high) at up)))
        ]
        | inr s ↦ elim (after_put levels matrices (level table zoom) g (level t high) b f) as (λ _. IsFiner a b) [
          | inl r ↦
              let same : t ≡ table = ap (λ (k : Level). k.table) r.0 in
              let at : high ≡ zoom = ap (λ (k : Level). k.zoom) r.0 in
              subst (λ d. IsFiner a d) r.1 (finer_above halved low zoom a g
              (under low a (ap (λ n. get matrices (level n low)) (sym same) ∙ s.1) (subst (λ z. low <ℤ z) at up)))
          | inr r ↦ h t low high a b s.1 r.1 up
        ]
      ]

one_up : (a b : ℤ) → b ≡ a +ℤ pos 1 → a <ℤ b
one_up a b e = omega (arith, ints)

module _ (kinds : Kinds) (matrices : FinMap level_cmp Grid) (table : Text) (zoom : ℤ) (g : Grid)
    (all : SuitsAll matrices table zoom g (has_kind kinds table Two)) where
  -- the same where the pyramid is of kind `two`
  all_halved : (t : Text) → t ≡ table → HasKind kinds t Two → SuitsAll matrices table zoom g true
  all_halved t same two = subst (λ b. SuitsAll matrices table zoom g b)
      (has_kind_holds kinds table Two (ap (λ n. get kinds n) (sym same) ∙ two)) all

  pub still_halved : NextIsHalved kinds matrices → NextIsHalved kinds (insert matrices (level table zoom) g)
  still_halved h t low a b two e f =
      elim (after_put levels matrices (level table zoom) g (level t low) a e) as (λ _. IsHalved a b) [
        | inl s ↦
            let same : t ≡ table = ap (λ (k : Level). k.table) s.0 in
            let at : low ≡ zoom = ap (λ (k : Level). k.zoom) s.0 in
            elim (after_put levels matrices (level table zoom) g (level t (low +ℤ pos 1)) b f) as (λ _. IsHalved a b) [
              | inl r ↦ absurd (above_itself low
                  (let up : low <ℤ (low +ℤ pos 1) = one_up low (low +ℤ pos 1) refl in subst (λ z. low <ℤ z)
                  (ap (λ (k : Level). k.zoom) (r.0 ∙ sym s.0)) up))
              | inr r ↦
                  let there : Has matrices (level table (low +ℤ pos 1)) b =
                  ap (λ n. get matrices (level n (low +ℤ pos 1))) (sym same) ∙ r.1 in
                  let up : zoom <ℤ (low +ℤ pos 1) = subst (λ z. z <ℤ (low +ℤ pos 1)) at
                  (one_up low (low +ℤ pos 1) refl) in
                  subst (λ d. IsHalved d b) s.1 (halved_above zoom (low +ℤ pos 1) g b
                  (over matrices table zoom g true (all_halved t same two) (low +ℤ pos 1) b there up)
                  (ap (λ z. z +ℤ pos 1) at))
            ]
        | inr s ↦ elim (after_put levels matrices (level table zoom) g (level t (low +ℤ pos 1)) b f) as
            (λ _. IsHalved a b) [
              | inl r ↦
                  let same : t ≡ table = ap (λ (k : Level). k.table) r.0 in
                  let at : low +ℤ pos 1 ≡ zoom = ap (λ (k : Level). k.zoom) r.0 in
                  let there : Has matrices (level table low) a = ap (λ n. get matrices (level n low)) (sym same)
                  ∙ s.1 in
                  subst (λ d. IsHalved a d) r.1 (halved_above low zoom a g
                  (under matrices table zoom g true (all_halved t same two) low a there (one_up low zoom (sym at)))
                  (sym at))
              | inr r ↦ h t low a b two s.1 r.1
            ]
      ]
