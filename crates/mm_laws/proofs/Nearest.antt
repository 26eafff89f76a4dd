-- A matrix that suits the nearest zooms suits all.
use Rattle.std.proofs.Common.{◌≡◌, ℤ, pos, ◌+ℤ◌, ◌*ℤ◌, ◌<ℤ◌, ◌≤ℤ◌, Bool, true, false, not, ◌&&◌, ◌||◌, Option, Some}
use Rattle.std.proofs.Common.{None, int_lt, refl, sym, ap, ◌∙◌, ◌⊎◌, inl, inr, is_some, arith, ◌↔◌}
use Rattle.std.proofs.lemmas.Int.{ints}
use Rattle.std.proofs.lemmas.Bool.{and_from, and_parts}
use Rattle.std.specs.FinMap.{FinMap, get, contains_key, insert}
use Rattle.mm_definitions.specs.Keys.{Text, same_number, level, level_cmp}
use Rattle.mm_definitions.specs.Parts.{Has}
use Rattle.mm_definitions.specs.Package.{Grid, Kinds, HasKind, has_kind}
use Rattle.mm_definitions.specs.Rules.{HigherIsFiner, NextIsHalved, IsFiner, IsHalved}
use Rattle.mm_definitions.specs.Conditions.{is_finer, is_double, suits_above}
use Rattle.mm_definitions.specs.Neighbours.{Zoomed, neighbours, suits_below, suits_over, IsNearestBelow, IsNearestAbove}
use Rattle.mm_definitions.specs.declared.commands.Kind.TheVariants.{Two}
use Rattle.mm_definitions.proofs.Parts.{at_put, kept_by_new, same_some, true_or_false}
use Rattle.mm_definitions.proofs.KeyLaws.{levels, numbers}
use Rattle.mm_laws.proofs.KindFacts.{are_same, has_kind_tells}
use Rattle.mm_laws.proofs.PixelSizes.{SuitsAll, below as is_lower, is_below, finer_above, still_finer, still_halved}
use Rattle.mm_laws.proofs.PieceReasons.{same_as}

either_way : (a b c : Bool) → (a ≡ true → b ≡ true → c ≡ true) → (not (a && b) || c) ≡ true
either_way true true c f = f refl refl
either_way true false c f = refl
either_way false b c f = refl

unless : (a b : Bool) → (a ≡ true → b ≡ true) → (not a || b) ≡ true
unless true b f = f refl
unless false b f = refl

-- the test holds of what the rules say
pub above_holds : (halved : Bool) (low high : ℤ) (g h : Grid) → IsFiner g h
    → (halved ≡ true → high ≡ low +ℤ pos 1 → IsHalved g h)
    → suits_above halved low g high h ≡ true
above_holds halved low high g h finer half =
    and_from (is_finer g h) _ (and_from _ _ (is_below _ _ finer.across) (is_below _ _ finer.down))
    (either_way halved (same_number high (low +ℤ pos 1)) (is_double g h) (λ two next.
    let d = half two (are_same numbers high (low +ℤ pos 1) next) in
    and_from _ _ (same_as g.pixel_x_size (pos 2 *ℤ h.pixel_x_size) d.across)
    (same_as g.pixel_y_size (pos 2 *ℤ h.pixel_y_size) d.down)))

smaller_still : (a b c : ℤ) → b <ℤ a → c <ℤ b → c <ℤ a
smaller_still a b c f g = omega (arith, ints)

finer_still : (a b c : Grid) → IsFiner a b → IsFiner b c → IsFiner a c
finer_still a b c f g = record {
  across = smaller_still _ _ _ f.across g.across;
  down = smaller_still _ _ _ f.down g.down;
}

equal_or_below : (a b : ℤ) → a ≤ℤ b → (a ≡ b) ⊎ (a <ℤ b)
equal_or_below a b h = elim (true_or_false (int_lt a b)) as (λ _. (a ≡ b) ⊎ (a <ℤ b))
    [ inl t ↦ inr (is_lower a b t) | inr f ↦ inl (grind (arith, ints)) ]

no_room : (a b c : ℤ) → a <ℤ b → b <ℤ c → c ≡ a +ℤ pos 1 → ⊥
no_room a b c f g e = omega (arith, ints)

not_both_ways : (a b : ℤ) → a <ℤ b → b ≤ℤ a → ⊥
not_both_ways a b f g = omega (arith, ints)

module _ (matrices : FinMap level_cmp Grid) (table : Text) (zoom : ℤ) (g : Grid) (halved : Bool)
    (finer : HigherIsFiner matrices) where
  over_all : (above : Option Zoomed) → IsNearestAbove matrices table zoom above → suits_over halved zoom g above ≡ true
      → (other : ℤ) (h : Grid) → Has matrices (level table other) h → zoom <ℤ other
      → suits_above halved zoom g other h ≡ true
  over_all None near t other h e up = absurd (not_both_ways zoom other up (near other (ap is_some e)))
  over_all (Some a) near t other h e up =
      elim (equal_or_below a.zoom other (near.2 other (ap is_some e) up)) as
      (λ _. suits_above halved zoom g other h ≡ true) [
        | inl s ↦
            let same : a.grid ≡ h = same_some (sym near.0 ∙ ap (λ z. get matrices (level table z)) s ∙ e) in
            ap (λ d. suits_above halved zoom g other d) (sym same)
            ∙ ap (λ z. suits_above halved zoom g z a.grid) (sym s) ∙ t
        | inr s ↦ above_holds halved zoom other g h
            (finer_still g a.grid h (finer_above halved zoom a.zoom g a.grid t)
            (finer table a.zoom other a.grid h near.0 e s))
            (λ two next. absurd (no_room zoom a.zoom other near.1 s next))
      ]

  under_all : (below : Option Zoomed) → IsNearestBelow matrices table zoom below
      → suits_below halved below zoom g ≡ true
      → (other : ℤ) (h : Grid) → Has matrices (level table other) h → other <ℤ zoom
      → suits_above halved other h zoom g ≡ true
  under_all None near t other h e down = absurd (not_both_ways other zoom down (near other (ap is_some e)))
  under_all (Some b) near t other h e down =
      elim (equal_or_below other b.zoom (near.2 other (ap is_some e) down)) as
      (λ _. suits_above halved other h zoom g ≡ true) [
        | inl s ↦
            let same : b.grid ≡ h = same_some (sym near.0 ∙ ap (λ z. get matrices (level table z)) (sym s) ∙ e) in
            ap (λ d. suits_above halved other d zoom g) (sym same) ∙ ap (λ z. suits_above halved z b.grid zoom g) s ∙ t
        | inr s ↦ above_holds halved other zoom h g
            (finer_still h b.grid g (finer table other b.zoom h b.grid e near.0 s)
            (finer_above halved b.zoom zoom b.grid g t))
            (λ two next. absurd (no_room other b.zoom zoom s near.1 next))
      ]

  -- where it suits the nearest, it suits all
  pub suits_all : (below above : Option Zoomed) → IsNearestBelow matrices table zoom below
      → IsNearestAbove matrices table zoom above
      → neighbours below zoom g above halved ≡ true → SuitsAll matrices table zoom g halved
  suits_all below above low high t other h e =
      let p = and_parts (suits_below halved below zoom g) (suits_over halved zoom g above) t in
      and_from _ _
      (unless (int_lt zoom other) _ (λ up. over_all above high p.1 other h e (is_lower zoom other up)))
      (unless (int_lt other zoom) _ (λ down. under_all below low p.0 other h e (is_lower other zoom down)))

module _ (kinds : Kinds) (matrices : FinMap level_cmp Grid) (table : Text) (zoom : ℤ) (g : Grid)
    (new : contains_key matrices (level table zoom) ≡ false)
    (finer : HigherIsFiner (insert matrices (level table zoom) g))
    (half : NextIsHalved kinds (insert matrices (level table zoom) g)) where
  put_there : Has (insert matrices (level table zoom) g) (level table zoom) g
  put_there = at_put levels matrices (level table zoom) g

  two_tells : has_kind kinds table Two ≡ true → HasKind kinds table Two
  two_tells e = has_kind_tells kinds table Two e

  over_holds : (above : Option Zoomed) → IsNearestAbove matrices table zoom above
      → suits_over (has_kind kinds table Two) zoom g above ≡ true
  over_holds None near = refl
  over_holds (Some a) near =
      let there = kept_by_new levels matrices (level table zoom) g new (level table a.zoom) a.grid near.0 in
      above_holds (has_kind kinds table Two) zoom a.zoom g a.grid
      (finer table zoom a.zoom g a.grid put_there there near.1)
      (λ two next. half table zoom g a.grid (two_tells two) put_there
      (ap (λ z. get (insert matrices (level table zoom) g) (level table z)) (sym next) ∙ there))

  under_holds : (below : Option Zoomed) → IsNearestBelow matrices table zoom below
      → suits_below (has_kind kinds table Two) below zoom g ≡ true
  under_holds None near = refl
  under_holds (Some b) near =
      let there = kept_by_new levels matrices (level table zoom) g new (level table b.zoom) b.grid near.0 in
      above_holds (has_kind kinds table Two) b.zoom zoom b.grid g
      (finer table b.zoom zoom b.grid g there put_there near.1)
      (λ two next. half table b.zoom b.grid g (two_tells two) there
      (ap (λ z. get (insert matrices (level table zoom) g) (level table z)) (sym next) ∙ put_there))

pub nearest : (kinds : Kinds) (matrices : FinMap level_cmp Grid) (table : Text) (zoom : ℤ) (g : Grid)
    (below above : Option Zoomed)
    → HigherIsFiner matrices → NextIsHalved kinds matrices → contains_key matrices (level table zoom) ≡ false
    → IsNearestBelow matrices table zoom below → IsNearestAbove matrices table zoom above
    → (neighbours below zoom g above (has_kind kinds table Two) ≡ true)
    ↔ (HigherIsFiner (insert matrices (level table zoom) g) × NextIsHalved kinds (insert matrices (level table zoom) g))
nearest kinds matrices table zoom g below above finer half new low high = (
  λ t. let all = suits_all matrices table zoom g (has_kind kinds table Two) finer below above low high t in (
    still_finer matrices table zoom g (has_kind kinds table Two) all finer,
    still_halved kinds matrices table zoom g
        all half,
  ),
  λ both. and_from _ _ (under_holds kinds matrices table zoom g new both.0 both.1 below low)
      (over_holds kinds matrices table zoom g new both.0 both.1 above high),
)
