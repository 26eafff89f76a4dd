-- The nearest zooms tell whether any zoom clashes.
use Rattle.std.proofs.Common.{◌≡◌, ◌↔◌, ℤ, Bool, true, false, not, ◌&&◌, Option, refl, sym, ap, ◌∙◌}
use Rattle.std.specs.declared.cmp.Ordering.{Ordering}
use Rattle.std.specs.FinMap.{FinMap, get, contains_key, entries}
use Rattle.mm_definitions.specs.Keys.{Text, same_text, level}
use Rattle.mm_definitions.specs.Parts.{Each, some_entry}
use Rattle.mm_definitions.specs.Package.{Package, Grid, has_kind}
use Rattle.mm_definitions.specs.Rules.{HigherIsFiner, NextIsHalved}
use Rattle.mm_definitions.specs.Conditions.{suits, clashes}
use Rattle.mm_definitions.specs.Neighbours.{Zoomed, neighbours, IsNearestBelow, IsNearestAbove}
use Rattle.mm_definitions.specs.declared.commands.Kind.TheVariants.{Two}
use Rattle.mm_definitions.proofs.Parts.{IsKeyOrder}
use Rattle.mm_definitions.proofs.KeyLaws.{levels, texts}
use Rattle.mm_definitions.proofs.Listed.{along_entries, none_along}
use Rattle.mm_laws.proofs.KindFacts.{are_same}
use Rattle.mm_laws.proofs.PixelSizes.{SuitsAll, suits_unless_clashes, still_finer, still_halved}
use Rattle.mm_laws.proofs.Nearest.{suits_all, nearest}

module _ {K X : Type 0} {R : K → K → Ordering} (o : IsKeyOrder R) where
  -- a test that is false of each entry is true of none
  pub no_such : (test : K → X → Bool) (m : FinMap R X) → Each m (λ k x. test k x ≡ false) → some_entry test m ≡ false
  unfolding some_entry
  no_such test m h = none_along (λ e. test e.0 e.1) (entries m) (along_entries o (λ k x. test k x ≡ false) m h)

false_of : (a b : Bool) → (a ≡ true → b ≡ true) → (a && not b) ≡ false
false_of true b h = ap not (h refl)
false_of false b h = refl

pub clashes_unless_suits : (p : Package) (table : Text) (zoom : ℤ) (g : Grid)
    → SuitsAll p.matrices table zoom g (has_kind p.kinds table Two)
    → clashes p table zoom g ≡ false
clashes_unless_suits p table zoom g all =
    no_such levels (λ k h. same_text k.table table && not (suits (has_kind p.kinds table Two) zoom g k.zoom h))
    p.matrices
    (λ k h e. false_of (same_text k.table table) (suits (has_kind p.kinds table Two) zoom g k.zoom h)
    (λ same. all k.zoom h (ap (λ t. get p.matrices (level t k.zoom)) (sym (are_same texts k.table table same)) ∙ e)))

pub clash_by_nearest : (p : Package) (table : Text) (zoom : ℤ) (g : Grid) (below above : Option Zoomed)
    → HigherIsFiner p.matrices → NextIsHalved p.kinds p.matrices → contains_key p.matrices (level table zoom) ≡ false
    → IsNearestBelow p.matrices table zoom below → IsNearestAbove p.matrices table zoom above
    → (neighbours below zoom g above (has_kind p.kinds table Two) ≡ true) ↔ (clashes p table zoom g ≡ false)
clash_by_nearest p table zoom g below above finer half new low high = (
  λ t. clashes_unless_suits p table zoom g
      (suits_all p.matrices table zoom g (has_kind p.kinds table Two) finer below above low high t),
  λ none. let all = suits_unless_clashes p table zoom g none in
      (nearest p.kinds p.matrices table zoom g below above finer half new low high).1 (
        still_finer p.matrices table zoom g (has_kind p.kinds table Two) all finer,
        still_halved p.kinds p.matrices table
            zoom g all half,
      ),
)
