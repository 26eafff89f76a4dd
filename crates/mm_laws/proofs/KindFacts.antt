-- Tests on kinds, and what the registry says of them.
use Rattle.std.proofs.Common.{◌≡◌, ◌≢◌, Bool, true, false, ◌||◌, Option, Some, None, refl, sym, ap, ◌∙◌, ◌⊎◌, inl, inr}
use Rattle.std.specs.declared.cmp.Ordering.{Ordering}
use Rattle.std.specs.Ordering.{eq_by_cmp}
use Rattle.std.specs.FinMap.{FinMap, get}
use Rattle.mm_definitions.specs.Bounds.{IsClean}
use Rattle.mm_definitions.specs.Keys.{Text, text_cmp, same_text}
use Rattle.mm_definitions.specs.Parts.{Has, Stands, at_value}
use Rattle.mm_definitions.specs.Package.{Contents, MatrixSet, Kinds, kind_text, HasKind, has_kind, IsPyramid}
use Rattle.mm_definitions.specs.Package.{is_pyramid}
use Rattle.mm_definitions.specs.Rules.{Registry, Suits, IsPlaced}
use Rattle.mm_definitions.specs.declared.commands.Kind.{Kind}
use Rattle.mm_definitions.specs.declared.commands.Kind.TheVariants.{Two, Other, Attributes, Media}
use Rattle.mm_definitions.proofs.Parts.{IsKeyOrder, same_key, same_itself, same_some, some_of}
use Rattle.mm_definitions.proofs.KeyLaws.{texts}
use Rattle.mm_definitions.proofs.CleanTexts.{ascii_is_clean}

-- two keys that the test calls the same are
pub are_same : {K : Type 0} {R : K → K → Ordering} → IsKeyOrder R → (a b : K) → eq_by_cmp R a b ≡ true → a ≡ b
are_same o a b e = elim (same_key o a b) as (λ _. a ≡ b)
    [ inl s ↦ s.0 | inr n ↦ absurd (let f : true ≡ false = sym e ∙ n.1 in cc) ]

pub either_true : (a b : Bool) → (a || b) ≡ true → (a ≡ true) ⊎ (b ≡ true)
either_true true b e = inl refl
either_true false b e = inr e

-- a test that is true of a value
pub at_true : {X : Type 0} (test : X → Bool) (v : Option X) → at_value test v ≡ true → (x : X) × (v ≡ Some x)
    × (test x ≡ true)
at_true test None e = absurd (let f : false ≡ true = e in cc)
at_true test (Some x) e = (x, refl, e)

pub has_kind_tells : (kinds : Kinds) (table : Text) (kind : Kind) → has_kind kinds table kind ≡ true
    → HasKind kinds table kind
has_kind_tells kinds table kind e = let a = at_true (same_text (kind_text kind)) (get kinds table) e in a.1
    ∙ ap Some (sym (are_same texts (kind_text kind) a.0 a.2))

pub has_kind_holds : (kinds : Kinds) (table : Text) (kind : Kind) → HasKind kinds table kind
    → has_kind kinds table kind ≡ true
has_kind_holds kinds table kind e = ap (at_value (same_text (kind_text kind))) e ∙ same_itself texts (kind_text kind)

pub is_pyramid_tells : (kinds : Kinds) (table : Text) → is_pyramid kinds table ≡ true → IsPyramid kinds table
is_pyramid_tells kinds table e = elim (either_true (has_kind kinds table Two) (has_kind kinds table Other) e) as
    (λ _. IsPyramid kinds table) [
      | inl a ↦ inl (has_kind_tells kinds table Two a)
      | inr b ↦ inr (has_kind_tells kinds table Other b)
    ]

pub kind_is_clean : (kind : Kind) → IsClean (kind_text kind)
kind_is_clean Two = ascii_is_clean (kind_text Two) refl refl
kind_is_clean Other = ascii_is_clean (kind_text Other) refl refl
kind_is_clean Attributes = ascii_is_clean (kind_text Attributes) refl refl
kind_is_clean Media = ascii_is_clean (kind_text Media) refl refl

-- a table has one kind
pub one_kind : (kinds : Kinds) (table : Text) (a b : Kind) → HasKind kinds table a → HasKind kinds table b
    → kind_text a ≡ kind_text b
one_kind kinds table a b h k = same_some (sym h ∙ k)

pub differ : (a b : Text) → same_text a b ≡ false → a ≢ b
differ a b f e = let t : same_text a b ≡ true = sym (ap (same_text a) e) ∙ same_itself texts a in let g : true ≡ false =
    sym t ∙ f in cc

pub pyramid_is_placed : (kind : Kind) (kinds : Kinds) (table : Text) (c : Contents) (s : Option MatrixSet)
    → IsPyramid kinds table
    → HasKind kinds table kind → Suits kind c s → IsPlaced c s
pyramid_is_placed Two kinds table c s p k h = h
pyramid_is_placed Other kinds table c s p k h = h
pyramid_is_placed Attributes kinds table c s (inl p) k h =
    absurd (differ (kind_text Two) (kind_text Attributes) refl (one_kind kinds table Two Attributes p k))
pyramid_is_placed Attributes kinds table c s (inr p) k h =
    absurd (differ (kind_text Other) (kind_text Attributes) refl (one_kind kinds table Other Attributes p k))
pyramid_is_placed Media kinds table c s (inl p) k h =
    absurd (differ (kind_text Two) (kind_text Media) refl (one_kind kinds table Two Media p k))
pyramid_is_placed Media kinds table c s (inr p) k h =
    absurd (differ (kind_text Other) (kind_text Media) refl (one_kind kinds table Other Media p k))

placed_somewhere : (c : Contents) (s : Option MatrixSet) → IsPlaced c s → (r : MatrixSet) × (s ≡ Some r)
placed_somewhere c None h = absurd h
placed_somewhere c (Some r) h = (r, refl)

-- a pyramid has a matrix set
pub pyramid_set : (contents : FinMap text_cmp Contents) (kinds : Kinds) (sets : FinMap text_cmp MatrixSet)
    → Registry contents kinds sets
    → (table : Text) → IsPyramid kinds table → (s : MatrixSet) × Has sets table s
pyramid_set contents kinds sets h table p =
    let stands : Stands contents table = elim p as (λ _. Stands contents table)
    [ inl a ↦ h.of_kinds table _ a | inr b ↦ h.of_kinds table _ b ] in
    let c = some_of (get contents table) stands in
    let r = h.registered table c.0 c.1 in
    placed_somewhere c.0 (get sets table) (pyramid_is_placed r.0 kinds table c.0 (get sets table) p r.1 r.2)
