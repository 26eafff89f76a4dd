-- The orders of the keys tell all keys apart.
use Rattle.std.proofs.Common.{◌≡◌, ℤ, Option, Some, None, refl, sym, ap, ◌∙◌}
use Rattle.std.specs.declared.cmp.Ordering.{Ordering}
use Rattle.std.specs.declared.cmp.Ordering.TheVariants.{Less, Equal, Greater}
use Rattle.std.specs.Ordering.{int_cmp, ordering_then}
use Rattle.std.specs.Option.{option_cmp}
use Rattle.std.specs.Cmp.{int_cmp_total, on_total, then_total}
use Rattle.std.specs.Cmp.Lexicographic.{nat_list_cmp_total, options_total}
use Rattle.std.specs.FinMap.{IsAntisymmetric, nat_cmp-IsAntisymmetric, int_cmp-IsAntisymmetric}
use Rattle.std.specs.FinMap.{slice_cmp-IsAntisymmetric}
use Rattle.mm_definitions.specs.Keys.{Text, text_cmp, Level, level_cmp, level, TileKey, tile_cmp, tile, Item}
use Rattle.mm_definitions.specs.Keys.{item_cmp, item, Pairing, pairing_cmp, pairing, PieceKey, piece_cmp, piece}
use Rattle.mm_definitions.specs.Keys.{Extension, extension_cmp}
use Rattle.mm_definitions.proofs.Parts.{IsKeyOrder}

pub then_equal : (a b : Ordering) → ordering_then a b ≡ Equal → (a ≡ Equal) × (b ≡ Equal)
then_equal Less b e = absurd (let f : Less ≡ Equal = e in cc)
then_equal Equal b e = (refl, e)
then_equal Greater b e = absurd (let f : Greater ≡ Equal = e in cc)

pub numbers : IsKeyOrder int_cmp
numbers = record { total = int_cmp_total; exact = int_cmp-IsAntisymmetric }

pub texts : IsKeyOrder text_cmp
texts = record { total = nat_list_cmp_total; exact = slice_cmp-IsAntisymmetric nat_cmp-IsAntisymmetric }

pub maybe_texts : IsKeyOrder (option_cmp text_cmp)
maybe_texts = record { total = options_total texts.total; exact = exact } where
  exact : IsAntisymmetric (option_cmp text_cmp)
  exact None None e = refl
  exact None (Some y) e = absurd (let f : Less ≡ Equal = e in cc)
  exact (Some x) None e = absurd (let f : Greater ≡ Equal = e in cc)
  exact (Some x) (Some y) e = ap Some (texts.exact x y e)

-- a key of two parts, from which it can be made again
module _ {K A B : Type 0} {R : A → A → Ordering} {S : B → B → Ordering} where
  pub by_parts : (f : K → A) (g : K → B) (back : A → B → K) → ((k : K) → back (f k) (g k) ≡ k) → IsKeyOrder R
      → IsKeyOrder S
      → IsKeyOrder (λ (x y : K). ordering_then (R (f x) (f y)) (S (g x) (g y)))
  by_parts f g back same r s = record {
    total = then_total (on_total f r.total) (on_total g s.total);
    exact = λ x y e.
        let p = then_equal (R (f x) (f y)) (S (g x) (g y)) e in
        let first = r.exact (f x) (f y) p.0 in
        let second = s.exact (g x) (g y) p.1 in
        sym (same x) ∙ ap (λ a. back a (g x)) first ∙ ap (back (f y)) second ∙ same y;
  }

module _ {A B : Type 0} {R : A → A → Ordering} {S : B → B → Ordering} where
  pub in_pairs : IsKeyOrder R → IsKeyOrder S → IsKeyOrder (λ (x y : A × B). ordering_then (R x.0 y.0) (S x.1 y.1))
  in_pairs r s = record {
    total = then_total (on_total (λ (p : A × B). p.0) r.total) (on_total (λ (p : A × B). p.1) s.total);
    exact = λ x y e.
        let p = then_equal (R x.0 y.0) (S x.1 y.1) e in
        let first = r.exact x.0 y.0 p.0 in
        let second = s.exact x.1 y.1 p.1 in
        λ i. (first i, second i);
  }

pub levels : IsKeyOrder level_cmp
levels = by_parts (λ (k : Level). k.table) (λ (k : Level). k.zoom) level (λ k. refl) texts numbers

pub items : IsKeyOrder item_cmp
items = by_parts (λ (k : Item). k.table) (λ (k : Item). k.id) item (λ k. refl) texts numbers

pub piece_keys : IsKeyOrder piece_cmp
piece_keys = by_parts (λ (k : PieceKey). k.edition) (λ (k : PieceKey). k.number) piece (λ k. refl) texts numbers

pub pairing_keys : IsKeyOrder pairing_cmp
pairing_keys = by_parts (λ (k : Pairing). k.mapping) (λ (k : Pairing). (k.base_id, k.related_id))
    (λ a (p : ℤ × ℤ). pairing a p.0 p.1) (λ k. refl) texts (in_pairs numbers numbers)

pub tile_keys : IsKeyOrder tile_cmp
tile_keys = by_parts (λ (k : TileKey). k.table) (λ (k : TileKey). (k.zoom, (k.column, k.row)))
    (λ a (p : ℤ × (ℤ × ℤ)). tile a p.0 p.1.0 p.1.1) (λ k. refl) texts (in_pairs numbers (in_pairs numbers numbers))

pub extension_keys : IsKeyOrder extension_cmp
extension_keys = by_parts (λ (k : Extension). k.table)
    (λ (k : Extension). (k.column, (k.name, (k.definition, k.scope))))
    (λ a (p : Option Text × (Text × (Text × Text))). record
    { table = a; column = p.0; name = p.1.0; definition = p.1.1.0; scope = p.1.1.1 }) (λ k. refl) maybe_texts
    (in_pairs maybe_texts (in_pairs texts (in_pairs texts texts)))
