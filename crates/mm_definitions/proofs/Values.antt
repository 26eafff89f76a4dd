-- A map whose values are changed, key by key.
use Rattle.std.proofs.Common.{◌≡◌, Bool, true, false, cond, ◌&&◌, List, [], ◌∷◌, map, Option, Some, None, option_map}
use Rattle.std.proofs.Common.{refl, sym, ap, ap₂, subst, ◌∙◌, T}
use Rattle.std.specs.declared.cmp.Ordering.{Ordering}
use Rattle.std.specs.Ordering.{eq_by_cmp, is_lt}
use Rattle.std.specs.FinMap.{FinMap, get, entries, entries_sorted, get-entries, get-from_sorted, find, is_sorted}
use Rattle.mm_definitions.specs.Parts.{Each}
use Rattle.mm_definitions.specs.Parts.{change_values}

module _ {K X Y : Type 0} (R : K → K → Ordering) (change : X → Y) where
  abbrev pub changed : K × X → K × Y
  changed e = (e.0, change e.1)

  abbrev pub below : {V : Type 0} → K → List (K × V) → Bool
  below x [] = true
  below x (e ∷ es) = is_lt (R x e.0) && below x es

  rises : (es : List (K × X)) → is_sorted R (map changed es) ≡ is_sorted R es
  rises [] = refl
  rises (e ∷ es) = ap₂ ◌&&◌ (past e.0 es) (rises es)
    where
      past : (x : K) (es : List (K × X)) → below x (map changed es) ≡ below x es
      past x [] = refl
      past x (e ∷ es) = ap (λ b. is_lt (R x e.0) && b) (past x es)

  found : (q : K) (es : List (K × X)) → find R q (map changed es) ≡ option_map change (find R q es)
  found q [] = refl
  found q (e ∷ es) = elim (eq_by_cmp R q e.0) as (λ b. cond b (Some (change e.1)) (find R q (map changed es))
      ≡ option_map change (cond b (Some e.1) (find R q es))) [ true ↦ refl | false ↦ found q es ]

  pub get_changed : (m : FinMap R X) (q : K) → get (change_values change m) q ≡ option_map change (get m q)
  get_changed m q =
      get-from_sorted R (map changed (entries m)) q (subst T (sym (rises (entries m))) (entries_sorted m))
      ∙ found q (entries m) ∙ ap (option_map change) (sym (get-entries m q))

came : {X Y : Type 0} (change : X → Y) (o : Option X) (y : Y) → option_map change o ≡ Some y → (x : X) × (o ≡ Some x)
    × (y ≡ change x)
came change None y e = absurd (let f : None ≡ Some y = e in cc)
came change (Some x) y e = (x, refl, (let f : Some (change x) ≡ Some y = e in cc))

module _ {K X Y : Type 0} {R : K → K → Ordering} (change : X → Y) where
  -- what stands was made of what stood
  pub from : (m : FinMap R X) (q : K) (y : Y) → get (change_values change m) q ≡ Some y → (x : X) × (get m q ≡ Some x)
      × (y ≡ change x)
  from m q y e = came change (get m q) y (sym (get_changed R change m q) ∙ e)

  pub each_changed : (m : FinMap R X) (P : K → X → Type 0) (Q : K → Y → Type 0)
      → ((q : K) (x : X) → P q x → Q q (change x)) → Each m P
      → Each (change_values change m) Q
  each_changed m P Q so h q y e = let it = from m q y e in subst (Q q) (sym it.2) (so q it.0 (h q it.0 it.1))
