-- Lists whose elements differ.
use Rattle.std.proofs.Common.{◌≡◌, inl, inr, Bool, false, List, [], ◌∷◌, ◌++◌, map, refl, sym, ap, ◌∙◌}
use Rattle.std.specs.Ordering.{is_eq}
use Rattle.std.specs.Cmp.{tied_itself}
use Rattle.std.specs.List.{AllByRecursion, IsDistinct, flat_map}
use Rattle.std.proofs.lemmas.Bool.{both_ways}
use Rattle.sqlite.specs.Order.{Row}
use Rattle.sqlite.specs.Tree.{rowid, IsTable}
use Rattle.sql_forms.proofs.TreeLists.{all_weaker}
use Rattle.sql_forms.specs.Order.{value_cmp}
use Rattle.sql_forms.proofs.OrderLemmas.{value_cmp_total}
use Rattle.sql_forms.specs.Lists.{Has}
use Rattle.sql_forms.proofs.ListLemmas.{all_has, all_from}
use Rattle.sql_forms.proofs.Lists.{has_flat}

all_joined : {X : Type 0} (P : X → Type 0) (xs ys : List X) → AllByRecursion P xs → AllByRecursion P ys
    → AllByRecursion P (xs ++ ys)
all_joined P [] ys h k = k
all_joined P (x ∷ xs) ys h k = (h.0, all_joined P xs ys h.1 k)

distinct_joined : {X : Type 0} (e : X → X → Bool) (xs ys : List X) → IsDistinct e xs → IsDistinct e ys
    → ((x y : X) → Has xs x → Has ys y → e x y ≡ false) → IsDistinct e (xs ++ ys)
unfolding IsDistinct
distinct_joined e [] ys one two apart = two
distinct_joined e (x ∷ xs) ys one two apart = (
  all_joined (λ y. e x y ≡ false) xs ys one.0
      (all_from (λ y. e x y ≡ false) ys (λ y there. apart x y (inl refl) there)),
  distinct_joined e xs ys one.1 two
      (λ a b p q. apart a b (inr p) q),
)

-- what elements that differ give differs, where it does of each alone
pub distinct_flat : {X Y : Type 0} (d : X → X → Bool) (e : Y → Y → Bool) (f : X → List Y) (xs : List X)
    → IsDistinct d xs
    → ((x : X) → Has xs x → IsDistinct e (f x))
    → ((x y : X) → Has xs x → Has xs y → d x y ≡ false → (a b : Y) → Has (f x) a → Has (f y) b → e a b ≡ false)
    → IsDistinct e (flat_map f xs)
unfolding IsDistinct
distinct_flat d e f [] apart each across = tt
distinct_flat d e f (x ∷ xs) apart each across =
    distinct_joined e (f x) (flat_map f xs) (each x (inl refl))
    (distinct_flat d e f xs apart.1 (λ y there. each y (inr there)) (λ y z p q. across y z (inr p) (inr q)))
    (λ a b here later. let y = has_flat f xs b later in across x y.0 (inl refl) (inr y.1)
    (all_has (λ z. d x z ≡ false) xs y.0 apart.0 y.1) a b here y.2)

pub distinct_map : {X Y : Type 0} (f : X → Y) (e : Y → Y → Bool) (xs : List X) → IsDistinct (λ a b. e (f a) (f b)) xs
    → IsDistinct e (map f xs)
unfolding IsDistinct
distinct_map f e [] apart = tt
distinct_map {X} f e (x ∷ xs) apart = (mapped xs apart.0, distinct_map f e xs apart.1)
  where
    mapped : (ys : List X) → AllByRecursion (λ y. e (f x) (f y) ≡ false) ys
        → AllByRecursion (λ y. e (f x) y ≡ false) (map f ys)
    mapped [] h = tt
    mapped (y ∷ ys) h = (h.0, mapped ys h.1)

-- ---- rows whose rowids rise

abbrev pub has_same_id : Row → Row → Bool
has_same_id a b = is_eq (value_cmp (rowid a) (rowid b))

pub never_same : (a b : Row) → has_same_id a b ≡ false → a ≡ b → ⊥
never_same a b off same = both_ways (has_same_id a b) off
    (sym (ap (has_same_id a) same) ∙ ap is_eq (tied_itself value_cmp_total (rowid a)))

pub distinct_rows : (rows : List Row) → IsTable rows → IsDistinct has_same_id rows
unfolding IsDistinct
distinct_rows [] up = tt
distinct_rows (x ∷ rows) up = (
  all_weaker _ (λ y. has_same_id x y ≡ false) (λ y less. ap is_eq less) rows up.0,
  distinct_rows rows up.1,
)
