-- Lists, and the parts of a statement.
use Rattle.std.proofs.Common.{◌≡◌, ◌⊎◌, inl, inr, ℕ, zero, suc, ◌<◌, Bool, true, false, not, ◌&&◌, ◌||◌, cond, List}
use Rattle.std.proofs.Common.{[], ◌∷◌, ◌++◌, map, filter, length, get_or, Option, Some, None, Result, Ok, Err, refl}
use Rattle.std.proofs.Common.{ap, ap₂, sym, ◌∙◌, arith}
use Rattle.std.specs.List.{list_any, flat_map, filter_map, cons_option}
use Rattle.std.specs.List.Sorted.{IsPermutation}
use Rattle.std.proofs.lemmas.Bool.{cases_Bool}
use Rattle.std.proofs.lemmas.List.{length-map}
use Rattle.sqlite_trees.specs.Tree.{IsAscending}
use Rattle.sqlite_trees.proofs.ListLemmas.{all-permutation}
use Rattle.sqlite_rules.specs.Lists.{Has}
use Rattle.sqlite_rules.proofs.ListLemmas.{all_has, all_from, has_left, has_right, has_either}

-- a part that gave a value did not stop on the way
pub went : {B E R : Type 0} {b : B} {Stops : E → Type 0} → ((stop : E) × Stops stop × (Ok b ≡ Err stop)) ⊎ R → R
went (inl stopped) = absurd (let e = stopped.2 in cc)
went (inr on) = on

pub same_value : {B E : Type 0} {a b : B} → ◌≡◌ {A = Result B E} (Ok a) (Ok b) → a ≡ b
same_value e = cc

-- ---- what a list has

pub has_flat : {X Y : Type 0} (f : X → List Y) (xs : List X) (y : Y) → Has (flat_map f xs) y → (x : X) × Has xs x
    × Has (f x) y
has_flat f [] y h = absurd h
has_flat f (x ∷ xs) y h = elim (has_either (f x) (flat_map f xs) y h)
    [ inl here ↦ (x, inl refl, here) | inr later ↦ let r = has_flat f xs y later in (r.0, inr r.1, r.2) ]

pub flat_has : {X Y : Type 0} (f : X → List Y) (xs : List X) (x : X) (y : Y) → Has xs x → Has (f x) y
    → Has (flat_map f xs) y
flat_has f [] x y h k = absurd h
flat_has f (z ∷ xs) x y (inl same) k = has_left (f z) (flat_map f xs) y (rw (← same) k)
flat_has f (z ∷ xs) x y (inr later) k = has_right (f z) (flat_map f xs) y (flat_has f xs x y later k)

pub has_filter_mapped : {X Y : Type 0} (f : X → Option Y) (xs : List X) (y : Y) → Has (filter_map f xs) y → (x : X)
    × Has xs x × (f x ≡ Some y)
has_filter_mapped f [] y h = absurd h
has_filter_mapped {X} {Y} f (x ∷ xs) y h = go (f x) refl h (has_filter_mapped f xs y)
  where
    go : (o : Option Y) → f x ≡ o → Has (cons_option o (filter_map f xs)) y
        → (Has (filter_map f xs) y → (z : X) × Has xs z × (f z ≡ Some y))
        → (z : X) × Has (x ∷ xs) z × (f z ≡ Some y)
    go None is there later = let r = later there in (r.0, inr r.1, r.2)
    go (Some z) is (inl same) later = (x, inl refl, is ∙ ap Some (sym same))
    go (Some z) is (inr there) later = let r = later there in (r.0, inr r.1, r.2)

pub has_permuted : {X : Type 0} (xs ys : List X) (x : X) → IsPermutation xs ys → Has ys x → Has xs x
has_permuted xs ys x same there =
    all_has (Has xs) ys x (all-permutation (Has xs) xs ys same (all_from (Has xs) xs (λ y h. h))) there

pub has_place : {A : Type 0} (xs : List A) (x : A) → Has xs x → (k : ℕ) × (k < length xs)
    × ((d : A) → get_or xs k d ≡ x)
has_place [] x h = absurd h
has_place (y ∷ xs) x (inl same) = (zero, omega arith, λ d. sym same)
has_place (y ∷ xs) x (inr later) = let it = has_place xs x later in (suc it.0, omega (arith, it.1), it.2)

-- ---- filters

-- a filter does not see the elements that it would drop
pub filter_after : {X : Type 0} (p q : X → Bool) (xs : List X) → ((x : X) → Has xs x → q x ≡ false → p x ≡ false)
    → filter p (filter q xs) ≡ filter p xs
filter_after p q [] so = refl
filter_after p q (x ∷ xs) so = elim (cases_Bool (q x)) [
  | inl e ↦ let more = filter_after p q xs (λ y h. so y (inr h)) in rw (e, more)
  | inr e ↦ let more = filter_after p q xs (λ y h. so y (inr h)) in let gone = so x (inl refl) e in rw (e, gone, more)
]

pub filter_whole : {X : Type 0} (p : X → Bool) (xs : List X) → ((x : X) → Has xs x → p x ≡ true) → filter p xs ≡ xs
filter_whole p [] so = refl
filter_whole p (x ∷ xs) so = let e = so x (inl refl) in let more = filter_whole p xs (λ y h. so y (inr h)) in rw
    (e, more)

pub filter_twice : {X : Type 0} (p q : X → Bool) (xs : List X) → filter p (filter q xs) ≡ filter (λ x. q x && p x) xs
filter_twice p q [] = refl
filter_twice {X} p q (x ∷ xs) =
    elim (q x) as (λ b. filter p (cond b (x ∷ filter q xs) (filter q xs)) ≡ cond (b && p x)
    (x ∷ filter (λ y. q y && p y) xs) (filter (λ y. q y && p y) xs))
    [ true ↦ rw (filter_twice p q xs) | false ↦ filter_twice p q xs ]

pub flat_filtered : {A B : Type 0} (p : A → Bool) (f : A → B) (xs : List A)
    → flat_map (λ x. cond (p x) (f x ∷ []) []) xs ≡ map f (filter p xs)
flat_filtered p f [] = refl
flat_filtered p f (x ∷ xs) =
    elim (p x) as (λ b. cond b (f x ∷ []) [] ++ flat_map (λ y. cond (p y) (f y ∷ []) []) xs
    ≡ map f (cond b (x ∷ filter p xs) (filter p xs)))
    [ true ↦ ap (λ l. f x ∷ l) (flat_filtered p f xs) | false ↦ flat_filtered p f xs ]

pub flat_counted : {A B : Type 0} (p : A → Bool) (f : A → B) (xs : List A)
    → length (flat_map (λ x. cond (p x) (f x ∷ []) []) xs) ≡ length (filter p xs)
flat_counted p f xs = ap length (flat_filtered p f xs) ∙ length-map (filter p xs) f

-- ---- a place in a list

pub map_split : {X Y : Type 0} (f : X → Y) (xs : List X) (front tail : List Y) (y : Y) → map f xs ≡ front ++ y ∷ tail
    → (a : List X) × (x : X) × (b : List X) × (xs ≡ a ++ x ∷ b) × (map f a ≡ front) × (f x ≡ y)
map_split f [] [] tail y h = absurd (cc)
map_split f [] (z ∷ front) tail y h = absurd (cc)
map_split f (x ∷ xs) [] tail y h = ([], x, xs, refl, refl, (let e : f x ≡ y = cc in e))
map_split {X} {Y} f (x ∷ xs) (z ∷ front) tail y h =
    let head : f x ≡ z = cc in
    let rest : map f xs ≡ front ++ y ∷ tail = cc in
    longer head (map_split f xs front tail y rest)
  where
    longer : f x ≡ z → ((a : List X) × (w : X) × (b : List X) × (xs ≡ a ++ w ∷ b) × (map f a ≡ front) × (f w ≡ y))
        → (a : List X) × (w : X) × (b : List X) × (x ∷ xs ≡ a ++ w ∷ b) × (map f a ≡ z ∷ front) × (f w ≡ y)
    longer head (a, w, b, whole, before, here) = (x ∷ a, w, b, ap (λ l. x ∷ l) whole, ap₂ ◌∷◌ head before, here)

pub ascends_past : {X : Type 0} (R : X → X → Type 0) (a b : List X) (x y : X) → IsAscending R (a ++ x ∷ b) → Has b y
    → R x y
ascends_past R [] b x y up h = all_has (R x) b y up.0 h
ascends_past R (z ∷ a) b x y up h = ascends_past R a b x y up.1 h

-- ---- tests

pub not_true : (b : Bool) → not b ≡ true → b ≡ false
not_true true h = absurd (cc)
not_true false h = refl

pub not_false : (b : Bool) → not b ≡ false → b ≡ true
not_false true h = refl
not_false false h = absurd (cc)

pub not_not : (b : Bool) → not (not b) ≡ b
not_not true = refl
not_not false = refl

pub and_true : (b : Bool) → (b && true) ≡ b
and_true true = refl
and_true false = refl

-- ---- tests over a list

pub filter_out : {X : Type 0} (p q : X → Bool) (xs : List X) → ((x : X) → Has xs x → q x ≡ not (p x))
    → filter p (filter q xs) ≡ []
filter_out p q [] so = refl
filter_out p q (x ∷ xs) so = elim (cases_Bool (p x)) [
  | inl e ↦ let f = so x (inl refl) in let more = filter_out p q xs (λ y h. so y (inr h)) in rw (f, e) more
  | inr e ↦ let f = so x (inl refl) in let more = filter_out p q xs (λ y h. so y (inr h)) in rw (f, e, e) more
]

pub either_any : {X : Type 0} (p q : X → Bool) (xs : List X)
    → (list_any p xs || list_any q xs) ≡ list_any (λ x. p x || q x) xs
either_any p q [] = refl
either_any p q (x ∷ xs) = mixed (p x) (q x) (list_any p xs) (list_any q xs)
    ∙ ap (λ b. (p x || q x) || b) (either_any p q xs)
  where
    mixed : (a b c d : Bool) → ((a || c) || (b || d)) ≡ ((a || b) || (c || d))
    mixed true b c d = refl
    mixed false true true d = refl
    mixed false true false d = refl
    mixed false false c d = refl
