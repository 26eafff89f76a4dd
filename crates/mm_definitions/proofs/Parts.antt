-- Laws of finite maps whose order tells all keys apart.
use Rattle.std.proofs.Common.{◌≡◌, ◌≢◌, Bool, true, false, cond, ◌||◌, List, [], ◌∷◌, Option, Some, None, is_some, refl}
use Rattle.std.proofs.Common.{sym, ap, subst, ◌∙◌, ◌⊎◌, inl, inr}
use Rattle.std.specs.declared.cmp.Ordering.{Ordering}
use Rattle.std.specs.Ordering.{eq_by_cmp, is_eq}
use Rattle.std.specs.Cmp.{IsTotalOrder, tied_itself, Equal-is}
use Rattle.std.specs.List.{list_any}
use Rattle.std.specs.FinMap.{FinMap, get, contains_key, insert, remove, retain_keys, entries, find, IsAntisymmetric}
use Rattle.std.specs.FinMap.{same_map, get-insert, get-remove, get-retain_keys, get-entries}
use Rattle.std.specs.Option.{IsSome}
use Rattle.mm_definitions.specs.Parts.{Each, Has, Stands, some_entry}

-- An order under which only equal keys tie.
pub record IsKeyOrder {K : Type 0} (R : K → K → Ordering) : Type 0 where
  pub total : IsTotalOrder R
  pub exact : IsAntisymmetric R

-- two keys are the same, or differ, as the test tells
abbrev pub SameKey : {K : Type 0} → (K → K → Ordering) → K → K → Type 0
SameKey R a b = ((a ≡ b) × (eq_by_cmp R a b ≡ true)) ⊎ ((a ≢ b) × (eq_by_cmp R a b ≡ false))

pub same_some : {X : Type 0} {x y : X} → ◌≡◌ {A = Option X} (Some x) (Some y) → x ≡ y
same_some e = cc

-- an option that is none is not some
pub never_some : {X : Type 0} (o : Option X) → o ≡ None → IsSome o → ⊥
never_some None is h = absurd (let e : false ≡ true = h in cc)
never_some (Some x) is h = absurd cc

-- a key that a map lacks does not stand in it
pub lacks : {K X : Type 0} {R : K → K → Ordering} (m : FinMap R X) (k : K) → contains_key m k ≡ false → Stands m k → ⊥
lacks m k free stands = let f : true ≡ false = sym stands ∙ free in cc

pub not_none : {X : Type 0} {x : X} {o : Option X} → o ≡ Some x → o ≡ None → ⊥
not_none e f = let g : Some _ ≡ None = sym e ∙ f in cc

pub same_key : {K : Type 0} {R : K → K → Ordering} → IsKeyOrder R → (a b : K) → SameKey R a b
same_key {K} {R} o a b = elim (eq_by_cmp R a b) as (λ t. eq_by_cmp R a b ≡ t → SameKey R a b) [
  | true ↦ λ e. inl (o.exact a b ((Equal-is (R a b)).0 e), e)
  | false ↦ λ e. inr (
    λ s. let t : eq_by_cmp R a a ≡ true = ap is_eq (tied_itself o.total a) in let f : eq_by_cmp R a a
        ≡ false = ap (eq_by_cmp R a) s ∙ e in let g : true ≡ false = sym t ∙ f in cc,
    e,
  )
] refl

pub same_itself : {K : Type 0} {R : K → K → Ordering} → IsKeyOrder R → (a : K) → eq_by_cmp R a a ≡ true
same_itself o a = ap is_eq (tied_itself o.total a)

pub apart : {K : Type 0} {R : K → K → Ordering} → IsKeyOrder R → (a b : K) → a ≢ b → eq_by_cmp R a b ≡ false
apart {K} {R} o a b n = elim (same_key o a b) as (λ _. eq_by_cmp R a b ≡ false) [ inl e ↦ absurd (n e.0) | inr e ↦ e.1 ]

pub true_or_false : (b : Bool) → (b ≡ true) ⊎ (b ≡ false)
true_or_false true = inl refl
true_or_false false = inr refl

pub some_of : {X : Type 0} (v : Option X) → is_some v ≡ true → (x : X) × (v ≡ Some x)
some_of None e = absurd (let f : false ≡ true = e in cc)
some_of (Some x) e = (x, refl)

pub none_of : {X : Type 0} (v : Option X) → is_some v ≡ false → v ≡ None
none_of None e = refl
none_of (Some x) e = absurd (let f : true ≡ false = e in cc)

pub either_false : (a b : Bool) → (a || b) ≡ false → (a ≡ false) × (b ≡ false)
either_false true b e = absurd (let f : true ≡ false = e in cc)
either_false false b e = (refl, e)

module _ {K X : Type 0} {R : K → K → Ordering} (o : IsKeyOrder R) where
  pub at_put : (m : FinMap R X) (k : K) (v : X) → get (insert m k v) k ≡ Some v
  at_put m k v = get-insert o.total m k v k ∙ ap (λ b. cond b (Some v) (get m k)) (same_itself o k)

  pub beside_put : (m : FinMap R X) (k : K) (v : X) (q : K) → q ≢ k → get (insert m k v) q ≡ get m q
  beside_put m k v q n = get-insert o.total m k v q ∙ ap (λ b. cond b (Some v) (get m q)) (apart o q k n)

  -- an entry after a put is the new one, or was there
  pub after_put : (m : FinMap R X) (k : K) (v : X) (q : K) (x : X) → get (insert m k v) q ≡ Some x → ((q ≡ k) × (v ≡ x))
      ⊎ ((q ≢ k) × (get m q ≡ Some x))
  after_put m k v q x e = elim (same_key o q k) as (λ _. ((q ≡ k) × (v ≡ x)) ⊎ ((q ≢ k) × (get m q ≡ Some x))) [
    | inl s ↦ inl (s.0, same_some (sym (get-insert o.total m k v q ∙ ap (λ b. cond b (Some v) (get m q)) s.1) ∙ e))
    | inr n ↦ inr (n.0, sym (beside_put m k v q n.0) ∙ e)
  ]

  pub stands_after_put : (m : FinMap R X) (k : K) (v : X) (q : K) → Stands m q → Stands (insert m k v) q
  stands_after_put m k v q s = elim (same_key o q k) as (λ _. Stands (insert m k v) q) [
    | inl e ↦ ap is_some (ap (get (insert m k v)) e.0 ∙ at_put m k v)
    | inr n ↦ ap is_some (beside_put m k v q n.0) ∙ s
  ]

  pub each_put : (m : FinMap R X) (k : K) (v : X) (P : K → X → Type 0) → Each m P → P k v → Each (insert m k v) P
  each_put m k v P h new q x e = elim (after_put m k v q x e) as (λ _. P q x) [
    | inl s ↦ subst (λ y. P q y) s.1 (subst (λ r. P r v) (sym s.0) new)
    | inr old ↦ h q x old.1
  ]

  pub at_remove : (m : FinMap R X) (k : K) → get (remove m k) k ≡ None
  at_remove m k = get-remove o.total m k k ∙ ap (λ b. cond b None (get m k)) (same_itself o k)

  pub beside_remove : (m : FinMap R X) (k q : K) → q ≢ k → get (remove m k) q ≡ get m q
  beside_remove m k q n = get-remove o.total m k q ∙ ap (λ b. cond b None (get m q)) (apart o q k n)

  -- an entry after a removal was there, under another key
  pub after_remove : (m : FinMap R X) (k q : K) (x : X) → get (remove m k) q ≡ Some x → (q ≢ k) × (get m q ≡ Some x)
  after_remove m k q x e = elim (same_key o q k) as (λ _. (q ≢ k) × (get m q ≡ Some x)) [
    | inl s ↦ absurd (not_none e (ap (get (remove m k)) s.0 ∙ at_remove m k))
    | inr n ↦ (n.0, sym (beside_remove m k q n.0) ∙ e)
  ]

  pub each_remove : (m : FinMap R X) (k : K) (P : K → X → Type 0) → Each m P → Each (remove m k) P
  each_remove m k P h q x e = h q x (after_remove m k q x e).1

  pub at_retain : (m : FinMap R X) (p : K → Bool) (q : K) → get (retain_keys m p) q ≡ cond (p q) (get m q) None
  at_retain m p q = get-retain_keys m p q (λ x t. ap p (sym (o.exact q x t)))

  pub kept : (m : FinMap R X) (p : K → Bool) (q : K) → p q ≡ true → get (retain_keys m p) q ≡ get m q
  kept m p q t = at_retain m p q ∙ ap (λ b. cond b (get m q) None) t

  pub let_go : (m : FinMap R X) (p : K → Bool) (q : K) → p q ≡ false → get (retain_keys m p) q ≡ None
  let_go m p q t = at_retain m p q ∙ ap (λ b. cond b (get m q) None) t

  -- an entry that was kept passes the test, and was there
  pub after_retain : (m : FinMap R X) (p : K → Bool) (q : K) (x : X) → get (retain_keys m p) q ≡ Some x → (p q ≡ true)
      × (get m q ≡ Some x)
  after_retain m p q x e = elim (true_or_false (p q)) as (λ _. (p q ≡ true) × (get m q ≡ Some x)) [
    | inl t ↦ (t, sym (kept m p q t) ∙ e)
    | inr f ↦ absurd (not_none e (let_go m p q f))
  ]

  pub each_retain : (m : FinMap R X) (p : K → Bool) (P : K → X → Type 0) → Each m P → Each (retain_keys m p) P
  each_retain m p P h q x e = h q x (after_retain m p q x e).1

  unsome : (test : K → X → Bool) (es : List (K × X)) (q : K) (x : X) → list_any (λ e. test e.0 e.1) es ≡ false
      → find R q es ≡ Some x → test q x ≡ false
  unsome test [] q x none e = absurd (let f : None ≡ Some x = e in cc)
  unsome test (p ∷ es) q x none e =
      let parts = either_false (test p.0 p.1) _ none in
      elim (same_key o q p.0) as (λ _. test q x ≡ false) [
        | inl s ↦ let v : p.1 ≡ x = same_some (sym (ap (λ b. cond b (Some p.1) (find R q es)) s.1) ∙ e) in subst
            (λ y. test q y ≡ false) v (subst (λ r. test r p.1 ≡ false) (sym s.0) parts.0)
        | inr n ↦ unsome test es q x parts.1 (sym (ap (λ b. cond b (Some p.1) (find R q es)) n.1) ∙ e)
      ]

  -- a test that is true of no entry
  pub no_entry : (test : K → X → Bool) (m : FinMap R X) → some_entry test m ≡ false → Each m (λ k x. test k x ≡ false)
  unfolding some_entry
  no_entry test m none q x e = unsome test (entries m) q x none (sym (get-entries m q) ∙ e)

  -- a put under a new key leaves each entry
  pub kept_by_new : (m : FinMap R X) (k : K) (v : X) → contains_key m k ≡ false → (q : K) (x : X) → Has m q x
      → Has (insert m k v) q x
  kept_by_new m k v new q x e = beside_put m k v q (λ s. not_none e (ap (get m) s ∙ none_of (get m k) new)) ∙ e

  -- an entry that is put again changes nothing
  pub put_again : (m : FinMap R X) (k : K) (v : X) → Has m k v → insert m k v ≡ m
  put_again m k v there = same_map o.total o.exact (insert m k v) m
      (λ q. elim (same_key o q k) as (λ _. get (insert m k v) q ≡ get m q) [
        | inl s ↦ ap (get (insert m k v)) s.0 ∙ at_put m k v ∙ sym there ∙ sym (ap (get m) s.0)
        | inr n ↦ beside_put m k v q n.0
      ])

  -- what was absent still is, after a removal
  pub absent_after_remove : (m : FinMap R X) (k q : K) → get m q ≡ None → get (remove m k) q ≡ None
  absent_after_remove m k q e = elim (same_key o q k) as (λ _. get (remove m k) q ≡ None) [
    | inl s ↦ ap (get (remove m k)) s.0 ∙ at_remove m k
    | inr n ↦ beside_remove m k q n.0 ∙ e
  ]
