-- The conditions of joins: equalities of keys.
use Rattle.std.proofs.Common.{◌≡◌, ◌↔◌, Bool, true, false, ◌&&◌, ℤ, refl, sym, ap, ap₂, ◌∙◌}
use Rattle.std.specs.Prelude.{◌<ℤ◌}
use Rattle.std.proofs.lemmas.Bool.{and_parts, and_from}
use Rattle.std.proofs.lemmas.Cmp.{int_ranked}
use Rattle.std.specs.Ordering.{is_eq, is_lt, int_cmp}
use Rattle.std.specs.declared.cmp.Ordering.{Ordering}
use Rattle.std.specs.declared.cmp.Ordering.TheVariants.{Less, Equal, Greater}
use Rattle.std.specs.Cmp.{tied_itself, int_cmp_is, Equal-is}
use Rattle.sqlite.specs.Ops.{binary, is_true}
use Rattle.sqlite.specs.declared.types.Value.TheVariants.{Int, Text as Words}
use Rattle.sql_forms.specs.Collation.TheVariants.{Binary}
use Rattle.sql_forms.proofs.OrderLemmas.{value_cmp-Int}
use Rattle.sql_forms.specs.BinaryOp.TheVariants.{Compare}
use Rattle.sql_forms.specs.CompareOp.TheVariants.{Lt}
use Rattle.sql_forms.specs.Rules.{equal}
use Rattle.sql_forms.proofs.Keys.{equal_text, equal_int, as_truth}
use Rattle.mm_definitions.specs.Keys.{Text, level, Level, Item, item}
use Rattle.mm_definitions.proofs.Parts.{IsKeyOrder}
use Rattle.mm_definitions.proofs.KeyLaws.{texts, numbers}
use Rattle.mm_walk.specs.RowTests.{OnTrue}

pub tie : {K : Type 0} {R : K → K → Ordering} → IsKeyOrder R → (a b : K) → (is_eq (R a b) ≡ true) ↔ (a ≡ b)
tie {K} {R} o a b = (
  λ e. o.exact a b ((Equal-is (R a b)).0 e),
  λ e. ap is_eq
      (ap (λ x. R x b) e ∙ tied_itself o.total b),
)

-- SQL's equality of two texts, or of two integers
pub texts_are : (a b : Text) → (equal Binary (Words a) (Words b) ≡ true) ↔ (a ≡ b)
texts_are a b = let t = tie texts a b in (λ e. t.0 (sym (equal_text a b) ∙ e), λ e. equal_text a b ∙ t.1 e)

pub ints_are : (a b : ℤ) → (equal Binary (Int a) (Int b) ≡ true) ↔ (a ≡ b)
ints_are a b = let t = tie numbers a b in (λ e. t.0 (sym (equal_int a b) ∙ e), λ e. equal_int a b ∙ t.1 e)

-- ON by one text, by one number, and by a text and a number
pub name_is : (a b : Text) → ((equal Binary (Words a) (Words b) && true) ≡ true) ↔ (a ≡ b)
name_is a b = let t = texts_are a b in (λ e. t.0 (and_parts _ _ e).0, λ e. and_from _ _ (t.1 e) refl)

pub number_is : (a b : ℤ) → ((equal Binary (Int a) (Int b) && true) ≡ true) ↔ (a ≡ b)
number_is a b = let t = ints_are a b in (λ e. t.0 (and_parts _ _ e).0, λ e. and_from _ _ (t.1 e) refl)

pub both_are : (a b : Text) (x y : ℤ)
    → ((equal Binary (Words a) (Words b) && (equal Binary (Int x) (Int y) && true)) ≡ true) ↔ ((a ≡ b) × (x ≡ y))
both_are a b x y =
    let t = texts_are a b in
    let n = ints_are x y in (
      λ e. let p = and_parts (equal Binary (Words a) (Words b)) (equal Binary (Int x) (Int y) && true) e in
          (t.0 p.0, n.0 (and_parts (equal Binary (Int x) (Int y)) true p.1).0),
      λ e. and_from _ _ (t.1 e.0) (and_from _ _ (n.1 e.1) refl),
    )

pub level_is : (l : Level) (table : Text) (zoom : ℤ)
    → ((equal Binary (Words l.table) (Words table) && (equal Binary (Int l.zoom) (Int zoom) && true)) ≡ true)
    ↔ (l ≡ level table zoom)
level_is l table zoom = let b = both_are l.table table l.zoom zoom in
    (λ e. let p = b.0 e in ap₂ level p.0 p.1, λ e. b.1 (ap (λ (k : Level). k.table) e, ap (λ (k : Level). k.zoom) e))

pub item_is : (l : Item) (table : Text) (id : ℤ)
    → ((equal Binary (Words l.table) (Words table) && (equal Binary (Int l.id) (Int id) && true)) ≡ true)
    ↔ (l ≡ item table id)
item_is l table id = let b = both_are l.table table l.id id in
    (λ e. let p = b.0 e in ap₂ item p.0 p.1, λ e. b.1 (ap (λ (k : Item). k.table) e, ap (λ (k : Item). k.id) e))

pub less_is : (a b : ℤ) → (is_true (binary (Compare Lt Binary) (Int a) (Int b)) ≡ true) ↔ (a <ℤ b)
unfolding binary
less_is a b = (
  λ e. below a b (int_cmp a b) refl (ap is_lt (sym (value_cmp-Int a b)) ∙ sym (as_truth _) ∙ e),
  λ l.
      as_truth _ ∙ ap is_lt (value_cmp-Int a b ∙ sym (int_cmp_is a b Less l)),
)
  where
    below : (a b : ℤ) (o : Ordering) → o ≡ int_cmp a b → is_lt o ≡ true → a <ℤ b
    below a b Less is h = int_ranked a b Less is
    below a b Equal is h = absurd cc
    below a b Greater is h = absurd cc

pub same : {A : Type 0} → A ↔ A
same = (λ a. a, λ a. a)

pub on_true : (b : Bool) (C P : Type 0) → (b ≡ true) ↔ C → OnTrue b P ↔ (C → P)
on_true true C P same = (λ p c. p, λ f. f (same.0 refl))
on_true false C P same = (λ _ c. absurd (let e : false ≡ true = same.1 c in cc), λ _. tt)
