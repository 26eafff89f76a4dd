-- Blobs that are released in turn.
use Rattle.std.proofs.Common.{◌≡◌, inl, inr, ℤ, Bool, true, false, not, ◌||◌, List, [], ◌∷◌, Some, refl, sym, ap, ◌∙◌}
use Rattle.std.proofs.Common.{le_refl}
use Rattle.std.specs.List.{list_any}
use Rattle.std.proofs.lemmas.Bool.{and_parts, or_cases}
use Rattle.sqlite.specs.declared.types.Value.TheVariants.{Int}
use Rattle.sqlite.specs.Order.{Row, column}
use Rattle.sqlite.specs.State.{State}
use Rattle.mm_definitions.specs.Keys.{same_number}
use Rattle.mm_definitions.proofs.Parts.{same_itself, same_some}
use Rattle.mm_definitions.proofs.KeyLaws.{numbers}
use Rattle.mm_store.specs.Kept.{Spare}
use Rattle.mm_store.specs.Statements.{CommitsNothing}
use Rattle.mm_blobs.specs.Views.{spare_but, spare_each}
use Rattle.mm_blobs.proofs.Keeping.{at_id, only_id}

pub commits_nothing : (s : State) → CommitsNothing s s
commits_nothing s = record {
  clean = le_refl _;
  shield = λ is. is;
  counts = le_refl _;
  limit = refl;
  closes = λ clean is_open. inl is_open;
  crash = λ clean db may. inl may;
}

not_of : (b : Bool) → b ≡ true → not b ≡ true → ⊥
not_of true is h = let e : false ≡ true = h in cc
not_of false is h = cc

spread : (a b c : Bool) → (a || (b || c)) ≡ true → ((a || c) || (b || false)) ≡ true
spread true b c h = refl
spread false true true h = refl
spread false true false h = refl
spread false false true h = refl
spread false false false h = h

module _ (row : Row) (spare : Spare) where
  -- the one blob that the row names is not spared any more
  pub released_one : (id : ℤ) → column row 0 ≡ Int id → (z : ℤ) → spare_but id (spare_each (row ∷ []) spare) z ≡ true
      → spare z ≡ true
  released_one id is z h =
      let parts = and_parts _ _ h in
      elim (or_cases _ _ parts.0) [
        | inl before ↦ before
        | inr listed ↦ elim (or_cases _ _ listed) [
          | inl here ↦ absurd (let same : id ≡ z = same_some (only_id 0 z row (Some id) is here) in not_of
              (same_number z id) (ap (λ y. same_number y id) (sym same) ∙ same_itself numbers id) parts.1)
          | inr none ↦ absurd (let e : false ≡ true = none in cc)
        ]
      ]

  -- what is spared with a row more, is with the row alone beside the others
  pub spared_apart : (rows : List Row) (z : ℤ) → spare_each (row ∷ rows) spare z ≡ true
      → spare_each (row ∷ []) (spare_each rows spare) z ≡ true
  spared_apart rows z h = spread (spare z) (at_id 0 z row) (list_any (at_id 0 z) rows) h

-- where nothing is listed, nothing is spared beside
pub spared_none : (spare : Spare) (z : ℤ) → spare_each [] spare z ≡ true → spare z ≡ true
spared_none spare z h = elim (or_cases _ _ h)
    [ inl before ↦ before | inr none ↦ absurd (let e : false ≡ true = none in cc) ]
