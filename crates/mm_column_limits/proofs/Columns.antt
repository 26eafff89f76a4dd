-- The columns of a row, each asked in turn whether it is within its limit.
use Rattle.std.proofs.Common.{◌↔◌, ℕ, ◌+◌, ◌<◌, List, length, drop, get_or, subst, sym}
use Rattle.std.proofs.lemmas.List.{drop_more}
use Rattle.sqlite.specs.Order.{Row}
use Rattle.mm_definitions.specs.Bounds.{Profile}
use Rattle.mm_column_limits.specs.LimitRows.{IsWithin, AreWithin, IsWithinRow}
use Rattle.mm_column_limits.specs.declared.row_limits.Limit.{Limit}
use Rattle.mm_column_limits.specs.declared.row_limits.Limit.TheVariants.{Name}

-- up to this column all are within, so the row is where the others are
abbrev pub IsLeft : Profile → List Limit → Row → ℕ → Type 0
IsLeft profile limits r at = IsWithinRow profile limits r ↔ AreWithin profile (drop at limits) r at

module _ (profile : Profile) (limits : List Limit) (r : Row) (at : ℕ) (more : at < length limits)
    (so_far : IsLeft profile limits r at) where
  abbrev Here : Type 0
  Here = IsWithin profile (get_or limits at Name) r at

  abbrev Rest : Type 0
  Rest = AreWithin profile (drop (at + 1) limits) r (at + 1)

  parted : AreWithin profile (drop at limits) r at ↔ (Here × Rest)
  parted = subst (λ ls. AreWithin profile ls r at ↔ (Here × Rest)) (sym (drop_more limits at Name more))
      (λ h. h, λ h. h)

  pub met : Here → IsLeft profile limits r (at + 1)
  met is = (λ all. (parted.0 (so_far.0 all)).1, λ rest. so_far.1 (parted.1 (is, rest)))

  pub unmet : (Here → ⊥) → IsWithinRow profile limits r → ⊥
  unmet is all = is (parted.0 (so_far.0 all)).0
