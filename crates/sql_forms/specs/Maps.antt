-- The rows of a table as a finite map.
use Rattle.std.specs.Prelude.{◌≡◌, List, Some}
use Rattle.std.specs.declared.cmp.Ordering.{Ordering}
use Rattle.std.specs.FinMap.{FinMap, get}
use Rattle.sqlite.specs.Order.{Row}
use Rattle.sqlite_rules.specs.Lists.{Has}

-- Each row stands for one entry. `part` is what of a row counts: all of it, or all but a rowid that the store chose.
pub record Holds {K V : Type 0} {R : K → K → Ordering} (part : Row → Row) (row_of : K → V → Row) (rows : List Row)
    (m : FinMap R V) : Type 0 where
  pub sound : (r : Row) → Has rows r → (k : K) × (v : V) × (get m k ≡ Some v) × (part r ≡ row_of k v)
  pub complete : (k : K) (v : V) → get m k ≡ Some v → (r : Row) × Has rows r × (part r ≡ row_of k v)
  pub apart : (r s : Row) → Has rows r → Has rows s → (k : K) (v w : V) → part r ≡ row_of k v → part s ≡ row_of k w
      → r ≡ s
