-- What is asked of a schema so that a DELETE with its actions takes away the rows that are not kept, and no others.
use Rattle.std.specs.Prelude.{◌≡◌, ⊤, ℕ, zero, suc, Bool, true, false, not, ◌&&◌, ◌||◌, ◌==◌, List, [], ◌∷◌, filter}
use Rattle.std.specs.Prelude.{slice_get, option_map, unwrap_or, Option, Some, None}
use Rattle.std.specs.List.{AllByRecursion, list_any, list_all}
use Rattle.sqlite.specs.declared.types.Value.{Value}
use Rattle.sqlite_value.specs.declared.keys.Collation.{Collation}
use Rattle.sqlite_value.specs.declared.keys.Collation.TheVariants.{Binary, NoCase, RTrim}
use Rattle.sqlite_value.specs.Keys.{first_key}
use Rattle.sqlite.specs.Order.{Row, column}
use Rattle.sqlite.specs.Term.{Term}
use Rattle.sqlite.specs.Tree.{Trees}
use Rattle.sqlite.specs.Table.{Table}
use Rattle.sqlite.specs.Schema.{Schema}
use Rattle.sqlite_schema.specs.Names.{is_key}
use Rattle.sqlite_schema.specs.declared.schema.Keys.{Keys}
use Rattle.sqlite_schema.specs.declared.schema.Reference.{Reference}
use Rattle.sqlite_schema.specs.Rules.{agree, equal, ParentKey, parent_key}
use Rattle.sqlite_rules.specs.declared.action.Deed.{Deed}
use Rattle.sqlite_rules.specs.declared.action.Deed.TheVariants.{Refuse, Delete, Follow, Clear, Reset}
use Rattle.sqlite_rules.specs.Lists.{Has}
use Rattle.sqlite_rules.specs.Action.{deed_for}
use Rattle.sql_forms.specs.Tables.{AreRows, passes}

-- which rows of each tree are kept
abbrev pub Keep : Type 0
Keep = ℕ → Row → Bool

-- a child of a row that is not kept is not kept
abbrev pub FollowsAt : Keep → ℕ → Reference → Option Deed → Option ParentKey → Type 0
FollowsAt keep child ref None key = ⊤
FollowsAt keep child ref (Some Refuse) key = ⊤
FollowsAt keep child ref (Some Delete) None = ⊤
FollowsAt keep child ref (Some Delete) (Some key) = (row old : Row) → agree key.2 ref.columns row key.1 old ≡ true
    → keep key.0 old ≡ false → keep child row ≡ false
FollowsAt keep child ref (Some Follow) key = ⊥
FollowsAt keep child ref (Some Clear) key = ⊥
FollowsAt keep child ref (Some Reset) key = ⊥

-- so it is of each reference whose action deletes, and no action does else than delete or refuse
abbrev pub Follows : Schema → Keys → Keep → Type 0
Follows schema keys keep = AllByRecursion (λ t. AllByRecursion
    (λ ref. FollowsAt keep t.tree ref (deed_for keys true ref) (parent_key schema.tables ref)) t.references)
    schema.tables

-- of each table only rows went that are not kept
pub record Shrinks (schema : Schema) (keep : Keep) (db now : Trees) : Type 0 where
  pub kept : (t : Table) → Has schema.tables t → filter (keep t.tree) (now t.tree) ≡ filter (keep t.tree) (db t.tree)
  pub was : (t : Table) → Has schema.tables t → (r : Row) → Has (now t.tree) r → Has (db t.tree) r
  pub rise : (t : Table) → Has schema.tables t → AreRows (db t.tree) → AreRows (now t.tree)

-- ---- rows that have a value in a column

-- there is a place, and the row has the value at it
abbrev pub has_at : Option ℕ → Value → Row → Bool
has_at None v row = false
has_at (Some p) v row = equal Binary (column row p) v

-- keeps the rows that lack the value in the column that the tree has for it
abbrev pub keep_but : (ℕ → Option ℕ) → Value → Keep
keep_but place v t row = not (has_at (place t) v row)

-- texts compare byte by byte under the collation
abbrev pub is_binary : Collation → Bool
is_binary Binary = true
is_binary NoCase = false
is_binary RTrim = false

-- where the second table's rows go by a column, so do the first's, and the two lists of places begin with these columns
abbrev pub heads_match : Option ℕ → Option ℕ → List ℕ → List ℕ → Bool
heads_match child None ps qs = true
heads_match None (Some q) ps qs = false
heads_match (Some p) (Some q) [] qs = false
heads_match (Some p) (Some q) (x ∷ ps) [] = false
heads_match (Some p) (Some q) (x ∷ ps) (y ∷ qs) = (x == p) && (y == q)

-- `Follows` as a test: where the parent's rows go by a column, the reference begins with it, and the child's rows go by
-- the column that refers to it
abbrev pub carries_at : (ℕ → Option ℕ) → ℕ → Reference → Option Deed → Option ParentKey → Bool
carries_at place child ref None key = true
carries_at place child ref (Some Refuse) key = true
carries_at place child ref (Some Delete) None = true
carries_at place child ref (Some Delete) (Some key) = heads_match (place child) (place key.0) ref.columns key.1
    && is_binary (first_key key.2).collation
carries_at place child ref (Some Follow) key = false
carries_at place child ref (Some Clear) key = false
carries_at place child ref (Some Reset) key = false

-- so it is of each reference of the schema, where `place` says by which column the rows of a tree go, if by one
abbrev pub carries : Schema → Keys → (ℕ → Option ℕ) → Bool
carries schema keys place = list_all (λ t. list_all
    (λ ref. carries_at place t.tree ref (deed_for keys true ref) (parent_key schema.tables ref)) t.references)
    schema.tables

-- the place is that of a column that is never NULL
abbrev pub is_needed : Table → ℕ → Bool
is_needed table zero = false
is_needed table (suc at) = unwrap_or
    (option_map (λ c. c.not_null && not (is_key table.key at)) (slice_get table.columns at)) false

-- ---- a delete by one column, as a whole

-- the rows of a tree that lack the value in the column that it has for it
abbrev pub left_without : Option ℕ → Value → List Row → List Row
left_without None v rows = rows
left_without (Some p) v rows = filter (λ r. not (has_at (Some p) v r)) rows

-- the reference leads from the child's column to that of a parent among these trees, and is never NULL
abbrev pub leads_to : (ℕ → Option ℕ) → Table → List ℕ → Reference → Option ParentKey → Bool
leads_to place child above ref None = false
leads_to place child above ref (Some key) =
    list_any (λ tree. tree == key.0) above && (list_all (is_needed child) ref.columns
    && (heads_match (place key.0) (place child.tree) key.1 ref.columns && is_binary (first_key key.2).collation))

-- the table's rows go by no column, or it is among these trees, or it refers to one of them by the column that its rows
-- go by
abbrev pub is_covered : List Table → (ℕ → Option ℕ) → List ℕ → Table → Option ℕ → Bool
is_covered tables place above child None = true
is_covered tables place above child (Some p) = list_any (λ tree. tree == child.tree) above || list_any
    (λ ref. leads_to place child above ref (parent_key tables ref)) child.references

-- so it is of each of the tables in turn, with those before it among the trees
abbrev pub covers_from : List Table → (ℕ → Option ℕ) → List ℕ → List Table → Bool
covers_from tables place above [] = true
covers_from tables place above (t ∷ more) = is_covered tables place above t (place t.tree)
    && covers_from tables place (t.tree ∷ above) more

-- Each table that has a column for the value refers by it to an earlier one that has, but for the one that loses its
-- rows first.
abbrev pub covers : Schema → (ℕ → Option ℕ) → ℕ → Bool
covers schema place first = covers_from schema.tables place (first ∷ []) schema.tables

-- of each tree the rows that have the value at its place are gone, and no others
abbrev pub cut : (ℕ → Option ℕ) → Value → Trees → Trees
cut place v db t = left_without (place t) v (db t)

-- ---- a delete that sets off nothing

-- a deletion in the tree sets nothing off by the reference: it has no action, refuses, or takes rows along with those
-- of another tree
abbrev pub spares : ℕ → Option Deed → Option ParentKey → Bool
spares tree None key = true
spares tree (Some Refuse) key = true
spares tree (Some Delete) None = true
spares tree (Some Delete) (Some key) = not (key.0 == tree)
spares tree (Some Follow) key = false
spares tree (Some Clear) key = false
spares tree (Some Reset) key = false

-- no action follows where rows of this tree are deleted, but that some may be refused
abbrev pub is_childless : Schema → Keys → ℕ → Bool
is_childless schema keys tree =
    list_all (λ t. list_all (λ ref. spares tree (deed_for keys true ref) (parent_key schema.tables ref)) t.references)
    schema.tables

-- keeps the rows that WHERE doesn't find in the tree, and all of the others
abbrev pub keep_missed : ℕ → List Term → Row → Keep
keep_missed tree terms params t r = not ((t == tree) && passes terms params r)
