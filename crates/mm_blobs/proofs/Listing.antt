-- The ids that a query lists before their entries go.
use Rattle.std.proofs.Common.{◌≡◌, ℤ, Bool, true, false, List, map, filter, Option, Some, refl}
use Rattle.std.specs.declared.cmp.Ordering.{Ordering}
use Rattle.std.specs.List.Sorted.{IsPermutation}
use Rattle.std.specs.FinMap.{FinMap}
use Rattle.std.proofs.lemmas.List.Sorted.{IsPermutation-sym}
use Rattle.sqlite.specs.Order.{Row, column}
use Rattle.sqlite.specs.declared.types.Value.TheVariants.{Int}
use Rattle.sql_forms.proofs.ListLemmas.{has_kept, some_from}
use Rattle.sql_forms.proofs.ProbeLemmas.{mapped_has}
use Rattle.sql_forms.specs.Maps.{Holds}
use Rattle.sql_forms.proofs.Lists.{has_permuted}
use Rattle.mm_store.specs.Rows.{past_rowid}
use Rattle.mm_store.specs.Removals.{Freed}
use Rattle.mm_blobs.specs.Views.{ListsEach}
use Rattle.mm_blobs.proofs.Keeping.{at_id, hits_id}

module _ {K I : Type 0} {R : K → K → Ordering} (id_of : I → Option ℤ) (row_of : K → I → Row) (rows : List Row)
    (ids : FinMap R I) (h : Holds past_rowid row_of rows ids) (keep : K → Bool) (test : Row → Bool) (show : Row → Row)
    (hits : (r : Row) (k : K) (i : I) (z : ℤ) → past_rowid r ≡ row_of k i → keep k ≡ false → id_of i ≡ Some z
    → test r ≡ true)
    (shows : (r : Row) (k : K) (i : I) (z : ℤ) → past_rowid r ≡ row_of k i → id_of i ≡ Some z
    → column (show r) 0 ≡ Int z) where
  -- each blob that an entry names which goes
  pub lists_freed : (shown : List Row) → IsPermutation (map show (filter test rows)) shown
      → ListsEach shown (Freed id_of ids keep)
  lists_freed shown same z freed =
      let r = h.complete freed.0 freed.1 freed.3 in
      let passes = hits r.0 freed.0 freed.1 z r.2 freed.2 freed.4 in
      let there = has_permuted shown (map show (filter test rows)) (show r.0) (IsPermutation-sym _ _ same)
      (mapped_has show (filter test rows) r.0 (has_kept test rows r.0 r.1 passes)) in
      some_from (at_id 0 z) shown (show r.0) there
      (hits_id 0 z (show r.0) (Some z) (shows r.0 freed.0 freed.1 z r.2 freed.4) refl)
