-- What a call does with the transaction that it is handed, of a view: a package, and how its bytes are kept. Each
-- leaves it the transaction on the same connection (`same`).
use Rattle.std.specs.Prelude.{◌≡◌, ℕ, ℤ, true, List, Option, Some, Result, IsTrue}
use Rattle.std.specs.FinMap.{insert, remove}
use Rattle.sqlite.specs.Order.{Row}
use Rattle.sqlite.specs.Held.{state}
use Rattle.sqlite.specs.Store.{Ghosts}
use Rattle.sqlite.specs.declared.transaction.Transaction.{Transaction}
use Rattle.mm_definitions.specs.Bounds.{Profile}
use Rattle.mm_definitions.specs.Package.{Package}
use Rattle.mm_definitions.specs.declared.answers.Fault.{Fault}
use Rattle.mm_store.specs.Blobs.{blob_of, bytes_at}
use Rattle.mm_store.specs.Handed.{IsSame}
use Rattle.mm_store.specs.Kept.{Kept, Spare, no_spare, IsNamed}
use Rattle.mm_blobs.specs.Entries.{spare_freed}
use Rattle.mm_blobs.specs.Moves.{IsMove}
use Rattle.mm_blobs.specs.Views.{View, IsSeen, Lacks, AllButShelf, spare_too, spare_but, spare_each}

module _ {S T : Type 0} (g : Ghosts S) (old new : Transaction S) where
  -- it only looks, and answers so of the view
  pub record Finds (Says : View → T → Type 0) (result : Result T Fault) : Type 0 where
    pub same : IsSame old new
    pub found : (profile : Profile) (spare : Spare) → IsMove (state g old.conn.now) (state g new.conn.now)
        (IsSeen spare profile (state g old.conn.now))
        (λ base v t w. (w ≡ v) × IsSeen spare profile (state g new.conn.now) base w × Says w t) result

  -- it lets an entry name a blob that stands, in place of the blob that it names, if it stands: that one may be unnamed
  -- then
  pub record Names (blob : ℤ) (entry : View → Option ℤ) (stands : Option ℤ) (next : List ℕ → View → View)
      (result : Result T Fault) : Type 0 where
    pub same : IsSame old new
    pub named : (profile : Profile) (spare : Spare) (bytes : List ℕ)
        → IsMove (state g old.conn.now) (state g new.conn.now)
        (λ base v. IsSeen spare profile (state g old.conn.now) base v
        × ((bytes_at v.kept.shelf blob ≡ Some bytes) × (entry v ≡ stands)))
        (λ base v _ w. (w ≡ next bytes v) × IsSeen (spare_freed stands (spare_but blob spare)) profile
        (state g new.conn.now) base w) result

  -- the same of an entry that stands, whatever blob it names
  pub record Renames (blob : ℤ) (entry : View → Option ℤ) (next : List ℕ → View → View) (result : Result T Fault) : Type
      0 where
    pub same : IsSame old new
    pub named : (profile : Profile) (spare : Spare) (bytes : List ℕ) (was : ℤ)
        → IsMove (state g old.conn.now) (state g new.conn.now)
        (λ base v. IsSeen spare profile (state g old.conn.now) base v
        × ((bytes_at v.kept.shelf blob ≡ Some bytes) × (entry v ≡ Some was)))
        (λ base v _ w. (w ≡ next bytes v) × IsSeen (spare_too was (spare_but blob spare)) profile (state g new.conn.now)
        base w) result

  -- it removes an entry, if it stands: the blob that it names may be unnamed then
  pub record Unnames (entry : View → Option ℤ) (next : View → View) (result : Result T Fault) : Type 0 where
    pub same : IsSame old new
    pub gone : (profile : Profile) (spare : Spare) (stands : Option ℤ)
        → IsMove (state g old.conn.now) (state g new.conn.now)
        (λ base v. IsSeen spare profile (state g old.conn.now) base v × (entry v ≡ stands))
        (λ base v _ w. (w ≡ next v) × IsSeen (spare_freed stands spare) profile (state g new.conn.now) base w) result

  -- it gives an entry the bytes of a blob that stands, which the entry names then
  pub record Gives (blob : ℤ) (next : List ℕ → Package → Package) (result : Result T Fault) : Type 0 where
    pub same : IsSame old new
    pub given : (profile : Profile) (spare : Spare) (bytes : List ℕ)
        → IsMove (state g old.conn.now) (state g new.conn.now)
        (λ base v. IsSeen spare profile (state g old.conn.now) base v × (bytes_at v.kept.shelf blob ≡ Some bytes))
        (λ base v _ w. (w.content ≡ next bytes v.content) × IsSeen (spare_but blob spare) profile (state g new.conn.now)
        base w) result

module _ {S : Type 0} (g : Ghosts S) (old new : Transaction S) where
  -- it puts a blob of bytes that no other holds, which may be unnamed then
  pub record Puts (bytes : List ℕ) (result : Result ℤ Fault) : Type 0 where
    pub same : IsSame old new
    pub put : (profile : Profile) (spare : Spare) → IsMove (state g old.conn.now) (state g new.conn.now)
        (λ base v. IsSeen spare profile (state g old.conn.now) base v × Lacks v.kept.shelf bytes)
        (λ base v id w. (w ≡ record v { kept = record (v.kept) { shelf = insert v.kept.shelf id (blob_of bytes) } })
        × IsSeen (spare_too id spare) profile (state g new.conn.now) base w) result

  -- it answers the blob of the bytes, which is put where none stands, and may be unnamed then; all else is as it was
  pub record Keeps (bytes : List ℕ) (result : Result ℤ Fault) : Type 0 where
    pub same : IsSame old new
    pub kept : (profile : Profile) (spare : Spare) → IsMove (state g old.conn.now) (state g new.conn.now)
        (IsSeen spare profile (state g old.conn.now))
        (λ base v id w. AllButShelf v w × IsSeen (spare_too id spare) profile (state g new.conn.now) base w
        × (bytes_at w.kept.shelf id ≡ Some bytes)) result

  module _ {T : Type 0} where
    -- it removes a blob that nothing names
    pub record Removes (id : ℤ) (result : Result T Fault) : Type 0 where
      pub same : IsSame old new
      pub gone : (profile : Profile) (spare : Spare) → IsMove (state g old.conn.now) (state g new.conn.now)
          (λ base v. IsSeen spare profile (state g old.conn.now) base v × ¬ IsNamed v.kept id)
          (λ base v _ w. (w ≡ record v { kept = record (v.kept) { shelf = remove v.kept.shelf id } })
          × IsSeen (spare_but id spare) profile (state g new.conn.now) base w) result

    -- it removes blobs that nothing names: which blobs may be unnamed before, and which then; all else is as it was
    pub record Releases (before after : Spare → Spare) (result : Result T Fault) : Type 0 where
      pub same : IsSame old new
      pub released : (profile : Profile) (spare : Spare) → IsMove (state g old.conn.now) (state g new.conn.now)
          (IsSeen (before spare) profile (state g old.conn.now))
          (λ base v _ w. AllButShelf v w × IsSeen (after spare) profile (state g new.conn.now) base w) result

    -- the same of a store that is open: none of these blobs is unnamed then
    pub record ReleasesOpen (before : Spare → Spare) (result : Result T Fault) : Type 0 where
      pub same : IsSame old new
      pub released : (profile : Profile) (spare : Spare) → IsMove (state g old.conn.now) (state g new.conn.now)
          (λ base v. IsTrue (state g old.conn.now).is_open × IsSeen (before spare) profile (state g old.conn.now) base
          v)
          (λ base v _ w. AllButShelf v w × IsSeen spare profile (state g new.conn.now) base w) result

    -- it removes rows: these blobs, which they named, may be unnamed then
    pub record Frees (Freed : Kept → ℤ → Type 0) (next : Package → Package) (result : Result T Fault) : Type 0 where
      pub same : IsSame old new
      pub gone : (profile : Profile) (more : Spare) → IsMove (state g old.conn.now) (state g new.conn.now)
          (λ base v. IsSeen no_spare profile (state g old.conn.now) base v × ((z : ℤ) → Freed v.kept z → more z ≡ true))
          (λ base v _ w. (w.content ≡ next v.content) × IsSeen more profile (state g new.conn.now) base w) result

    -- it only looks, and answers rows that begin with the ids of all blobs that are unnamed
    pub record ListsUnnamed (rows_of : T → List Row) (result : Result T Fault) : Type 0 where
      pub same : IsSame old new
      pub listed : (profile : Profile) (spare : Spare) → IsMove (state g old.conn.now) (state g new.conn.now)
          (IsSeen spare profile (state g old.conn.now))
          (λ base v rows w. (w ≡ v) × IsSeen (spare_each (rows_of rows) no_spare) profile (state g new.conn.now) base w)
          result
