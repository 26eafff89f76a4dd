-- What a call does with the transaction that it is handed, of editions and pieces. Each leaves it the transaction on
-- the same connection (`same`).
use Rattle.std.specs.Prelude.{◌≡◌, ℕ, ℤ, List, Option, None, Result, IsTrue}
use Rattle.std.specs.FinMap.{get, insert}
use Rattle.sqlite.specs.Held.{state}
use Rattle.sqlite.specs.Order.{Row, column}
use Rattle.sqlite.specs.Store.{Ghosts}
use Rattle.sqlite.specs.declared.transaction.Transaction.{Transaction}
use Rattle.mm_definitions.specs.Bounds.{Profile}
use Rattle.mm_definitions.specs.Keys.{PieceKey}
use Rattle.mm_definitions.specs.declared.answers.Fault.{Fault}
use Rattle.mm_store.specs.Handed.{IsSame}
use Rattle.mm_store.specs.Kept.{Spare}
use Rattle.mm_blobs.specs.Moves.{IsMove}
use Rattle.mm_blobs.specs.Views.{IsSeen}
use Rattle.mm_store.specs.Blobs.{StandsAt}
use Rattle.mm_store.specs.Rows.{maybe}
use Rattle.mm_definitions.specs.Package.{PieceRow}
use Rattle.mm_staging.specs.Kept.{spare_named}

module _ {S T : Type 0} (g : Ghosts S) (old new : Transaction S) where
  -- it puts the row of a piece at a number that is free, whose bytes are those of the blob that it names, if it names
  -- one
  pub record PutsPiece (key : PieceKey) (piece : PieceRow) (blob : Option ℤ) (result : Result T Fault) : Type 0 where
    pub same : IsSame old new
    pub named : (profile : Profile) (spare : Spare) → IsMove (state g old.conn.now) (state g new.conn.now)
        (λ base x. IsSeen spare profile (state g old.conn.now) base x
        × (StandsAt x.kept.shelf blob piece.bytes × (get x.content.pieces key ≡ None)))
        (λ base x _ y. (y.content ≡ record (x.content) { pieces = insert x.content.pieces key piece })
        × IsSeen (spare_named blob spare) profile (state g new.conn.now) base y) result

  -- it only looks, in a store that is open, and answers the bytes of the blob that the row of a piece names, if it
  -- names one
  pub record TellsBytesOf (row : Row) (bytes_of : T → List ℕ) (result : Result T Fault) : Type 0 where
    pub same : IsSame old new
    pub told : (profile : Profile) (spare : Spare) → IsMove (state g old.conn.now) (state g new.conn.now)
        (λ base x. IsTrue (state g old.conn.now).is_open × IsSeen spare profile (state g old.conn.now) base x)
        (λ base x bytes y. (y ≡ x) × IsSeen spare profile (state g new.conn.now) base y
        × ((blob : Option ℤ) → column row 11 ≡ maybe blob → StandsAt y.kept.shelf blob (bytes_of bytes))) result
