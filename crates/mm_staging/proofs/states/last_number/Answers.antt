use Rattle.std.proofs.Common.{rules}
use Rattle.sqlite.specs.Held.{state}
use Rattle.sql_forms.proofs.Orders.{selects_first}
use Rattle.mm_store.proofs.Selecting as statement
use Rattle.mm_store.proofs.Steps.{looks, seen}
use Rattle.mm_store.specs.Kept.{piece_id, piece_with}
use Rattle.mm_blobs.proofs.Naming.{told_there}
use Rattle.mm_staging.proofs.LastPiece.{last_found, of_edition}
use Rattle.mm_staging.proofs.states.last_number.Goals as goal

pub returns : goal.returns
returns g c =
    let old = state g.S.Store c.args.tx.now.conn.now in
    let new = state g.S.Store c.first_number.new.tx.conn.now in
    let a = c.args in
    looks c.first_number.ensures
    (λ x first ready shown gives.
    let read = selects_first _ _ _ _ _ _ _ _ old new ready.schema_is (of_edition a.edition.now) _
    (search rules) statement.last_piece first shown in (
      read.0,
      λ version p h. last_found (seen old 25) h.kept.pieces p.pieces
          (told_there piece_id piece_with h.kept.shelf h.kept.pieces p.pieces h.keeps.pieces_told) h.keeps.pieces
          a.edition.now x first gives read.1,
    ))
