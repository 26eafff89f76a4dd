use Rattle.std.proofs.Common.{rules, w64}
use Rattle.std.proofs.lemmas.Int.{to_z-of_z}
use mir.Val.{SFits}
use Rattle.mm_edition.proofs.Lending.{lends_anywhere}
use Rattle.mm_edition.proofs.running.run_item.Goals as goal

pub returns-in-Row : goal.returns-in-Row
returns-in-Row g c =
    let id_fits : SFits w64 c.get.result = search rules in
    let amount_fits : SFits w64 c.get-in-Row.result = search rules in
    let lent = simp to_z-of_z at (rw (c.as_str.ensures.text, c.as_str-in-Row.ensures.text) at c.put_row.ensures) in
    rw c.in-Row.is (lends_anywhere (λ bytes. rw (c.get.ensures.number, c.get-in-Row.ensures.number) at lent))

pub returns-in-RowDrop : goal.returns-in-RowDrop
returns-in-RowDrop g c =
    let id_fits : SFits w64 c.get-in-RowDrop.result = search rules in
    let lent = simp to_z-of_z at c.drop_row.ensures in
    rw c.in-RowDrop.is (lends_anywhere (λ bytes. rw c.get-in-RowDrop.ensures.number at lent))

pub returns-in-Media : goal.returns-in-Media
returns-in-Media g c =
    let id_fits : SFits w64 c.get-in-Media.result = search rules in
    let blob_fits : SFits w64 c.in-Media.blob = search rules in
    let lent = simp to_z-of_z at (rw (c.as_str-in-Media.ensures.text) at c.put_media_of_piece.ensures) in
    rw c.in-Media.is (rw c.get-in-Media.ensures.number at lent)

pub returns-in-MediaDrop : goal.returns-in-MediaDrop
returns-in-MediaDrop g c =
    let id_fits : SFits w64 c.get-in-MediaDrop.result = search rules in
    let lent = simp to_z-of_z at c.drop_media.ensures in
    rw c.in-MediaDrop.is (lends_anywhere (λ bytes. rw c.get-in-MediaDrop.ensures.number at lent))
