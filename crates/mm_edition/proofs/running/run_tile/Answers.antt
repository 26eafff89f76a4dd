use Rattle.std.proofs.Common.{rules, w64}
use Rattle.std.proofs.lemmas.Int.{to_z-of_z}
use mir.Val.{SFits}
use Rattle.mm_edition.proofs.Lending.{lends_anywhere}
use Rattle.mm_edition.proofs.running.run_tile.Goals as goal

pub returns-in-Tile : goal.returns-in-Tile
returns-in-Tile g c =
    let blob_fits : SFits w64 c.in-Tile.blob = search rules in
    let lent = simp to_z-of_z at c.put_tile_of_piece.ensures in
    rw c.in-Tile.is lent

pub returns-in-TileDrop : goal.returns-in-TileDrop
returns-in-TileDrop g c = rw c.in-TileDrop.is (lends_anywhere (λ bytes. c.drop_tile.ensures))
