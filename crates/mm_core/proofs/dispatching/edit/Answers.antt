use Rattle.mm_core.proofs.Trying.{tries, tries_unstamped}
use Rattle.mm_core.proofs.dispatching.edit.Goals as goal

pub returns-in-Tile : goal.returns-in-Tile
returns-in-Tile g c = tries c.change_tile.ensures

pub returns-in-Row : goal.returns-in-Row
returns-in-Row g c = tries c.change_item.ensures

pub returns-in-Map : goal.returns-in-Map
returns-in-Map g c = tries_unstamped c.change_mapping.ensures

pub returns-in-Matrix : goal.returns-in-Matrix
returns-in-Matrix g c =
    let lent = rw c.get.ensures.number at c.add_matrix.ensures in
    rw c.in-Matrix.is (tries lent)
