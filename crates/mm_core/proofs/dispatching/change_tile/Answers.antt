use Rattle.mm_core.proofs.dispatching.change_tile.Goals as goal

pub returns-in-Tile : goal.returns-in-Tile
returns-in-Tile g c = rw c.in-Tile.is (rw c.as_slice.ensures.bytes at c.put_tile.ensures)

pub returns-in-TileDrop : goal.returns-in-TileDrop
returns-in-TileDrop g c = rw c.in-TileDrop.is c.drop_tile.ensures
