use Rattle.std.proofs.Math.Facts.{to_z-of_z}
use Rattle.mm_content.proofs.Giving.{names_other, names_new}
use Rattle.mm_content.proofs.media_items.name_medium.Goals as goal

pub returns-in-Some : goal.returns-in-Some
returns-in-Some g c = names_other (rw (to_z-of_z c.ranges.id, to_z-of_z c.ranges.blob) at c.update_medium.ensures)
    c.in-Some.is

pub returns-in-None : goal.returns-in-None
returns-in-None g c = names_new (rw (to_z-of_z c.ranges.id, to_z-of_z c.ranges.blob) at c.insert_medium.ensures)
    c.in-None.is
