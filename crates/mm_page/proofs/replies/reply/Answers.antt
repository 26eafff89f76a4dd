use Rattle.std.proofs.Common.{rules, w64}
use Rattle.std.proofs.lemmas.Int.{to_z-of_z}
use mir.Val.{SFits}
use Rattle.mm_page.proofs.replies.reply.Goals as goal

pub returns-in-Media : goal.returns-in-Media
returns-in-Media g c =
    let fits : SFits w64 c.in-Media.id = search rules in
    rw c.in-Media.is (rw (to_z-of_z w64 c.in-Media.id fits) at c.media_reply.ensures)

pub returns-in-Related : goal.returns-in-Related
returns-in-Related g c =
    let fits : SFits w64 c.in-Related.id = search rules in
    rw c.in-Related.is (rw (to_z-of_z w64 c.in-Related.id fits) at c.related_reply.ensures)

pub returns-in-Contents : goal.returns-in-Contents
returns-in-Contents g c = rw c.in-Contents.is c.contents_reply.ensures
