use Rattle.std.proofs.Common.{rules, ◌≡◌, codes}
use Rattle.mm_page.specs.Responses.{reason}
use Rattle.mm_page.proofs.responses.not_allowed.Goals as goal

pub returns : goal.returns
unfolding reason
returns c =
    let header : c.deref.result.now ≡ codes "Allow: GET\r\n" = search rules in
    rw header at c.response.ensures
