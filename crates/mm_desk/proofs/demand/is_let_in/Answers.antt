use Rattle.std.proofs.Common.{codes, map, rules}
use Rattle.httparse.specs.Spans.{header_bytes}
use Rattle.http1.specs.Fields.{values_named}
use Rattle.mm_desk.specs.Fields.{IsHostField, IsOriginField}
use Rattle.mm_desk.proofs.DemandFacts.{host_once, origin_lone, site_lone, lone_site}
use Rattle.mm_desk.proofs.demand.is_let_in.Goals as goal

pub returns : goal.returns
returns c =
    let fields = map (header_bytes c.args.head.now) c.args.headers.now in
    let host : IsHostField c.args.port c.given.result = c.is_host.ensures.0 (search rules) in
    let origin : IsOriginField c.args.port c.given-2.result = c.is_origin.ensures.0 (search rules) in (
      λ own. (
        host_once c.args.port (values_named (codes "host") fields) c.given.result c.given.ensures host,
        origin_lone c.args.port (values_named (codes "origin") fields) c.given-2.result c.given-2.ensures origin,
        site_lone (values_named (codes "sec-fetch-site") fields) c.given-3.result c.given-3.ensures (c.is_own_site.ensures.0 own),
      ),
      λ it. c.is_own_site.ensures.1 (lone_site (values_named (codes "sec-fetch-site") fields) c.given-3.result c.given-3.ensures it.2),
    )
