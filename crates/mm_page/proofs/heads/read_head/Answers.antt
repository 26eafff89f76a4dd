use Rattle.std.proofs.Common.{◌≡◌, ◌≤◌, inr, arith, length, rules, take}
use Rattle.std.proofs.lemmas.List.{length-take}
use Rattle.std.proofs.KnownBytes.{Consumes-trans}
use Rattle.mm_page.proofs.HeadFacts.{complete, from_consumed, full, taken, within_buffer}
use Rattle.mm_page.proofs.heads.read_head.Goals as goal

pub returns-in-Ok-Complete-clause-head : goal.returns-in-Ok-Complete-clause-head
returns-in-Ok-Complete-clause-head g c =
    let inv = c.pieces.invariant in
    let within = rw (c.in-Ok-Complete.is, c.in-Ok-Complete.field-0-is) at c.parse_request.ensures.within in
    let (h, at) = rw (c.in-Ok-Complete.is, c.in-Ok-Complete.field-0-is) at c.parse_request.ensures.complete in
    let low : length (take c.pieces.len c.pieces.buf) ≤ length c.args.buf.now =
    omega (arith, length-take c.pieces.len c.pieces.buf) in
    let room : length c.parse_request.new.headers ≤ length c.args.headers.now = omega arith in
    from_consumed _ _ _ _ inv.read (λ more input is.
    (inv.in_range, within, h, complete _ _ _ more input _ _ h is low room within at, at))

pub returns-in-Ok-Complete-clause-lies : goal.returns-in-Ok-Complete-clause-lies
returns-in-Ok-Complete-clause-lies g c =
    let within = rw (c.in-Ok-Complete.is, c.in-Ok-Complete.field-0-is) at c.parse_request.ensures.within in
    let of = rw (c.in-Ok-Complete.is, c.in-Ok-Complete.field-0-is) at c.parse_request.ensures.complete in
    (c.pieces.invariant.in_range, within, of)

pub returns-then-len-buf-clause-head : goal.returns-then-len-buf-clause-head
returns-then-len-buf-clause-head g c =
    let inv = c.pieces.invariant in
    let none = rw (c.in-Ok-Partial.is, c.in-Ok-Partial.field-0-is) at c.parse_request.ensures.partial in
    let at : length c.args.buf.now ≡ length (take c.pieces.len c.pieces.buf) =
    omega (arith, length-take c.pieces.len c.pieces.buf, c.if-len-buf.true) in
    from_consumed _ _ _ _ inv.read (λ more input is. full _ _ _ more input is at none)

pub pieces-preserved : goal.pieces-preserved
pieces-preserved g c =
    let inv = c.pieces.invariant in
    let fits : c.in-Ok.n ≤ length c.read.new.buf = c.in-Ok.ensures.bound.0 in
    record {
      in_range = within_buffer c.pieces.len c.in-Ok.n _ c.pieces.buf c.read.new.buf inv.in_range fits;
      needed = inr (
        take c.pieces.len c.pieces.buf,
        take c.in-Ok.n c.read.new.buf,
        taken c.pieces.len c.in-Ok.n _ c.pieces.buf c.read.new.buf inv.in_range fits,
        omega (arith, length-take c.pieces.len c.pieces.buf, c.if-len-buf.false),
        rw (c.in-Ok-Partial.is, c.in-Ok-Partial.field-0-is) at c.parse_request.ensures.partial,
      );
      read = rw (taken c.pieces.len c.in-Ok.n _ c.pieces.buf c.read.new.buf inv.in_range fits)
          (Consumes-trans _ _ _ _ _ inv.read c.in-Ok.ensures.bytes.0);
      working = search rules;
    }
