use Rattle.std.proofs.Common.{rules, ◌≡◌, ◌++◌, ◌+◌, length, take, arith, ap, ◌∙◌}
use Rattle.std.proofs.lemmas.List.{length-append, length-take}
use Rattle.std.proofs.KnownBytes.{Consumes-kept, Consumes-trans}
use Rattle.mm_desk.proofs.body.read_body.Goals as goal

pub returns-in_err-extend_from_slice-in-Ok-clause-frugal :
    goal.returns-in_err-extend_from_slice-in-Ok-clause-frugal
returns-in_err-extend_from_slice-in-Ok-clause-frugal g c =
    let (within, still, read, all, is) = c.pieces.invariant in
    let here = take c.args.length c.args.here.now in
    let n = c.in-Ok.n in
    let fits = c.in-Ok.ensures.bound.0 in
    let more = take n c.read.new.buf in
    let sizes : length c.pieces.body.items ≡ length here + length read = ap length is ∙ length-append here read in
    let size : length c.read.new.buf ≡ c.min-most.result = search rules in (
      read ++ more,
      Consumes-trans _ _ _ _ _ all c.in-Ok.ensures.bytes.0,
      omega
          (arith, sizes, fits, size, c.min-most.ensures, length-append read more, length-take n c.read.new.buf),
    )

pub returns-in-Err-clause-frugal : goal.returns-in-Err-clause-frugal
returns-in-Err-clause-frugal g c =
    let (within, still, read, all, is) = c.pieces.invariant in
    let here = take c.args.length c.args.here.now in
    let sizes : length c.pieces.body.items ≡ length here + length read = ap length is ∙ length-append here read in
    (read, Consumes-kept _ _ _ read all c.in-Err.ensures.bytes, omega (arith, sizes))
