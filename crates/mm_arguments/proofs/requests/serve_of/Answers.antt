use Rattle.std.proofs.Common.{rules, refl, codes}
use Rattle.std.specs.Str.Parse.{ExplainsUnsignedError, HasUnsignedDigitsIfOk, ParsesUnsigned}
use Rattle.clap.specs.Words.{found_of}
use Rattle.mm_arguments.proofs.Reading.{number_read}
use Rattle.mm_arguments.proofs.requests.serve_of.Goals as goal

pub returns-clause-asks : goal.returns-clause-asks
returns-clause-asks c =
    let f = found_of c.args.matches.now in
    let port = number_read (λ bs r. ParsesUnsigned 16 10 bs r × ExplainsUnsignedError 10 bs r
    × HasUnsignedDigitsIfOk bs r)
    f (codes "port") c.get_one.result c.in_ok-port.port (search rules) c.get_one.ensures.none c.get_one.ensures.value in
    let count = number_read (λ bs r. ParsesUnsigned 32 10 bs r × ExplainsUnsignedError 10 bs r
    × HasUnsignedDigitsIfOk bs r)
    f (codes "count") c.get_one-2.result c.in_ok-count.count (search rules) c.get_one-2.ensures.none c.get_one-2.ensures.value in
    let port_is = port.2.0 in
    let count_is = count.2.0 in
    (refl, c.requires, (port.0, port.1, port_is.0.0, port_is.1), (count.0, count.1, count_is.0.0, count_is.1))
