use Rattle.std.proofs.Common.{map, take}
use Rattle.httparse.specs.Spans.{header_bytes}
use Rattle.http1.specs.Fields.{values_named}
use Rattle.mm_desk.specs.Fields.{IsFieldValue}
use Rattle.mm_desk.proofs.fields.given.Given as goal

abbrev pub invariant-loop-header : goal.invariant-loop-header
invariant-loop-header l = IsFieldValue (values_named l.name (map (header_bytes l.head) (take l.header-index l.headers)))
    l.found
