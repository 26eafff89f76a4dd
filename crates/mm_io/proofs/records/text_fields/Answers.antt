use Rattle.std.proofs.Common.{◌≡◌, ◌<◌, ◌++◌, ◌∷◌, [], sym, ap, arith, rules, true, length}
use Rattle.std.specs.Prelude.{get_or}
use Rattle.std.proofs.lemmas.List.{map-append, take_more}
use Rattle.std.specs.Result.{is_ok}
use Rattle.csv.specs.Records.{fields_of}
use Rattle.csv.proofs.RecordFacts.{field-get, field-there}
use Rattle.mm_io.proofs.records.text_fields.Goals as goal

pub unreachable-requires : goal.unreachable-requires
unreachable-requires c =
    let all = fields_of c.args.row.now in
    let lt : c.fields.i < length all = omega (arith, c.len-i-end.ensures) in
    field-there all c.fields.i lt (sym (rw c.in_default.is at c.get.ensures.value))

pub fields-preserved : goal.fields-preserved
fields-preserved c =
    let all = fields_of c.args.row.now in
    let lt : c.fields.i < length all = omega (arith, c.len-i-end.ensures) in
    let here : get_or all c.fields.i [] ≡ c.in-Some.field.now = field-get all c.fields.i _
    (sym (rw c.in-Some.is at c.get.ensures.value)) in
    let good : is_ok c.push.result ≡ true = search rules in
    let items = rw good at c.push.ensures.items in
    rw (
      items,
      map-append (λ f. f.now) c.fields.fields.items (c.in-Some.field ∷ []),
      take_more all c.fields.i [] lt,
      here,
    ) (ap (λ l. l ++ (c.in-Some.field.now ∷ [])) c.fields.invariant)
