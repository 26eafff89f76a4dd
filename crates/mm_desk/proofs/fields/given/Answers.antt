use Rattle.std.proofs.Common.{◌≡◌, ◌<◌, ◌+◌, ◌++◌, ◌∷◌, [], map, take, length, sym, ap, subst, ◌∙◌, arith}
use Rattle.std.specs.Prelude.{get_or}
use Rattle.std.proofs.lemmas.List.{map-append, take_more}
use Rattle.httparse.specs.Spans.{header_bytes}
use Rattle.httparse.specs.declared.spans.HeaderSpan.{HeaderSpan}
use Rattle.http1.specs.Fields.{values_named, is_named}
use Rattle.http1.specs.Text.{eq_ignore_case}
use Rattle.mm_desk.specs.Fields.{IsFieldValue}
use Rattle.mm_desk.proofs.FieldFacts.{named_yes, named_no}
use Rattle.mm_desk.proofs.fields.given.Goals.{then-eq_ignore_case, else-eq_ignore_case}
use Rattle.mm_desk.proofs.fields.given.Goals as goal

abbrev no_span : HeaderSpan
no_span = record { name = record { start = 0; end = 0 }; value = record { start = 0; end = 0 } }

pub loop-header-preserved : goal.loop-header-preserved
loop-header-preserved c =
    let head = c.args.head.now in
    let headers = c.args.headers.now in
    let name = c.args.name.now in
    let i = c.loop-header.header-index in
    let lt : i < length headers = omega (arith, c.loop-header-test.true) in
    let before = map (header_bytes head) (take i headers) in
    let here = header_bytes head (get_or headers i no_span) in
    let more : map (header_bytes head) (take (i + 1) headers) ≡ before ++ here ∷ [] =
    ap (map (header_bytes head)) (take_more headers i no_span lt)
    ∙ map-append (header_bytes head) (take i headers) (get_or headers i no_span ∷ []) in
    let tested : is_named name here ≡ c.eq_ignore_case.result =
    sym (c.eq_ignore_case.ensures ∙ ap (λ t. eq_ignore_case t name) c.of.ensures) in
    elim c.if-eq_ignore_case.branch [
      | then-eq_ignore_case w ↦
          let all = named_yes name before here (tested ∙ w.if-eq_ignore_case.true) in
          let one = w.with_value-found.ensures (values_named name before) c.loop-header.invariant in
          let value : w.of-then-eq_ignore_case.result.now ≡ here.1 = w.of-then-eq_ignore_case.ensures in
          subst (λ f. IsFieldValue (values_named name (map (header_bytes head) (take (i + 1) headers))) f)
          (sym w.found-is)
          (subst (λ l. IsFieldValue (values_named name l) w.with_value-found.result) (sym more)
          (subst (λ l. IsFieldValue l w.with_value-found.result) (sym all)
          (subst (λ v. IsFieldValue (values_named name before ++ v ∷ []) w.with_value-found.result) value one)))
      | else-eq_ignore_case w ↦
          let all = named_no name before here (tested ∙ w.if-eq_ignore_case.false) in
          subst (λ f. IsFieldValue (values_named name (map (header_bytes head) (take (i + 1) headers))) f)
          (sym w.found-is)
          (subst (λ l. IsFieldValue (values_named name l) c.loop-header.found) (sym more)
          (subst (λ l. IsFieldValue l c.loop-header.found) (sym all) c.loop-header.invariant))
    ]
