use Rattle.std.proofs.Common.{◌≡◌, ◌∙◌, ◌+◌, ◌∷◌, ◌++◌, [], true, false, Some, Result, Ok, Err, map, take, arith, ap}
use Rattle.std.proofs.Common.{sym, rules, append-nil}
use Rattle.std.specs.List.{flat_map}
use Rattle.std.specs.Prelude.{OnOk}
use Rattle.std.specs.Result.{is_ok}
use Rattle.std.proofs.lemmas.Grind.{flat_map-append}
use Rattle.std.proofs.lemmas.List.{map-append, take_all, take_more}
use Rattle.mm_definitions.proofs.Parts.{same_some}
use Rattle.mm_reads.specs.RowLists.{numbered_told}
use Rattle.mm_show.specs.Records.{row_record, row_records}
use Rattle.mm_show.proofs.records.records_text.Goals as goal

on_ok : {A E P : Type 0} (r : Result A E) → is_ok r ≡ true → OnOk r P → P
on_ok (Ok a) good it = it
on_ok (Err e) good it = absurd (let f : false ≡ true = good in cc)

pub loop-row-preserved : goal.loop-row-preserved
loop-row-preserved c =
    let rows = c.args.rows.now in
    let i = c.loop-row.row-index in
    let item = c.row-item.result in
    let record_of = row_record c.args.table.now in
    let good : is_ok c.put_record.result ≡ true = search rules in
    let more = on_ok c.put_record.result good c.put_record.ensures.text in
    let here : take (i + 1) rows ≡ take i rows ++ item ∷ [] = take_more rows i item (c.loop-row-test.true)
    ∙ ap (λ e. take i rows ++ e ∷ [])
    (sym c.row-item.is) in
    let told : row_records c.args.table.now (map numbered_told (take (i + 1) rows)) ≡ row_records c.args.table.now
    (map numbered_told (take i rows)) ++ record_of (numbered_told item) =
    ap (λ l. flat_map record_of (map numbered_told l)) here
    ∙ ap (flat_map record_of) (map-append numbered_told (take i rows) (item ∷ []))
    ∙ flat_map-append record_of (map numbered_told (take i rows)) (numbered_told item ∷ []) ∙ ap
    (λ l. row_records c.args.table.now (map numbered_told (take i rows)) ++ l) (append-nil _) in
    record {
      start = on_ok c.put_record.result good c.put_record.ensures.start;
      text = ap Some (more ∙ ap (λ l. l ++ record_of (numbered_told item)) (same_some c.loop-row.invariant.text)
          ∙ sym told);
    }

pub returns-in-Ok : goal.returns-in-Ok
returns-in-Ok c =
    let whole = take_all c.loop-row.row-index c.args.rows.now (omega (arith, c.loop-row-test.false)) in
    c.in-Ok.ensures.ok ∙ same_some c.loop-row.invariant.text
    ∙ ap (λ l. row_records c.args.table.now (map numbered_told l)) whole
