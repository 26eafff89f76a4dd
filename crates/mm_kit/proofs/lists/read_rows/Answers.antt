use Rattle.std.proofs.Common.{◌≡◌, ◌≤◌, length, [], ◌∷◌, ap, refl, ◌∙◌, arith, rules, true, length-append}
use Rattle.std.specs.Result.{is_ok}
use Rattle.std.specs.Prelude.{Ok, Err}
use Rattle.csv.specs.Records.{fields_of}
use Rattle.mm_definitions.specs.Refusals.{own_number}
use Rattle.mm_kit.specs.Entries.{IsEntryReadAs}
use Rattle.mm_kit.proofs.ListFacts.{all-read, one-refused, read_few, so_far-more, so_far-none}
use Rattle.mm_kit.proofs.lists.read_rows.Goals as goal

pub loop-place-init : goal.loop-place-init
loop-place-init g c =
    let none : c.new-entries.result.items ≡ [] = search rules in
    record {
      set_up = c.requires;
      few = omega arith;
      count = rw none refl;
      so_far = λ bytes tells starts. rw (starts, none) (so_far-none bytes _ tells);
    }

pub returns-in-Refused-clause-lists : goal.returns-in-Refused-clause-lists
returns-in-Refused-clause-lists g c bytes tells starts =
    let at = c.loop-place in
    let told = rw c.in-Refused.is at c.in-Err.ensures in
    let bad : IsEntryReadAs at.place (fields_of c.in-Some.row) (Err c.in-Refused.why.number) = told.1 in
    let read = rw c.in-Some.is at c.in_ok-row.ensures.reads in
    rw (c.reason.ensures ∙ ap (own_number c.in-Refused.why.number) told.0)
    (one-refused g.T.Read.remaining at.rows c.next_record.new.rows bytes _ _ at.entries.items at.place
    at.invariant.set_up.config (at.invariant.so_far bytes tells starts) read bad)

pub returns-in-None-clause-lists : goal.returns-in-None-clause-lists
returns-in-None-clause-lists g c bytes tells starts =
    let at = c.loop-place in
    let (fields, read) = rw c.in-None.is at c.in_ok-row.ensures.reads in
    all-read g.T.Read.remaining at.rows c.next_record.new.rows bytes fields at.entries.items at.place
    at.invariant.set_up.config (at.invariant.so_far bytes tells starts) read

pub loop-place-preserved : goal.loop-place-preserved
loop-place-preserved g c =
    let at = c.loop-place in
    let good : IsEntryReadAs at.place (fields_of c.in-Some.row) (Ok c.in-Ok.entry) = c.in-Ok.ensures in
    let read = rw c.in-Some.is at c.in_ok-row.ensures.reads in
    let pushed : is_ok c.push.result ≡ true = search rules in
    let items = rw pushed at c.push.ensures.items in
    let few : at.place ≤ 4096 = read_few at.place _ c.in-Ok.entry good in
    record {
      set_up = rw c.in-Some.is at c.in_ok-row.ensures.stays;
      few = omega (arith, few);
      count = omega (arith, ap length items, length-append at.entries.items (c.in-Ok.entry ∷ []), at.invariant.count);
      so_far = λ bytes tells starts. rw items
          (so_far-more g.T.Read.remaining at.rows c.next_record.new.rows bytes _ c.in-Ok.entry at.entries.items at.place
          at.invariant.set_up.config (at.invariant.so_far bytes tells starts) read good);
    }
