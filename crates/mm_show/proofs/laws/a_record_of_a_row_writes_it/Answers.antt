use Rattle.std.proofs.Common.{refl, arith}
use Rattle.std.proofs.lemmas.Int.{ints}
use Rattle.mm_definitions.specs.Keys.{item}
use Rattle.mm_show.proofs.Spelled.{spells}
use Rattle.mm_show.proofs.laws.a_record_of_a_row_writes_it.Goals as goal

pub returns : goal.returns
returns c p table id row meets is =
    let within = meets.q16.rows (item table id) row is in
    let id_spelled = spells id (omega (arith, ints, within.id.0)) (omega (arith, ints, within.id.1)) in
    let amount_spelled = spells row.amount (omega (arith, ints, within.amount.0))
    (omega (arith, ints, within.amount.1)) in (
      refl,
      (
        (refl, within.table),
        (
          (id_spelled, within.id),
          ((refl, within.title), ((refl, within.note), ((amount_spelled, within.amount), tt))),
        ),
      ),
    )
