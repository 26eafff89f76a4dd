use Rattle.std.proofs.Common.{refl, rules, w64}
use Rattle.std.proofs.lemmas.Int.{to_z-of_z}
use mir.Val.{SFits}
use Rattle.mm_layout.proofs.Lending.{at_any}
use Rattle.mm_core.proofs.dispatching.lay_out.Goals as goal

pub returns-in-Srs : goal.returns-in-Srs
returns-in-Srs g c =
    let id_fits : SFits w64 c.get.result = search rules in
    let organization_fits : SFits w64 c.get-in-Srs.result = search rules in
    let lent = simp to_z-of_z at (rw (
      c.as_str.ensures.text,
      c.as_str-in-Srs.ensures.text,
      c.as_str-in-Srs-2.ensures.text,
      c.as_str-in-Srs-3.ensures.text,
    ) at c.add_srs.ensures) in
    rw c.in-Srs.is (at_any (rw (c.get.ensures.number, c.get-in-Srs.ensures.number) at lent) (λ p. refl))

pub returns-in-Table : goal.returns-in-Table
returns-in-Table g c =
    let lent = rw c.as_str-in-Table.ensures.text at c.add_table.ensures in
    rw c.in-Table.is lent

pub returns-in-Drop : goal.returns-in-Drop
returns-in-Drop g c =
    rw c.in-Drop.is (at_any c.drop_table.ensures (λ p. refl))
