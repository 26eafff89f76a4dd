use Rattle.std.proofs.Common.{◌≡◌, refl, rules, w64, to_z, of_z, to_z-of_z}
use Rattle.mm_content.proofs.Giving.{writes, writes_not, writes_nothing}
use Rattle.mm_content.proofs.tiles.write_tile.Goals as goal

pub returns-then-is_empty : goal.returns-then-is_empty
returns-then-is_empty g c = writes_nothing

pub returns : goal.returns
returns g c =
    let back : to_z w64 (of_z w64 c.in_ok-blob.blob) ≡ c.in_ok-blob.blob = search (rules, to_z-of_z) in
    writes c.in_ok-blob.ensures (rw (back) at c.give_tile.ensures) (λ p. refl)

pub returns-in_err-blob : goal.returns-in_err-blob
returns-in_err-blob g c = writes_not c.in_err-blob.ensures c.from_residual.ensures.1
