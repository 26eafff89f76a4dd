use Rattle.mm_edition.proofs.running.run_matrix.Goals as goal

pub returns : goal.returns
returns g c bytes =
    let lent = rw c.get.ensures.number at c.add_matrix.ensures in
    rw c.in-Matrix.is lent
