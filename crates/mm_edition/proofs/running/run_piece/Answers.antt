use Rattle.mm_edition.proofs.Lending.{lends_anywhere, unstamped_anywhere}
use Rattle.mm_edition.proofs.running.run_piece.Goals as goal

pub returns-in-Map : goal.returns-in-Map
returns-in-Map g c = unstamped_anywhere c.run_mapping.ensures

pub returns-in-Matrix : goal.returns-in-Matrix
returns-in-Matrix g c = lends_anywhere c.run_matrix.ensures
