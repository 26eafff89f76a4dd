use Rattle.mm_store.proofs.Going.{failed_where}
use Rattle.mm_store.proofs.Going.{changes_then}
use Rattle.mm_edition.proofs.publishing.close_edition.Goals as goal

pub returns : goal.returns
returns g c = changes_then c.in_ok-mark_published.ensures c.delete_pieces.ensures (λ p any. tt)

pub returns-in_err-mark_published : goal.returns-in_err-mark_published
returns-in_err-mark_published g c =
    failed_where c.in_err-mark_published.ensures c.from_residual.ensures.1 (λ profile p it. it)
