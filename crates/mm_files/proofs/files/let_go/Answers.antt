use Rattle.mm_files.proofs.Kept.{kept_as_it_is}
use Rattle.mm_files.proofs.files.let_go.Goals as goal

pub returns : goal.returns
returns g c =
    kept_as_it_is c.args.conn c.into_store.result _ c.close.ensures c.into_store.ensures.numbered
    c.into_store.ensures.sound c.into_store.ensures.quiet
