use Rattle.std.proofs.Common.{rules}
use Rattle.std.proofs.lemmas.Result.{err_from_is_err_and}
use Rattle.mm_store.proofs.Asking.{some_asked, fault_asked}
use Rattle.mm_store.proofs.statements.exists.Goals as goal

pub returns : goal.returns
returns g c = record {
  same = search rules;
  asked = some_asked _ _ _ _ c.in_ok-row.row c.is_some.result c.is_some.ensures c.in_ok-row.ensures.asked;
  failed = λ clean. tt;
}

pub returns-in_err-row : goal.returns-in_err-row
returns-in_err-row g c = record {
  same = search rules;
  asked =
      let p = err_from_is_err_and c.from_residual.result c.from_residual.ensures.1 in
      rw (p.1, p.2) (fault_asked _ _ _ _ _ c.in_err-row.ensures.asked _);
  failed =
      let p = err_from_is_err_and c.from_residual.result c.from_residual.ensures.1 in
      rw (p.1, p.2) c.in_err-row.ensures.failed;
}
