use Rattle.std.proofs.Common.{refl, sym, ◌∙◌}
use Rattle.mm_store.proofs.Going.{goes_as, next_change, failed}
use Rattle.mm_layout.proofs.contents.touch.Goals as goal

pub returns-then-not-branch : goal.returns-then-not-branch
returns-then-not-branch g c = rw (← c.as_str-table.ensures.text) (rw c.refused.ensures
    (record {
      goes = goes_as c.in_ok-has_table.ensures (λ profile p when says. (refl, (sym says ∙ c.if-not-branch.true, refl)));
    }))

pub returns-in_err-has_table : goal.returns-in_err-has_table
returns-in_err-has_table g c = record { goes = failed c.in_err-has_table.ensures c.from_residual.ensures.1 }

pub returns : goal.returns
returns g c = rw (← c.as_str-table.ensures.text)
    (record {
      goes = goes_as (next_change c.in_ok-has_table.ensures c.in_ok-set_last_change.ensures)
          (λ profile p when says. (refl, sym says ∙ c.if-not-branch.false));
    })

pub returns-in_err-set_last_change : goal.returns-in_err-set_last_change
returns-in_err-set_last_change g c =
    record {
      goes = failed
          (next_change c.in_ok-has_table.ensures c.in_err-set_last_change.ensures)
          c.from_residual-in_err-set_last_change.ensures.1;
    }
