use Rattle.mm_files.proofs.Nothing.{nothing_found}
use Rattle.mm_files.proofs.Unbegun.{unbegun}
use Rattle.mm_files.proofs.files.on_file.Goals as goal

pub returns-in-Err-clause-unworked : goal.returns-in-Err-clause-unworked
returns-in-Err-clause-unworked g c =
    let e = c.in-Err.ensures in unbegun _ _ _ _ _ _ _ _ _ _ _ e.begun e.why e.bytes e.left

pub returns-in-Ok-work_and_close-clause-worked : goal.returns-in-Ok-work_and_close-clause-worked
returns-in-Ok-work_and_close-clause-worked g c =
    let k = c.in-Ok-work_and_close.ensures.worked in
    record {
      came = c.in-Ok-work_and_close.ensures.done;
      there = c.in-Ok.ensures.path;
      bare = λ none clean. c.in-Ok.ensures.bare none (k.was_clean clean);
      worked = λ clean.
          let found = c.in-Ok.ensures.found (k.was_clean clean) in (
            _,
            record { holds = found.holds; reads = found.reads; nothing = λ none. nothing_found _ _ none found.reads },
            k.told clean,
            k.left clean,
          );
    }

pub returns-in-Err-work_and_close-clause-unworked : goal.returns-in-Err-work_and_close-clause-unworked
returns-in-Err-work_and_close-clause-unworked g c =
    let e = c.in-Err-work_and_close.ensures in
    let k = e.ended in
    record {
      why = e.fault;
      stand = tt;
      left = c.in-Ok.ensures.path;
      unclosed = (
        k.done,
        k.ended,
        λ clean.
            let found = c.in-Ok.ensures.found (k.was_clean clean) in (
              _,
              record { holds = found.holds; reads = found.reads; nothing = λ none. nothing_found _ _ none found.reads },
              k.told clean,
              k.left clean,
            ),
      );
      unprinted = tt;
      untold = e.untold;
    }
