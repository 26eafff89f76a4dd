use Rattle.std.proofs.Common.{rules, Err, inr, refl, subst, sym}
use Rattle.mm_definitions.specs.Bounds.{IsName}
use Rattle.mm_definitions.specs.Streams.{written}
use Rattle.mm_work.specs.Told.{IsTold}
use Rattle.mm_work.specs.declared.stop.Stop.TheVariants as stops
use Rattle.mm_program.specs.Told.{import_status, import_text}
use Rattle.mm_program.proofs.kits.import_and_tell.Goals as goal

pub returns-in-Unread-clause-told : goal.returns-in-Unread-clause-told
returns-in-Unread-clause-told g c =
    let named : IsName c.args.edition.now = search rules in
    inr (inr (
      named,
      Err (stops.Fault (record { 0 = 96 })),
      c.tell_stop.ensures.told,
      (stops.Fault (record { 0 = 96 }), refl, inr (inr refl)),
    ))

pub returns-in-Ok-clause-told : goal.returns-in-Ok-clause-told
returns-in-Ok-clause-told g c =
    let named : IsName c.args.edition.now = search rules in
    let old = written g.W.Write.contents c.args.output.now in
    let new = written g.W.Write.contents c.tell_import.new.output in
    inr (inr (
      named,
      c.import_file-done.result.0,
      subst (λ o. IsTold old new (import_text o) (import_status o) c.tell_import.result) (sym c.in-Ok.is)
          c.tell_import.ensures.told,
      rw (← c.in-Some.ensures.value) c.import_file-done.ensures,
    ))

pub returns-in-Err-clause-told : goal.returns-in-Err-clause-told
returns-in-Err-clause-told g c =
    let named : IsName c.args.edition.now = search rules in
    let old = written g.W.Write.contents c.args.output.now in
    let new = written g.W.Write.contents c.tell_stop-in-Err.new.output in
    inr (inr (
      named,
      c.import_file-done.result.0,
      subst (λ o. IsTold old new (import_text o) (import_status o) c.tell_stop-in-Err.result) (sym c.in-Err.is)
          c.tell_stop-in-Err.ensures.told,
      rw (← c.in-Some.ensures.value) c.import_file-done.ensures,
    ))
