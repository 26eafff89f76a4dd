use Rattle.std.proofs.Common.{◌∙◌, inl, inr, subst, sym, Ok, Err, ap, refl}
use Rattle.std.specs.Prelude.{◌||◌}
use Rattle.std.proofs.lemmas.Result.{IfOk-weaker, IfErr-weaker}
use Rattle.mm_kit.specs.Lists.{IsKitList}
use Rattle.mm_kit.proofs.KitFacts.{counted_as_it_was, imported, no_kit, stopped_at_once, stopped_some, works_some}
use Rattle.mm_kit.proofs.KeptFacts.{keeps_itself}
use Rattle.mm_run.specs.Sessions.{shown_since}
use Rattle.mm_run.proofs.Since.{begins}
use Rattle.mm_kit.specs.Imports.{ImportEnded, is_folders}
use Rattle.mm_kit.proofs.FolderFacts.{as_before, folder-ended, folder-tells, folder_no_92, kit_fault, told, where_told}
use Rattle.mm_kit.proofs.importing.import_kit.Goals as goal

pub returns-in-Entries : goal.returns-in-Entries
returns-in-Entries g c =
    let found = c.in-Ok.ensures in
    let r = c.import_entries.result in
    let new = c.import_entries.new.editor in
    record {
      clean = c.import_entries.ensures.clean;
      seen = record {
        answered =
            IfOk-weaker r _ _ (λ answer made clean p sound these tells.
            let is : IsKitList these (Ok c.in-Entries.entries.items) =
            rw c.in-Entries.is at (found.lists these tells) in
            imported these c.args.name.now p _ answer _ is (made clean p sound these (found.stays ∙ tells)))
            c.import_entries.ensures.answered;
        stopped =
            IfErr-weaker r _ _ (λ e made clean p sound these tells.
            let is : IsKitList these (Ok c.in-Entries.entries.items) =
            rw c.in-Entries.is at (found.lists these tells) in
            stopped_some these c.args.name.now p _ _ (shown_since g.A.Apply c.args.editor.now p new).stands_for e.staged
            is
            (made clean p sound these (found.stays ∙ tells)))
            c.import_entries.ensures.stopped;
        works =
            IfErr-weaker r _ _ (λ e made clean p sound these tells same.
            let is : IsKitList these (Ok c.in-Entries.entries.items) =
            rw c.in-Entries.is at (found.lists these tells) in
            works_some these c.args.name.now p _ _ e.staged is (made clean p sound these (found.stays ∙ tells) same))
            c.import_entries.ensures.works;
        kept = c.import_entries.ensures.kept;
        still_kept = c.import_entries.ensures.still_kept;
      };
      session = c.import_entries.ensures.session;
      ended = λ was.
          subst (ImportEnded (g.F.Folder.files c.args.folder.now)) (sym (c.import_entries.ensures.ended was)) (
            refl,
            inr (inr (
              refl,
              λ these tells.
                  (c.in-Entries.entries.items, rw c.in-Entries.is at (found.lists these tells)),
            )),
          );
      needed = IfErr-weaker r _ _ (λ e _ is these tells.
          (c.in-Entries.entries.items, rw c.in-Entries.is at (found.lists these tells))) c.import_entries.ensures.why;
      folder = c.import_entries.ensures.folder ∙ ap (λ b. b || is_folders r) (found.fails ∙ as_before _);
      why = c.import_entries.ensures.why;
    }

pub returns-in-Refused : goal.returns-in-Refused
returns-in-Refused g c =
    let here = c.args.editor.now in
    record {
      clean = λ clean. clean;
      seen = record {
        answered = λ clean p sound these tells.
            let is : IsKitList these (Err (c.in-Refused.piece, c.in-Refused.number)) =
            rw c.in-Refused.is at (c.in-Ok.ensures.lists these tells) in
            no_kit these c.args.name.now p c.in-Refused.piece c.in-Refused.number _ is (begins g.A.Apply here p sound);
        stopped = tt;
        works = tt;
        kept = λ clean p sound. (p, begins g.A.Apply here p sound, keeps_itself c.args.name.now p);
        still_kept = tt;
      };
      session = (refl, λ was. refl);
      ended = λ was. where_told _ _ (λ these tells. rw c.in-Refused.is at (c.in-Ok.ensures.lists these tells));
      needed = tt;
      folder = c.in-Ok.ensures.fails;
      why = tt;
    }

pub returns-in-Err : goal.returns-in-Err
returns-in-Err g c =
    let here = c.args.editor.now in
    record {
      clean = λ clean. clean;
      seen = record {
        answered = tt;
        stopped = λ clean p sound these tells.
            stopped_at_once these c.args.name.now p (g.A.Apply.may_leave here)
            (shown_since g.A.Apply here p here).stands_for sound.1
            (begins g.A.Apply here p sound).0.1;
        works = λ clean p sound these tells same.
            (p, begins g.A.Apply here p sound, inl refl, counted_as_it_was c.args.name.now p);
        kept = λ clean p sound db may. (
          p,
          (begins g.A.Apply here p sound).0.1 db may,
          sound.1,
          keeps_itself
              c.args.name.now p,
        );
        still_kept = λ clean p sound same. (p, begins g.A.Apply here p sound, keeps_itself c.args.name.now p);
      };
      session = folder-tells c.in-Err.fault c.folder_fault.result c.folder_fault.ensures _ _ refl;
      ended = λ was. folder-ended c.in-Err.fault c.folder_fault.result _ c.folder_fault.ensures;
      needed = λ is. absurd (folder_no_92 c.in-Err.fault _ c.folder_fault.ensures is);
      folder = told _ _ c.in-Err.fault _ c.folder_fault.ensures c.in-Err.ensures.fails;
      why = kit_fault c.in-Err.fault _ c.folder_fault.ensures;
    }
