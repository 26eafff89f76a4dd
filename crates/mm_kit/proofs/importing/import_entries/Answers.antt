use Rattle.std.proofs.Common.{inl, ◌≡◌, ◌≤◌, ◌<◌, ◌∙◌, ap, length, ℕ, Some, arith, refl, rules, sym}
use Rattle.std.proofs.lemmas.Result.{IfOk-weaker, IfErr-weaker}
use Rattle.mm_kit.proofs.FolderFacts.{as_before, asked-ended, asked-tells, asked_fault, desk_fault, fails-tells}
use Rattle.mm_kit.proofs.FolderFacts.{never_so, staged-tells, still_told, works}
use Rattle.mm_kit.proofs.KitFacts.{counted_as_it_was, imported_longer, imported_none, imported_open, imported_published}
use Rattle.mm_kit.proofs.KitFacts.{staged_at_once}
use Rattle.mm_kit.proofs.KeptFacts.{keeps_itself}
use Rattle.mm_kit.proofs.Since.{are_staged_eased, asked_keeps, kept_eased, may_be_staged_eased, staged_on_eased}
use Rattle.mm_kit.proofs.Since.{stands_open, still_kept_eased}
use Rattle.mm_run.specs.Sessions.{shown_since}
use Rattle.mm_run.proofs.Since.{since}
use Rattle.mm_kit.proofs.importing.import_entries.Goals as goal

pub stage_all-requires-clause-working : goal.stage_all-requires-clause-working
stage_all-requires-clause-working g c = c.in-Ok-Some-Open.ensures.same ∙ works _ _ c.in-Ok-Some-Open.ensures.ended

pub returns-else-records-pieces : goal.returns-else-records-pieces
returns-else-records-pieces g c =
    let fits : (n : ℕ) → n ≡ c.in-Ok-Some-Open.pieces
    → n ≤ length c.args.entries.items =
    λ n size. omega (arith, size, c.if-records-pieces.false, c.len-records.ensures) in
    let asked = c.in-Ok-Some-Open.ensures in
    let A = g.A.Apply in
    let name = c.args.name.now in
    let old = c.args.editor.now in
    let mid = c.edition.new.self in
    let new = c.stage_all.new.editor in
    let stands = stands_open A (A.is_clean mid) old mid name c.in-Ok-Some-Open.pieces _
    (c.in-Ok-Some-Open.field-0-is ∙ ap Some c.in-Ok-Some-Open.field-0-0-is) asked.settled asked.tells in
    let r = c.stage_all.result in
    record {
      clean = λ clean. asked.clean (c.stage_all.ensures.clean clean);
      answered =
          IfOk-weaker r _ _ (λ a made clean p sound these tells.
          let (pieces, has, size, next) = stands (c.stage_all.ensures.clean clean) p sound in
          let most : length pieces ≤ length c.args.entries.items = fits (length pieces) size in
          imported_open these name p c.args.entries.items (shown_since A old p new).settled pieces has most a
          (are_staged_eased (shown_since A mid p new) (shown_since A old p new) (since A old p mid p next.0 new) these
          name c.args.entries.items p pieces a
          (made clean p (next.0.0, next.1) these tells pieces has most)))
          c.stage_all.ensures.answered;
      stopped =
          IfErr-weaker r _ _ (λ e made clean p sound these tells.
          let (pieces, has, size, next) = stands (c.stage_all.ensures.clean clean) p sound in
          may_be_staged_eased (shown_since A mid p new) (shown_since A old p new) (since A old p mid p next.0 new) these
          name c.args.entries.items p e.staged
          (made clean p (next.0.0, next.1) these tells pieces has))
          c.stage_all.ensures.stopped;
      works =
          IfErr-weaker r _ _ (λ e made clean p sound these tells same.
          let (pieces, has, size, next) = stands (c.stage_all.ensures.clean clean) p sound in
          staged_on_eased (shown_since A mid p new) (shown_since A old p new) (since A old p mid p next.0 new) these
          name c.args.entries.items p e.staged
          (made clean p (next.0.0, next.1) these tells pieces has (same ∙ sym asked.same)))
          c.stage_all.ensures.works;
      session = staged-tells r _ _ _ (works _ _ asked.ended) c.stage_all.ensures.session c.stage_all.ensures.fault;
      kept = λ clean p sound.
          let (pieces, has, size, next) = stands (c.stage_all.ensures.clean clean) p sound in
          kept_eased (shown_since A mid p new) (shown_since A old p new) (since A old p mid p next.0 new) name p r
          (c.stage_all.ensures.kept clean p (next.0.0, next.1) pieces has);
      still_kept =
          IfErr-weaker r _ _ (λ e made clean p sound same.
          let (pieces, has, size, next) = stands (c.stage_all.ensures.clean clean) p sound in
          still_kept_eased (shown_since A mid p new) (shown_since A old p new) (since A old p mid p next.0 new) name p
          (made clean p (next.0.0, next.1) pieces has (same ∙ sym asked.same)))
          c.stage_all.ensures.still_kept;
      ended = never_so _ (works _ _ asked.ended);
      folder = c.stage_all.ensures.folder;
      why = c.stage_all.ensures.why;
    }

pub returns-then-records-pieces : goal.returns-then-records-pieces
returns-then-records-pieces g c =
    let asked = c.in-Ok-Some-Open.ensures in
    let keeps = asked_keeps g.A.Apply (g.A.Apply.is_clean c.edition.new.self) c.args.editor.now c.edition.new.self
    asked.settled in
    let says = rw (c.in-Ok-Some-Open.field-0-is, c.in-Ok-Some-Open.field-0-0-is) at asked.tells in
    record {
      clean = asked.clean;
      answered = λ clean p sound these tells.
          let told = says clean p sound.0 sound.1 in
          let less : length c.args.entries.items < c.in-Ok-Some-Open.pieces =
          omega (arith, c.if-records-pieces.true, c.len-records.ensures) in
          let size : c.args.entries.len ≡ length c.args.entries.items = search rules in
          rw (c.len-records.ensures, size)
          (imported_longer these _ p c.args.entries.items _ _ told less (keeps clean p sound));
      stopped = tt;
      works = tt;
      session = asked-tells _ _ _ (works _ _ asked.ended) asked.same;
      kept = λ clean p sound. (p, keeps clean p sound, keeps_itself c.args.name.now p);
      still_kept = tt;
      ended = never_so _ (works _ _ asked.ended);
      folder = sym (as_before _);
      why = tt;
    }

pub returns-in-Ok-Some-Published : goal.returns-in-Ok-Some-Published
returns-in-Ok-Some-Published g c =
    let asked = c.in-Ok-Some-Published.ensures in
    let keeps = asked_keeps g.A.Apply (g.A.Apply.is_clean c.edition.new.self) c.args.editor.now c.edition.new.self
    asked.settled in
    let says = rw (c.in-Ok-Some-Published.field-0-is, c.in-Ok-Some-Published.field-0-0-is) at asked.tells in
    record {
      clean = asked.clean;
      answered = λ clean p sound these tells.
          let told = says clean p sound.0 sound.1 in
          imported_published these _ p c.args.entries.items _ told (keeps clean p sound);
      stopped = tt;
      works = tt;
      session = asked-tells _ _ _ (works _ _ asked.ended) asked.same;
      kept = λ clean p sound. (p, keeps clean p sound, keeps_itself c.args.name.now p);
      still_kept = tt;
      ended = never_so _ (works _ _ asked.ended);
      folder = sym (as_before _);
      why = tt;
    }

pub returns-in-Ok-None : goal.returns-in-Ok-None
returns-in-Ok-None g c =
    let asked = c.in-Ok-None.ensures in
    let keeps = asked_keeps g.A.Apply (g.A.Apply.is_clean c.edition.new.self) c.args.editor.now c.edition.new.self
    asked.settled in
    let says = rw c.in-Ok-None.field-0-is at asked.tells in
    record {
      clean = asked.clean;
      answered = λ clean p sound these tells.
          let told = says clean p sound.0 sound.1 in
          imported_none these _ p c.args.entries.items _ told (keeps clean p sound);
      stopped = tt;
      works = tt;
      session = asked-tells _ _ _ (works _ _ asked.ended) asked.same;
      kept = λ clean p sound. (p, keeps clean p sound, keeps_itself c.args.name.now p);
      still_kept = tt;
      ended = never_so _ (works _ _ asked.ended);
      folder = sym (as_before _);
      why = tt;
    }

pub returns-in-Err : goal.returns-in-Err
returns-in-Err g c =
    let asked = c.in-Err.ensures in
    let keeps = asked_keeps g.A.Apply (g.A.Apply.is_clean c.edition.new.self) c.args.editor.now c.edition.new.self
    asked.settled in
    record {
      clean = asked.clean;
      answered = tt;
      stopped = λ clean p sound these tells.
          let settled = (keeps clean p sound).0 in
          staged_at_once these c.args.name.now p c.args.entries.items (g.A.Apply.may_leave c.edition.new.self)
          (shown_since g.A.Apply c.args.editor.now p c.edition.new.self).stands_for sound.1 settled.1;
      works = λ clean p sound these tells same. (p, keeps clean p sound, inl refl, counted_as_it_was c.args.name.now p);
      session = fails-tells c.in-Err.fault _ _ _ asked.ended asked.faults asked.same;
      kept = λ clean p sound db may.
          let settled = (keeps clean p sound).0 in
          (p, settled.1 db may, sound.1, keeps_itself c.args.name.now p);
      still_kept = λ clean p sound same. (p, keeps clean p sound, keeps_itself c.args.name.now p);
      ended = asked-ended c.in-Err.fault _ _ asked.ended;
      folder = still_told _ _ c.in-Err.fault.0 (asked_fault c.in-Err.fault _ _ asked.ended asked.faults) refl;
      why = desk_fault c.in-Err.fault.0 (asked_fault c.in-Err.fault _ _ asked.ended asked.faults);
    }
