use Rattle.std.proofs.Common.{◌≡◌, ◌≤◌, ◌<◌, ◌+◌, ◌∙◌, inl, inr, length, List, [], ◌∷◌, ◌++◌, Ok, ℕ, sym, ap, subst}
use Rattle.std.proofs.Common.{refl, arith, rules, append_assoc, append-nil, length-append}
use Rattle.std.specs.Prelude.{◌||◌, ◌==◌, false, None, Some, Err}
use Rattle.std.specs.Vec.Iter.{into_iter_items}
use Rattle.mm_run.specs.Applied.{IsSound}
use Rattle.mm_run.specs.Sessions.{shown_since}
use Rattle.mm_run.proofs.Since.{begins}
use Rattle.mm_definitions.specs.Package.{Package}
use Rattle.mm_kit.specs.Imports.{IsImportedSoFar, IsPassedBy}
use Rattle.mm_kit.proofs.StageFacts.{counted, counted_all, fills, grows, left_in_doubt, has_whole, refused_at}
use Rattle.mm_kit.proofs.StageFacts.{so_far-none, staged-more}
use Rattle.mm_kit.proofs.FolderFacts.{as_before, never_so}
use Rattle.mm_kit.proofs.Since.{entry_since}
use Rattle.mm_kit.proofs.KeptFacts.{kept, kept_in_doubt, passed-staged, passed_by-none}
use Rattle.mm_kit.proofs.staging.stage_all.Goals as goal

nothing_left : {X : Type 0} (l : List X) → length l ≡ 0 → l ≡ []
nothing_left [] h = refl
nothing_left (x ∷ xs) h = absurd (omega (arith, h))

inside : {X : Type 0} (front : List X) (e : X) (back all : List X) → front ++ e ∷ back ≡ all → length all ≤ 4096
    → length front < 4096
inside front e back all same most = omega (arith, most, ap length same, length-append front (e ∷ back))

one_more : {X : Type 0} (l : List X) (e : X) (P : ℕ → Type 0) → P (length l + 1) → P (length (l ++ e ∷ []))
one_more l e P h = subst P (sym (length-append l (e ∷ []))) h

pub loop-entry-init : goal.loop-entry-init
loop-entry-init g c =
    let A = g.A.Apply in
    let first = c.args.editor.now in
    let gives : into_iter_items c.into_iter-entry-iterator.result ≡ c.args.entries.items = search rules in
    record {
      can_next = tt;
      finite = tt;
      count = refl;
      items = gives;
      len = search rules;
      clean = λ h. h;
      working = c.requires.working;
      folder = refl;
      files = refl;
      kept = λ clean p sound old before. (p, begins A first p sound, passed_by-none c.args.edition.now p old before);
      so_far = λ clean p sound these tells old before.
          (p, begins A first p sound, rw gives (so_far-none these _ c.args.entries.items p old));
    }

pub loop-entry-preserved : goal.loop-entry-preserved
loop-entry-preserved g c =
    let at = c.loop-entry in
    let A = g.A.Apply in
    let first = c.args.editor.now in
    let new = c.stage_entry.new.editor in
    let steps : into_iter_items at.entry-iterator ≡ c.in-Some.entry
    ∷ into_iter_items c.next.new.self = c.in-Some.ensures.steps.0 in
    let gone = c.in-Some.ensures.steps.1 in
    let less : length at.yielded < 4096 = inside _ _ _ _ (rw steps at at.invariant.items) c.requires.few in
    let staged = entry_since A first at.editor new (g.F.Folder.files at.folder) c.in-Some.entry c.args.edition.now
    (length at.yielded + 1)
    c.args.at (Ok None) (A.is_clean new)
    (rw (c.in-Ok-None.field-0-is, at.invariant.count) at c.in-Ok-None.ensures.staged) in
    record {
      can_next = tt;
      finite = tt;
      count = omega (arith, at.invariant.count, length-append at.yielded (c.in-Some.entry ∷ []));
      items = append_assoc at.yielded (c.in-Some.entry ∷ []) _ ∙ rw (← steps) at.invariant.items;
      len = omega (arith, at.invariant.len, ap length steps, gone);
      clean = λ h. at.invariant.clean (c.stage_entry.ensures.clean h);
      working = c.in-Ok-None.ensures.works;
      folder = c.in-Ok-None.ensures.folder ∙ as_before _ ∙ at.invariant.folder;
      files = c.stage_entry.ensures.stays ∙ at.invariant.files;
      kept = λ clean p sound old before.
          let (q, stands, here) = at.invariant.kept (c.stage_entry.ensures.clean clean) p sound old before in
          one_more at.yielded c.in-Some.entry (λ k. (r : Package) × IsSound (shown_since A first p new).settled r
          × IsPassedBy k c.args.edition.now p old r)
          (passed-staged (shown_since A first p new) _ c.in-Some.entry c.args.edition.now p q old (length at.yielded)
          stands.1 less here c.args.at (staged p clean q stands));
      so_far = λ clean p sound these tells old before.
          let (q, stands, here) = at.invariant.so_far (c.stage_entry.ensures.clean clean) p sound these tells old
          before in
          one_more at.yielded c.in-Some.entry
          (λ k. (r : Package) × IsSound (shown_since A first p new).settled r
          × IsImportedSoFar these c.args.edition.now c.args.entries.items (into_iter_items c.next.new.self) p old k r)
          (staged-more these c.args.edition.now c.args.entries.items p old before (shown_since A first p new)
          (into_iter_items c.next.new.self) c.in-Some.entry (length at.yielded) q (rw steps at here) less
          stands.1 _ (at.invariant.files ∙ tells) c.args.at (staged p clean q stands));
    }

pub returns-in-Ok-Some : goal.returns-in-Ok-Some
returns-in-Ok-Some g c =
    let at = c.loop-entry in
    let A = g.A.Apply in
    let first = c.args.editor.now in
    let new = c.stage_entry.new.editor in
    let steps : into_iter_items at.entry-iterator ≡ c.in-Some.entry
    ∷ into_iter_items c.next.new.self = c.in-Some.ensures.steps.0 in
    let less : length at.yielded < 4096 = inside _ _ _ _ (rw steps at at.invariant.items) c.requires.few in
    let refused = entry_since A first at.editor new (g.F.Folder.files at.folder) c.in-Some.entry c.args.edition.now
    (length at.yielded + 1)
    c.args.at (Ok (Some c.in-Ok-Some.number)) (A.is_clean new)
    (rw (c.in-Ok-Some.field-0-is, at.invariant.count) at c.in-Ok-Some.ensures.staged) in
    record {
      clean = λ h. at.invariant.clean (c.stage_entry.ensures.clean h);
      answered = λ clean p sound these tells old before most.
          let (q, stands, here) = at.invariant.so_far (c.stage_entry.ensures.clean clean) p sound these tells old
          before in
          let so = rw steps at here in
          let (next, why) = refused p clean q stands in
          let (answer, has) = refused_at these c.args.edition.now c.args.entries.items p old before _ c.in-Some.entry
          (length at.yielded) c.in-Ok-Some.number q so less stands.1 _ (at.invariant.files ∙ tells) why in
          record {
            answer_is = rw (answer, at.invariant.count) refl;
            next = q;
            sound = next;
            grows = grows these _ _ p old before _ _ q so;
            has = has;
          };
      stopped = tt;
      works = tt;
      session = c.in-Ok-Some.ensures.works;
      fault = tt;
      kept = λ clean p sound old before.
          let (q, stands, here) = at.invariant.kept (c.stage_entry.ensures.clean clean) p sound old before in
          let (next, why) = refused p clean q stands in
          (q, next, kept _ c.args.edition.now p old q before here);
      still_kept = tt;
      folder = c.in-Ok-Some.ensures.folder ∙ ap (λ b. b || false) at.invariant.folder;
      why = tt;
    }

pub returns-in-Err : goal.returns-in-Err
returns-in-Err g c =
    let at = c.loop-entry in
    let A = g.A.Apply in
    let first = c.args.editor.now in
    let new = c.stage_entry.new.editor in
    let steps : into_iter_items at.entry-iterator ≡ c.in-Some.entry
    ∷ into_iter_items c.next.new.self = c.in-Some.ensures.steps.0 in
    let less : length at.yielded < 4096 = inside _ _ _ _ (rw steps at at.invariant.items) c.requires.few in
    let stopped = entry_since A first at.editor new (g.F.Folder.files at.folder) c.in-Some.entry c.args.edition.now
    (length at.yielded + 1)
    c.args.at (Err c.in-Err.fault) (A.is_clean new) (rw at.invariant.count at c.in-Err.ensures.staged) in
    record {
      clean = λ h. at.invariant.clean (c.stage_entry.ensures.clean h);
      answered = tt;
      stopped = λ clean p sound these tells old before db may.
          let (q, stands, here) = at.invariant.so_far (c.stage_entry.ensures.clean clean) p sound these tells old
          before in
          let so = rw steps at here in
          rw at.invariant.count (elim (stopped p clean q stands) [
            | inl works ↦ (
              q,
              works.0.0.1 db may,
              stands.1,
              grows these _ _ p old before _ _ q so,
              counted these _ _ p old before _ _ q so,
            )
            | inr doubt ↦
                left_in_doubt these _ _ p old before (shown_since A first p new).stands_for db _ _ doubt.1 _ q so
                (fills these _ c.in-Some.entry (Ok doubt.1) (at.invariant.files ∙ tells) doubt.2) less stands.1
                c.args.at doubt.3 (doubt.4 db may)
          ]);
      works = λ clean p sound these tells old before same.
          let (q, stands, here) = at.invariant.so_far (c.stage_entry.ensures.clean clean) p sound these tells old
          before in
          let so = rw steps at here in
          elim (stopped p clean q stands) [
            | inl works ↦ (
              q,
              works.0,
              grows these _ _ p old before _ _ q so,
              rw at.invariant.count
                  (counted_all these _ _ p old before _ _ q so),
            )
            | inr doubt ↦ never_so _ (same ∙ c.requires.working) doubt.0
          ];
      session = tt;
      fault = c.in-Err.ensures.fault;
      kept = λ clean p sound old before db may.
          let (q, stands, here) = at.invariant.kept (c.stage_entry.ensures.clean clean) p sound old before in
          elim (stopped p clean q stands) [
            | inl works ↦ (q, works.0.0.1 db may, stands.1, kept _ c.args.edition.now p old q before here)
            | inr doubt ↦ kept_in_doubt c.args.edition.now p q old stands.1 doubt.1 (length at.yielded)
                (shown_since A first p new).stands_for db before less here c.args.at doubt.3 (doubt.4 db may)
          ];
      still_kept = λ clean p sound old before same.
          let (q, stands, here) = at.invariant.kept (c.stage_entry.ensures.clean clean) p sound old before in
          elim (stopped p clean q stands) [
            | inl works ↦ (q, works.0, kept _ c.args.edition.now p old q before here)
            | inr doubt ↦ never_so _ (same ∙ c.requires.working) doubt.0
          ];
      folder = c.in-Err.ensures.folder ∙ ap (λ b. b || (c.in-Err.fault.0 == 96)) at.invariant.folder;
      why = c.in-Err.ensures.why;
    }

pub returns : goal.returns
returns g c =
    let at = c.loop-entry in
    let none = c.in-None.ensures.steps in
    let empty : into_iter_items at.entry-iterator ≡ [] = nothing_left _ (sym at.invariant.len ∙ none.0) in
    let all : length at.yielded ≡ length c.args.entries.items =
    ap length (sym (append-nil at.yielded) ∙ rw empty at at.invariant.items) in
    record {
      clean = at.invariant.clean;
      answered = λ clean p sound these tells old before most.
          let (q, stands, here) = at.invariant.so_far clean p sound these tells old before in
          let (first, whole) = has_whole these _ _ p old before _ q (rw empty at here) (omega (arith, most, all)) in
          record {
            answer_is = rw (first, at.invariant.count, all) refl;
            next = q;
            sound = stands;
            grows = grows these _ _ p old before _ _ q here;
            has = rw at.invariant.count whole;
          };
      stopped = tt;
      works = tt;
      session = at.invariant.working;
      fault = tt;
      kept = λ clean p sound old before.
          let (q, stands, here) = at.invariant.kept clean p sound old before in
          (q, stands, kept _ c.args.edition.now p old q before here);
      still_kept = tt;
      folder = at.invariant.folder ∙ sym (as_before _);
      why = tt;
    }
