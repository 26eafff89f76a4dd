-- What an accepted publishing gives.
use Rattle.std.proofs.Common.{◌≡◌, ℕ, Bool, true, false, not, ◌&&◌, [], ◌∷◌, ◌++◌, Option, Some, None, Result, Ok}
use Rattle.std.proofs.Common.{Err, refl, sym, ap, subst, ◌∙◌, is_err, List, is_some, unsigned_abs}
use Rattle.std.specs.FinMap.{contains_key, get}
use Rattle.std.proofs.lemmas.Bool.{not-false}
use Rattle.mm_definitions.specs.Keys.{Text, same_text, PieceKey}
use Rattle.mm_definitions.specs.Parts.{Has, at_value}
use Rattle.mm_definitions.specs.Package.{Package, PieceRow, open_state, published_state}
use Rattle.mm_definitions.specs.Pieces.{row_piece}
use Rattle.mm_definitions.specs.Bounds.{Profile}
use Rattle.mm_definitions.specs.Rules.{Meets}
use Rattle.mm_definitions.specs.Stamp.{stamp}
use Rattle.mm_definitions.specs.Conditions.{Reasons, least, own_reasons, is_open}
use Rattle.mm_definitions.specs.Effects.{is_other}
use Rattle.mm_definitions.specs.Editions.{PieceRefusal, decided, piece_trial, after_trial, trial, edition_trial, closed}
use Rattle.mm_definitions.specs.Step.{reasons, publishing, is_publishing, refused_piece, refusal_of, refusal}
use Rattle.mm_definitions.specs.Step.{refusal_at, closed_by, done, unless_refused, step}
use Rattle.mm_definitions.specs.Refusals.{Refusal}
use Rattle.mm_definitions.specs.declared.commands.Command.{Command}
use Rattle.mm_definitions.specs.declared.commands.Command.TheVariants as commands
use Rattle.mm_definitions.proofs.Parts.{at_put, after_retain, same_itself, not_none, none_of}
use Rattle.mm_definitions.proofs.KeyLaws.{texts, piece_keys}
use Rattle.mm_laws.specs.Laws.{IsClosed, IsPublished, FirstRefused, IsNewEdition}
use Rattle.mm_laws.proofs.Reasons.{none_holds, and_false, stands_where}
use Rattle.mm_laws.proofs.Dropped.{other_tells}
use Rattle.mm_laws.proofs.Published.{same_ok}
use Rattle.mm_laws.proofs.AnyStamp.{any_stamp}

pub no_refusal : (v : Option ℕ) (piece : Option PieceRefusal) → refusal_of v piece ≡ None → v ≡ None
no_refusal None piece e = refl
no_refusal (Some n) piece e = absurd (let f : ◌≡◌ {A = Option Refusal} (Some _) None = e in cc)

unrefused : (v : Result Package PieceRefusal) → is_err v ≡ false → refused_piece v ≡ None
unrefused (Ok q) e = refl
unrefused (Err r) e = absurd (let f : true ≡ false = e in cc)

went_through : (v : Result Package PieceRefusal) → refused_piece v ≡ None → (q : Package) × (v ≡ Ok q)
went_through (Ok q) e = (q, refl)
went_through (Err r) e = absurd (let f : ◌≡◌ {A = Option PieceRefusal} (Some r) None = e in cc)

closed_is : (edition : Text) (p : Package) → IsClosed edition (closed edition p)
closed_is edition p = record {
  published = at_put texts p.editions edition published_state;
  no_pieces = λ k r e. other_tells edition k.edition
      (after_retain piece_keys p.pieces (λ (k : PieceKey). is_other edition k.edition) k r e).0;
}

-- where publishing is accepted, the trial goes through at any stamp
pub publish_went : (p : Package) (edition : Text) (moment : ℕ) → refusal p (commands.Publish edition) ≡ None
    → (q : Package) × (edition_trial p edition (stamp moment) ≡ Ok q)
publish_went p edition moment none =
    let r = none_holds (reasons p (commands.Publish edition))
    (no_refusal (least (reasons p (commands.Publish edition))) (refused_piece (edition_trial p edition [])) none) in
    let opened : is_open p edition ≡ true = stands_where (contains_key p.editions edition) (is_open p edition) r.1.0
    (not-false (contains_key p.editions edition) r.0) in
    let first : refused_piece (edition_trial p edition []) ≡ None = unrefused (edition_trial p edition [])
    (and_false (is_open p edition) (is_err (edition_trial p edition [])) r.1.1.0 opened) in
    went_through (edition_trial p edition (stamp moment)) (any_stamp p edition (stamp moment) [] ∙ first)

pub publish_closes : (p : Package) (edition : Text) (moment : ℕ) → refusal p (commands.Publish edition) ≡ None
    → IsPublished p edition moment (step p (commands.Publish edition) moment)
publish_closes p edition moment none =
    let found = publish_went p edition moment none in
    let next_is : step p (commands.Publish edition) moment ≡ closed edition found.0 =
    ap (λ v. unless_refused v (done p (commands.Publish edition) (stamp moment)) p) none
    ∙ ap (λ v. closed_by edition v p) found.1 in
    record {
      edited = found.0;
      accepted = found.1;
      next_is = next_is;
      closes = subst (IsClosed edition) (sym next_is) (closed_is edition found.0);
    }

same_err : {a b : PieceRefusal} → ◌≡◌ {A = Result Package PieceRefusal} (Err a) (Err b) → a ≡ b
same_err e = cc

-- the pieces before the first refused one give the package on which it is refused
trial_on : (before after : List (PieceKey × PieceRow)) (p q : Package) (stamp : Text) → trial before p stamp ≡ Ok q
    → trial (before ++ after) p stamp ≡ trial after q stamp
trial_on [] after p q stamp e = ap (λ x. trial after x stamp) (same_ok e)
trial_on (x ∷ xs) after p q stamp e = by_trial (piece_trial p (unsigned_abs x.0.number) stamp (row_piece x.1))
    (λ y f. trial_on xs after y q stamp f) e where
      by_trial : (v : Result Package PieceRefusal)
          → ((y : Package) → trial xs y stamp ≡ Ok q → trial (xs ++ after) y stamp ≡ trial after q stamp)
          → after_trial v (λ y. trial xs y stamp) ≡ Ok q → after_trial v (λ y. trial (xs ++ after) y stamp)
          ≡ trial after q stamp
      by_trial (Ok y) rest f = rest y f
      by_trial (Err r) rest f = absurd (let g : ◌≡◌ {A = Result Package PieceRefusal} (Err r) (Ok q) = f in cc)

refused_at : (p : Package) (edition : Text) (first : FirstRefused p edition)
    → edition_trial p edition [] ≡ Err (unsigned_abs first.key.number, first.reason)
refused_at p edition first =
    ap (λ es. trial es p []) first.are
    ∙ trial_on first.before ((first.key, first.row) ∷ first.after) p first.middle [] first.accepted
    ∙ ap (λ v. after_trial (piece_trial first.middle (unsigned_abs first.key.number) [] v)
    (λ y. trial first.after y [])) first.spells
    ∙ ap (λ v. after_trial (decided first.middle (unsigned_abs first.key.number) first.piece [] v)
    (λ y. trial first.after y [])) first.refused

abbrev some_refusal : PieceRefusal → Option Refusal
some_refusal x = Some (record { number = 53; piece = Some x })

by_tests : (stands opened : Bool) (v : Result Package PieceRefusal) (x : PieceRefusal) → stands ≡ true → opened ≡ true
    → v ≡ Err x
    → refusal_of (least ((51, not stands) ∷ (55, stands && not opened) ∷ (53, opened && is_err v) ∷ []))
    (refused_piece v) ≡ Some (record { number = 53; piece = Some x })
by_tests false opened v x e f g = absurd (let h : false ≡ true = e in cc)
by_tests true false v x e f g = absurd (let h : false ≡ true = f in cc)
by_tests true true (Ok q) x e f g = absurd (let h : ◌≡◌ {A = Result Package PieceRefusal} (Ok q) (Err x) = g in cc)
by_tests true true (Err y) x e f g = ap (λ (z : PieceRefusal). some_refusal z) (same_err g)

pub publish_refused : (p : Package) (edition : Text) (first : FirstRefused p edition)
    → Has p.editions edition open_state
    → refusal p (commands.Publish edition)
    ≡ Some (record { number = 53; piece = Some (unsigned_abs first.key.number, first.reason) })
publish_refused p edition first has =
    by_tests (contains_key p.editions edition) (is_open p edition) (edition_trial p edition [])
    (unsigned_abs first.key.number, first.reason)
    (ap is_some has) (ap (at_value (same_text open_state)) has ∙ same_itself texts open_state)
    (refused_at p edition first)

pub rehearse_same : (p : Package) (edition : Text) (moment : ℕ) → step p (commands.Rehearse edition) moment ≡ p
rehearse_same p edition moment = by_answer (refusal p (commands.Rehearse edition)) where
  by_answer : (v : Option Refusal) → unless_refused v p p ≡ p
  by_answer None = refl
  by_answer (Some r) = refl

-- whether a trial fails is told by whether it names a piece
err_is : (v w : Result Package PieceRefusal) → refused_piece v ≡ refused_piece w → is_err v ≡ is_err w
err_is (Ok p) (Ok q) e = refl
err_is (Ok p) (Err s) e = absurd (let f : ◌≡◌ {A = Option PieceRefusal} None (Some s) = e in cc)
err_is (Err r) (Ok q) e = absurd (let f : ◌≡◌ {A = Option PieceRefusal} (Some r) None = e in cc)
err_is (Err r) (Err s) e = refl

alike : (rs : Reasons) (b : Bool) (v w : Result Package PieceRefusal) → refused_piece v ≡ refused_piece w
    → refusal_of (least (rs ++ (53, b && is_err v) ∷ [])) (refused_piece v)
    ≡ refusal_of (least (rs ++ (53, b && is_err w) ∷ [])) (refused_piece w)
alike rs b v w e =
    ap (λ t. refusal_of (least (rs ++ (53, b && t) ∷ [])) (refused_piece v)) (err_is v w e)
    ∙ ap (refusal_of (least (rs ++ (53, b && is_err w) ∷ []))) e

-- a command is refused at any stamp alike
pub refused_alike : (p : Package) (c : Command) (one other : Text) → refusal_at p c one ≡ refusal_at p c other
refused_alike p c one other = alike (own_reasons p c) (is_publishing p c) (publishing p c one) (publishing p c other)
    (trials p c one other) where
      trials : (p : Package) (c : Command) (one other : Text)
          → refused_piece (publishing p c one) ≡ refused_piece (publishing p c other)
      trials p (commands.Publish edition) one other = any_stamp p edition one other
      trials p (commands.Rehearse edition) one other = any_stamp p edition one other
      trials p _ one other = refl

-- a new edition is open, and holds no pieces
pub edition_new : (profile : Profile) (p : Package) (name : Text) (moment : ℕ) → Meets profile p
    → refusal p (commands.Edition name) ≡ None
    → IsNewEdition name (step p (commands.Edition name) moment)
edition_new profile p name moment h none =
    let r = none_holds (reasons p (commands.Edition name))
    (no_refusal (least (reasons p (commands.Edition name))) None none) in
    subst (IsNewEdition name) (sym (ap (λ v. unless_refused v (done p (commands.Edition name) (stamp moment)) p) none))
    (record {
      stands_open = at_put texts p.editions name open_state;
      no_pieces = λ k row e same. not_none (h.q15.of_open k row e)
          (ap (get p.editions) same ∙ none_of (get p.editions name) r.0);
    })
