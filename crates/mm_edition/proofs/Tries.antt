-- How a look at the edition, the trial of its pieces and its closing make one publishing.
use Rattle.std.proofs.Common.{◌≡◌, inl, inr, ℕ, true, not, ◌&&◌, is_err, [], ◌∷◌, Option, Some, None, is_some, Result}
use Rattle.std.proofs.Common.{Ok, Err, IfOk, refl, sym, ap, subst, ◌∙◌}
use Rattle.std.specs.Prelude.{⊤, IsErrAnd}
use Rattle.std.specs.FinMap.{get, contains_key}
use Rattle.sqlite.specs.Held.{state}
use Rattle.sqlite.specs.State.{State}
use Rattle.sqlite.specs.Store.{Ghosts}
use Rattle.sqlite.specs.declared.transaction.Transaction.{Transaction}
use Rattle.mm_definitions.specs.Bounds.{Profile}
use Rattle.mm_definitions.specs.Keys.{Text, same_text}
use Rattle.mm_definitions.specs.Parts.{at_value}
use Rattle.mm_definitions.specs.Package.{Package, open_state, published_state}
use Rattle.mm_definitions.specs.Rules.{Meets}
use Rattle.mm_definitions.specs.Stamp.{IsStamp}
use Rattle.mm_definitions.specs.Conditions.{least, own_reasons}
use Rattle.mm_definitions.specs.Editions.{PieceRefusal, edition_trial, closed}
use Rattle.mm_definitions.specs.Step.{refusal, refusal_of, refused_piece, done, unless_refused, closed_by}
use Rattle.mm_definitions.specs.declared.answers.Fault.{Fault}
use Rattle.mm_definitions.specs.Refusals.{Refusal}
use Rattle.mm_definitions.specs.declared.answers.Outcome.{Outcome}
use Rattle.mm_definitions.specs.declared.answers.Outcome.TheVariants as outcome
use Rattle.mm_definitions.specs.declared.commands.Command.TheVariants as commands
use Rattle.mm_definitions.proofs.Parts.{same_some}
use Rattle.mm_laws.proofs.AnyStamp.{any_stamp}
use Rattle.mm_laws.proofs.OneStamp.{stamp_only}
use Rattle.mm_store.specs.Stands.{Ground, StandsInside}
use Rattle.mm_store.specs.Shapes.{Tries, IsTried}
use Rattle.mm_store.specs.Handed.{Tells, ChangesWhere}
use Rattle.mm_layout.specs.Stamped.{step_at}
use Rattle.mm_edition.specs.Quiet.{IsQuiet}
use Rattle.mm_edition.specs.Turns.{IsStamped, TellsPublish, Attempts, TriesPieces, Publishes}
use Rattle.mm_edition.proofs.Attempting.{attempts, attempts_then, attempts_failed, attempts_as, attempts_not}

-- the refusal as a function of how the edition stands and what the trial gives
abbrev of_publish : Option Text → Result Package PieceRefusal → Option Refusal
of_publish v t =
    refusal_of (least ((51, not (is_some v)) ∷ (55, is_some v && not (at_value (same_text open_state) v))
    ∷ (53, at_value (same_text open_state) v && is_err t) ∷ [])) (refused_piece t)

abbrev of_closed : Option Text → Option ℕ
of_closed v = least ((51, not (is_some v)) ∷ (55, is_some v && not (at_value (same_text open_state) v)) ∷ [])

no_error : (t : Result Package PieceRefusal) → refused_piece t ≡ None → of_publish (Some open_state) t ≡ None
no_error (Ok q) e = refl
no_error (Err r) e = absurd (let f : ◌≡◌ {A = Option PieceRefusal} (Some r) None = e in cc)

an_error : (t : Result Package PieceRefusal) (r : PieceRefusal) → refused_piece t ≡ Some r
    → of_publish (Some open_state) t ≡ Some (record { number = 53; piece = Some r })
an_error (Ok q) r e = absurd (let f : ◌≡◌ {A = Option PieceRefusal} None (Some r) = e in cc)
an_error (Err s) r e = ap (λ x. Some (record { number = 53; piece = Some x })) (same_some e)

module _ (edition : Text) where
  module _ (profile : Profile) (p : Package) (meets : Meets profile p) where
    refusal_is : (v : Option Text) → get p.editions edition ≡ v
        → refusal p (commands.Publish edition) ≡ of_publish v (edition_trial p edition [])
    refusal_is v is = ap (λ x. of_publish x (edition_trial p edition [])) is

    -- an edition that nothing refuses is open
    stands_open : None ≡ least (own_reasons p (commands.Discard edition)) → get p.editions edition ≡ Some open_state
    stands_open none = by (get p.editions edition) refl
      where
        by : (v : Option Text) → get p.editions edition ≡ v → v ≡ Some open_state
        by None is = absurd (let f : ◌≡◌ {A = Option ℕ} None (Some 51) = none ∙ ap of_closed is in cc)
        by (Some s) is = elim (meets.q15.states edition s is) as (λ _. Some s ≡ Some open_state) [
          | inl e ↦ ap Some e
          | inr e ↦ absurd (let f : ◌≡◌ {A = Option ℕ} None (Some 55) = none
              ∙ (ap of_closed is ∙ ap (λ x. of_closed (Some x)) e) in cc)
        ]

    -- one that is not is refused for that alone
    refused_closed : (n : ℕ) → Some n ≡ least (own_reasons p (commands.Discard edition))
        → refusal p (commands.Publish edition) ≡ Some (record { number = n; piece = None })
    refused_closed n why = by (get p.editions edition) refl
      where
        by : (v : Option Text) → get p.editions edition ≡ v
            → refusal p (commands.Publish edition) ≡ Some (record { number = n; piece = None })
        by None is = refusal_is None is
            ∙ ap (λ x. Some (record { number = x; piece = None })) (sym (same_some (why ∙ ap of_closed is)))
        by (Some s) is = elim (meets.q15.states edition s is) as (λ _.
            refusal p (commands.Publish edition) ≡ Some (record { number = n; piece = None })) [
              | inl e ↦ absurd (let f : ◌≡◌ {A = Option ℕ} (Some n) None = why
                  ∙ (ap of_closed is ∙ ap (λ x. of_closed (Some x)) e) in cc)
              | inr e ↦ refusal_is (Some published_state) (is ∙ ap Some e)
                  ∙ ap (λ x. Some (record { number = x; piece = None }))
                  (sym (same_some (why ∙ (ap of_closed is ∙ ap (λ x. of_closed (Some x)) e))))
            ]

    module _ (at : Text) (open_is : get p.editions edition ≡ Some open_state) where
      accepted : (q : Package) → edition_trial p edition at ≡ Ok q → refusal p (commands.Publish edition) ≡ None
      accepted q is = refusal_is (Some open_state) open_is
          ∙ no_error (edition_trial p edition []) (any_stamp p edition [] at ∙ ap refused_piece is)

      refused_at : (r : PieceRefusal) → edition_trial p edition at ≡ Err r
          → refusal p (commands.Publish edition) ≡ Some (record { number = 53; piece = Some r })
      refused_at r is = refusal_is (Some open_state) open_is
          ∙ an_error (edition_trial p edition []) r (any_stamp p edition [] at ∙ ap refused_piece is)

      step_is : (q : Package) → edition_trial p edition at ≡ Ok q
          → step_at p (commands.Publish edition) at ≡ closed edition q
      step_is q is = ap (λ r. unless_refused r (done p (commands.Publish edition) at) p) (accepted q is)
          ∙ ap (λ t. closed_by edition t p) is

-- the look whether the edition is open
abbrev Looked : {S : Type 0} (g : Ghosts S) (old new : Transaction S) (edition : Text) → Result (Option ℕ) Fault
    → Type 0
Looked g old new edition = Tells g old new (λ p. least (own_reasons p (commands.Discard edition)))

module _ {S : Type 0} {g : Ghosts S} {a b : Transaction S} {edition at : Text} where
  pub closed_already : {why : Option ℕ} {n : ℕ} → Looked g a b edition (Ok why) → why ≡ Some n
      → Publishes g a b edition at (Ok (outcome.Refused (record { number = n; piece = None })))
  closed_already {n = n} look is = record {
    attempt = attempts_as (attempts look) (λ profile p when. tt)
        (λ profile ground p when end. refused_closed edition profile p when.0 n (sym is ∙ end.2));
  }

  pub looked_in_vain : {e : Fault} {r : Result Outcome Fault} → Looked g a b edition (Err e) → IsErrAnd r (λ f. f ≡ e)
      → Publishes g a b edition at r
  looked_in_vain look is = record { attempt = attempts_not (attempts look) is (λ profile p when. tt) }

-- the trial begins on the same package, whose edition is open
abbrev Opened : {S : Type 0} (g : Ghosts S) (old new : Transaction S) (edition at : Text) → Type 0
Opened g old new edition at =
    Attempts g old new {T = ⊤} (IsStamped at) (λ profile s ground p it. StandsInside profile s ground p
    × (get p.editions edition ≡ Some open_state)) (Ok tt)

opened : {S : Type 0} {g : Ghosts S} {a b : Transaction S} (edition at : Text) {why : Option ℕ}
    → Looked g a b edition (Ok why) → why ≡ None
    → Opened g a b edition at
opened edition at look none =
    attempts_as (attempts look) (λ profile p when. tt)
    (λ profile ground p when end. (end.1, stands_open edition profile p when.0 (sym none ∙ end.2)))

-- the pieces were done, and the edition stands
abbrev Edited : {S : Type 0} (g : Ghosts S) (old new : Transaction S) (edition at : Text) → Type 0
Edited g old new edition at = Attempts g old new {T = ⊤} (IsStamped at)
    (λ profile s ground p it. (q : Package) × (edition_trial p edition at ≡ Ok q) × StandsInside profile s ground q
    × (contains_key q.editions edition ≡ true)
    × (get p.editions edition ≡ Some open_state)) (Ok tt)

module _ {S : Type 0} {g : Ghosts S} {a b c : Transaction S} {edition at : Text} {why : Option ℕ} where
  pub piece_refused : {piece : Option PieceRefusal} {r : PieceRefusal} → Looked g a b edition (Ok why) → why ≡ None
      → TriesPieces g b c edition at (Ok piece)
      → piece ≡ Some r → Publishes g a c edition at (Ok (outcome.Refused (record { number = 53; piece = Some r })))
  piece_refused {r = r} look none trial is = record {
    attempt = attempts_then (opened edition at look none) (rw is at trial.attempt) (λ profile ground p when it. (
      p,
      it.0,
      (when.0, it.1, when.1, when.2),
      λ told. refused_at edition profile p when.0 at it.1 r told,
    ));
  }

  pub pieces_in_vain : {e : Fault} {r : Result Outcome Fault} → Looked g a b edition (Ok why) → why ≡ None
      → TriesPieces g b c edition at (Err e)
      → IsErrAnd r (λ f. f ≡ e) → Publishes g a c edition at r
  pieces_in_vain look none trial is = record {
    attempt = attempts_failed (opened edition at look none) trial.attempt is
        (λ profile ground p when it. (p, it.0, (when.0, it.1, when.1, when.2)));
  }

  pub edited : {piece : Option PieceRefusal} → Looked g a b edition (Ok why) → why ≡ None
      → TriesPieces g b c edition at (Ok piece) → piece ≡ None
      → Edited g a c edition at
  edited look none trial went = attempts_then (opened edition at look none) (rw went at trial.attempt)
      (λ profile ground p when it. (
        p,
        it.0,
        (when.0, it.1, when.1, when.2),
        λ told. (told.0, told.1, told.4, ap is_some (ap (λ m. get m edition) told.2 ∙ it.1), it.1),
      ))

-- the edition is closed behind the trial
module _ {S : Type 0} {g : Ghosts S} {a b c : Transaction S} {edition at : Text} (it : Edited g a b edition at) where
  pub closes : {T : Type 0} {u : T} → ChangesWhere g b c (λ p. contains_key p.editions edition ≡ true) (closed edition)
      (Ok u)
      → Publishes g a c edition at (Ok outcome.Done)
  closes change = record {
    attempt = attempts_then it (attempts change) (λ profile ground p when end. (
      end.0,
      end.2,
      end.3,
      λ made. (
        accepted edition profile p when.0 at end.4 end.0 end.1,
        made.0,
        subst (StandsInside profile (state g c.conn.now) ground)
            (sym (step_is edition profile p when.0 at end.4 end.0 end.1)) made.1,
      ),
    ));
  }

  pub closes_not : {T : Type 0} {e : Fault} {r : Result Outcome Fault}
      → ChangesWhere g b c {T = T} (λ p. contains_key p.editions edition ≡ true) (closed edition) (Err e)
      → IsErrAnd r (λ f. f ≡ e) → Publishes g a c edition at r
  closes_not change is = record {
    attempt = attempts_failed it (attempts change) is (λ profile ground p when end. (end.0, end.2, end.3));
  }

-- ---- told of states

tries_at : (profile : Profile) (s : State) (ground : Ground) (p : Package) (edition at : Text)
    (r : Result Outcome Fault)
    → IfOk r (TellsPublish edition at profile s ground p)
    → Tries profile s ground p (refusal p (commands.Publish edition)) (step_at p (commands.Publish edition) at) r
tries_at profile s ground p edition at (Ok it) h = h
tries_at profile s ground p edition at (Err e) h = tt

module _ {S : Type 0} {g : Ghosts S} {a b : Transaction S} {edition at : Text} {r : Result Outcome Fault}
    (h : Publishes g a b edition at r) where
  pub publish_tried : (profile : Profile) (moment : ℕ) → IsStamp moment at
      → IsTried profile (commands.Publish edition) moment (state g a.conn.now) (state g b.conn.now) r
  publish_tried profile moment stamped = record {
    survives = h.attempt.survives;
    on = λ clean ground p it. h.attempt.on clean profile ground p it.inside (it.meets, moment, stamped);
    tries = λ clean ground p it.
        let c = commands.Publish edition in
        subst (λ text. Tries profile (state g b.conn.now) ground p (refusal p c) (step_at p c text) r)
        (stamp_only moment at stamped)
        (tries_at profile (state g b.conn.now) ground p edition at r
        (h.attempt.tells clean profile ground p it.inside (it.meets, moment, stamped)));
    faults = h.attempt.faults;
  }

  pub publish_quiet : IsQuiet (state g a.conn.now) (state g b.conn.now) r
  publish_quiet = record { survives = h.attempt.survives; faults = h.attempt.faults }
