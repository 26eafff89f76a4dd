-- Commands on the bytes of a blob that stands: what is lent for each bytes that it may have. Each lemma speaks of
-- words.
use Rattle.std.proofs.Common.{◌≡◌, ℕ, ℤ, List, Some, None, Result, Ok, Err, sym, ap, ◌∙◌}
use Rattle.std.specs.Prelude.{IsErrAnd}
use Rattle.std.proofs.lemmas.Result.{err_from_is_err_and}
use Rattle.sqlite.specs.Held.{state}
use Rattle.sqlite.specs.Store.{Ghosts}
use Rattle.sqlite.specs.declared.transaction.Transaction.{Transaction}
use Rattle.mm_definitions.specs.Bounds.{Profile}
use Rattle.mm_definitions.specs.Keys.{Text}
use Rattle.mm_definitions.specs.Package.{Package}
use Rattle.mm_definitions.specs.Rules.{Meets}
use Rattle.mm_definitions.specs.Step.{refusal, done, unless_refused}
use Rattle.mm_definitions.specs.declared.answers.Fault.{Fault}
use Rattle.mm_definitions.specs.declared.answers.Outcome.{Outcome}
use Rattle.mm_definitions.specs.declared.answers.Outcome.TheVariants.{Done, Refused}
use Rattle.mm_definitions.specs.Refusals.{Refusal}
use Rattle.mm_definitions.specs.declared.commands.Command.{Command}
use Rattle.mm_store.specs.Blobs.{Shelf, bytes_at}
use Rattle.mm_store.specs.Handed.{IsSame, LooksByRules, Changes}
use Rattle.mm_store.specs.Kept.{no_spare}
use Rattle.mm_store.specs.Stands.{Ground}
use Rattle.mm_blobs.specs.Handed.{Gives}
use Rattle.mm_blobs.specs.Moves.{IsMove}
use Rattle.mm_blobs.specs.Views.{View, IsSeen, spare_but}
use Rattle.mm_blobs.proofs.Moving.{then_moves, moves_less, moves_as, move_failed}
use Rattle.mm_blobs.proofs.Opening.{seen_looser}
use Rattle.mm_layout.specs.Handed.{LeavesView, LendsBytes}
use Rattle.mm_layout.proofs.Views.{goes_seen, looked}
use Rattle.mm_content.specs.Staged.{HasBytes}

-- a view of a package that meets the rules, on whose shelf this holds of the bytes
abbrev pub SeesBytes : {S : Type 0} → Ghosts S → Transaction S → Profile → (List ℕ → Shelf → Type 0) → List ℕ
    → Ground → View → Type 0
SeesBytes g a profile When bytes base v = IsSeen no_spare profile (state g a.conn.now) base v
    × (Meets profile v.content × When bytes v.kept.shelf)

module _ {S : Type 0} (g : Ghosts S) (a b : Transaction S) where
  -- a look told this of the package, and what was written behind it made the next of the bytes
  pub record WritesBytes {T : Type 0} (When : List ℕ → Shelf → Type 0) (next : List ℕ → Package → Package)
      (Says : Package → Type 0) (r : Result T Fault) : Type 0 where
    pub same : IsSame a b
    pub written : (profile : Profile) (bytes : List ℕ) → IsMove (state g a.conn.now) (state g b.conn.now)
        (SeesBytes g a profile When bytes)
        (λ base v it w. (w.content ≡ next bytes v.content) × IsSeen no_spare profile (state g b.conn.now) base w
        × Says v.content) r

module _ {S : Type 0} {g : Ghosts S} {a b : Transaction S} where
  -- ---- behind a look

  -- an entry is given the bytes of the blob
  pub gives_behind : {T U : Type 0} {c : Transaction S} {Says : Package → T → Type 0} {blob : ℤ}
      {next : List ℕ → Package → Package} {x : T} {r : Result U Fault} → LooksByRules g a b Says (Ok x)
      → LeavesView g a b (Ok x) → Gives g b c blob next r → WritesBytes g a c (HasBytes blob) next (λ p. Says p x) r
  gives_behind {c = c} {Says = Says} {blob = blob} {next = next} {x = x} {r = r} told left given = record {
    same = given.same ∙ left.same;
    written = λ profile bytes.
        let s2 = state g c.conn.now in
        then_moves (λ base v it w. (w.content ≡ next bytes v.content) × IsSeen no_spare profile s2 base w
        × Says v.content x) _ _ s2 x r
        (moves_less (λ base v it w. (w ≡ v) × IsSeen no_spare profile (state g b.conn.now) base w × Says v.content it)
        _ _ (Ok x) (looked told left profile) (λ base v it. (it.0, it.1.0)) (λ base v w it when last. last))
        (given.given profile no_spare bytes)
        (λ base v w it mid. (mid.1, ap (λ (u : View). bytes_at u.kept.shelf blob) mid.0 ∙ it.1.1))
        (λ base v w z u it mid last. (
          last.0 ∙ ap (λ (o : View). next bytes o.content) mid.0,
          seen_looser (spare_but blob no_spare) no_spare profile s2 base z (λ q h. h) last.1,
          mid.2,
        ));
  }

  -- and then the package is changed
  pub changes_behind : {T U : Type 0} {c : Transaction S} {When : List ℕ → Shelf → Type 0}
      {next : List ℕ → Package → Package} {Says : Package → Type 0} {two : Package → Package} {x : T}
      {r : Result U Fault} → WritesBytes g a b When next Says (Ok x) → Changes g b c two r
      → WritesBytes g a c When (λ bytes p. two (next bytes p)) Says r
  changes_behind {c = c} {next = next} {Says = Says} {two = two} {x = x} {r = r} h k = record {
    same = k.same ∙ h.same;
    written = λ profile bytes.
        then_moves (λ base v it w. (w.content ≡ two (next bytes v.content))
        × IsSeen no_spare profile (state g c.conn.now) base w × Says v.content) _ _ _ x r (h.written profile bytes)
        (goes_seen k profile) (λ base v w it mid. (mid.1, tt))
        (λ base v w z u it mid last. (last.0 ∙ ap two mid.0, last.1, mid.2));
  }

  -- ---- what the command comes to

  -- nothing refuses it, and what was written is what it does
  pub does_bytes : {T : Type 0} {When : List ℕ → Shelf → Type 0} {next : List ℕ → Package → Package}
      {Says : Package → Type 0} {command : List ℕ → Command} {at : Text} {x : T}
      → WritesBytes g a b When next Says (Ok x)
      → ((bytes : List ℕ) (p : Package) → Says p → (refusal p (command bytes) ≡ None)
      × (done p (command bytes) at ≡ next bytes p)) → LendsBytes g a b When command at (Ok Done)
  does_bytes {command = command} {at = at} {x = x} h finds = record {
    same = h.same;
    lent = λ profile bytes. moves_as _ _ x Done (h.written profile bytes) (λ base v it. it)
        (λ base v w it last.
        let f = finds bytes v.content last.2 in
        let does = ap (λ r. unless_refused r (done v.content (command bytes) at) v.content) f.0 ∙ f.1 in
        (last.0 ∙ sym does, last.1, f.0));
  }

  -- the look tells why not
  pub refuses_bytes : {T : Type 0} {Says : Package → T → Type 0} {When : List ℕ → Shelf → Type 0}
      {command : List ℕ → Command} {at : Text} {x : T} {why : Refusal} → LooksByRules g a b Says (Ok x)
      → LeavesView g a b (Ok x)
      → ((bytes : List ℕ) (p : Package) → Says p x → refusal p (command bytes) ≡ Some why)
      → LendsBytes g a b When command at (Ok (Refused why))
  refuses_bytes {command = command} {at = at} {x = x} {why = why} told left finds = record {
    same = left.same;
    lent = λ profile bytes. moves_as _ _ x (Refused why) (looked told left profile) (λ base v it. (it.0, it.1.0))
        (λ base v w it last.
        let f = finds bytes v.content last.2 in
        let stays = ap (λ r. unless_refused r (done v.content (command bytes) at) v.content) f in
        (ap (λ (u : View). u.content) last.0 ∙ sym stays, last.1, f));
  }

  -- the exits of a `?`
  pub bytes_failed : {T : Type 0} {When : List ℕ → Shelf → Type 0} {next : List ℕ → Package → Package}
      {Says : Package → Type 0} {command : List ℕ → Command} {at : Text} {e : Fault} {r : Result Outcome Fault}
      → WritesBytes g a b {T = T} When next Says (Err e) → IsErrAnd r (λ f. f ≡ e) → LendsBytes g a b When command at r
  bytes_failed {e = e} {r = r} h is = record {
    same = h.same;
    lent = λ profile bytes. let p = err_from_is_err_and r is in rw (p.1, p.2)
        (move_failed _ _ e (h.written profile bytes) (λ base v it. it));
  }

  pub look_failed : {T : Type 0} {When : List ℕ → Shelf → Type 0} {command : List ℕ → Command} {at : Text} {e : Fault}
      {r : Result Outcome Fault} → LeavesView g a b {T = T} (Err e) → IsErrAnd r (λ f. f ≡ e)
      → LendsBytes g a b When command at r
  look_failed {e = e} {r = r} left is = record {
    same = left.same;
    lent = λ profile bytes. let p = err_from_is_err_and r is in rw (p.1, p.2)
        (move_failed _ _ e (left.found profile no_spare) (λ base v it. it.0));
  }
