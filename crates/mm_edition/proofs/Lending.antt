-- What is lent for each bytes that a piece may have. Each lemma speaks of words.
use Rattle.std.proofs.Common.{◌≡◌, ℕ, List, [], Result, Ok, Err, IfOk, IsTrue, sym, subst, ◌∙◌, arith}
use Rattle.sqlite.specs.Held.{state}
use Rattle.sqlite.specs.State.{State, HasCleanDisk}
use Rattle.sqlite.specs.Store.{Ghosts}
use Rattle.sqlite.specs.declared.transaction.Transaction.{Transaction}
use Rattle.mm_definitions.specs.Bounds.{Profile}
use Rattle.mm_definitions.specs.Keys.{Text}
use Rattle.mm_definitions.specs.Package.{Package}
use Rattle.mm_definitions.specs.Rules.{Meets}
use Rattle.mm_definitions.specs.Step.{refusal}
use Rattle.mm_definitions.specs.declared.answers.Fault.{Fault}
use Rattle.mm_definitions.specs.declared.answers.Outcome.{Outcome}
use Rattle.mm_definitions.specs.declared.commands.Command.{Command}
use Rattle.mm_store.specs.Blobs.{Shelf}
use Rattle.mm_store.specs.Handed.{Goes}
use Rattle.mm_store.specs.Kept.{Kept, no_spare}
use Rattle.mm_store.specs.Shapes.{refused_as}
use Rattle.mm_store.specs.Stands.{Ground, StandsInside}
use Rattle.mm_store.proofs.Going.{any_profile}
use Rattle.mm_store.proofs.Quiet.{quiet_then}
use Rattle.mm_blobs.specs.Handed.{Finds}
use Rattle.mm_blobs.specs.Views.{View, IsSeen}
use Rattle.mm_blobs.proofs.Moving.{moves_less}
use Rattle.mm_blobs.proofs.Opening.{opens, closes}
use Rattle.mm_layout.specs.Handed.{Lends, LendsBytes, LendsUnstamped}
use Rattle.mm_layout.specs.Stamped.{step_at}
use Rattle.mm_layout.proofs.Views.{goes_seen}

-- what the command came to, told in other words
module _ (profile : Profile) (s : State) (ground : Ground) (p : Package) (two : Package → Outcome → Package)
    (Less : Package → Outcome → Type 0) (command : Command) (at : Text)
    (tells : (it : Outcome) → refusal p command ≡ refused_as it → (two p it ≡ step_at p command at) × Less p it) where
  told : (r : Result Outcome Fault)
      → IfOk r (λ it. IsTrue s.is_open × (w : View) × ((w.content ≡ step_at p command at)
      × IsSeen no_spare profile s ground w × (refusal p command ≡ refused_as it)))
      → IfOk r (λ it. IsTrue s.is_open × StandsInside profile s ground (two p it) × Less p it)
  told (Ok it) end =
      let t = tells it end.2.2 in (
        end.0,
        subst (StandsInside profile s ground) (end.2.0 ∙ sym t.0) (closes no_spare profile s ground end.1 end.2.1),
        t.1,
      )
  told (Err e) end = tt

module _ {S : Type 0} {g : Ghosts S} where
  -- ---- a command for each bytes, which it does not ask

  pub lends_anywhere : {a b : Transaction S} {When : List ℕ → Shelf → Type 0} {command : List ℕ → Command} {at : Text}
      {r : Result Outcome Fault}
      → ((bytes : List ℕ) → Lends g a b (command bytes) at r) → LendsBytes g a b When command at r
  lends_anywhere {b = b} {command = command} {at = at} {r = r} h = record {
    same = (h []).goes.same;
    lent = λ profile bytes.
        moves_less (λ base v it w. (w.content ≡ step_at v.content (command bytes) at)
        × IsSeen no_spare profile (state g b.conn.now) base w × (refusal v.content (command bytes) ≡ refused_as it))
        _ _ r (goes_seen (h bytes).goes profile) (λ base v it. (it.0, it.1.0)) (λ base v w it when last. last);
  }

  pub unstamped_anywhere : {a b : Transaction S} {When : List ℕ → Shelf → Type 0} {command : List ℕ → Command}
      {at : Text} {r : Result Outcome Fault}
      → ((bytes : List ℕ) → LendsUnstamped g a b (command bytes) r) → LendsBytes g a b When command at r
  unstamped_anywhere {at = at} h = lends_anywhere (λ bytes. record { goes = (h bytes).goes at })

  -- ---- a look at a view, and the command with the bytes of which it tells

  module _ {T : Type 0} {a b : Transaction S} {Says : View → T → Type 0} {x : T} (h : Finds g a b Says (Ok x)) where
    -- the view that is seen before is seen behind the look, which told this of it
    found : HasCleanDisk (state g b.conn.now) → (profile : Profile) (ground : Ground) (p : Package)
        → StandsInside profile (state g a.conn.now) ground p
        → (kept : Kept) × IsSeen no_spare profile (state g b.conn.now) ground (record { content = p; kept = kept })
        × Says (record { content = p; kept = kept }) x
    found clean profile ground p it =
        let o = opens no_spare profile (state g a.conn.now) ground p it in
        let end = (h.found profile no_spare).moved clean ground (record { content = p; kept = o.0 }) o.1 in (
          o.0,
          subst (IsSeen no_spare profile (state g b.conn.now) ground) end.2.0 end.2.1,
          subst (λ v. Says v x) end.2.0 end.2.2,
        )

  module _ {T : Type 0} {a b c : Transaction S} {Says : View → T → Type 0} {When : List ℕ → Shelf → Type 0}
      {command : List ℕ → Command} {at : Text} {two : Package → Outcome → Package}
      {Less : Package → Outcome → Type 0} {x : T} {r : Result Outcome Fault} where
    pub finds_then_lends : Finds g a b Says (Ok x) → LendsBytes g b c When command at r
        → ((profile : Profile) (v : View) → Meets profile v.content → Says v x
        → (bytes : List ℕ) × When bytes v.kept.shelf × ((it : Outcome) → refusal v.content (command bytes)
        ≡ refused_as it → (two v.content it ≡ step_at v.content (command bytes) at) × Less v.content it))
        → Goes g a c Meets two (λ profile. Less) r
    finds_then_lends h k tells =
        let lent = k.lent any_profile [] in
        record {
          same = k.same ∙ h.same;
          survives = quiet_then _ _ _ (h.found any_profile no_spare).survives lent.survives;
          on = λ clean profile ground p it meets.
              let mid = found h (omega (arith, lent.survives.clean)) profile ground p it in
              let v : View = record { content = p; kept = mid.0 } in
              let told_of = tells profile v meets mid.2 in
              (k.lent profile told_of.0).on clean ground v (mid.1, (meets, told_of.1));
          comes = λ clean profile ground p it meets.
              let mid = found h (omega (arith, lent.survives.clean)) profile ground p it in
              let v : View = record { content = p; kept = mid.0 } in
              let told_of = tells profile v meets mid.2 in
              told profile (state g c.conn.now) ground p two Less (command told_of.0) at told_of.2 r
              ((k.lent profile told_of.0).moved clean ground v (mid.1, (meets, told_of.1)));
          faults = lent.faults;
        }
