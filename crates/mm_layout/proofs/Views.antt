-- From words of a package to words of the view: what a call does on a package, told of how its bytes are kept.
use Rattle.std.proofs.Common.{◌≡◌, Result, Ok, Err, IfOk, IsTrue, refl}
use Rattle.std.specs.Prelude.{⊤}
use Rattle.sqlite.specs.Held.{state}
use Rattle.sqlite.specs.State.{State}
use Rattle.sqlite.specs.Store.{Ghosts}
use Rattle.sqlite.specs.declared.transaction.Transaction.{Transaction}
use Rattle.mm_definitions.specs.Bounds.{Profile}
use Rattle.mm_definitions.specs.Package.{Package}
use Rattle.mm_definitions.specs.Rules.{Meets}
use Rattle.mm_definitions.specs.declared.answers.Fault.{Fault}
use Rattle.mm_store.specs.Handed.{Goes, LooksByRules}
use Rattle.mm_store.specs.Kept.{no_spare}
use Rattle.mm_store.specs.Stands.{Ground, StandsInside}
use Rattle.mm_blobs.specs.Moves.{IsMove}
use Rattle.mm_blobs.specs.Views.{View, IsSeen}
use Rattle.mm_blobs.proofs.Opening.{opens, closes}
use Rattle.mm_layout.specs.Handed.{LeavesView}

module _ {T : Type 0} (profile : Profile) (s : State) (ground : Ground) where
  -- the package that the call came to is kept somehow
  opened : (next : T → Package) (Says : T → Type 0) (r : Result T Fault)
      → IfOk r (λ it. IsTrue s.is_open × StandsInside profile s ground (next it) × Says it)
      → IfOk r (λ it. IsTrue s.is_open × (w : View)
      × ((w.content ≡ next it) × IsSeen no_spare profile s ground w × Says it))
  opened next Says (Ok it) h =
      let o = opens no_spare profile s ground (next it) h.1 in
      (h.0, record { content = next it; kept = o.0 }, (refl, o.1, h.2))
  opened next Says (Err e) h = tt

  -- what was told of a package that meets the rules, and the view that was left
  both : (v : View) (Says : T → Type 0) (r : Result T Fault) → Meets profile v.content
      → IfOk r (λ it. IsTrue s.is_open × StandsInside profile s ground v.content
      × (Meets profile v.content → Says it))
      → IfOk r (λ it. IsTrue s.is_open × (w : View) × ((w ≡ v) × IsSeen no_spare profile s ground w × ⊤))
      → IfOk r (λ it. IsTrue s.is_open × (w : View) × ((w ≡ v) × IsSeen no_spare profile s ground w × Says it))
  both v Says (Ok it) meets told left = (left.0, left.1, (left.2.0, left.2.1, told.2 meets))
  both v Says (Err e) meets told left = tt

module _ {S T : Type 0} {g : Ghosts S} {a b : Transaction S} {r : Result T Fault} where
  -- a call on a package, from a view to a view
  pub goes_seen : {When : Profile → Package → Type 0} {next : Package → T → Package}
      {Says : Profile → Package → T → Type 0} → Goes g a b When next Says r → (profile : Profile)
      → IsMove (state g a.conn.now) (state g b.conn.now)
      (λ base v. IsSeen no_spare profile (state g a.conn.now) base v × When profile v.content)
      (λ base v it w. (w.content ≡ next v.content it) × IsSeen no_spare profile (state g b.conn.now) base w
      × Says profile v.content it) r
  goes_seen {next = next} {Says = Says} h profile = record {
    survives = h.survives;
    on = λ clean base v it. h.on clean profile base v.content
        (closes no_spare profile (state g a.conn.now) base v it.0) it.1;
    moved = λ clean base v it. opened profile (state g b.conn.now) base (next v.content) (Says profile v.content) r
        (h.comes clean profile base v.content (closes no_spare profile (state g a.conn.now) base v it.0) it.1);
    faults = h.faults;
  }

  -- a look that leaves the view, and what it tells of a package that meets the rules
  pub looked : {Says : Package → T → Type 0} → LooksByRules g a b Says r → LeavesView g a b r → (profile : Profile)
      → IsMove (state g a.conn.now) (state g b.conn.now)
      (λ base v. IsSeen no_spare profile (state g a.conn.now) base v × Meets profile v.content)
      (λ base v it w. (w ≡ v) × IsSeen no_spare profile (state g b.conn.now) base w × Says v.content it) r
  looked {Says = Says} told left profile = record {
    survives = told.survives;
    on = λ clean base v it. (left.found profile no_spare).on clean base v it.0;
    moved = λ clean base v it. both profile (state g b.conn.now) base v (Says v.content) r it.1
        (told.comes clean profile base v.content (closes no_spare profile (state g a.conn.now) base v it.0) tt)
        ((left.found profile no_spare).moved clean base v it.0);
    faults = told.faults;
  }
