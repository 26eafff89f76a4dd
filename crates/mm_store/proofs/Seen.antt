-- From what is settled to what is seen and back, and a look in a transaction of its own.
use Rattle.std.proofs.Common.{◌≡◌, inl, inr, true, Result, Ok, Err, IfOk, refl, sym, subst, ◌∙◌, arith}
use Rattle.std.specs.Prelude.{⊤}
use Rattle.sqlite.specs.State.{State, HasCleanDisk, IsRolledBack}
use Rattle.sqlite.specs.Held.{Held, state}
use Rattle.sqlite.specs.Store.{Ghosts}
use Rattle.sqlite.specs.declared.transaction.Transaction.{Transaction}
use Rattle.mm_definitions.specs.Bounds.{Profile}
use Rattle.mm_definitions.specs.Package.{Package}
use Rattle.mm_definitions.specs.Rules.{Meets}
use Rattle.mm_definitions.specs.declared.answers.Fault.{Fault}
use Rattle.mm_store.specs.Stands.{ReadsAs, ground_of, StandsOn, StandsInside, IsSettled}
use Rattle.mm_store.specs.Statements.{CommitsNothing}
use Rattle.mm_store.specs.Handed.{Goes, Looks, LooksByRules}
use Rattle.mm_store.specs.Seen.{IsSeenAs, IsRead}
use Rattle.mm_store.proofs.Transactions.{rolled_quiet}

pub seen_of : (profile : Profile) (s : State) (p : Package) → IsSettled profile s p → IsSeenAs profile s p
seen_of profile s p it = record { mode = it.mode; back = it.back; reads = it.reads }

-- what commits nothing and leaves what is seen leaves what was settled
pub settled_still : (profile : Profile) (old new : State) (p : Package) → CommitsNothing old new → HasCleanDisk new
    → (IsSeenAs profile old p → IsSeenAs profile new p) → IsSettled profile old p → IsSettled profile new p
settled_still profile old new p quiet clean same it =
    let at = same (seen_of profile old p it) in
    record {
      mode = at.mode;
      back = at.back;
      reads = at.reads;
      left = λ db may. elim (quiet.crash clean db may) [ inl before ↦ it.left db before | inr none ↦ absurd none ];
    }

-- a transaction that was rolled back leaves what was seen
module _ {S : Type 0} (g : Ghosts S) (was now : Held S) (begun : now ≡ record was { in_transaction = true })
    (ended last : State) where
  begins : (profile : Profile) (p : Package) → IsSeenAs profile (state g was) p
      → StandsInside profile (state g now) (ground_of (state g was)) p
  begins profile p it = rw begun (record { mode = refl; back = λ is_open. (refl, is_open); reads = it.reads })

  pub seen_back : (profile : Profile) (p : Package) → IsSeenAs profile (state g was) p → IsRolledBack ended last
      → StandsOn ended (ground_of (state g was)) → IsSeenAs profile last p
  seen_back profile p it back stands = record {
    mode = back.autocommit;
    back = λ up. let on = stands (back.was_open up) in subst (λ d. ReadsAs profile.version d p)
        (sym ((back.undone up).1 ∙ on.0)) (it.back on.1);
    reads = λ up. let on = stands (back.was_open up) in subst (λ d. ReadsAs profile.version d p)
        (sym ((back.undone up).0 ∙ on.0)) (it.back on.1);
  }

told : {T : Type 0} (A C : Type 0) (B D : T → Type 0) (result : Result T Fault) → ((it : T) → B it → D it)
    → IfOk result (λ it. A × C × B it) → IfOk result D
told A C B D (Ok it) so h = so it h.2
told A C B D (Err fault) so h = tt

module _ {S T : Type 0} {g : Ghosts S} {was : Held S} {a b : Transaction S} {last : State} {result : Result T Fault}
  where
    reads_so : {Says : Profile → Package → T → Type 0} {Less : Package → T → Type 0}
        → a.conn.now ≡ record was { in_transaction = true }
        → Goes g a b (λ profile p. ⊤) (λ p it. p) Says result → CommitsNothing (state g b.conn.now) last →
        (HasCleanDisk last → IsRolledBack (state g b.conn.now) last)
        → (profile : Profile) → ((p : Package) (it : T) → Meets profile p → Says profile p it → Less p it)
        → IsRead profile (state g was) last Less result
    reads_so {Says} {Less} begun look quiet undone profile so =
        let old = state g was in
        let ended = state g b.conn.now in
        let early : HasCleanDisk last → HasCleanDisk ended = λ clean. omega (arith, quiet.clean, clean) in
        let all = rolled_quiet g was a.conn.now begun ended last look.survives quiet in
        let inside = begins g was a.conn.now begun ended last profile in
        let seen : HasCleanDisk last → (p : Package) → IsSeenAs profile old p → IsSeenAs profile last p =
        λ clean p it. seen_back g was a.conn.now begun ended last profile p it (undone clean)
        (look.on (early clean) profile (ground_of old) p (inside p it) tt) in
        record {
          survives = all;
          seen = seen;
          settled = λ clean p it. settled_still profile old last p all clean (seen clean p) it;
          says = λ clean p meets it. told _ _ (Says profile p) (Less p) result (λ x says. so p x meets says)
              (look.comes (early clean) profile (ground_of old) p (inside p it) tt);
          faults = look.faults;
        }

    -- a look in a transaction of its own is a read
    pub reads : {Says : Package → T → Type 0} → a.conn.now ≡ record was { in_transaction = true }
        → Looks g a b Says result
        → CommitsNothing (state g b.conn.now) last → (HasCleanDisk last → IsRolledBack (state g b.conn.now) last)
        → (profile : Profile) → IsRead profile (state g was) last Says result
    reads begun look quiet undone profile = reads_so begun look quiet undone profile (λ p it meets says. says)

    pub reads_by_rules : {Says : Package → T → Type 0} → a.conn.now ≡ record was { in_transaction = true }
        → LooksByRules g a b Says result
        → CommitsNothing (state g b.conn.now) last → (HasCleanDisk last → IsRolledBack (state g b.conn.now) last)
        → (profile : Profile) → IsRead profile (state g was) last Says result
    reads_by_rules begun look quiet undone profile = reads_so begun look quiet undone profile
        (λ p it meets says. says meets)
