-- From the beginning of a transaction to its end.
use Rattle.std.proofs.Common.{◌≡◌, false, true, IsTrue, refl, sym, subst}
use Rattle.sqlite.specs.Tree.{Trees}
use Rattle.sqlite.specs.State.{State, Shows}
use Rattle.sqlite.specs.Held.{Held, state}
use Rattle.sqlite.specs.Store.{Ghosts}
use Rattle.sqlite.proofs.StateLemmas.{survives_then}
use Rattle.sqlite.proofs.Callers.{survives_begin}
use Rattle.mm_definitions.specs.Bounds.{Profile}
use Rattle.mm_definitions.specs.Package.{Package}
use Rattle.mm_store.specs.Stands.{StandsFor, ReadsAs, Ground, ground_of, StandsInside, IsSettled}
use Rattle.mm_store.specs.Statements.{CommitsNothing}

-- what is committed is all that a crash leaves, while the store is open
abbrev pub OnlyCommitted : State → Type 0
OnlyCommitted s = (db : Trees) → IsTrue s.is_open → s.may_leave db → db ≡ s.committed.trees

-- after a commit the connection reads as what was committed
pub settles : (profile : Profile) (ended last : State) (ground : Ground) (next : Package) → OnlyCommitted last
    → Shows ended last ended.now ended.now false → StandsInside profile ended ground next → IsSettled profile last next
settles profile ended last ground next law shows it = record {
  mode = shows.mode;
  back = λ _. subst (λ d. ReadsAs profile.version d next) (sym shows.committed_is) (it.reads shows.was_open);
  reads = λ _. subst (λ d. ReadsAs profile.version d next) (sym shows.now_is) (it.reads shows.was_open);
  left = λ db may.
      subst (λ t. StandsFor profile.version t next) (sym (law db shows.is_open may))
      (subst (λ d. ReadsAs profile.version d next) (sym shows.committed_is) (it.reads shows.was_open)).stands;
}

-- a transaction that was rolled back leaves the connection settled as before
module _ {S : Type 0} (g : Ghosts S) (was now : Held S) (begun : now ≡ record was { in_transaction = true })
    (ended last : State) (one : CommitsNothing (state g now) ended) (two : CommitsNothing ended last) where
  pub begins : (profile : Profile) (p : Package) → IsSettled profile (state g was) p
      → StandsInside profile (state g now) (ground_of (state g was)) p
  begins profile p it = rw begun (record { mode = refl; back = λ is_open. (refl, is_open); reads = it.reads })

  pub rolled_quiet : CommitsNothing (state g was) last
  rolled_quiet = survives_begin g was last (λ _. ⊥)
      (rw begun at (survives_then (state g now) ended last _ _ (λ _. ⊥) (λ _ db none. none) (λ _ db none. none) one
      two))
