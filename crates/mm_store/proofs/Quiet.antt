-- Two calls that commit nothing.
use Rattle.sqlite.specs.State.{State}
use Rattle.sqlite.proofs.StateLemmas.{survives_then}
use Rattle.mm_store.specs.Statements.{CommitsNothing}

pub quiet_then : (a b c : State) → CommitsNothing a b → CommitsNothing b c → CommitsNothing a c
quiet_then a b c one two = survives_then a b c _ _ (λ _. ⊥) (λ _ db none. none) (λ _ db none. none) one two
