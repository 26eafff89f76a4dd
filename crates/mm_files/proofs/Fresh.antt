-- What a crash leaves of a file that was just settled.
use Rattle.std.proofs.Common.{◌≡◌, ℕ, Bool, cond, List, [], ◌∷◌, inl, inr, subst}
use Rattle.sqlite_disk.specs.Events.{Event, replay, settled}
use Rattle.sqlite_disk.specs.History.{MayLeave}
use Rattle.sqlite_wal.specs.Recovery.{Image}

abbrev pub image : List ℕ → List ℕ → Image
image log db = record { log = log; db = db }

-- what reads return, after these calls on a file that held one of two contents
abbrev pub seen : List ℕ → List ℕ → Bool → List Event → List ℕ
seen log db is_log history = (replay (cond is_log log db) history).seen

-- what a crash may leave of it
abbrev pub MayBe : Bool → List ℕ → List ℕ → List ℕ → Bool → List Event → Type 0
MayBe mixes c log db is_log history =
    MayLeave mixes (replay (cond is_log log db) history).seen (replay (cond is_log log db) history).synced
    (replay (cond is_log log db) history).steps c

only_first : (mixes : Bool) (c log db : List ℕ) (is_log : Bool) (key : ℕ)
    → MayBe mixes c log db is_log (settled key ∷ []) → c ≡ cond is_log log db
only_first mixes c log db is_log key (inl same) = same
only_first mixes c log db is_log key (inr same) = same

-- a file that was settled, and of which no call has been made since, is left as it was
pub only_held : (mixes : Bool) (c log db : List ℕ) (is_log is : Bool) (history : List Event) (key : ℕ) → is_log ≡ is
    → history ≡ settled key ∷ []
    → MayBe mixes c log db is_log history → c ≡ cond is log db
only_held mixes c log db is_log is history key which calls may =
    only_first mixes c log db is key
    (subst (λ h. MayBe mixes c log db is h) calls (subst (λ b. MayBe mixes c log db b history) which may))
