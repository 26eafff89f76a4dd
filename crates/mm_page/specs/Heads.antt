-- The head of a request at the front of some bytes, by `httparse`'s grammar.
use Rattle.std.specs.Prelude.{ℕ, ◌≡◌, ◌≤◌, ◌<◌, ◌⊎◌, List, [], ◌++◌, length, take, Option, None, Some, ⊤}
use Rattle.std.specs.Io.KnownBytes.{Consumes}
use Rattle.httparse.specs.Grammar.{HasNoRequest, ReadsRequest, RequestHead, print_request}
use Rattle.httparse.specs.Spans.{IsRequestAt, IsRequestOf, IsRequestWithin}
use Rattle.httparse.specs.declared.spans.HeaderSpan.{HeaderSpan}
use Rattle.httparse.specs.declared.spans.RequestSpans.{RequestSpans}

-- the most bytes of a head
abbrev pub MostHeadBytes : ℕ
MostHeadBytes = 8192

-- the most header lines of one
abbrev pub MostHeadLines : ℕ
MostHeadLines = 64

-- the head at the front of the input, of at most so many bytes and header lines
pub record IsHead (limit room : ℕ) (input : List ℕ) (h : RequestHead) : Type 0 where
  pub rest : List ℕ
  pub reads : ReadsRequest input h rest
  pub short : length (print_request h) ≤ limit
  pub few : length h.fields ≤ room

-- what reading the head of an input answers: the head that it has, with its parts in so many bytes of the buffer, or
-- that it has none
abbrev pub Heads : ℕ → ℕ → List ℕ → List ℕ → List HeaderSpan → Option (ℕ × RequestSpans) → Type 0
Heads limit room input buf headers None = (h : RequestHead) → ¬ (IsHead limit room input h)
Heads limit room input buf headers (Some (n, spans)) = (n ≤ length buf) × IsRequestWithin (take n buf) headers spans
    × (h : RequestHead) × IsHead limit room input h × IsRequestAt (take n buf) headers spans h

-- the parts of the head that was found lie in the buffer, whatever is known of the input
abbrev pub Lies : List ℕ → List HeaderSpan → Option (ℕ × RequestSpans) → Type 0
Lies buf headers None = ⊤
Lies buf headers (Some (n, spans)) = (n ≤ length buf) × IsRequestWithin (take n buf) headers spans
    × IsRequestOf (take n buf) headers spans

-- No more was read than a head needs: nothing, or what one read gave behind bytes that held no head and left room for
-- more.
abbrev pub IsNeeded : ℕ → List ℕ → Type 0
IsNeeded limit read = (read ≡ [])
    ⊎ ((before last : List ℕ) × (read ≡ before ++ last) × (length before < limit) × HasNoRequest before)

-- so much was read, and no more
abbrev pub ReadsNoMore : ℕ → Option (List ℕ) → Option (List ℕ) → Type 0
ReadsNoMore limit old now = (read : List ℕ) × Consumes old now read × IsNeeded limit read

-- what was read stands in the buffer, as many bytes as are answered
abbrev pub HoldsRead : ℕ → Option (List ℕ) → Option (List ℕ) → List ℕ → Option (ℕ × RequestSpans) → Type 0
HoldsRead limit old now buf None = ⊤
HoldsRead limit old now buf (Some (n, spans)) = Consumes old now (take n buf) × IsNeeded limit (take n buf)
