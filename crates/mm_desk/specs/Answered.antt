-- What a desk answers to one request, and what that does to its session.
use Rattle.std.specs.Prelude.{◌≡◌, ◌⊎◌, ◌≤◌, ◌<◌, ◌+◌, ℕ, Bool, true, [], ◌++◌, Option, Result, Ok, Err, IfSome, length}
use Rattle.std.specs.Prelude.{map, option_map, take}
use Rattle.std.specs.Io.KnownBytes.{Appends, Consumes}
use Rattle.httparse.specs.Grammar.{RequestHead}
use Rattle.httparse.specs.Spans.{name_and_value}
use Rattle.mm_definitions.specs.Faults as faults
use Rattle.mm_definitions.specs.Keys.{Text}
use Rattle.mm_definitions.specs.Package.{Package}
use Rattle.mm_definitions.specs.Streams.{Written}
use Rattle.mm_definitions.specs.declared.answers.Fault.{Fault}
use Rattle.mm_definitions.specs.declared.answers.PageFault.{PageFault}
use Rattle.mm_desk.specs.Demand.{Demand, End, IsDemand, Records, Refuse, Show}
use Rattle.mm_page.specs.Heads.{IsHead, IsNeeded, MostHeadBytes, MostHeadLines}
use Rattle.mm_page.specs.Served.{IsPageFault}
use Rattle.mm_reads.specs.Viewers.{IsOn}
use Rattle.mm_reads.specs.declared.viewer.Viewer as viewers
use Rattle.mm_run.specs.declared.apply.Apply as applies
use Rattle.mm_desk.specs.Bodies.{RunsBody, answers_head}
use Rattle.mm_desk.specs.Replies.{AsksPart, ShowsTo}
use Rattle.mm_desk.specs.Responses.{ended, go_on, refusal_of}
use Rattle.mm_desk.specs.Sent.{IsCut, IsSentWhole}
use Rattle.mm_desk.specs.Sittings.{Stays}
use Rattle.mm_desk.specs.declared.desk.Gate.{Gate}
use Rattle.mm_desk.specs.declared.desk.Done.{Done}
use Rattle.mm_desk.specs.declared.desk.Done.TheVariants as dones

-- ---- what is asked

-- the table whose media may run as pages
abbrev pub page_of : Gate → Option Text
page_of gate = option_map (λ name. name.now) gate.page

-- The head of the input asks for this, and this stands behind it.
abbrev pub Demands : Gate → Text → Demand → Text → Type 0
Demands gate input d rest = (h : RequestHead) × (head : IsHead MostHeadBytes MostHeadLines input h)
    × IsDemand gate.port gate.front.now h.method h.target (map name_and_value h.fields) h.minor d × (rest ≡ head.rest)

-- the input has no head
abbrev pub IsHeadless : Text → Type 0
IsHeadless input = (h : RequestHead) → ¬ (IsHead MostHeadBytes MostHeadLines input h)

-- what is answered where no records are run, by what is asked for and what stands behind the head: records that did not
-- come whole are not run
abbrev pub IsShownFor : Option Text → Package → Demand → Text → Text → Type 0
IsShownFor page p (Show path) rest response = ShowsTo page path p response
IsShownFor page p (Records n waits) rest response = (length rest < n) × (response ≡ go_on waits ++ refusal_of 400)
IsShownFor page p End rest response = ⊥
IsShownFor page p (Refuse status) rest response = response ≡ refusal_of status

-- ---- what is answered, by what an input asks for, and by which inputs have no head

module _ (page : Option Text) (Asked : Text → Demand → Text → Type 0) (Headless : Text → Type 0) where
  -- the response, where no records are run and the desk goes on
  abbrev pub ShowsResponse : Package → Text → Text → Type 0
  ShowsResponse p input response =
      ((d : Demand) × (rest : Text) × Asked input d rest × IsShownFor page p d rest response)
      ⊎ (Headless input × (response ≡ refusal_of 400))

  -- records are sent, and came whole: this body, whose sender waits or not
  abbrev pub SendsRecords : Text → Text → Bool → Type 0
  SendsRecords input body waits = (n : ℕ) × (rest : Text) × Asked input (Records n waits) rest × (n ≤ length rest)
      × (body ≡ take n rest)

  -- the desk is to end
  abbrev pub AsksToEnd : Text → Type 0
  AsksToEnd input = (rest : Text) × Asked input End rest

  -- records are sent, by a sender that waits
  abbrev pub Waits : Text → Type 0
  Waits input = (n : ℕ) × (rest : Text) × Asked input (Records n true) rest

  -- a part of the package is shown
  abbrev pub AsksToLook : Text → Type 0
  AsksToLook input = (path rest : Text) × Asked input (Show path) rest × AsksPart path

  -- what is written before the first answer to a record: the response, or the words that end the desk, or the head of
  -- the answers
  abbrev pub IsResponse : Package → Text → Text → Type 0
  IsResponse p input bytes = ShowsResponse p input bytes ⊎ (AsksToEnd input × (bytes ≡ ended))
      ⊎ ((body : Text) × (waits : Bool) × SendsRecords input body waits × (bytes ≡ go_on waits ++ answers_head))

  -- nothing was written, but to a sender that waits that it may go on
  abbrev pub HasBegun : Option Text → Written → Written → Type 0
  HasBegun source old new = (waits : Bool) × Appends old.contents new.contents (go_on waits)
      × (waits ≡ true → IfSome source Waits)

  -- A front of the response was written, of each package that is on.
  abbrev pub IsBegunAnswer : (Package → Type 0) → Option Text → Text → Type 0
  IsBegunAnswer on source begun = (p : Package) → on p
      → IfSome source (λ input. (more : Text) × IsResponse p input (begun ++ more))

  -- Why it was not answered whole: 90, 91, 92, or 96 where the reader has failed; or 97 where the writer has, behind a
  -- front of the response.
  abbrev pub IsCutAnswer : Bool → (Package → Type 0) → Option Text → Bool → Written → Written → Fault → Type 0
  IsCutAnswer failed on source reading old new fault =
      ((IsPageFault failed fault ⊎ ((fault.0 ≡ faults.input.0) × (reading ≡ true))) × HasBegun source old new)
      ⊎ ((fault.0 ≡ faults.output.0) × (new.failed ≡ true) × (begun : Text) × Appends old.contents new.contents begun
      × IsBegunAnswer on source begun)

  module _ {D : Type 0} (view : viewers.Ghosts D) (apply : applies.Ghosts D) (moment : ℕ) (source : Option Text)
      (reading : Bool)
      (old new : D) (output output_now : Written) where
    -- each package of the rules that the session reads as
    abbrev pub On : Package → Type 0
    On = IsOn (view.has_failed old) (view.store old) (view.store new)

    -- What was written, and what that did to the session: its records were run behind the head of the answers, those of
    -- the body that was sent; or the response was written, and the session is as it was but for reads, as it is with
    -- every fault.
    abbrev pub IsDeskAnswered : Result Done PageFault → Type 0
    IsDeskAnswered (Ok (dones.Ran run)) = (body : Text) × (waits : Bool) × (between : Written)
        × IfSome source (λ input. SendsRecords input body waits)
        × IsSentWhole output between (go_on waits ++ answers_head)
        × RunsBody apply moment old new body between output_now run
    IsDeskAnswered (Ok dones.Shown) = Stays apply old new × (response : Text) × IsSentWhole output output_now response
        × ((p : Package) → On p → IfSome source (λ input. ShowsResponse p input response))
    IsDeskAnswered (Ok dones.Ended) = Stays apply old new × IsSentWhole output output_now ended
        × IfSome source AsksToEnd
    IsDeskAnswered (Err e) = Stays apply old new × IsCutAnswer (view.has_failed old) On source reading output output_now
        e.0
        × (e.0.0 ≡ faults.reopen.0 → IfSome source AsksToLook)

-- ---- a path behind the key

module _ (page : Option Text) (path : Text) {D : Type 0} (view : viewers.Ghosts D) (apply : applies.Ghosts D)
    (old new : D) (output output_now : Written) where
  -- the bytes answer the path, of each package that is on
  abbrev pub IsShownTo : Text → Type 0
  IsShownTo response = (p : Package) → IsOn (view.has_failed old) (view.store old) (view.store new) p
      → ShowsTo page path p response

  -- The response was written, or a front of it; or none was made, and nothing was written.
  abbrev pub IsPathAnswered : Result Done PageFault → Type 0
  IsPathAnswered (Ok (dones.Ran run)) = ⊥
  IsPathAnswered (Ok dones.Shown) = Stays apply old new × (response : Text) × IsSentWhole output output_now response
      × IsShownTo response
  IsPathAnswered (Ok dones.Ended) = ⊥
  IsPathAnswered (Err e) = Stays apply old new × (e.0.0 ≡ faults.reopen.0 → AsksPart path)
      × ((IsPageFault (view.has_failed old) e.0 × (output_now ≡ output))
      ⊎ ((response : Text) × IsShownTo response × IsCut output output_now response e.0))

-- ---- records behind a head

module _ (n : ℕ) (here : Text) {D : Type 0} (apply : applies.Ghosts D) (moment : ℕ) (source : Option Text)
    (reading : Bool)
    (old new : D) (output output_now : Written) where
  -- with the bytes that are here they came whole; or the input ended before
  abbrev pub AreWhole : Text → Type 0
  AreWhole more = n ≤ length (here ++ more)

  abbrev pub AreShort : Text → Type 0
  AreShort more = length (here ++ more) < n

  -- They were run, so many bytes; or they did not come whole, and were refused; or it was not told whole, and none was
  -- run.
  abbrev pub IsRecordsRun : Result Done PageFault → Type 0
  IsRecordsRun (Ok (dones.Ran run)) = (body : Text) × (between : Written)
      × IfSome source (λ more. AreWhole more × (body ≡ take n (here ++ more)))
      × IsSentWhole output between answers_head × RunsBody apply moment old new body between output_now run
  IsRecordsRun (Ok dones.Shown) = Stays apply old new × IsSentWhole output output_now (refusal_of 400)
      × IfSome source AreShort
  IsRecordsRun (Ok dones.Ended) = ⊥
  IsRecordsRun (Err e) = Stays apply old new
      × ((((e.0.0 ≡ faults.memory.0) ⊎ ((e.0.0 ≡ faults.input.0) × (reading ≡ true))) × (output_now ≡ output))
      ⊎ (IsCut output output_now answers_head e.0 × IfSome source AreWhole)
      ⊎ (IsCut output output_now (refusal_of 400) e.0 × IfSome source AreShort))

-- ---- what is asked behind a head that was read, and how much more is read

-- This is asked, and what stands behind the head are the bytes that are here and those that are still to be read.
abbrev pub IsBehindHead : Demand → Text → Text → Demand → Text → Type 0
IsBehindHead d here more e rest = (e ≡ d) × (rest ≡ here ++ more)

-- no input is without a head
abbrev pub Never : Text → Type 0
Never input = ⊥

-- Nothing more was read, or of records so much that it is no more than is sent.
abbrev pub IsReadOn : Demand → Text → Option Text → Option Text → Type 0
IsReadOn d here old now = (more : Text) × Consumes old now more
    × ((more ≡ []) ⊎ ((n : ℕ) × (waits : Bool) × (d ≡ Records n waits) × (length here + length more ≤ n)))

-- the head sends records, and so many bytes are no more than it and they have
abbrev pub IsWithinRecords : Gate → ℕ → Text → Type 0
IsWithinRecords gate count input = (n : ℕ) × (waits : Bool) × (rest : Text)
    × Demands gate input (Records n waits) rest × (count + length rest ≤ length input + n)

-- No more was read than the head needs, and of records that are sent no more than their length.
abbrev pub IsReadTo : Gate → Option Text → Option Text → Type 0
IsReadTo gate old now = (front more : Text) × Consumes old now (front ++ more) × IsNeeded MostHeadBytes front
    × ((more ≡ []) ⊎ IfSome old (IsWithinRecords gate (length front + length more)))
