-- Requests that a desk answered one behind another, where they tell themselves.
use Rattle.std.specs.Prelude.{◌≡◌, ◌⊎◌, ⊤, ℕ, Bool, List, [], ◌∷◌, ◌++◌, Option, Result, Ok, Err, IfSome, option_map}
use Rattle.mm_definitions.specs.Keys.{Text}
use Rattle.mm_definitions.specs.Streams.{Written}
use Rattle.mm_definitions.specs.declared.answers.PageFault.{PageFault}
use Rattle.mm_reads.specs.declared.viewer.Viewer as viewers
use Rattle.mm_run.specs.declared.apply.Apply as applies
use Rattle.mm_desk.specs.Answered.{Demands, IsDeskAnswered, IsHeadless, SendsRecords, page_of}
use Rattle.mm_desk.specs.Sittings.{Visit}
use Rattle.mm_desk.specs.declared.desk.Gate.{Gate}
use Rattle.mm_desk.specs.declared.desk.Done.{Done}
use Rattle.mm_desk.specs.declared.desk.Done.TheVariants as dones

-- a request: what was let in, the bytes that its input had still to give, where it tells them, and whether that has
-- failed behind it; its moment; the output before and behind it; and what became of it
pub record Told : Type 0 where
  pub gate : Gate
  pub input : Option Text
  pub reading : Bool
  pub moment : ℕ
  pub old : Written
  pub new : Written
  pub result : Result Done PageFault

-- these are told behind those that were told before, by what tells them
abbrev pub AddsTo : Option (List Told) → Option (List Told) → List Told → Type 0
AddsTo old new more = new ≡ option_map (λ before. before ++ more) old

-- it was answered so
abbrev pub IsAnsweredAs : {D : Type 0} (view : viewers.Ghosts D) (apply : applies.Ghosts D) → Told → D → D → Type 0
IsAnsweredAs view apply t old new =
    IsDeskAnswered (page_of t.gate) (Demands t.gate) IsHeadless view apply t.moment t.input t.reading old new t.old
    t.new t.result

-- so was each, on the session that the one before left
unfoldable pub AreAnswered : {D : Type 0} (view : viewers.Ghosts D) (apply : applies.Ghosts D) → D → List Told → D
    → Type 0
AreAnswered view apply old [] new = new ≡ old
AreAnswered {D} view apply old (t ∷ ts) new = (between : D) × IsAnsweredAs view apply t old between
    × AreAnswered view apply between ts new

-- no records were run
abbrev pub RanNone : Result Done PageFault → Type 0
RanNone (Ok (dones.Ran run)) = ⊥
RanNone (Ok dones.Shown) = ⊤
RanNone (Ok dones.Ended) = ⊤
RanNone (Err fault) = ⊤

-- the list that a request ran: the body that it sent, at its moment, and what was told of it
abbrev pub IsVisitOf : Told → Visit → Type 0
IsVisitOf t v = (t.result ≡ Ok (dones.Ran v.result)) × (v.moment ≡ t.moment) × (v.new ≡ t.new)
    × ((waits : Bool) × IfSome t.input (λ input. SendsRecords (page_of t.gate) (Demands t.gate) IsHeadless input v.bytes
    waits))

-- the lists that were run, in turn, are those of the requests that ran one
unfoldable pub AreVisitsOf : List Told → List Visit → Type 0
AreVisitsOf [] visits = visits ≡ []
AreVisitsOf (t ∷ ts) visits = (RanNone t.result × AreVisitsOf ts visits)
    ⊎ ((v : Visit) × (rest : List Visit) × (visits ≡ v ∷ rest) × IsVisitOf t v × AreVisitsOf ts rest)
