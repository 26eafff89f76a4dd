-- What is answered to a request, put together of what was read, asked and sent.
use Rattle.std.proofs.Common.{◌≡◌, ◌∙◌, ◌≤◌, ◌<◌, ◌⊎◌, inl, inr, ℕ, Bool, true, false, List, [], ◌∷◌, ◌++◌}
use Rattle.std.proofs.Common.{Option, Some, None, IfSome, Result, Ok, Err, refl, sym, ap, subst, arith, length}
use Rattle.std.proofs.Common.{length-append, map, take, drop, append_assoc, append-nil}
use Rattle.std.proofs.KnownBytes.{Appends-nil, Appends-trans, Consumes-trans}
use Rattle.std.proofs.lemmas.Bool.Decides.{leb_tells}
use Rattle.std.proofs.lemmas.List.{append_cancel_left, length-take}
use Rattle.std.specs.Io.KnownBytes.{Appends, Consumes}
use Rattle.httparse.specs.Grammar.{RequestHead, print_request}
use Rattle.httparse.specs.Spans.{IsRequestAt, name_and_value}
use Rattle.httparse.specs.declared.spans.HeaderSpan.{HeaderSpan}
use Rattle.httparse.specs.declared.spans.RequestSpans.{RequestSpans}
use Rattle.mm_definitions.specs.Keys.{Text}
use Rattle.mm_definitions.specs.Package.{Package}
use Rattle.mm_definitions.specs.Streams.{Written}
use Rattle.mm_definitions.specs.declared.answers.Fault.{Fault}
use Rattle.mm_definitions.specs.declared.answers.PageFault.{PageFault}
use Rattle.mm_desk.specs.Body.{IsReadFrugally}
use Rattle.mm_desk.specs.Demand.{Demand, End, IsDemand, Records, Refuse, Show}
use Rattle.mm_page.specs.Heads.{IsHead, IsNeeded, ReadsNoMore, MostHeadBytes, MostHeadLines}
use Rattle.mm_page.specs.Served.{IsPageFault}
use Rattle.mm_reads.specs.declared.viewer.Viewer as viewers
use Rattle.mm_run.specs.declared.apply.Apply as applies
use Rattle.mm_desk.specs.Answered.{Demands, HasBegun, IsDeskAnswered, IsBehindHead}
use Rattle.mm_desk.specs.Answered.{IsHeadless, IsPathAnswered, IsReadOn, IsReadTo, IsRecordsRun, IsResponse}
use Rattle.mm_desk.specs.Answered.{IsCutAnswer, AsksToLook, Never, On, ShowsResponse}
use Rattle.mm_desk.specs.Bodies.{answers_head}
use Rattle.mm_desk.specs.Exchanges.{IsExchange}
use Rattle.mm_desk.specs.Responses.{ended, go_on, refusal_of}
use Rattle.mm_desk.specs.Sent.{IsCut, IsSentWhole}
use Rattle.mm_desk.specs.Sittings.{Stays}
use Rattle.mm_desk.specs.declared.desk.Done.{Done}
use Rattle.mm_desk.specs.declared.desk.Gate.{Gate}
use Rattle.mm_desk.specs.declared.desk.Done.TheVariants as dones

-- ---- what is known of some bytes

pub some_all : (o : Option Text) (P : Text → Type 0) → ((t : Text) → P t) → IfSome o P
some_all None P all = tt
some_all (Some t) P all = all t

pub some_weaker : (o : Option Text) (P Q : Text → Type 0) → ((t : Text) → P t → Q t) → IfSome o P → IfSome o Q
some_weaker None P Q go p = tt
some_weaker (Some t) P Q go p = go t p

-- what is known of what is left is known of the whole
pub lifted : (old now : Option Text) (front : Text) (F P Q : Text → Type 0) → Consumes old now front → IfSome old F
    → ((input more : Text) → input ≡ front ++ more → F input → P more → Q input) → IfSome now P → IfSome old Q
lifted None now front F P Q consumed facts go p = tt
lifted (Some input) None front F P Q consumed facts go p = absurd consumed
lifted (Some input) (Some more) front F P Q consumed facts go p = go input more consumed facts p

-- ---- what is sent

pub written_on : (old between new : Written) (first second : Text) → IsSentWhole old between first
    → IsSentWhole between new second → IsSentWhole old new (first ++ second)
written_on old between new first second one two =
    (Appends-trans old.contents between.contents new.contents first second one.0 two.0, two.1 ∙ one.1)

-- ---- a session that is as it was

pub stays_same : {D : Type 0} (apply : applies.Ghosts D) (desk : D) → Stays apply desk desk
stays_same apply desk = record { clean = λ c. c; same = refl; settled = λ c p s. s; left = λ c db m. m }

module _ (page : Option Text) (Asked : Text → Demand → Text → Type 0) (Headless : Text → Type 0) where
  pub begun_nothing : (source : Option Text) (old : Written) → HasBegun page Asked Headless source old old
  begun_nothing source old = (false, Appends-nil old.contents, λ e. absurd (let f : false ≡ true = e in cc))

  module _ {D : Type 0} (view : viewers.Ghosts D) (apply : applies.Ghosts D) (moment : ℕ) (source : Option Text)
      (reading : Bool) where
    -- a response of one kind was sent
    pub shown_whole : (old new : D) (output output_now : Written) (response : Text) → Stays apply old new
        → IsSentWhole output output_now response
        → ((p : Package) → On page Asked Headless view apply moment source reading old new output output_now p
        → IfSome source
        (λ input. ShowsResponse page Asked Headless p input response))
        → IsDeskAnswered page Asked Headless view apply moment source reading old new output output_now (Ok dones.Shown)
    shown_whole old new output output_now response stays written shows = (stays, response, written, shows)

    -- a front of it was
    pub cut_short : (old new : D) (output output_now : Written) (response : Text) (e : PageFault) → Stays apply old new
        → IsCut output output_now response e.0
        → ((p : Package) → On page Asked Headless view apply moment source reading old new output output_now p
        → IfSome source
        (λ input. IsResponse page Asked Headless p input response))
        → IsDeskAnswered page Asked Headless view apply moment source reading old new output output_now (Err e)
    cut_short old new output output_now response e stays (is, failed, begun, more, whole, front) shows = (
      stays,
      inr (
        is,
        failed,
        begun,
        front,
        λ p on. some_weaker source _ _
            (λ input it. (more, subst (λ bytes. IsResponse page Asked Headless p input bytes) whole it)) (shows p on),
      ),
      λ other. absurd (let f : 97 ≡ 92 = sym is ∙ other in omega (arith, f)),
    )

    -- nothing was
    pub unanswered : (old new : D) (output : Written) (e : PageFault) → Stays apply old new
        → (IsPageFault (view.has_failed old) e.0 ⊎ ((e.0.0 ≡ 96) × (reading ≡ true)))
        → (e.0.0 ≡ 92 → IfSome source (AsksToLook page Asked Headless))
        → IsDeskAnswered page Asked Headless view apply moment source reading old new output output (Err e)
    unanswered old new output e stays why looks = (stays, inl (why, begun_nothing source output), looks)

    -- what was done to the session
    pub exchanged : (old new : D) (output output_now : Written) (result : Result Done PageFault)
        → IsDeskAnswered page Asked Headless view apply moment source reading old new output output_now result
        → IsExchange apply moment old new output_now result
    exchanged old new output output_now (Ok (dones.Ran run)) (body, waits, between, sends, written, runs) =
        (body, between, runs)
    exchanged old new output output_now (Ok dones.Shown) it = it.0
    exchanged old new output output_now (Ok dones.Ended) it = it.0
    exchanged old new output output_now (Err e) it = it.0

-- ---- behind a head: what its demand is answered

module _ (page : Option Text) (d : Demand) (here : Text) {D : Type 0} (view : viewers.Ghosts D)
    (apply : applies.Ghosts D) (moment : ℕ) (source : Option Text) (reading : Bool)
    (desk : D) (output output_now : Written) where
  pub refused_cut : (status : ℕ) (e : PageFault) → d ≡ Refuse status → IsCut output output_now (refusal_of status) e.0
      → IsDeskAnswered page (IsBehindHead d here) Never view apply moment source reading desk desk output output_now
      (Err e)
  refused_cut status e is cut =
      cut_short page (IsBehindHead d here) Never view apply moment source reading desk desk output output_now
      (refusal_of status) e (stays_same apply desk) cut
      (λ p on. some_all source _ (λ more. inl (inl (Refuse status, here ++ more, (sym is, refl), refl))))

  pub ended_cut : (e : PageFault) → d ≡ End → IsCut output output_now ended e.0
      → IsDeskAnswered page (IsBehindHead d here) Never view apply moment source reading desk desk output output_now
      (Err e)
  ended_cut e is cut =
      cut_short page (IsBehindHead d here) Never view apply moment source reading desk desk output output_now ended e
      (stays_same apply desk) cut
      (λ p on. some_all source _ (λ more. inr (inl ((here ++ more, (sym is, refl)), refl))))

-- a part of the package
module _ (page : Option Text) (path here : Text) {D : Type 0} (view : viewers.Ghosts D) (apply : applies.Ghosts D)
    (moment : ℕ) (source : Option Text) (reading : Bool)
    (old new : D) (output output_now : Written) where
  pub path_answered : (result : Result Done PageFault)
      → IsPathAnswered page path view apply old new output output_now result
      → IsDeskAnswered page (IsBehindHead (Show path) here) Never view apply moment source reading old new output
      output_now result
  path_answered (Ok (dones.Ran run)) it = absurd it
  path_answered (Ok dones.Ended) it = absurd it
  path_answered (Ok dones.Shown) (stays, response, written, shown) =
      shown_whole page (IsBehindHead (Show path) here) Never view apply moment source reading old new output output_now
      response stays written
      (λ p on. some_all source _ (λ more. inl (Show path, here ++ more, (refl, refl), shown p on)))
  path_answered (Err e) (stays, asks, inl (fault, same)) =
      subst (λ now. IsDeskAnswered page (IsBehindHead (Show path) here) Never view apply moment source reading old new
      output now (Err e)) (sym same)
      (unanswered page (IsBehindHead (Show path) here) Never view apply moment source reading old new output e stays
      (inl fault)
      (λ is. some_all source _ (λ more. (path, here ++ more, (refl, refl), asks is))))
  path_answered (Err e) (stays, asks, inr (response, shown, cut)) =
      cut_short page (IsBehindHead (Show path) here) Never view apply moment source reading old new output output_now
      response e stays cut
      (λ p on. some_all source _ (λ more. inl (inl (Show path, here ++ more, (refl, refl), shown p on))))

-- ---- records

came : (n : ℕ) (here more : Text) → (n ≤ length (here ++ more)) ⊎ (length (here ++ more) < n)
came n here more = elim (leb_tells n (length (here ++ more))) [
  | inl (is, fits) ↦ inl fits
  | inr (is, less) ↦ inr less
]

module _ (page : Option Text) (n : ℕ) (waits : Bool) (here : Text) {D : Type 0} (view : viewers.Ghosts D)
    (apply : applies.Ghosts D) (moment : ℕ) (source : Option Text)
    (reading : Bool) (old new : D) (output : Written) where
  abbrev Answered : Written → Result Done PageFault → Type 0
  Answered now result =
      IsDeskAnswered page (IsBehindHead (Records n waits) here) Never view apply moment source reading old new output
      now result

  abbrev Response : Package → Text → Text → Type 0
  Response = IsResponse page (IsBehindHead (Records n waits) here) Never

  ran : (p : Package) (more : Text) → n ≤ length (here ++ more) → Response p more (go_on waits ++ answers_head)
  ran p more whole = inr (inr (take n (here ++ more), waits, (n, here ++ more, (refl, refl), whole, refl), refl))

  short : (p : Package) (more : Text) → length (here ++ more) < n → Response p more (go_on waits ++ refusal_of 400)
  short p more less = inl (inl (Records n waits, here ++ more, (refl, refl), (less, refl)))

  -- of what the sender is told behind that it may go on
  cut_on : (between now : Written) (rest : Text) (fault : Fault) → IsSentWhole output between (go_on waits)
      → IsCut between now rest fault
      → IsCut output now (go_on waits ++ rest) fault
  cut_on between now rest fault on (is, failed, begun, more, whole, front) = (
    is,
    failed,
    go_on waits ++ begun,
    more,
    ap (λ l. go_on waits ++ l) whole ∙ sym (append_assoc (go_on waits) begun more),
    Appends-trans output.contents between.contents now.contents (go_on waits) begun on.0 front,
  )

  pub records_answered : (between now : Written) (result : Result Done PageFault)
      → IsSentWhole output between (go_on waits)
      → IsRecordsRun n here apply moment source reading old new between now result → Answered now result
  records_answered between now (Ok (dones.Ran run)) on (body, head, whole, written, runs) = (
    body,
    waits,
    head,
    some_weaker source _ _ (λ more it. (n, here ++ more, (refl, refl), it.0, it.1)) whole,
    written_on output between head (go_on waits) answers_head on written,
    runs,
  )
  records_answered between now (Ok dones.Shown) on (stays, written, less) = (
    stays,
    go_on waits ++ refusal_of 400,
    written_on output between now (go_on waits) (refusal_of 400) on written,
    λ p is. some_weaker source _ _ (λ more it. inl (Records n waits, here ++ more, (refl, refl), (it, refl))) less,
  )
  records_answered between now (Ok dones.Ended) on it = absurd it
  records_answered between now (Err e) on (stays, inl (why, same)) = (
    stays,
    inl (
      elim why [
        | inl memory ↦ inl (inl memory)
        | inr read ↦ inr read
      ],
      (
        waits,
        subst (λ w. Appends output.contents w.contents (go_on waits)) (sym same) on.0,
        λ is. some_all source _ (λ more. (n, here ++ more, (ap (λ w. Records n w) (sym is), refl))),
      ),
    ),
    λ other. absurd (elim why [
      | inl memory ↦ (let f : 90 ≡ 92 = sym memory ∙ other in omega (arith, f))
      | inr read ↦ (let f : 96 ≡ 92 = sym read.0 ∙ other in omega (arith, f))
    ]),
  )
  records_answered between now (Err e) on (stays, inr (inl (cut, whole))) =
      cut_short page (IsBehindHead (Records n waits) here) Never view apply moment source reading old new output now
      (go_on waits ++ answers_head) e stays
      (cut_on between now answers_head e.0 on cut) (λ p is. some_weaker source _ _ (ran p) whole)
  records_answered between now (Err e) on (stays, inr (inr (cut, less))) =
      cut_short page (IsBehindHead (Records n waits) here) Never view apply moment source reading old new output now
      (go_on waits ++ refusal_of 400) e stays
      (cut_on between now (refusal_of 400) e.0 on cut) (λ p is. some_weaker source _ _ (short p) less)

  -- it could not be told to go on
  pub waits_cut : (now : Written) (e : PageFault) → Stays apply old new → IsCut output now (go_on waits) e.0
      → Answered now (Err e)
  waits_cut now e stays (is, failed, begun, more, whole, front) = (
    stays,
    inr (
      is,
      failed,
      begun,
      front,
      λ p on. some_all source _ (λ rest. elim (came n here rest) [
        | inl fits ↦ (more ++ answers_head, subst (Response p rest) (joined answers_head) (ran p rest fits))
        | inr less ↦ (more ++ refusal_of 400, subst (Response p rest) (joined (refusal_of 400)) (short p rest less))
      ]),
    ),
    λ other. absurd (let f : 97 ≡ 92 = sym is ∙ other in omega (arith, f)),
  )
    where
      joined : (tail : Text) → go_on waits ++ tail ≡ begun ++ (more ++ tail)
      joined tail = ap (λ l. l ++ tail) whole ∙ append_assoc begun more tail

-- ---- how much is read

pub reads_on : (n : ℕ) (waits : Bool) (here : Text) (old now : Option Text) → IsReadFrugally here n old now
    → IsReadOn (Records n waits) here old now
reads_on n waits here old now ([], consumed, less) = ([], consumed, inl refl)
reads_on n waits here old now (b ∷ more, consumed, less) =
    (b ∷ more, consumed, inr (n, waits, refl, omega (arith, less, length-take n here)))

-- ---- from the bytes behind a head to the whole input

-- what is said of the bytes behind the head
abbrev pub Lifts : Gate → Demand → (here front input : Text) → Type 0
Lifts gate d here front input = (more : Text) → input ≡ front ++ more → Demands gate input d (here ++ more)

-- so of a head that was read
pub head_lifts : (gate : Gate) (d : Demand) (front : Text) (headers : List HeaderSpan) (spans : RequestSpans)
    → ((h : RequestHead) → IsRequestAt front headers spans h
    → IsDemand gate.port gate.front.now h.method h.target (map name_and_value h.fields) h.minor d)
    → (input : Text) (h : RequestHead) → IsHead MostHeadBytes MostHeadLines input h → IsRequestAt front headers spans h
    → Lifts gate d (drop spans.len front) front input
head_lifts gate d front headers spans demand input h head at more is = (
  h,
  head,
  demand h at,
  append_cancel_left (print_request h) (drop spans.len front ++ more) head.rest
      (sym (append_assoc (print_request h) (drop spans.len front) more) ∙ ap (λ l. l ++ more) (sym at.reads.1) ∙ sym is
      ∙ head.reads.1),
)

-- what was read with no head
pub reads_head : (gate : Gate) (old now : Option Text) → ReadsNoMore MostHeadBytes old now → IsReadTo gate old now
reads_head gate old now (front, consumed, needed) =
    (front, [], subst (λ l. Consumes old now l) (sym (append-nil front)) consumed, needed, inl refl)

module _ (gate : Gate) (d : Demand) (here front : Text) (old mid : Option Text) (consumed : Consumes old mid front)
    (lifts : IfSome old (Lifts gate d here front)) where
  asked_up : (input more : Text) → input ≡ front ++ more → Lifts gate d here front input → (e : Demand) (rest : Text)
      → IsBehindHead d here more e rest
      → Demands gate input e rest
  asked_up input more is lift e rest (same, behind) =
      subst (λ r. Demands gate input e r) (sym behind)
      (subst (λ x. Demands gate input x (here ++ more)) (sym same) (lift more is))

  module _ (page : Option Text) {D : Type 0} (view : viewers.Ghosts D) (apply : applies.Ghosts D) (moment : ℕ)
      (reading : Bool) (before after : D) (output output_now : Written) where
    shows_up : (p : Package) (response input more : Text) → input ≡ front ++ more → Lifts gate d here front input
        → ShowsResponse page (IsBehindHead d here) Never p more response
        → ShowsResponse page (Demands gate) IsHeadless p input response
    shows_up p response input more is lift (inl (e, rest, asked, shown)) =
        inl (e, rest, asked_up input more is lift e rest asked, shown)
    shows_up p response input more is lift (inr (never, bytes)) = absurd never

    responds_up : (p : Package) (bytes input more : Text) → input ≡ front ++ more → Lifts gate d here front input
        → IsResponse page (IsBehindHead d here) Never p more bytes
        → IsResponse page (Demands gate) IsHeadless p input bytes
    responds_up p bytes input more is lift (inl shows) = inl (shows_up p bytes input more is lift shows)
    responds_up p bytes input more is lift (inr (inl ((rest, asked), same))) =
        inr (inl ((rest, asked_up input more is lift End rest asked), same))
    responds_up p bytes input more is lift (inr (inr (body, waits, (n, rest, asked, fits, cut), same))) =
        inr (inr (body, waits, (n, rest, asked_up input more is lift (Records n waits) rest asked, fits, cut), same))

    begun_up : HasBegun page (IsBehindHead d here) Never mid output output_now
        → HasBegun page (Demands gate) IsHeadless old output output_now
    begun_up (waits, text, told) = (
      waits,
      text,
      λ is. lifted old mid front _ _ _ consumed lifts
          (λ input more same lift it. (it.0, it.1, asked_up input more same lift (Records it.0 true) it.1 it.2))
          (told is),
    )

    pub answered_up : (result : Result Done PageFault) → IsDeskAnswered page
        (IsBehindHead d here) Never view apply moment mid reading before after output output_now result
        → IsDeskAnswered page (Demands gate) IsHeadless view apply moment old reading before after output output_now
        result
    answered_up (Ok (dones.Ran run)) (body, waits, between, sends, written, runs) = (
      body,
      waits,
      between,
      lifted old mid front _ _ _ consumed lifts
          (λ input more is lift it. (
            it.0,
            it.1,
            asked_up input more is lift (Records it.0 waits) it.1 it.2,
            it.3,
            it.4,
          )) sends,
      written,
      runs,
    )
    answered_up (Ok dones.Shown) (stays, response, written, shows) = (
      stays,
      response,
      written,
      λ p on. lifted old mid front _ _ _ consumed lifts (shows_up p response) (shows p on),
    )
    answered_up (Ok dones.Ended) (stays, written, ends) = (
      stays,
      written,
      lifted old mid front _ _ _ consumed lifts
          (λ input more is lift it. (it.0, asked_up input more is lift End it.0 it.1)) ends,
    )
    answered_up (Err e) (stays, stopped, looks) = (
      stays,
      stops_up stopped,
      λ is. lifted old mid front _ _ _ consumed lifts
          (λ input more same lift it. (it.0, it.1, asked_up input more same lift (Show it.0) it.1 it.2, it.3))
          (looks is),
    )
      where
        stops_up : IsCutAnswer page (IsBehindHead d here) Never (view.has_failed before)
            (On page (IsBehindHead d here) Never view apply moment mid reading before after output output_now) mid
            reading output output_now e.0
            → IsCutAnswer page (Demands gate) IsHeadless (view.has_failed before)
            (On page (Demands gate) IsHeadless view apply moment old reading before after output output_now) old reading
            output output_now e.0
        stops_up (inl (why, begun)) = inl (why, begun_up begun)
        stops_up (inr (is, failed, begun, text, front_of)) = inr (
          is,
          failed,
          begun,
          text,
          λ p on. lifted old mid front _ _ _ consumed lifts
              (λ input more same lift it. (it.0, responds_up p (begun ++ it.0) input more same lift it.1))
              (front_of p on),
        )

  -- how much was read of the whole input
  pub reads_to : (now : Option Text) → IsNeeded MostHeadBytes front → IsReadOn d here mid now → IsReadTo gate old now
  reads_to now needed (more, rest, inl none) =
      (front, more, Consumes-trans old mid now front more consumed rest, needed, inl none)
  reads_to now needed (more, rest, inr (n, waits, is, less)) = (
    front,
    more,
    Consumes-trans old mid now front more consumed rest,
    needed,
    inr (lifted old mid front _ (λ left. Unit {0}) _ consumed lifts
        (λ input left same lift it. (
          n,
          waits,
          here ++ left,
          subst (λ x. Demands gate input x (here ++ left)) is (lift left same),
          omega (arith, less, length-append here left, ap length same, length-append front left),
        ))
        (some_all mid (λ left. Unit {0}) (λ left. tt))),
  )
