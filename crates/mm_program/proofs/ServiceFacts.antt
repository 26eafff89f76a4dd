-- The lines of the faults of connections that were served one after another.
use Rattle.std.proofs.Common.{◌≡◌, ◌∙◌, ◌+◌, ◌<◌, ℕ, List, [], ◌∷◌, ◌++◌, map, length, Option, Some, None, Ok, Err}
use Rattle.std.proofs.Common.{option_map, refl, sym, ap, subst, inl, inr, Bool, true, false, All, arith, length-append}
use Rattle.std.proofs.Common.{append-nil, append_assoc}
use Rattle.std.specs.List.{concat}
use Rattle.std.specs.Io.KnownBytes.{Appends}
use Rattle.std.proofs.KnownBytes.{Appends-nil, Appends-trans}
use Rattle.std.proofs.lemmas.List.{map-append}
use Rattle.std.proofs.lemmas.List.Elements.{All-append, All-cons}
use Rattle.std.proofs.lemmas.List.Folds.{concat-append}
use Rattle.mm_definitions.specs.declared.answers.Fault.{Fault}
use Rattle.mm_definitions.specs.declared.answers.PageFault.{PageFault}
use Rattle.mm_work.specs.Pages.{IsPrinted, IsServed, IsServiceFault, Outcome, TellsMore, fault_lines, faults_of}
use Rattle.mm_work.specs.Pages.{page_fault_text, service_status}
use Rattle.mm_definitions.specs.Streams.{written_as}

-- ---- one more outcome

faults-more : (outcomes : List Outcome) (o : Outcome)
    → faults_of (outcomes ++ o ∷ []) ≡ faults_of outcomes ++ faults_of (o ∷ [])
unfolding faults_of
faults-more [] o = refl
faults-more (Ok done ∷ rest) o = faults-more rest o
faults-more (Err why ∷ rest) o = ap (λ l. why.0 ∷ l) (faults-more rest o)

faults-ok : (outcomes : List Outcome) (done : Unit {0}) → faults_of (outcomes ++ Ok done ∷ []) ≡ faults_of outcomes
unfolding faults_of
faults-ok outcomes done = faults-more outcomes (Ok done) ∙ append-nil (faults_of outcomes)

faults-err : (outcomes : List Outcome) (why : PageFault)
    → faults_of (outcomes ++ Err why ∷ []) ≡ faults_of outcomes ++ why.0 ∷ []
unfolding faults_of
faults-err outcomes why = faults-more outcomes (Err why)

lines-more : (outcomes : List Outcome) (why : PageFault)
    → fault_lines (outcomes ++ Err why ∷ []) ≡ fault_lines outcomes ++ page_fault_text why.0
lines-more outcomes why =
    ap (λ l. concat (map page_fault_text l)) (faults-err outcomes why)
    ∙ ap concat (map-append page_fault_text (faults_of outcomes) (why.0 ∷ []))
    ∙ concat-append (map page_fault_text (faults_of outcomes)) (page_fault_text why.0 ∷ [])
    ∙ ap (λ l. fault_lines outcomes ++ l) (append-nil (page_fault_text why.0))

status-more : (faults : List Fault) (fault : Fault) → service_status (faults ++ fault ∷ []) ≡ 3
status-more [] fault = refl
status-more (first ∷ rest) fault = refl

tells-both : (log : Option (List Outcome)) (outcomes : List Outcome) (o : Outcome)
    → option_map (λ before. before ++ o ∷ []) (option_map (λ before. before ++ outcomes) log)
    ≡ option_map (λ before. before ++ (outcomes ++ o ∷ [])) log
tells-both None outcomes o = refl
tells-both (Some l) outcomes o = ap Some (append_assoc l outcomes (o ∷ []))

tells-more : (log mid now : Option (List Outcome)) (outcomes : List Outcome) (o : Outcome) → TellsMore log mid outcomes
    → TellsMore mid now (o ∷ [])
    → TellsMore log now (outcomes ++ o ∷ [])
tells-more log mid now outcomes o one two =
    two ∙ ap (option_map (λ before. before ++ o ∷ [])) one ∙ tells-both log outcomes o

pub tells-none : (log : Option (List Outcome)) → TellsMore log log []
tells-none None = refl
tells-none (Some l) = ap Some (sym (append-nil l))

all_none : All IsServiceFault []
all_none k d lt = absurd (omega arith)

all_more : (outcomes : List Outcome) (why : PageFault) → All IsServiceFault (faults_of outcomes) → IsServiceFault why.0
    → All IsServiceFault (faults_of (outcomes ++ Err why ∷ []))
all_more outcomes why all is =
    subst (All IsServiceFault) (sym (faults-err outcomes why))
    (All-append IsServiceFault (faults_of outcomes) (why.0 ∷ []) all (All-cons IsServiceFault why.0 [] is all_none))

size_more : (count : ℕ) (outcomes : List Outcome) (o : Outcome) → length outcomes ≡ count
    → length (outcomes ++ o ∷ []) ≡ count + 1
size_more count outcomes o is = omega (arith, is, length-append outcomes (o ∷ []))

-- ---- so many connections

-- They were served, and each fault has its line.
pub record Told (count : ℕ) (log now : Option (List Outcome)) (old new : Option (List ℕ)) (before failed : Bool)
    (status : ℕ) : Type 0 where
  pub outcomes : List Outcome
  pub size : length outcomes ≡ count
  pub told : TellsMore log now outcomes
  pub all : All IsServiceFault (faults_of outcomes)
  pub text : Appends old new (fault_lines outcomes)
  pub working : failed ≡ before
  pub status_is : status ≡ service_status (faults_of outcomes)

-- none yet
pub told_none : (log : Option (List Outcome)) (held : Option (List ℕ)) (working : Bool)
    → Told 0 log log held held working working 0
unfolding faults_of
told_none log held working =
    record {
      outcomes = [];
      size = refl;
      told = tells-none log;
      all = all_none;
      text = Appends-nil held;
      working = refl;
      status_is = refl;
    }

-- one more, without a fault
pub told_on : (count : ℕ) (log mid now : Option (List Outcome)) (old new : Option (List ℕ)) (before failed : Bool)
    (status : ℕ) (done : Unit {0})
    → Told count log mid old new before failed status → TellsMore mid now (Ok done ∷ [])
    → Told (count + 1) log now old new before failed status
told_on count log mid now old new before failed status done it more =
    let same : faults_of (it.outcomes ++ Ok done ∷ []) ≡ faults_of it.outcomes = faults-ok it.outcomes done in
    record {
      outcomes = it.outcomes ++ Ok done ∷ [];
      size = size_more count it.outcomes (Ok done) it.size;
      told = tells-more log mid now it.outcomes (Ok done) it.told more;
      all = subst (All IsServiceFault) (sym same) it.all;
      text = subst (λ l. Appends old new (concat (map page_fault_text l))) (sym same) it.text;
      working = it.working;
      status_is = it.status_is ∙ ap service_status (sym same);
    }

-- one more, with a fault that was printed whole
pub told_more : (count : ℕ) (log mid now : Option (List Outcome)) (old held new : Option (List ℕ))
    (before between failed : Bool) (status : ℕ) (why : PageFault)
    → Told count log mid old held before between status → TellsMore mid now (Err why ∷ []) → IsServiceFault why.0
    → IsPrinted (written_as held between) (written_as new failed) (page_fault_text why.0) true
    → Told (count + 1) log now old new before failed 3
told_more count log mid now old held new before between failed status why it more is printed = record {
  outcomes = it.outcomes ++ Err why ∷ [];
  size = size_more count it.outcomes (Err why) it.size;
  told = tells-more log mid now it.outcomes (Err why) it.told more;
  all = all_more it.outcomes why it.all is;
  text = subst (λ l. Appends old new l) (sym (lines-more it.outcomes why)) (Appends-trans _ _ _ _ _ it.text printed.0);
  working = printed.1 ∙ it.working;
  status_is = sym (ap service_status (faults-err it.outcomes why) ∙ status-more (faults_of it.outcomes) why.0);
}

-- what is promised of so many at most, by what tells them
abbrev pub Serves : ℕ → Option (List Outcome) → Option (List Outcome) → Option (List ℕ) → Option (List ℕ) → Bool → Bool
    → ℕ → Type 0
Serves most log now old new before failed status =
    (outcomes : List Outcome) × TellsMore log now outcomes
    × IsServed most outcomes (written_as old before) (written_as new failed) status

-- one more, with a fault that couldn't be printed whole
pub told_cut : (count most : ℕ) (log mid now : Option (List Outcome)) (old held new : Option (List ℕ))
    (before between failed : Bool) (status : ℕ) (why : PageFault) → count < most
    → Told count log mid old held before between status → TellsMore mid now (Err why ∷ []) → IsServiceFault why.0
    → IsPrinted (written_as held between) (written_as new failed) (page_fault_text why.0) false
    → Serves most log now old new before failed 3
told_cut count most log mid now old held new before between failed status why few it more is
    (broken, taken, front, text) = (
      it.outcomes ++ Err why ∷ [],
      tells-more log mid now it.outcomes (Err why) it.told more,
      (
        all_more it.outcomes why it.all is,
        inr (
          omega (arith, few, size_more count it.outcomes (Err why) it.size),
          broken,
          refl,
          it.outcomes,
          why,
          refl,
          taken,
          front,
          Appends-trans _ _ _ _ _ it.text text,
        ),
      ),
    )

-- all of them
pub served : (count : ℕ) (log now : Option (List Outcome)) (old new : Option (List ℕ)) (before failed : Bool)
    (status : ℕ)
    → Told count log now old new before failed status
    → Serves count log now old new before failed status
served count log now old new before failed status it =
    (it.outcomes, it.told, (it.all, inl (it.size, it.text, it.working, it.status_is)))
