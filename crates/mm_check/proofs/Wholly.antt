-- The form of the blobs, and then the rules, as one check.
use Rattle.std.proofs.Common.{ℕ, true, Option, Some, None, Result, Ok, Err, arith}
use Rattle.sqlite.specs.State.{State, HasCleanDisk}
use Rattle.mm_definitions.specs.Bounds.{Profile}
use Rattle.mm_definitions.specs.Package.{Package}
use Rattle.mm_definitions.specs.declared.answers.Fault.{Fault}
use Rattle.mm_definitions.specs.declared.answers.Open.TheVariants as opens
use Rattle.mm_store.specs.Seen.{IsSeenAs}
use Rattle.mm_store.specs.Stands.{IsSettled}
use Rattle.mm_store.proofs.Quiet.{quiet_then}
use Rattle.mm_column_limits.specs.Longest.{AreFew}
use Rattle.mm_check.specs.Checked.{IsChecked}
use Rattle.mm_check.specs.Form.{AreInForm, IsFormCheck, TellsLongest}
use Rattle.mm_check.specs.Verdict.{IsVerifiedWhere}
use Rattle.mm_check.proofs.Known.{few_seen}
use Rattle.mm_check.proofs.Reading.{asked_stands, asked_fails, formed_for}

module _ (profile : Profile) (old new : State) where
  pub blobs_told : TellsLongest old new AreInForm (Ok None) → IsChecked profile old new (Err opens.BadBlobs)
  blobs_told told = let it = told.form in record {
    mode = it.mode;
    survives = it.survives;
    is_open = λ clean. tt;
    seen = λ clean p s. it.seen clean profile p s;
    settled = λ clean p s. it.settled clean profile p s;
    says = λ clean p s. formed_for profile.version old p s.reads (asked_fails old new it clean) (it.same clean).0;
    blobs = λ clean. asked_fails old new it clean;
    no_number = tt;
    faults = tt;
  }

  pub form_unknown : (fault : Fault) → TellsLongest old new AreInForm (Err fault)
      → IsChecked profile old new (Err (opens.Fault fault))
  form_unknown fault told = let it = told.form in record {
    mode = it.mode;
    survives = it.survives;
    is_open = λ clean. tt;
    seen = λ clean p s. it.seen clean profile p s;
    settled = λ clean p s. it.settled clean profile p s;
    says = λ clean p s. tt;
    blobs = λ clean. tt;
    no_number = tt;
    faults = it.faults;
  }

module _ (profile : Profile) (old mid new : State) (longest : ℕ)
    (told : TellsLongest old mid AreInForm (Ok (Some longest))) where
  abbrev formed : IsFormCheck old mid AreInForm (Ok true)
  formed = told.form

  module _ {r : Result (Option ℕ) Fault} (it : IsVerifiedWhere profile (AreFew (Some longest)) mid new r) where
    before : HasCleanDisk new → HasCleanDisk mid
    before clean = omega (arith, clean, it.survives.clean)

    formed_seen : HasCleanDisk new → (p : Package) → IsSeenAs profile old p → IsSeenAs profile mid p
    formed_seen clean p s = formed.seen (before clean) profile p s

    formed_settled : HasCleanDisk new → (p : Package) → IsSettled profile old p → IsSettled profile mid p
    formed_settled clean p s = formed.settled (before clean) profile p s

    -- so many bytes an entry has at most
    formed_few : HasCleanDisk new → (p : Package) → IsSeenAs profile old p → AreFew (Some longest) p
    formed_few clean p s =
        few_seen profile old p longest (formed.same (before clean)).0 s
        (λ kept keeps. told.longest (before clean) kept keeps)

  pub checked_well : IsVerifiedWhere profile (AreFew (Some longest)) mid new (Ok None)
      → IsChecked profile old new (Ok tt)
  checked_well it = record {
    mode = λ none. it.mode (formed.mode none);
    survives = quiet_then old mid new formed.survives it.survives;
    is_open = it.is_open;
    seen = λ clean p s. it.seen clean p (formed_seen it clean p s);
    settled = λ clean p s. it.settled clean p (formed_settled it clean p s);
    says = λ clean p s. it.says clean p (formed_seen it clean p s) (formed_few it clean p s);
    blobs = λ clean. asked_stands old mid formed (before it clean);
    no_number = tt;
    faults = tt;
  }

  pub rule_told : (rule : ℕ) → IsVerifiedWhere profile (AreFew (Some longest)) mid new (Ok (Some rule))
      → IsChecked profile old new (Err (opens.Rule rule))
  rule_told rule it = record {
    mode = λ none. it.mode (formed.mode none);
    survives = quiet_then old mid new formed.survives it.survives;
    is_open = λ clean. tt;
    seen = λ clean p s. it.seen clean p (formed_seen it clean p s);
    settled = λ clean p s. it.settled clean p (formed_settled it clean p s);
    says = λ clean p s. it.says clean p (formed_seen it clean p s) (formed_few it clean p s);
    blobs = λ clean. asked_stands old mid formed (before it clean);
    no_number = tt;
    faults = tt;
  }

  pub check_stopped : (fault : Fault) → IsVerifiedWhere profile (AreFew (Some longest)) mid new (Err fault)
      → IsChecked profile old new (Err (opens.Fault fault))
  check_stopped fault it = record {
    mode = λ none. it.mode (formed.mode none);
    survives = quiet_then old mid new formed.survives it.survives;
    is_open = λ clean. tt;
    seen = λ clean p s. it.seen clean p (formed_seen it clean p s);
    settled = λ clean p s. it.settled clean p (formed_settled it clean p s);
    says = λ clean p s. tt;
    blobs = λ clean. tt;
    no_number = tt;
    faults = it.faults;
  }
