-- What is printed of rows, or of why there are none.
use Rattle.std.proofs.Common.{◌≡◌, ◌∙◌, ℕ, ℤ, false, true, List, [], ◌∷◌, Option, Some, None, Result, Ok, Err, refl}
use Rattle.std.proofs.Common.{sym, ap, subst}
use Rattle.std.specs.Prelude.{IsErr}
use Rattle.std.specs.Io.KnownBytes.{Appends}
use Rattle.mm_definitions.specs.Keys.{Text}
use Rattle.mm_definitions.specs.Package.{Package}
use Rattle.mm_definitions.specs.Streams.{Written}
use Rattle.mm_definitions.specs.declared.answers.Fault.{Fault}
use Rattle.mm_core.specs.Writing.{IsBegun}
use Rattle.mm_show.specs.Records.{row_records}
use Rattle.mm_show.specs.Showing.{ShowsRecords, records_by, rows_shown, show_refusal}
use Rattle.mm_work.specs.Shown.{TellsReason, TellsShownRows, status_by, text_by}

pub told_records : (p : Package) (table : Text) (id : Option ℤ) (old new : Written)
    → ShowsRecords p table id old new (Ok None) → TellsShownRows p table id old new (Ok 0)
told_records p table id old new (none, printed) = (
  subst (λ (o : Option ℕ). Appends old.contents new.contents (text_by o (row_records table (rows_shown p table id))))
      (sym none) printed,
  ap status_by (sym none),
)

pub told_reason : (p : Package) (table : Text) (id : Option ℤ) (old mid new : Written) (number : ℕ) (r : Result ℕ Fault)
    → ShowsRecords p table id old mid (Ok (Some number))
    → TellsReason mid new number r → TellsShownRows p table id old new r
told_reason p table id old mid new number (Ok status) (why, same) (printed, is) = (
  subst (λ (o : Option ℕ). Appends old.contents new.contents (text_by o (row_records table (rows_shown p table id))))
      (sym why)
      (subst (λ (w : Written). Appends w.contents new.contents
      (text_by (Some number) (row_records table (rows_shown p table id)))) same printed.0),
  is ∙ ap status_by (sym why),
)
told_reason p table id old mid new number (Err fault) (why, same) printed =
    subst (λ (o : Option ℕ). IsBegun old.contents new.contents (text_by o (row_records table (rows_shown p table id))))
    (sym why)
    (subst (λ (w : Written). IsBegun w.contents new.contents
    (text_by (Some number) (row_records table (rows_shown p table id)))) same printed.0)

begun_by : (o : Option ℕ) (records : Text) (old new : Option (List ℕ)) → IsBegun old new (records_by o records)
    → IsBegun old new (text_by o records)
begun_by None records old new begun = begun
begun_by (Some number) records old new ([], rest, is, appends) = ([], text_by (Some number) records, refl, appends)
begun_by (Some number) records old new (b ∷ front, rest, is, appends) = absurd cc

pub told_begun : (p : Package) (table : Text) (id : Option ℤ) (old new : Written) (fault : Fault) (r : Result ℕ Fault)
    → IsErr r
    → ShowsRecords p table id old new (Err fault)
    → TellsShownRows p table id old new r
told_begun p table id old new fault (Ok status) stops begun = absurd (let f : false ≡ true = stops in cc)
told_begun p table id old new fault (Err other) stops begun =
    begun_by (show_refusal p table id) _ old.contents new.contents begun
