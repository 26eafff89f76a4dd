-- What is shown of a package, by what was printed.
use Rattle.std.proofs.Common.{◌≡◌, ◌∙◌, ℤ, ℕ, pos, Bool, true, false, List, [], ◌∷◌, Option, Some, None, Result, Ok}
use Rattle.std.proofs.Common.{Err, IfOk, is_some, refl, sym, ap, subst}
use Rattle.std.specs.Prelude.{IsErr, if◌then◌else◌}
use Rattle.std.specs.FinMap.{contains_key, get}
use Rattle.std.specs.Io.KnownBytes.{Appends}
use Rattle.mm_definitions.specs.Bounds.{current}
use Rattle.mm_definitions.specs.Keys.{Text, item}
use Rattle.mm_definitions.specs.Package.{AttributeRow, Package}
use Rattle.mm_definitions.specs.Rules.{Meets}
use Rattle.mm_definitions.specs.Streams.{Written}
use Rattle.mm_definitions.specs.declared.answers.Fault.{Fault}
use Rattle.mm_definitions.specs.declared.refusals.TheConstants.{NO_ROW}
use Rattle.mm_reads.specs.RowLists.{first_rows, lists_rows}
use Rattle.mm_reads.specs.Writing.{IsBegun}
use Rattle.mm_show.specs.Records.{row_records}
use Rattle.mm_show.specs.Showing.{ShowsRecords, at_id, records_by, row_refusal, rows_of, table_refusal}
use Rattle.mm_show.specs.Turns.{PrintsFrom, ShowsFirst, first_at}
use Rattle.mm_show.proofs.Chunks.{all_rows, one_row}
use Rattle.mm_show.proofs.Turning.{begun_none}

at_some : (id : ℤ) (row : ℤ × AttributeRow) (o : Option AttributeRow) → at_id id o ≡ row ∷ [] → is_some o ≡ true
at_some id row None is = absurd cc
at_some id row (Some r) is = refl

at_none : (id : ℤ) (o : Option AttributeRow) → at_id id o ≡ [] → is_some o ≡ false
at_none id None is = refl
at_none id (Some r) is = absurd cc

module _ (p : Package) (table : Text) (lists : lists_rows p table ≡ true) where
  refuses : (id : Option ℤ) → (if lists_rows p table then row_refusal p table id else Some (table_refusal p table))
      ≡ row_refusal p table id
  refuses id = ap (λ b. if b then row_refusal p table id else Some (table_refusal p table)) lists

  module _ (id : ℤ) (rows : List (ℤ × AttributeRow)) (read : rows ≡ first_rows p table id) (old new : Written) where
    same : first_at id rows ≡ at_id id (get p.rows (item table id))
    same = ap (first_at id) read ∙ one_row p table id

    found : (b : Bool) → contains_key p.rows (item table id) ≡ b
        → row_refusal p table (Some id) ≡ (if b then None else Some NO_ROW)
    found b is = ap (λ x. if x then None else Some NO_ROW) is

    pub one_shown : (r : Result (Option ℕ) Fault) → ShowsFirst table id rows old new r
        → ShowsRecords p table (Some id) old new r
    one_shown (Ok None) (row, first, appends, working) = (
      refuses (Some id) ∙ found true (at_some id row _ (sym same ∙ first)),
      subst (λ l. Appends old.contents new.contents (row_records table l)) same appends,
    )
    one_shown (Ok (Some number)) (is, none, kept) =
        (refuses (Some id) ∙ found false (at_none id _ (sym same ∙ none)) ∙ ap Some (sym is), kept)
    one_shown (Err fault) (row, first, begun, tells) =
        let none = refuses (Some id) ∙ found true (at_some id row _ (sym same ∙ first)) in
        subst (λ (o : Option ℕ). IsBegun old.contents new.contents
        (records_by o (row_records table (at_id id (get p.rows (item table id)))))) (sym none)
        (subst (λ l. IsBegun old.contents new.contents (row_records table l)) same begun)

  module _ (meets : Meets current p) (old new : Written) where
    pub all_shown : (done : Unit {0}) → PrintsFrom p table (pos 1) old new (Ok done)
        → ShowsRecords p table None old new (Ok None)
    all_shown done printed = (
      refuses None,
      subst (λ l. Appends old.contents new.contents (row_records table l))
          (all_rows p table meets) printed,
    )

    pub all_cut : (fault : Fault) → PrintsFrom p table (pos 1) old new (Err fault) → (r : Result (Option ℕ) Fault)
        → IsErr r → ShowsRecords p table None old new r
    all_cut fault begun (Ok it) stops = absurd (let f : false ≡ true = stops in cc)
    all_cut fault begun (Err other) stops =
        subst (λ (o : Option ℕ). IsBegun old.contents new.contents (records_by o (row_records table (rows_of p table))))
        (sym (refuses None))
        (subst (λ l. IsBegun old.contents new.contents (row_records table l)) (all_rows p table meets) begun)

-- what is told of the rows of a table tells whether it lists any
pub told_some : {X : Type 0} (b : Bool) (x y : X) → Some x ≡ (if b then Some y else None) → (b ≡ true) × (x ≡ y)
told_some true x y is = (refl, cc)
told_some false x y is = absurd (let f : Some x ≡ None = is in cc)

pub told_none : {X : Type 0} (b : Bool) (y : X) → None ≡ (if b then Some y else None) → b ≡ false
told_none true y is = absurd (let f : None ≡ Some y = is in cc)
told_none false y is = refl

pub none_shown : (p : Package) (table : Text) (id : Option ℤ) (held : Written) → lists_rows p table ≡ false
    → (r : Result (Option ℕ) Fault)
    → IfOk r (λ why. why ≡ Some (table_refusal p table)) → ShowsRecords p table id held held r
none_shown p table id held off (Ok None) why = absurd (let f : None ≡ Some (table_refusal p table) = why in cc)
none_shown p table id held off (Ok (Some number)) why =
    (ap (λ b. if b then row_refusal p table id else Some (table_refusal p table)) off ∙ sym why, refl)
none_shown p table id held off (Err fault) why = begun_none held.contents _
