-- What is printed of the rows of a table, one read behind another.
use Rattle.std.proofs.Common.{◌≡◌, ◌∙◌, ◌<◌, ◌+ℤ◌, ℕ, ℤ, pos, Bool, true, false, List, [], ◌∷◌, ◌++◌}
use Rattle.std.proofs.Common.{map, length, take, drop, option_map, Option, Some, None, Result, Ok, Err, Vec, Global}
use Rattle.std.proofs.Common.{refl, sym, ap, subst, arith, append_assoc}
use Rattle.std.specs.Prelude.{IsErr, get_or, if◌then◌else◌}
use Rattle.std.specs.Io.KnownBytes.{Appends}
use Rattle.std.proofs.KnownBytes.{Appends-nil, Appends-trans}
use Rattle.std.proofs.lemmas.Grind.{flat_map-append}
use Rattle.std.proofs.lemmas.List.{take-append-drop}
use Rattle.sqlite.specs.State.{State}
use Rattle.mm_definitions.specs.Keys.{Text, same_number}
use Rattle.mm_definitions.specs.Package.{AttributeRow, Package}
use Rattle.mm_definitions.specs.Streams.{Written}
use Rattle.mm_definitions.specs.declared.answers.Fault.{Fault}
use Rattle.mm_definitions.specs.declared.entries.Row.{Row as RowTold}
use Rattle.mm_definitions.proofs.Parts.{same_some}
use Rattle.mm_reads.specs.RowLists.{MostRows, first_rows, lists_rows, numbered, numbered_told, rows_on}
use Rattle.mm_reads.specs.Shown.{shown_rows}
use Rattle.mm_reads.specs.Viewers.{IsOn, LeavesPackage, ShowsValue}
use Rattle.mm_reads.specs.Writing.{IsBegun, ListingTellsWriter}
use Rattle.mm_show.specs.Records.{row_record, row_records}
use Rattle.mm_show.specs.Turns.{PrintsFrom, ShowsFirst, TellsNext, TurnsOn, first_at, records_from}
use Rattle.mm_show.proofs.Chunks.{all_behind, all_read}

-- ---- which packages are seen

-- what is seen up to the last of some reads is seen up to an earlier one
pub on_first : (failed : Bool) (a b c : State) (p : Package) → LeavesPackage b c → IsOn failed a c p → IsOn failed a b p
on_first failed a b c p kept on works = let it = on works in (omega (arith, it.0, kept.survives.clean), it.1, it.2)

-- and from there on
pub on_then : (failed failed' : Bool) (a b c : State) (p : Package) → failed' ≡ failed → LeavesPackage a b
    → LeavesPackage b c → IsOn failed a c p
    → IsOn failed' b c p
on_then failed failed' a b c p same one two on works =
    let it = on (sym same ∙ works) in (it.0, it.1, one.seen (omega (arith, it.0, two.survives.clean)) p it.2)

-- ---- beginnings

pub begun_none : (held : Option (List ℕ)) (text : List ℕ) → IsBegun held held text
begun_none held text = ([], text, refl, Appends-nil held)

pub begun_by : (old new : Option (List ℕ)) (whole front rest : List ℕ) → whole ≡ front ++ rest → Appends old new front
    → IsBegun old new whole
begun_by old new whole front rest is appends = (front, rest, is, appends)

pub begun_in : (old new : Option (List ℕ)) (whole text more : List ℕ) → whole ≡ text ++ more → IsBegun old new text
    → IsBegun old new whole
begun_in old new whole text more is (front, rest, here, appends) =
    (front, rest ++ more, is ∙ ap (λ t. t ++ more) here ∙ append_assoc front rest more, appends)

pub begun_behind : (old mid new : Option (List ℕ)) (whole text more : List ℕ) → whole ≡ text ++ more
    → Appends old mid text → IsBegun mid new more
    → IsBegun old new whole
begun_behind old mid new whole text more is first (front, rest, here, appends) = (
  text ++ front,
  rest,
  is ∙ ap (λ t. text ++ t) here ∙ sym (append_assoc text front rest),
  Appends-trans old mid new
      text front first appends,
)

-- ---- the rows of one read

abbrev Numbered : Type 0
Numbered = List (ℤ × AttributeRow)

abbrev pub told : Option (Vec (ℤ × RowTold) Global) → Option Numbered
told = option_map (λ v. map numbered_told v.items)

module _ (p : Package) (table : Text) (first : ℤ) (rows : Numbered) (read : rows ≡ first_rows p table first) where
  -- they begin what is printed from there on
  pub rows_begin : records_from p table first ≡ row_records table rows
      ++ row_records table (drop MostRows (map numbered (rows_on p table first)))
  rows_begin =
      let all = map numbered (rows_on p table first) in
      ap (row_records table) (sym (take-append-drop MostRows all))
      ∙ flat_map-append (row_record table) (take MostRows all) (drop MostRows all)
      ∙ ap (λ l. row_records table l ++ row_records table (drop MostRows all)) (sym read)

  pub rows_end : length rows < MostRows → row_records table rows ≡ records_from p table first
  rows_end few = ap (row_records table) (sym (all_read p table first rows read few))

  pub rows_go_on : (before : Numbered) (last : ℤ × AttributeRow) → rows ≡ before ++ last ∷ []
      → records_from p table first ≡ row_records table rows ++ records_from p table (last.0 +ℤ pos 1)
  rows_go_on before last ends =
      ap (row_records table) (all_behind p table first rows before last read ends)
      ∙ flat_map-append (row_record table) rows
      (map numbered (rows_on p table (last.0 +ℤ pos 1)))

  module _ (old mid : Written) (printed : Appends old.contents mid.contents (row_records table rows)) where
    -- the rows behind them are read
    pub turned : (next : ℤ) → TellsNext rows (Ok (Some next)) → lists_rows p table ≡ true
        → (result : Result (Option (Vec (ℤ × RowTold) Global)) Fault)
        → ShowsValue told (shown_rows p table next) result → TurnsOn p table first old mid result
    turned next (before, last, ends, is) lists (Ok (Some more)) value =
        let here = value ∙ ap (λ b. if b then Some (first_rows p table next) else None) lists in (
          row_records table rows,
          next,
          printed,
          rows_go_on before last ends ∙ ap (λ n. row_records table rows ++ records_from p table n)
              (sym is),
          same_some here,
        )
    turned next it lists (Ok None) value = absurd
        (let f : None ≡ Some (first_rows p table next) = value ∙ ap (λ b. if b then Some (first_rows p table next)
        else None) lists in cc)
    turned next it lists (Err fault) value = begun_by old.contents mid.contents _ _ _ rows_begin printed

-- ---- the fault of a read

-- a turn that met a fault
pub turn_stops : {A : Type 0} (p : Package) (table : Text) (first : ℤ) (old new : Written)
    (r : Result (Option (Vec (ℤ × RowTold) A)) Fault) → IsErr r
    → IsBegun old.contents new.contents (records_from p table first) → TurnsOn p table first old new r
turn_stops p table first old new (Ok it) stops begun = absurd (let f : false ≡ true = stops in cc)
turn_stops p table first old new (Err fault) stops begun = begun

-- ---- one read behind another

-- so much was printed of what is from an id on, and these rows are the next to be
pub record Printed (p : Package) (table : Text) (first : ℤ) (old new : Option (List ℕ)) (rows : Numbered) : Type 0 where
  pub text : List ℕ
  pub next : ℤ
  pub appends : Appends old new text
  pub is : records_from p table first ≡ text ++ records_from p table next
  pub read : rows ≡ first_rows p table next

pub printed_none : (p : Package) (table : Text) (first : ℤ) (held : Option (List ℕ)) (rows : Numbered)
    → rows ≡ first_rows p table first
    → Printed p table first held held rows
printed_none p table first held rows read =
    record { text = []; next = first; appends = Appends-nil held; is = refl; read = read }

module _ (p : Package) (table : Text) (first : ℤ) (old mid new : Option (List ℕ)) (rows : Numbered)
    (it : Printed p table first old mid rows) where
  pub printed_more : (more : Numbered) → (text : Text) × (next : ℤ) × Appends mid new text ×
      (records_from p table it.next ≡ text ++ records_from p table next) × (more ≡ first_rows p table next)
      → Printed p table first old new more
  printed_more more (text, next, appends, is, read) = record {
    text = it.text ++ text;
    next = next;
    appends = Appends-trans old mid new it.text text it.appends appends;
    is = it.is ∙ ap (λ t. it.text ++ t) is ∙ sym (append_assoc it.text text (records_from p table next));
    read = read;
  }

  pub printed_all : Appends mid new (records_from p table it.next) → Appends old new (records_from p table first)
  printed_all appends = subst (Appends old new) (sym it.is)
      (Appends-trans old mid new it.text (records_from p table it.next) it.appends appends)

  pub printed_cut : IsBegun mid new (records_from p table it.next) → IsBegun old new (records_from p table first)
  printed_cut begun = begun_behind old mid new _ it.text _ it.is it.appends begun

pub printed_so_far : (p : Package) (table : Text) (first : ℤ) (old new : Option (List ℕ)) (rows : Numbered)
    → Printed p table first old new rows
    → IsBegun old new (records_from p table first)
printed_so_far p table first old new rows it = begun_by old new _ it.text _ it.is it.appends

-- a print that met a fault
pub print_stops : (p : Package) (table : Text) (first : ℤ) (old new : Written) (r : Result (Unit {0}) Fault) → IsErr r
    → IsBegun old.contents new.contents (records_from p table first) → PrintsFrom p table first old new r
print_stops p table first old new (Ok it) stops begun = absurd (let f : false ≡ true = stops in cc)
print_stops p table first old new (Err fault) stops begun = begun

-- ---- the first of some rows

module _ (id : ℤ) where
  pub first_same : (rows : List (ℤ × RowTold)) (row : ℤ × RowTold) → 0 < length rows → row ≡ get_or rows 0 row
      → same_number row.0 id ≡ true
      → (first_at id (map numbered_told rows) ≡ numbered_told row ∷ [])
      × (map numbered_told (take 1 rows) ≡ numbered_told row ∷ [])
  first_same [] row some is on = absurd (omega (arith, some))
  first_same (x ∷ rows) row some is on = (
    ap (λ b. if b then numbered_told x ∷ [] else []) (ap (λ (r : ℤ × RowTold). same_number r.0 id) (sym is) ∙ on)
        ∙ ap (λ r. numbered_told r ∷ []) (sym is),
    ap (λ r. numbered_told r ∷ []) (sym is),
  )

-- a show of one that met a fault
pub first_stops : (table : Text) (id : ℤ) (rows : Numbered) (old new : Written) (r : Result (Option ℕ) Fault)
    (fault : Fault) → r ≡ Err fault
    → (row : ℤ × AttributeRow) → first_at id rows ≡ row ∷ []
    → IsBegun old.contents new.contents (row_records table (first_at id rows))
    → ListingTellsWriter old.failed new.failed (Err fault)
    → ShowsFirst table id rows old new r
first_stops table id rows old new r fault is row same begun tells = subst (ShowsFirst table id rows old new) (sym is)
    (row, same, begun, tells)
