use Rattle.std.proofs.Common.{◌∙◌, inl, inr, ℤ, List, map, option_map, Option, Some, None, Result, Ok, Err, IfOk, Vec}
use Rattle.std.proofs.Common.{Global, sym, ap, subst}
use Rattle.std.specs.Prelude.{if◌then◌else◌}
use Rattle.std.proofs.lemmas.Bool.{cases_Bool}
use Rattle.std.proofs.Math.Facts.{to_z-of_z}
use Rattle.sqlite.specs.Held.{state}
use Rattle.mm_definitions.specs.Keys.{Text}
use Rattle.mm_definitions.specs.Package.{Package, AttributeRow}
use Rattle.mm_definitions.specs.declared.answers.Fault.{Fault}
use Rattle.mm_definitions.specs.declared.entries.Row.{Row as RowTold}
use Rattle.mm_core.specs.Parts.{connection, must_reopen}
use Rattle.mm_reads.specs.RowLists.{TellsRows, first_rows, numbered_told}
use Rattle.mm_reads.specs.Shown.{shown_rows}
use Rattle.mm_reads.specs.Viewers.{LeavesPackage, ShowsValue}
use Rattle.mm_reads.proofs.Leaving.{leaves_by, leaves_same}
use Rattle.mm_core.proofs.viewing.SessionViewer.rows.Goals as goal

abbrev Told : Type 0
Told = Option (Vec (ℤ × RowTold) Global)

abbrev told : Told → Option (List (ℤ × AttributeRow))
told = option_map (λ (v : Vec (ℤ × RowTold) Global). map numbered_told v.items)

-- rows that are told show what the page shows of the package
shown : (p : Package) (table : Text) (first : ℤ) (result : Result Told Fault)
    → IfOk result (λ found. TellsRows p table first found)
    → ShowsValue told (shown_rows p table first) result
shown p table first (Err fault) h = tt
shown p table first (Ok None) h = sym (ap (λ b. if b then Some (first_rows p table first) else None) h)
shown p table first (Ok (Some v)) h = ap Some h.1
    ∙ sym (ap (λ b. if b then Some (first_rows p table first) else None) h.0)

pub returns-clause-kept : goal.returns-clause-kept
returns-clause-kept g c = elim (cases_Bool (must_reopen c.args.self.now)) [
  | inl failed ↦
      subst (λ s. LeavesPackage (state g.S.Store (connection c.args.self.now)) (state g.S.Store (connection s)))
      (sym (c.rows.ensures.ended failed).1)
      (leaves_same (state g.S.Store (connection c.args.self.now)))
  | inr works ↦ leaves_by _ _ _ _ (c.rows.ensures.read works)
]

pub returns-clause-value : goal.returns-clause-value
returns-clause-value g c = λ p on. elim (cases_Bool (must_reopen c.args.self.now)) [
  | inl failed ↦ subst (λ r. ShowsValue told (shown_rows p c.args.table.now c.args.first) r)
      (sym (c.rows.ensures.ended failed).0) tt
  | inr works ↦
      let at = on works in
      let read = rw (to_z-of_z c.ranges.first) at (c.rows.ensures.read works) in
      shown p c.args.table.now c.args.first c.rows.result (read.says at.0 p at.1 at.2)
]
