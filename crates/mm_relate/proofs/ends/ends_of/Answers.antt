use Rattle.std.proofs.Common.{option_map, string_bytes, ap, subst, rules}
use Rattle.std.specs.FinMap.{get}
use Rattle.mm_relate.specs.Relations.{ends}
use Rattle.mm_relate.proofs.EndTexts.{EndsShown, ends_look, ends_told}
use Rattle.mm_store.proofs.Going.{tells, failed, denied}
use Rattle.mm_store.proofs.Asking.{told_fault}
use Rattle.mm_relate.proofs.ends.ends_of.Goals as goal

pub returns-in-Ok : goal.returns-in-Ok
returns-in-Ok g c =
    let mapping = c.args.mapping.now in
    let pair = c.in-Ok.ends in
    tells (ends_look mapping (search rules) c.in_ok-row.ensures)
    (λ profile p says. ends_told (get p.relations mapping) c.in-Some.row
    (subst (EndsShown (get p.relations mapping)) c.in-Some.is says)
    (string_bytes pair.0) (string_bytes pair.1) c.in-Ok.ensures.0 c.in-Ok.ensures.1)

pub returns-in-Some : goal.returns-in-Some
returns-in-Some g c =
    denied (ends_look c.args.mapping.now (search rules) c.in_ok-row.ensures)
    (told_fault c.in-Err.error c.fault_of.result c.fault_of.ensures)

pub returns : goal.returns
returns g c =
    let mapping = c.args.mapping.now in
    tells (ends_look mapping (search rules) c.in_ok-row.ensures)
    (λ profile p says. ap (option_map ends) (subst (EndsShown (get p.relations mapping)) c.in-None.is says))

pub returns-in_err-row : goal.returns-in_err-row
returns-in_err-row g c = failed (ends_look c.args.mapping.now (search rules) c.in_err-row.ensures)
    c.from_residual.ensures.1
