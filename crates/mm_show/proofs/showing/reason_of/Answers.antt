use Rattle.std.proofs.Common.{◌∙◌, Some, ap, sym}
use Rattle.std.specs.Prelude.{bytes_eq, if◌then◌else◌}
use Rattle.std.specs.List.{list_any}
use Rattle.mm_definitions.specs.declared.refusals.TheConstants.{ANOTHER_KIND, NO_TABLE}
use Rattle.mm_show.proofs.Standing.{stands_in}
use Rattle.mm_show.proofs.showing.reason_of.Goals as goal

pub returns-then-stands-clause-why : goal.returns-then-stands-clause-why
returns-then-stands-clause-why g c p on =
    let name = c.args.table.now in
    let there = sym c.if-stands.true ∙ c.stands.ensures
    ∙ ap (list_any (λ entry. bytes_eq entry.table name)) c.deref.ensures.value
    ∙ stands_in p name c.in_ok-tables.tables.items (c.in_ok-tables.ensures.value p on) in
    ap (λ b. Some (if b then ANOTHER_KIND else NO_TABLE)) there

pub returns-clause-why : goal.returns-clause-why
returns-clause-why g c p on =
    let name = c.args.table.now in
    let absent = sym c.if-stands.false ∙ c.stands.ensures
    ∙ ap (list_any (λ entry. bytes_eq entry.table name)) c.deref.ensures.value
    ∙ stands_in p name c.in_ok-tables.tables.items (c.in_ok-tables.ensures.value p on) in
    ap (λ b. Some (if b then ANOTHER_KIND else NO_TABLE)) absent
