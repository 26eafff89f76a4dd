use Rattle.std.specs.Prelude.{⊤}
use Rattle.std.proofs.lemmas.Result.{err_from_is_err_and}
use Rattle.sqlite.specs.Held.{state}
use Rattle.mm_rules.specs.Parts.{RowsInTables, MediaInTables}
use Rattle.mm_definitions.specs.Rules.{Items}
use Rattle.mm_walk.proofs.Compose.{goes_on, stops, gives_up}
use Rattle.mm_rules.proofs.items.items.Goals as goal

pub returns-then-branch : goal.returns-then-branch
returns-then-branch g c profile =
    goes_on profile (state g.S.Store c.args.conn.now) (state g.S.Store c.rows_in_tables.new.conn)
    (state g.S.Store c.media_in_tables.new.conn) (λ _. ⊤) (λ p. RowsInTables p) (λ p. MediaInTables p)
    (λ p. Items p.kinds p.rows p.media) (λ p.
    (λ a. record { of_rows = a.0; of_media = a.1 }, λ r. (r.of_rows, r.of_media)))
    c.rows_in_tables.result c.media_in_tables.result c.in_ok-rows_in_tables.was c.if-branch.true
    (c.rows_in_tables.ensures profile) (c.media_in_tables.ensures profile)

pub returns-else-branch : goal.returns-else-branch
returns-else-branch g c profile =
    stops profile (state g.S.Store c.args.conn.now) (state g.S.Store c.rows_in_tables.new.conn) (λ _. ⊤)
    (λ p. RowsInTables p) (λ p. MediaInTables p) (λ p. Items p.kinds p.rows p.media)
    (λ p. (λ a. record { of_rows = a.0; of_media = a.1 }, λ r. (r.of_rows, r.of_media)))
    c.rows_in_tables.result c.in_ok-rows_in_tables.was c.if-branch.false (c.rows_in_tables.ensures profile)

pub returns-in_err-rows_in_tables : goal.returns-in_err-rows_in_tables
returns-in_err-rows_in_tables g c profile =
    let p = err_from_is_err_and c.from_residual.result c.from_residual.ensures.1 in
    rw (p.1, p.2) (gives_up profile (state g.S.Store c.args.conn.now) (state g.S.Store c.rows_in_tables.new.conn)
    (λ _. ⊤) (λ _. ⊤) (λ p. RowsInTables p) (λ p. Items p.kinds p.rows p.media) c.rows_in_tables.result
    c.in_err-rows_in_tables.field-0.0 c.in_err-rows_in_tables.was (c.rows_in_tables.ensures profile))
