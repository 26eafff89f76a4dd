use Rattle.std.proofs.Common.{inl, inr, option_map, rules, w64}
use Rattle.std.proofs.lemmas.Int.{to_z-of_z}
use mir.Val.{SFits}
use Rattle.mm_desk.specs.Replies.{AsksPart}
use Rattle.mm_desk.proofs.Showing.{asks_nothing, replied}
use Rattle.mm_desk.proofs.replies.show_text.Goals as goal

pub returns-in-Some : goal.returns-in-Some
returns-in-Some g c =
    let fits : SFits w64 c.in-Some.first = search rules in
    let shown = rw (to_z-of_z w64 c.in-Some.first fits) at c.rows_reply.ensures in
    replied g.D.Viewer (option_map (λ name. name.now) c.args.page) c.args.path.now _ _ c.rows_reply.result _ shown
    (λ p bytes e. inl (c.in-Some.table, c.in-Some.first, c.in-Some.ensures, e))
    (inl (c.in-Some.table, c.in-Some.first, c.in-Some.ensures))

pub returns-in-Ok-None : goal.returns-in-Ok-None
returns-in-Ok-None g c =
    let nothing = rw (c.in-Ok-None.is, c.in-Ok-None.field-0-is) at c.read_path.ensures.wanted in
    let none : ¬ (AsksPart c.args.path.now) = (λ asks. elim asks [
      | inl (table, first, rows) ↦ c.in_default.ensures table first rows
      | inr (w, routed) ↦ nothing w routed
    ]) in
    asks_nothing g.D.Viewer (option_map (λ name. name.now) c.args.page) c.args.path.now c.args.desk.now
    c.nothing_found.result none c.nothing_found.ensures.bytes c.nothing_found.ensures.memory
