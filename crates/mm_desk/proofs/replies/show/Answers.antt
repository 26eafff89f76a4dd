use Rattle.std.proofs.Common.{option_map, subst}
use Rattle.std.proofs.lemmas.Str.{IsUtf8-from_ascii}
use Rattle.mm_page.specs.Promised.{MakesResponse}
use Rattle.mm_desk.specs.Replies.{AsksPart, ShowsTo}
use Rattle.mm_desk.proofs.Showing.{asks_nothing, part_ascii}
use Rattle.mm_desk.proofs.replies.show.Goals as goal

pub returns-in-Ok : goal.returns-in-Ok
returns-in-Ok g c =
    subst (λ path. MakesResponse g.D.Viewer c.args.desk.now c.show_text.new.desk c.show_text.result
    (ShowsTo (option_map (λ name. name.now) c.args.page) path) (AsksPart path))
    c.in-Ok.ensures.cases.0 c.show_text.ensures

pub returns-in-Err : goal.returns-in-Err
returns-in-Err g c =
    let none : ¬ (AsksPart c.args.path.now) =
    (λ asks. c.in-Err.ensures.cases.0 (IsUtf8-from_ascii c.args.path.now (part_ascii c.args.path.now asks))) in
    asks_nothing g.D.Viewer (option_map (λ name. name.now) c.args.page) c.args.path.now c.args.desk.now
    c.nothing_found.result none c.nothing_found.ensures.bytes c.nothing_found.ensures.memory
