use Rattle.std.proofs.Common.{rules, ◌≡◌, ◌∙◌, ap, sym, subst, map, Option, Some, None}
use Rattle.std.specs.Prelude.{IfSome}
use Rattle.clap.specs.Words.{App, HasKind, app_of, fault_of, found_of, is_simple, is_simple_and_free, rows_of}
use Rattle.clap.specs.Words.{subcommand_of}
use Rattle.mm_arguments.specs.CommandLine.{command_line}
use Rattle.mm_arguments.specs.Requests.{AsksFor}
use Rattle.mm_arguments.specs.declared.requests.Request.{Request}
use Rattle.mm_arguments.proofs.Reading.{met}
use Rattle.mm_arguments.proofs.Building.{is_free_line, is_simple_line}
use Rattle.mm_arguments.proofs.requests.read_arguments.Goals.{in-Some, in-None}
use Rattle.mm_arguments.proofs.requests.read_arguments.Goals as goal

pub returns-in_err-matches-clause-fails : goal.returns-in_err-matches-clause-fails
returns-in_err-matches-clause-fails c =
    let is : app_of c.in_ok-command.field-0 ≡ command_line = c.in_ok-command.ensures.0 in
    let kinds = c.in_err-matches.ensures.kinds (ap is_simple_and_free is ∙ is_free_line) in
    let told = subst (λ (a : App). HasKind (fault_of a (map (λ word. word.now) c.args.words.now))
    c.in_err-matches.field-0.0) is kinds in
    search rules

pub returns-in-Some-asked-clause-asks : goal.returns-in-Some-asked-clause-asks
returns-in-Some-asked-clause-asks c =
    let is : app_of c.in_ok-command.field-0 ≡ command_line = c.in_ok-command.ensures.0 in
    let given = c.in_ok-matches.ensures.matches (ap is_simple is ∙ is_simple_line) in
    elim c.match-subcommand.branch [
      | in-Some w ↦
          let name = w.in-Some.name.now in
          let rows = rows_of (found_of w.in-Some.inner.now) in
          let entered = met c.in_ok-matches.matches name rows w.in-Some.ensures.name w.in-Some.ensures.rows in (
            name,
            rows,
            sym (ap (λ (a : App). subcommand_of a (map (λ word. word.now) c.args.words.now)) is)
                ∙ (sym given.1 ∙ entered),
            subst (λ (o : Option Request). IfSome o (AsksFor name rows)) (sym w.asked-is ∙ c.in-Some-asked.is)
                w.request_of-asked.ensures.asks,
          )
      | in-None w ↦ let no : None ≡ Some c.in-Some-asked.request = sym w.asked-is ∙ c.in-Some-asked.is in cc
    ]

pub returns-in-Some-asked-clause-fails : goal.returns-in-Some-asked-clause-fails
returns-in-Some-asked-clause-fails c =
    let is : app_of c.in_ok-command.field-0 ≡ command_line = c.in_ok-command.ensures.0 in
    let none = c.in_ok-matches.ensures.kinds (ap is_simple_and_free is ∙ is_free_line) in
    sym (ap (λ (a : App). fault_of a (map (λ word. word.now) c.args.words.now)) is) ∙ none
