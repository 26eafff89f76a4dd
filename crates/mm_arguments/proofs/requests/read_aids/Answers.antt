use Rattle.std.proofs.Common.{rules, ◌≡◌, ◌∙◌, ap, sym, subst, map, codes}
use Rattle.clap.specs.Words.{App, HasKind, app_of, fault_of, found_of, is_simple, is_simple_and_free, rows_of}
use Rattle.clap.specs.Words.{subcommand_of}
use Rattle.mm_arguments.specs.CommandLine.{command_line}
use Rattle.mm_arguments.proofs.Reading.{flag_read, met}
use Rattle.mm_arguments.proofs.Building.{is_free_line, is_simple_line}
use Rattle.mm_arguments.proofs.requests.read_aids.Goals as goal

pub returns-in_err-matches-clause-fails : goal.returns-in_err-matches-clause-fails
returns-in_err-matches-clause-fails c =
    let is : app_of c.in_ok-command.field-0 ≡ command_line = c.in_ok-command.ensures.0 in
    let kinds = c.in_err-matches.ensures.kinds (ap is_simple_and_free is ∙ is_free_line) in
    let told = subst (λ (a : App). HasKind (fault_of a (map (λ word. word.now) c.args.words.now))
    c.in_err-matches.field-0.0) is kinds in
    search rules

pub returns-in-Some-clause-wants : goal.returns-in-Some-clause-wants
returns-in-Some-clause-wants c =
    let is : app_of c.in_ok-command.field-0 ≡ command_line = c.in_ok-command.ensures.0 in
    let given = c.in_ok-matches.ensures.matches (ap is_simple is ∙ is_simple_line) in
    let f = found_of c.in-Some.inner.now in
    let words = c.get_flag.ensures in
    let progress = c.get_flag-in-Some.ensures in
    let entered = met c.in_ok-matches.matches c.in-Some.field-0-0.now (rows_of f) c.in-Some.ensures.name
    c.in-Some.ensures.rows in (
      c.in-Some.field-0-0.now,
      rows_of f,
      sym (ap (λ (a : App). subcommand_of a (map (λ word. word.now) c.args.words.now)) is) ∙ (sym given.1 ∙ entered),
      flag_read f (codes "words") c.get_flag.result words.none words.value words.other,
      flag_read f (codes "progress") c.get_flag-in-Some.result progress.none progress.value progress.other,
    )

pub returns-in-Some-clause-fails : goal.returns-in-Some-clause-fails
returns-in-Some-clause-fails c =
    let is : app_of c.in_ok-command.field-0 ≡ command_line = c.in_ok-command.ensures.0 in
    let none = c.in_ok-matches.ensures.kinds (ap is_simple_and_free is ∙ is_free_line) in
    sym (ap (λ (a : App). fault_of a (map (λ word. word.now) c.args.words.now)) is) ∙ none
