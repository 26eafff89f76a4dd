use Rattle.std.proofs.Common.{◌∙◌, ap, Bool, true}
use Rattle.clap.specs.Simple.{app_of_fields, on_top}
use Rattle.clap.specs.declared.builder.command.Command.{Command}
use Rattle.clap.specs.declared.builder.command.Command.TheOpen.{Command-F}
use Rattle.mm_arguments.proofs.commands.program_command.Goals as goal

pub returns : goal.returns
returns c =
    let with_version = ap app_of_fields c.version.ensures
    ∙ ap (on_top (λ s. record s { has_version = true })) c.new.ensures.app in
    let shown = ap app_of_fields c.after_help.ensures ∙ ap app_of_fields c.about.ensures ∙ with_version in
    let wanted = ap app_of_fields c.subcommand_required.ensures
    ∙ ap (on_top (λ s. record s { subcommand_required = true })) shown in
    let globals : Command-F Command → Bool = λ f. f.has_globals in
    let told = ap globals c.about.ensures ∙ ap globals c.version.ensures ∙ c.new.ensures.local in
    let local =
    ap globals c.arg_required_else_help.ensures ∙ ap globals c.subcommand_required.ensures
    ∙ ap globals c.after_help.ensures ∙ told in
    let asked = ap (on_top (λ s. record s { arg_required_else_help = true })) wanted in
    (ap app_of_fields c.arg_required_else_help.ensures ∙ asked, local)
