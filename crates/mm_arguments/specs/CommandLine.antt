-- The command line, as `clap` reads one: the subcommands, and what each takes.
use Rattle.std.specs.Prelude.{◌≡◌, Some, [], ◌∷◌, codes, pos, true, false}
use Rattle.clap.specs.Simple.{new_shape}
use Rattle.clap.specs.Words.{App, Rule, Text, app_of, new_app, new_rule, rule_of, with_rule, with_subcommand}
use Rattle.clap.specs.declared.builder.action.ArgAction.TheVariants.{SetTrue}
use Rattle.clap.specs.declared.builder.arg.Arg.{Arg}
use Rattle.clap.specs.declared.builder.command.Command.{Command}
use Rattle.clap.specs.declared.builder.command.Command.TheViews.{out-Command as fields_of}
use Rattle.clap.specs.declared.builder.value_parser.ValueParser.TheVariants.{Signed}
use Rattle.mm_definitions.specs.Bounds.{LastId}

-- a word that has to stand
abbrev pub word : Text → Rule
word id = record (new_rule id) { required = true }

-- FILE: the package's file
abbrev pub file : Rule
file = word (codes "FILE")

-- --at MS, of the years up to 9999
abbrev pub at : Rule
at = record (new_rule (codes "at")) {
  long = Some (codes "at");
  value_names = 1;
  parser = Some (Signed (pos 0) (pos 253402300799999));
}

-- --port P: the TCP port to listen on, from 1 to 65535; it has to stand
abbrev pub port : Rule
port = record (new_rule (codes "port")) {
  long = Some (codes "port");
  value_names = 1;
  required = true;
  parser = Some (Signed (pos 1) (pos 65535));
}

-- --count N: how many connections are served, from 1 to 1,000,000, and so many where it doesn't stand
abbrev pub count : Rule
count = record (new_rule (codes "count")) {
  long = Some (codes "count");
  value_names = 1;
  defaults = codes "1000000" ∷ [];
  parser = Some (Signed (pos 1) (pos 1000000));
}

-- --page TABLE: the media table whose items a browser may run as pages
abbrev pub page : Rule
page = record (new_rule (codes "page")) {
  long = Some (codes "page");
  value_names = 1;
}

-- a flag of this name
abbrev pub flag : Text → Rule
flag id = record (new_rule id) { long = Some id; action = Some SetTrue }

-- --words: what each refusal says is written to standard error
abbrev pub words : Rule
words = flag (codes "words")

-- --progress: what is being done, and how far, is written to standard error
abbrev pub progress : Rule
progress = flag (codes "progress")

-- ANSWER: one to eight words
abbrev pub answer : Rule
answer = record (word (codes "ANSWER")) { range = Some (record { start_inclusive = 1; end_inclusive = 8 }) }

-- ID: the number of a row; it need not stand
abbrev pub id : Rule
id = record (new_rule (codes "ID")) { parser = Some (Signed (pos 1) (pos LastId)) }

-- ---- the subcommands

-- a subcommand of this name, which takes FILE
abbrev pub with_file_word : Text → App
with_file_word name = with_rule (new_app name) file

-- init FILE: makes a new package
abbrev pub init : App
init = with_file_word (codes "init")

-- run FILE [--at MS] [--words] [--progress]: applies the records of the input
abbrev pub run_subcommand : App
run_subcommand = with_rule (with_rule (with_rule (with_file_word (codes "run")) at) words) progress

-- kit FILE EDITION FOLDER [--at MS] [--words] [--progress]: stages the pieces of the kit in FOLDER
abbrev pub kit : App
kit =
    with_rule (with_rule (with_rule (with_rule (with_rule (with_file_word (codes "kit")) (word (codes "EDITION"))) (word (codes "FOLDER"))) at)
    words) progress

-- check FILE [--progress]: decides the sixteen rules
abbrev pub check : App
check = with_rule (with_file_word (codes "check")) progress

-- list FILE: lists the tables and the editions
abbrev pub list : App
list = with_file_word (codes "list")

-- show FILE TABLE [ID]: prints rows as the records that write them
abbrev pub show : App
show = with_rule (with_rule (with_file_word (codes "show")) (word (codes "TABLE"))) id

-- migrate FILE: brings a package of profile 1 to profile 2
abbrev pub migrate : App
migrate = with_file_word (codes "migrate")

-- serve FILE --port P [--count N] [--progress]: serves the page
abbrev pub serve : App
serve = with_rule (with_rule (with_rule (with_file_word (codes "serve")) port) count) progress

-- desk FILE --port P [--count N] [--page TABLE] [--progress]: shows the package and takes records, in one session
abbrev pub desk : App
desk = with_rule (with_rule (with_rule (with_rule (with_file_word (codes "desk")) port) count) page) progress

-- explain ANSWER..: tells what a number says
abbrev pub explain : App
explain = with_rule (new_app (codes "explain")) answer

-- ---- the whole

-- without words it shows help, a subcommand has to stand, and it has a version to show
abbrev pub start : App
start = record {
  top = record (new_shape (codes "mmpkg")) { subcommand_required = true; arg_required_else_help = true; has_version = true };
  subs = [];
}

-- the program with those subcommands that make a package and fill it
abbrev pub with_changes : App
with_changes = with_subcommand (with_subcommand (with_subcommand start init.top) run_subcommand.top) kit.top

-- the same with those that look at a package
abbrev pub with_looks : App
with_looks = with_subcommand (with_subcommand (with_subcommand with_changes check.top) list.top) show.top

-- the program with its ten subcommands
abbrev pub command_line : App
command_line =
    with_subcommand (with_subcommand (with_subcommand (with_subcommand with_looks serve.top) desk.top) migrate.top)
    explain.top

-- ---- the values that are made of it

-- the argument is this one
abbrev pub IsArgument : Rule → Arg → Type 0
IsArgument rule a = (rule_of a ≡ rule) × (a.global ≡ false)

-- the command is this one
abbrev pub IsCommand : App → Command → Type 0
IsCommand app c = (app_of c ≡ app) × ((fields_of c).has_globals ≡ false)
