use Rattle.mm_laws.proofs.Spelled.{none_against_command, none_against_piece}
use Rattle.mm_laws.proofs.records.nothing_is_against_what_is_spelled.Goals as goal

pub returns : goal.returns
returns c = record { commands = none_against_command; pieces = none_against_piece }
