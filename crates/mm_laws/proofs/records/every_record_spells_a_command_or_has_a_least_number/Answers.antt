use Rattle.mm_laws.proofs.Made.{command_or_number, piece_or_number}
use Rattle.mm_laws.proofs.records.every_record_spells_a_command_or_has_a_least_number.Goals as goal

pub returns : goal.returns
returns c = record { commands = command_or_number; pieces = piece_or_number }
