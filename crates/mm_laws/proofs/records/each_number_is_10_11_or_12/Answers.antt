use Rattle.mm_laws.proofs.Spelled.{command_number, piece_number}
use Rattle.mm_laws.proofs.records.each_number_is_10_11_or_12.Goals as goal

pub returns : goal.returns
returns c = record { commands = command_number; pieces = piece_number }
