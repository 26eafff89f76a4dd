use Rattle.mm_laws.proofs.Spelled.{one_command, one_piece}
use Rattle.mm_laws.proofs.records.fields_spell_one_command_at_most.Goals as goal

pub returns : goal.returns
returns c = record { commands = one_command; pieces = one_piece }
