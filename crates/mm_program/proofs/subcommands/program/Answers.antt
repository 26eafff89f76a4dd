use Rattle.mm_program.proofs.subcommands.program.Goals as goal

pub returns-clause-all : goal.returns-clause-all
returns-clause-all g c = (_, c.program_on-status.ensures.told)
