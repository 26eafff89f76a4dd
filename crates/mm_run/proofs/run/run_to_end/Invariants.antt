use Rattle.mm_run.proofs.run.run_to_end.Given as goal

abbrev pub ghosts-run_source : goal.ghosts-run_source
ghosts-run_source g a = record { name = a.held.reader.ghost_name }
