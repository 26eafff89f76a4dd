use Rattle.mm_program.proofs.kits.import_file.Goals as goal

pub returns : goal.returns
returns g c = c.on_old-done.ensures.worked.files
