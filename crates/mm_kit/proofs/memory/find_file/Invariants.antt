use Rattle.std.proofs.Common.{◌≡◌, drop}
use Rattle.mm_kit.specs.MemoryFolders.{file_at}
use Rattle.mm_kit.proofs.memory.find_file.Given as goal

abbrev pub invariant-files : goal.invariant-files
invariant-files l = file_at l.files l.name ≡ file_at (drop l.i l.files) l.name
