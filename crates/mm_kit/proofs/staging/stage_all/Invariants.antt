use Rattle.std.proofs.Common.{◌≡◌, ◌++◌, length, false, Some, List}
use Rattle.std.specs.Vec.Iter.{into_iter_items, into_iter_len}
use Rattle.mm_definitions.specs.Package.{Package}
use Rattle.mm_definitions.specs.declared.commands.Piece.{Piece}
use Rattle.mm_run.specs.Applied.{IsSound}
use Rattle.mm_run.specs.Sessions.{shown_since}
use Rattle.mm_kit.specs.Editions.{HasPieces}
use Rattle.mm_kit.specs.Folders.{Files}
use Rattle.mm_kit.specs.Imports.{IsPassedBy, IsImportedSoFar}
use Rattle.mm_kit.proofs.staging.stage_all.Given as goal

abbrev pub invariant-loop-entry : goal.invariant-loop-entry
invariant-loop-entry g l = record {
  can_next : (goal.iterator-loop-entry g).can_next l.entry-iterator;
  finite : (goal.iterator-loop-entry g).is_finite l.entry-iterator;
  count : l.staged ≡ length l.yielded;
  items : l.yielded ++ into_iter_items l.entry-iterator ≡ l.fn.entries.items;
  len : into_iter_len l.entry-iterator ≡ length (into_iter_items l.entry-iterator);
  clean : g.A.Apply.is_clean l.editor → g.A.Apply.is_clean l.fn.editor;
  working : g.A.Apply.has_failed l.editor ≡ false;
  folder : g.F.Folder.has_failed l.folder ≡ g.F.Folder.has_failed l.fn.folder;
  files : g.F.Folder.files l.folder ≡ g.F.Folder.files l.fn.folder;
  kept : g.A.Apply.is_clean l.editor → (p : Package) → IsSound (g.A.Apply.seen l.fn.editor) p → (old : List Piece)
      → HasPieces p l.fn.edition old
      → (q : Package) × IsSound (shown_since g.A.Apply l.fn.editor p l.editor).settled q
      × IsPassedBy (length l.yielded) l.fn.edition p old q;
  so_far : g.A.Apply.is_clean l.editor → (p : Package) → IsSound (g.A.Apply.seen l.fn.editor) p
      → (these : Files) → g.F.Folder.files l.fn.folder ≡ Some these
      → (old : List Piece) → HasPieces p l.fn.edition old
      → (q : Package) × IsSound (shown_since g.A.Apply l.fn.editor p l.editor).settled q
      × IsImportedSoFar these l.fn.edition l.fn.entries.items (into_iter_items l.entry-iterator) p old
      (length l.yielded) q;
}
