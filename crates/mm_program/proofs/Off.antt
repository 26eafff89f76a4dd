-- Why work on a file is not told, and what is left of it.
use Rattle.std.proofs.Common.{ℕ, Bool, Option, None, Result, Err, inl, inr, refl, ap}
use Rattle.sqlite_disk.specs.declared.Disk.{Ghosts}
use Rattle.sqlite.specs.Tree.{Trees}
use Rattle.sqlite.specs.Recovery.{Image}
use Rattle.mm_definitions.specs.Keys.{Text}
use Rattle.mm_definitions.specs.Streams.{Written}
use Rattle.mm_definitions.specs.declared.answers.Fault.{Fault}
use Rattle.mm_definitions.specs.Faults.{IsStoreFault}
use Rattle.mm_files.specs.Files.{IsUntoldFor, IsWhyNot}
use Rattle.mm_files.specs.Worked.{HasNotWorked, IsUnclosed, IsUnworked, TellsFileBytes}
use Rattle.mm_files.specs.declared.left.Left.{Left}
use Rattle.mm_files.specs.declared.left.Left.TheVariants as left
use Rattle.mm_files.specs.declared.left.NotDone.{NotDone}
use Rattle.mm_files.specs.declared.left.NotDone.TheVariants as why
use Rattle.mm_work.specs.declared.stop.Stop.{Stop}
use Rattle.mm_work.specs.declared.stop.Stop.TheVariants as stops
use Rattle.mm_program.specs.Files.{IsUndone, OffFile, OnFile, WasBare, WorkEnds, WorksOnFile, stop_for}
use Rattle.mm_program.specs.Stops.{IsFileFault, StopsAny, StopsNew, StopsOn}

-- ---- why it was not done

file_fault : (fault : Fault) → IsStoreFault fault → IsFileFault fault
file_fault fault (inl memory) = inl (ap (λ (it : Fault). it.0) memory)
file_fault fault (inr store) = inr (inl (ap (λ (it : Fault). it.0) store))

-- of one of so many bytes
stops_on : (length : Option ℕ) (it : NotDone) → IsWhyNot length it → StopsOn length (stop_for it)
stops_on length why.NotEmpty is = is
stops_on length (why.Fault fault) is = file_fault fault is

-- of one that is to be made
pub stops_new : (s : Stop) → StopsOn None s → StopsNew s
stops_new stops.NotEmpty it = tt
stops_new (stops.NotPackage n) it = it
stops_new (stops.Rule n) it = it
stops_new (stops.Fault fault) it = it

-- what may be told of any file
pub any_new : (s : Stop) → StopsAny s → StopsNew s
any_new stops.NotEmpty it = tt
any_new (stops.NotPackage cause) it = it
any_new (stops.Rule rule) it = it
any_new (stops.Fault fault) it = it

-- ---- what is left

module _ {D S Done : Type 0} (g : Ghosts D) (image : Image) (path : Text) (closes : Done → Bool) where
  module _ (tells : Trees → Written → Written → Done → Type 0)
      (leaves : Trees → Trees → Written → Written → Done → Type 0) (old new : Written) (length : Option ℕ) where
    -- what `on_file` says
    off_file : (rest : Left D S g) (it : NotDone) → IsUnworked g image path rest
        → IsUnclosed g tells leaves closes old new image rest → TellsFileBytes g image it rest → IsWhyNot length it
        → OffFile g image path (StopsOn length) (λ found done. tells found old new done)
        (λ found after done. leaves found after old new done) closes (stop_for it) rest
    off_file (left.Untouched start) it un still bytes is = stops_on length it is
    off_file left.Unopened why.NotEmpty un still bytes is = absurd bytes
    off_file left.Unopened (why.Fault fault) un still bytes is = is
    off_file (left.Refused rest) it un still bytes is = (stops_on length it is, un)
    off_file (left.Unclosed rest) why.NotEmpty un still bytes is = absurd bytes
    off_file (left.Unclosed rest) (why.Fault fault) un still bytes is = (is, un, still)
    off_file (left.Worked opened) it un still bytes is = un

module _ {D S T : Type 0} (g : Ghosts D) (image : Image) (path : Text) (tells : Trees → Result T Stop → Type 0)
    (leaves : Trees → Trees → Result T Stop → Type 0) (closes : Result T Stop → Bool) where
  -- so of what was told
  on_err : (IsCause : Stop → Type 0) (s : Stop) (rest : Left D S g)
      → OffFile g image path IsCause tells leaves closes s rest
      → OnFile g image path IsCause tells leaves closes (Err s) rest
  on_err IsCause s (left.Untouched start) it = (s, refl, it)
  on_err IsCause s left.Unopened it = (s, refl, it)
  on_err IsCause s (left.Refused rest) it = (s, refl, it)
  on_err IsCause s (left.Unclosed rest) it = (s, refl, it)
  on_err IsCause s (left.Worked opened) it = absurd it

  -- and for a wider cause
  on_wider : (P Q : Stop → Type 0) (done : Result T Stop) (rest : Left D S g) → ((s : Stop) → P s → Q s)
      → OnFile g image path P tells leaves closes done rest → OnFile g image path Q tells leaves closes done rest
  on_wider P Q done (left.Untouched start) so (s, is, off) = (s, is, so s off)
  on_wider P Q done left.Unopened so it = it
  on_wider P Q done (left.Refused rest) so (s, is, off) = (s, is, (so s off.0, off.1))
  on_wider P Q done (left.Unclosed rest) so it = it
  on_wider P Q done (left.Worked opened) so it = it

-- ---- what it came to

module _ {T : Type 0} (comes_to : Written → Written → Result T Stop → Type 0) (closes : Result T Stop → Bool)
    (old new : Written) where
  is_undone : (length : Option ℕ) (it : NotDone) → IsWhyNot length it → IsUntoldFor comes_to closes old new it
      → IsUndone comes_to closes old new (stop_for it)
  is_undone length why.NotEmpty is untold = inl untold
  is_undone length (why.Fault fault) is (inl same) = inl same
  is_undone length (why.Fault fault) is (inr it) = inr (file_fault fault is, it.0, it.1, it.2)

  ends_off : {D S : Type 0} (g : Ghosts D) (image : Image) (path : Text) (length : Option ℕ) (rest : Left D S g)
      (it : NotDone) → IsUnworked g image path rest → IsWhyNot length it → IsUntoldFor comes_to closes old new it
      → WorkEnds (StopsOn length) comes_to closes old new (Err (stop_for it)) rest
  ends_off g image path length (left.Untouched start) it un is untold =
      (stop_for it, refl, stops_on length it is, is_undone length it is untold)
  ends_off g image path length left.Unopened it un is untold =
      (stop_for it, refl, stops_on length it is, is_undone length it is untold)
  ends_off g image path length (left.Refused rest) it un is untold =
      (stop_for it, refl, stops_on length it is, is_undone length it is untold)
  ends_off g image path length (left.Unclosed rest) it un is untold =
      (stop_for it, refl, stops_on length it is, is_undone length it is untold)
  ends_off g image path length (left.Worked opened) it un is untold = absurd un

  ends_wider : {D S : Type 0} (g : Ghosts D) (P Q : Stop → Type 0) (done : Result T Stop) (rest : Left D S g)
      → ((s : Stop) → P s → Q s)
      → WorkEnds P comes_to closes old new done rest → WorkEnds Q comes_to closes old new done rest
  ends_wider g P Q done (left.Untouched start) so (s, same, is, undone) = (s, same, so s is, undone)
  ends_wider g P Q done left.Unopened so (s, same, is, undone) = (s, same, so s is, undone)
  ends_wider g P Q done (left.Refused rest) so (s, same, is, undone) = (s, same, so s is, undone)
  ends_wider g P Q done (left.Unclosed rest) so (s, same, is, undone) = (s, same, so s is, undone)
  ends_wider g P Q done (left.Worked opened) so it = it

-- ---- all of it

module _ {D S T : Type 0} (g : Ghosts D) (image : Image) (path : Text)
    (comes_to : Written → Written → Result T Stop → Type 0) (tells : Trees → Written → Written → Result T Stop → Type 0)
    (leaves : Trees → Trees → Written → Written → Result T Stop → Type 0) (closes : Result T Stop → Bool) where
  -- what `on_file` says of work that was not done, or could not be told
  pub not_done : (old new : Written) (length : Option ℕ) (rest : Left D S g) (it : NotDone)
      → HasNotWorked g image path length comes_to tells leaves closes old new rest it
      → WorksOnFile g image path (StopsOn length) comes_to tells leaves closes old new (Err (stop_for it)) rest
  not_done old new length rest it off = record {
    ended = ends_off comes_to closes old new g image path length rest it off.left off.why off.untold;
    files = on_err g image path (λ found it. tells found old new it)
        (λ found after it. leaves found after old new it) closes (StopsOn length) (stop_for it) rest
        (off_file g image path closes tells leaves old new length rest it off.left off.unclosed off.stand off.why);
    unprinted = off.unprinted;
  }

  -- no file was opened
  pub untouched : (IsCause : Stop → Type 0) (held : Written) (why : Stop) (start : S) → IsCause why
      → WorksOnFile g image path IsCause comes_to tells leaves closes held held (Err why) (left.Untouched start)
  untouched IsCause held why start is =
      record { ended = (why, refl, is, inl refl); files = (why, refl, is); unprinted = refl }

  -- of a wider cause
  pub works_wider : (P Q : Stop → Type 0) (old new : Written) (done : Result T Stop) (rest : Left D S g)
      → ((s : Stop) → P s → Q s)
      → WorksOnFile g image path P comes_to tells leaves closes old new done rest
      → WorksOnFile g image path Q comes_to tells leaves closes old new done rest
  works_wider P Q old new done rest so it = record {
    ended = ends_wider comes_to closes old new g P Q done rest so it.ended;
    files = on_wider g image path (λ found it. tells found old new it) (λ found after it. leaves found after old new it)
        closes P Q done rest so it.files;
    unprinted = it.unprinted;
  }

-- files that were not worked on say nothing of their bytes
pub not_bare : {D S : Type 0} (g : Ghosts D) (image : Image) (path : Text) (rest : Left D S g)
    → IsUnworked g image path rest → WasBare g image rest
not_bare g image path (left.Untouched start) un = tt
not_bare g image path left.Unopened un = tt
not_bare g image path (left.Refused rest) un = tt
not_bare g image path (left.Unclosed rest) un = tt
not_bare g image path (left.Worked opened) un = absurd un
