-- Files on which no work was begun.
use Rattle.std.proofs.Common.{ℕ, Bool, Option, inl, refl}
use Rattle.sqlite_disk.specs.declared.Disk.{Ghosts}
use Rattle.sqlite.specs.Tree.{Trees}
use Rattle.sqlite.specs.Recovery.{Image}
use Rattle.mm_definitions.specs.Keys.{Text}
use Rattle.mm_definitions.specs.Streams.{Written}
use Rattle.mm_files.specs.Files.{IsUntoldFor, IsWhyNot}
use Rattle.mm_files.specs.Worked.{HasNotWorked, IsUnbegun, IsUnclosed, IsUnprinted, IsUnworked, TellsFileBytes}
use Rattle.mm_files.specs.declared.left.Left.{Left}
use Rattle.mm_files.specs.declared.left.Left.TheVariants as left
use Rattle.mm_files.specs.declared.left.NotDone.{NotDone}
use Rattle.mm_files.specs.declared.left.NotDone.TheVariants as why

module _ {D Done : Type 0} (g : Ghosts D) (image : Image) (path : Text) (bytes : Option ℕ)
    (comes_to : Written → Written → Done → Type 0) (tells : Trees → Written → Written → Done → Type 0)
    (leaves : Trees → Trees → Written → Written → Done → Type 0) (closes : Done → Bool) (held : Written) where
  not_unclosed : {S : Type 0} (rest : Left D S g) → IsUnbegun g rest
      → IsUnclosed g tells leaves closes held held image rest
  not_unclosed (left.Untouched start) none = tt
  not_unclosed left.Unopened none = tt
  not_unclosed (left.Refused rest) none = tt
  not_unclosed (left.Unclosed it) none = absurd none
  not_unclosed (left.Worked opened) none = tt

  unprinted : {S : Type 0} (rest : Left D S g) → IsUnbegun g rest → IsUnprinted g held held rest
  unprinted (left.Untouched start) none = refl
  unprinted left.Unopened none = refl
  unprinted (left.Refused rest) none = refl
  unprinted (left.Unclosed it) none = tt
  unprinted (left.Worked opened) none = tt

  untold : (cause : NotDone) → IsUntoldFor comes_to closes held held cause
  untold why.NotEmpty = refl
  untold (why.Fault fault) = inl refl

  pub unbegun : {S : Type 0} (rest : Left D S g) (cause : NotDone) → IsUnbegun g rest → IsWhyNot bytes cause
      → TellsFileBytes g image cause rest → IsUnworked g image path rest
      → HasNotWorked g image path bytes comes_to tells leaves closes held held rest cause
  unbegun rest cause none is stand un = record {
    why = is;
    stand = stand;
    left = un;
    unclosed = not_unclosed rest none;
    unprinted = unprinted rest none;
    untold = untold cause;
  }
