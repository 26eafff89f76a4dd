-- Files that hold nothing, and what an open of them finds.
use Rattle.std.proofs.Common.{◌≡◌, ℕ, ◌<◌, List, [], ◌∷◌, ◌++◌, length, take, slice_index, unwrap_or, false, true}
use Rattle.std.proofs.Common.{Option, inl, inr, Some, sym, ap, ◌∙◌, get_or-take, length-take, arith}
use Rattle.std.specs.Prelude.{codes}
use Rattle.std.proofs.Math.Logic.{∥∥₁_elim}
use Rattle.sqlite_wal.specs.Recovery.{Image}
use Rattle.sqlite_wal.proofs.AppendLemmas.{some_value}
use Rattle.sqlite_wal.proofs.CreateLemmas.{begun_is_not_blank}
use Rattle.sqlite_pages.specs.PageMap.{PageMap}
use Rattle.sqlite_pool.specs.Stored.{stored_size, used_size, sealed, Adopts}
use Rattle.sqlite_pool.specs.StoredLaws.{trimmed_some}
use Rattle.sqlite_pool.specs.Header.{first_page}
use Rattle.sqlite_pool.specs.File.{header_in, IsSoundFile}
use Rattle.sqlite_pool.specs.Opening.{IsBlankFile}
use Rattle.sqlite_pool.proofs.ProbeLemmas.{first_byte}
use Rattle.sqlite_trees.specs.Tree.{Trees}
use Rattle.sqlite_trees.specs.Objects.{catalog_tree}
use Rattle.sqlite.specs.Files.{IsNothing, AreFoundIn}

-- files that hold a database are not blank: its first page begins with the S of SQLite
module _ (size : ℕ) (image : Image) (pages : PageMap) (found : Adopts size image pages)
    (sound : IsSoundFile size pages) where
  begins : (page : List ℕ) → found.stored 1 ≡ Some page → (0 < size) × (1 < length page) × (slice_index page 0 ≡ 83)
  begins page is =
      let used : pages 1 ≡ Some (take size page) =
      ap (λ (p : PageMap). p 1) (sym found.shows) ∙ trimmed_some size _ 1 page is in
      let head : header_in pages ≡ take 100 (take size page) =
      ap (λ (o : Option (List ℕ)). take 100 (unwrap_or o [])) used in
      let front : take 16 (take 100 (take size page)) ≡ codes "SQLite format 3" ++ 0 ∷ [] =
      sym (ap (take 16) head) ∙ sound.header.0.magic in
      let long : length (take 16 (take 100 (take size page))) ≡ 16 = ap length front in
      let most = length-take 16 (take 100 (take size page)) in
      let more = length-take 100 (take size page) in
      let last = length-take size page in
      let some : 0 < size = omega (arith, long, most, more, last) in (
        some,
        omega (arith, long, most, more, last),
        sym (get_or-take 16 (take 100 (take size page)) 0 0 (omega arith)
            ∙ get_or-take 100 (take size page) 0 0 (omega arith) ∙ get_or-take size page 0 0 some)
            ∙ ap (λ (b : List ℕ). slice_index b 0) front,
      )

  never_blank : (other : ℕ) → 0 < other → IsBlankFile other image → ⊥
  never_blank other some blank =
      let (page, is) = some_value (found.stored 1) found.whole.first in
      let len = found.whole.sized 1 page is in
      let it = begins page is in
      let gate = first_byte other some in
      begun_is_not_blank (sealed (first_page other)) page (stored_size size) image found.stored found.found is len
      (omega (arith, len, it.1)) (it.2 ∙ sym gate) (λ none. let never = sym gate ∙ none in omega arith) blank

  never_nothing : IsNothing image → ⊥
  never_nothing (inl plain) = never_blank (used_size 4096 false) (omega arith) plain
  never_nothing (inr summed) = never_blank (used_size 4096 true) (omega arith) summed

pub nothing_found : (image : Image) (db : Trees) → IsNothing image → AreFoundIn image db → db catalog_tree ≡ []
nothing_found image db nothing (inl it) =
    absurd (∥∥₁_elim it.4 (λ a b. absurd a) (λ ours. never_nothing it.0 image it.1 it.3 ours.file.sound nothing))
nothing_found image db nothing (inr it) = it.1.1
