-- Looking along the files of a folder in memory.
use Rattle.std.proofs.Common.{◌≡◌, ◌∙◌, ◌<◌, ◌≤◌, ◌+◌, ℕ, zero, suc, List, [], ◌∷◌, length, drop, Some, None, refl, sym}
use Rattle.std.proofs.Common.{ap, arith, true, false}
use Rattle.std.proofs.Math.Seq.{drop-cons}
use Rattle.std.specs.Prelude.{bytes_eq, string_bytes, get_or, if◌then◌else◌}
use Rattle.mm_definitions.specs.Keys.{Text}
use Rattle.mm_kit.specs.MemoryFolders.{file_at}
use Rattle.mm_kit.specs.declared.memory.MemoryFile.{MemoryFile}

drop-nil : (i : ℕ) → drop {A = MemoryFile} i [] ≡ []
drop-nil zero = refl
drop-nil (suc i) = refl

-- the file at a place, and those behind it
step : (files : List MemoryFile) (i : ℕ) (d : MemoryFile) → i < length files → drop i files ≡ get_or files i d
    ∷ drop (i + 1) files
step files i d h = let e : suc i ≡ i + 1 = omega arith in drop-cons files i d h
    ∙ ap (λ k. get_or files i d ∷ drop k files) e

module _ (files : List MemoryFile) (name : Text) (i : ℕ) (d file : MemoryFile) (h : i < length files)
    (is : file ≡ get_or files i d) where
  opened : drop i files ≡ file ∷ drop (i + 1) files
  opened = step files i d h ∙ ap (λ x. x ∷ drop (i + 1) files) (sym is)

  pub passed : bytes_eq (string_bytes file.name) name ≡ false
      → file_at (drop i files) name ≡ file_at (drop (i + 1) files) name
  unfolding file_at
  passed other = ap (λ l. file_at l name) opened
      ∙ ap (λ b. if b then Some file.bytes.items else file_at (drop (i + 1) files) name) other

  pub met : bytes_eq (string_bytes file.name) name ≡ true → file_at (drop i files) name ≡ Some file.bytes.items
  unfolding file_at
  met same = ap (λ l. file_at l name) opened
      ∙ ap (λ b. if b then Some file.bytes.items else file_at (drop (i + 1) files) name) same

pub end : (files : List MemoryFile) (name : Text) (i : ℕ) → length files ≤ i → file_at (drop i files) name ≡ None
unfolding file_at
end [] name i h = ap (λ l. file_at l name) (drop-nil i)
end (x ∷ xs) name zero h = absurd (omega (arith, h))
end (x ∷ xs) name (suc i) h = end xs name i (omega (arith, h))
