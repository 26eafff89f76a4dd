-- Whether a table stands, from the list of the tables.
use Rattle.std.proofs.Common.{◌≡◌, ◌∙◌, ◌||◌, inl, inr, Bool, true, false, List, [], ◌∷◌, map, refl, sym, ap}
use Rattle.std.specs.Prelude.{bytes_eq}
use Rattle.std.specs.List.{list_any}
use Rattle.std.specs.FinMap.{contains_key, contains_key-keys, entries}
use Rattle.std.proofs.lemmas.Slice.Eq.{bytes_eq-Decides}
use Rattle.mm_definitions.specs.Keys.{Text, same_text}
use Rattle.mm_definitions.specs.Package.{Contents, Package}
use Rattle.mm_definitions.specs.declared.entries.Entry.{Entry}
use Rattle.mm_definitions.proofs.KeyLaws.{texts}
use Rattle.mm_definitions.proofs.Parts.{same_key}
use Rattle.mm_reads.specs.Contents.{Listed, entry_told, table_told}
use Rattle.mm_reads.specs.Shown.{shown_tables}

same_bytes : (a b : Text) → bytes_eq a b ≡ same_text b a
same_bytes a b = elim (same_key texts b a) as (λ _. bytes_eq a b ≡ same_text b a) [
  | inl same ↦ (bytes_eq-Decides a b).1 (sym same.0) ∙ sym same.1
  | inr off ↦ by (bytes_eq a b) refl (λ same. off.0 (sym same)) ∙ sym off.1
]
  where
    by : (v : Bool) → bytes_eq a b ≡ v → (a ≡ b → ⊥) → bytes_eq a b ≡ false
    by true e apart = absurd (apart ((bytes_eq-Decides a b).0 e))
    by false e apart = e

names : (p : Package) (name : Text) (es : List Entry) (cs : List (Text × Contents))
    → map table_told es ≡ map (entry_told p) cs
    → list_any (λ e. bytes_eq e.table name) es ≡ list_any (same_text name) (map (λ (c : Text × Contents). c.0) cs)
names p name [] [] is = refl
names p name [] (c ∷ cs) is = absurd cc
names p name (e ∷ es) [] is = absurd cc
names p name (e ∷ es) (c ∷ cs) is =
    let head : table_told e ≡ entry_told p c = cc in
    let tail : map table_told es ≡ map (entry_told p) cs = cc in
    let here : bytes_eq e.table name ≡ same_text name c.0 = same_bytes e.table name
    ∙ ap (same_text name) (ap (λ (l : Listed). l.table) head) in
    λ i. here i || names p name es cs tail i

pub stands_in : (p : Package) (name : Text) (es : List Entry) → map table_told es ≡ shown_tables p
    → list_any (λ e. bytes_eq e.table name) es ≡ contains_key p.contents name
stands_in p name es is = names p name es (entries p.contents) is ∙ sym (contains_key-keys p.contents name)
