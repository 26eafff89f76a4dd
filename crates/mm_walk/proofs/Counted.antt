-- Rows that are counted, as the entries of a map.
use Rattle.std.proofs.Common.{◌≡◌, ℕ, suc, true, List, [], ◌∷◌, length, drop, filter, Some, inl, refl, sym, ap, subst}
use Rattle.std.proofs.Common.{◌∙◌}
use Rattle.std.specs.FinMap.{FinMap, get}
use Rattle.sqlite.specs.Order.{Row}
use Rattle.sqlite.specs.declared.types.Value.{Value}
use Rattle.sql_forms.specs.Lists.{Has}
use Rattle.sql_forms.proofs.ListLemmas.{has_filtered, has_kept}
use Rattle.mm_definitions.specs.Keys.{Extension, extension_cmp}
use Rattle.mm_definitions.proofs.Parts.{same_itself}
use Rattle.mm_definitions.proofs.KeyLaws.{extension_keys}
use Rattle.mm_store.specs.Rows.{extension_row, extension_of, is_extension, as_count, Counts}
use Rattle.mm_walk.proofs.Joined.{Covers, after_rowid}
use Rattle.mm_walk.proofs.Keys.{tie}

some_length : {X : Type 0} (xs : List X) (x : X) → Has xs x → (n : ℕ) × (length xs ≡ suc n)
some_length [] x h = absurd h
some_length (y ∷ xs) x h = (length xs, refl)

some_counted : {X : Type 0} (xs : List X) (n : ℕ) → as_count (length xs) ≡ Some n → (x : X) × Has xs x
some_counted [] n e = absurd (let f = e in cc)
some_counted (x ∷ xs) n e = (x, inl refl)

headed : (r : Row) (e : Extension) → drop 1 r ≡ extension_row e → (x : Value) × (r ≡ x ∷ extension_row e)
headed [] e is = absurd cc
headed (x ∷ r) e is = (x, ap (λ l. x ∷ l) is)

pub is_that : (e : Extension) (r : Row) → is_extension e r ≡ true → extension_of r ≡ e
is_that e r is = (tie extension_keys (extension_of r) e).0 is

pub counted_in : (rows : List Row) (m : FinMap extension_cmp ℕ) → Counts rows m → (r : Row) → Has rows r
    → (n : ℕ) × (get m (extension_of r) ≡ Some (suc n)) × (length (filter (is_extension (extension_of r)) rows) ≡ suc n)
counted_in rows m h r there =
    let e = extension_of r in
    let it = some_length (filter (is_extension e) rows) r
    (has_kept (is_extension e) rows r there (same_itself extension_keys e)) in
    (it.0, h.counted e ∙ ap as_count it.1, it.1)

pub counts_cover : (rows : List Row) (m : FinMap extension_cmp ℕ) → Counts rows m
    → Covers after_rowid (λ e (n : ℕ). extension_row e) rows m
counts_cover rows m h = record {
  sound = λ r there.
      let e = extension_of r in
      let n = counted_in rows m h r there in
      let it = headed r e (h.sound r there) in
      (e, suc n.0, it.0, n.1, it.1);
  complete = λ e n is.
      let r = some_counted (filter (is_extension e) rows) n (sym (h.counted e) ∙ is) in
      let was = has_filtered (is_extension e) rows r.0 r.1 in
      let that = is_that e r.0 was.1 in
      let it = headed r.0 e (h.sound r.0 was.0 ∙ ap extension_row that) in
      (it.0, subst (Has rows) it.1 was.0);
}
