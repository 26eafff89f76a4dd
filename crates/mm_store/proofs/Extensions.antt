-- Extension rows, which a package counts: one more, and all of one extension less.
use Rattle.std.proofs.Common.{◌≡◌, inl, inr, ℕ, zero, suc, ℤ, Bool, true, false, not, cond, ◌||◌, ◌&&◌, List, [], ◌∷◌}
use Rattle.std.proofs.Common.{filter, length, codes, Option, Some, None, refl, sym, ap, subst, ◌∙◌}
use Rattle.std.specs.declared.cmp.Ordering.{Ordering}
use Rattle.std.specs.declared.cmp.Ordering.TheVariants.{Less, Equal, Greater}
use Rattle.std.specs.Ordering.{is_eq, eq_by_cmp, match_ordering, ordering_then}
use Rattle.std.specs.Option.{option_cmp}
use Rattle.std.specs.FinMap.{FinMap, get, insert, remove}
use Rattle.std.proofs.lemmas.Bool.{false_from_ne_true}
use Rattle.std.specs.Cmp.{Equal-is}
use Rattle.sqlite.specs.declared.types.Value.{Value}
use Rattle.sqlite.specs.declared.types.Value.TheVariants.{Null, Int, Text as Words}
use Rattle.sql_forms.specs.Collation.TheVariants.{Binary}
use Rattle.sql_forms.specs.Order.{value_cmp}
use Rattle.sql_forms.specs.BinaryOp.TheVariants.{Is}
use Rattle.sqlite.specs.Ops.{binary, is_true}
use Rattle.sqlite.specs.Order.{Row, column}
use Rattle.sqlite.specs.Term.{Term}
use Rattle.sqlite.specs.Tree.{rowid, put_row}
use Rattle.sqlite.specs.Edit.{is_taken}
use Rattle.sql_forms.specs.Rules.{equal}
use Rattle.sql_forms.proofs.ListLemmas.{has_filtered}
use Rattle.sql_forms.proofs.TableLemmas.{put_has}
use Rattle.sql_forms.specs.Forms.{equals, reads, is_absent}
use Rattle.sql_forms.specs.Tables.{passes, without}
use Rattle.sql_forms.proofs.Keys.{equal_text, columns_are}
use Rattle.sql_forms.proofs.Lists.{filter_after, filter_out, not_not, and_true}
use Rattle.mm_definitions.specs.Keys.{Text, text_cmp, Extension, extension_cmp}
use Rattle.mm_definitions.specs.Package.{zoom_extension, mapping_extension}
use Rattle.mm_definitions.proofs.Parts.{SameKey, same_key, same_itself, apart, at_put, beside_put, at_remove}
use Rattle.mm_definitions.proofs.Parts.{beside_remove}
use Rattle.mm_definitions.proofs.KeyLaws.{extension_keys}
use Rattle.mm_store.specs.Rows.{past_rowid, maybe_words, maybe_of, extension_row, extension_of, is_extension, as_count}
use Rattle.mm_store.specs.Rows.{Counts}
use Rattle.mm_store.proofs.Keys.{is_eq_then}

-- ---- one more extension row

longer : {X : Type 0} (a b : Bool) (e n : X) (xs ys : List X) → length xs ≡ length (cond b (n ∷ ys) ys)
    → length (cond a (e ∷ xs) xs) ≡ length (cond b (n ∷ cond a (e ∷ ys) ys) (cond a (e ∷ ys) ys))
longer true true e n xs ys h = ap suc h
longer true false e n xs ys h = ap suc h
longer false true e n xs ys h = h
longer false false e n xs ys h = h

count_put : (p : Row → Bool) (new : Row) (rows : List Row) → is_taken rows new ≡ false
    → length (filter p (put_row new rows)) ≡ length (filter p (new ∷ rows))
count_put p new [] h = refl
count_put p new (e ∷ es) h = go (value_cmp (rowid e) (rowid new)) h (count_put p new es)
  where
    go : (o : Ordering) → (is_eq o || is_taken es new) ≡ false
        → (is_taken es new ≡ false → length (filter p (put_row new es)) ≡ length (filter p (new ∷ es)))
        → length (filter p (match_ordering o (e ∷ put_row new es) (new ∷ es) (new ∷ e ∷ es)))
        ≡ length (filter p (new ∷ e ∷ es))
    go Less h more = longer (p e) (p new) e new (filter p (put_row new es)) (filter p es) (more h)
    go Equal h more = absurd (let f : true ≡ false = h in cc)
    go Greater h more = refl

maybe_back : (o : Option Text) → maybe_of (maybe_words o) ≡ o
maybe_back None = refl
maybe_back (Some t) = refl

no_count : (n : ℕ) → None ≡ as_count n → n ≡ 0
no_count zero h = refl
no_count (suc n) h = absurd (let f : ◌≡◌ {A = Option ℕ} None (Some (suc n)) = h in cc)

module _ (rows : List Row) (m : FinMap extension_cmp ℕ) (h : Counts rows m) (z : Extension) (free : get m z ≡ None)
    (id : ℤ) (fresh : is_taken rows (Int id ∷ extension_row z) ≡ false) where
  abbrev new : Row
  new = Int id ∷ extension_row z

  back : extension_of new ≡ z
  back i = record {
    table = maybe_back z.table i;
    column = maybe_back z.column i;
    name = z.name;
    definition = z.definition;
    scope = z.scope;
  }

  pub counts_more : Counts (put_row new rows) (insert m z 1)
  counts_more = record {
    sound = λ r there. elim (put_has new rows r there) [
      | inl is ↦ subst (λ x. past_rowid x ≡ extension_row (extension_of x)) (sym is) (sym (ap extension_row back))
      | inr was ↦ h.sound r was
    ];
    counted = λ e. at e (same_key extension_keys e z);
  }
    where
      at : (e : Extension) → SameKey extension_cmp e z
          → get (insert m z 1) e ≡ as_count (length (filter (is_extension e) (put_row new rows)))
      at e (inl same) =
          let hit : is_extension e new ≡ true = ap (λ x. eq_by_cmp extension_cmp x e) (back ∙ sym same.0)
          ∙ same_itself extension_keys e in
          let none : length (filter (is_extension e) rows) ≡ 0 =
          no_count _ (sym (ap (get m) same.0 ∙ free) ∙ h.counted e) in
          ap (get (insert m z 1)) same.0 ∙ at_put extension_keys m z 1
          ∙ sym (ap as_count (count_put (is_extension e) new rows fresh
          ∙ ap (λ b. length (cond b (new ∷ filter (is_extension e) rows) (filter (is_extension e) rows))) hit
          ∙ ap suc none))
      at e (inr other) =
          let miss : is_extension e new ≡ false = ap (λ x. eq_by_cmp extension_cmp x e) back
          ∙ apart extension_keys z e (λ s. other.0 (sym s)) in
          beside_put extension_keys m z 1 e other.0 ∙ h.counted e
          ∙ sym (ap as_count (count_put (is_extension e) new rows fresh
          ∙ ap (λ b. length (cond b (new ∷ filter (is_extension e) rows) (filter (is_extension e) rows))) miss))

-- a DELETE of all rows of one extension
pub uncounts : (rows : List Row) (m : FinMap extension_cmp ℕ) → Counts rows m → (z : Extension) (test : Row → Bool)
    → ((r : Row) → past_rowid r ≡ extension_row (extension_of r) → test r ≡ is_extension z r)
    → Counts (without test rows) (remove m z)
uncounts rows m h z test decides = record {
  sound = λ r there. h.sound r (has_filtered (λ x. not (test x)) rows r there).0;
  counted = λ e. at e (same_key extension_keys e z);
}
  where
    at : (e : Extension) → SameKey extension_cmp e z
        → get (remove m z) e ≡ as_count (length (filter (is_extension e) (without test rows)))
    at e (inl same) =
        ap (get (remove m z)) same.0 ∙ at_remove extension_keys m z
        ∙ sym (ap (λ xs. as_count (length xs))
        (filter_out (is_extension e) (λ r. not (test r)) rows
        (λ r there. ap not (decides r (h.sound r there) ∙ ap (λ x. is_extension x r) (sym same.0)))))
    at e (inr apart) =
        beside_remove extension_keys m z e apart.0 ∙ h.counted e
        ∙ sym (ap (λ xs. as_count (length xs)) (filter_after (is_extension e) (λ r. not (test r)) rows (λ r there gone.
        false_from_ne_true _ (λ is.
        let hit : is_extension z r ≡ true = sym (decides r (h.sound r there)) ∙ sym (not_not (test r)) ∙ ap not gone in
        apart.0 (sym (extension_keys.exact (extension_of r) e ((Equal-is _).0 is))
        ∙ extension_keys.exact (extension_of r) z ((Equal-is _).0 hit))))))

-- ---- the WHERE of one extension

equal_maybe : (o : Option Text) (t : Text)
    → equal Binary (maybe_words o) (Words t) ≡ is_eq (option_cmp text_cmp o (Some t))
unfolding binary
equal_maybe None t = refl
equal_maybe (Some s) t = equal_text s t

abbrev pub zoom_terms : List Term
zoom_terms = equals 1 0 ∷ reads 2 (codes "tile_data") ∷ reads 3 (codes "gpkg_zoom_other") ∷ reads 4 (codes "OGC 12-128r17") ∷ reads 5 (codes "read-write") ∷ []

-- a WHERE of all five columns
five : (a b c d e : Ordering)
    → (is_eq a && (is_eq b && (is_eq c && (is_eq d && (is_eq e && true)))))
    ≡ is_eq (ordering_then a (ordering_then b (ordering_then c (ordering_then d e))))
five a b c d e =
    rw (
      is_eq_then a (ordering_then b (ordering_then c (ordering_then d e))),
      is_eq_then b
          (ordering_then c (ordering_then d e)),
      is_eq_then c (ordering_then d e),
      is_eq_then d e,
      and_true (is_eq e),
    ) refl

pub zoom_test : (table : Text) (r : Row) → past_rowid r ≡ extension_row (extension_of r)
    → passes zoom_terms (Words table ∷ []) r ≡ is_extension (zoom_extension table) r
zoom_test table r is =
    let e = extension_of r in
    ap (λ x. equal Binary x (Words table) && (equal Binary (column r 2) (Words (codes "tile_data")) && (equal Binary (column r 3) (Words (codes "gpkg_zoom_other")) && (equal Binary (column r 4) (Words (codes "OGC 12-128r17")) && (equal Binary (column r 5) (Words (codes "read-write")) && true)))))
    (columns_are r (extension_row e) 0 is)
    ∙ ap (λ x. equal Binary (maybe_words e.table) (Words table) && (equal Binary x (Words (codes "tile_data")) && (equal Binary (column r 3) (Words (codes "gpkg_zoom_other")) && (equal Binary (column r 4) (Words (codes "OGC 12-128r17")) && (equal Binary (column r 5) (Words (codes "read-write")) && true)))))
    (columns_are r (extension_row e) 1 is)
    ∙ ap (λ x. equal Binary (maybe_words e.table) (Words table) && (equal Binary (maybe_words e.column) (Words (codes "tile_data")) && (equal Binary x (Words (codes "gpkg_zoom_other")) && (equal Binary (column r 4) (Words (codes "OGC 12-128r17")) && (equal Binary (column r 5) (Words (codes "read-write")) && true)))))
    (columns_are r (extension_row e) 2 is)
    ∙ ap (λ x. equal Binary (maybe_words e.table) (Words table) && (equal Binary (maybe_words e.column) (Words (codes "tile_data")) && (equal Binary (Words e.name) (Words (codes "gpkg_zoom_other")) && (equal Binary x (Words (codes "OGC 12-128r17")) && (equal Binary (column r 5) (Words (codes "read-write")) && true)))))
    (columns_are r (extension_row e) 3 is)
    ∙ ap (λ x. equal Binary (maybe_words e.table) (Words table) && (equal Binary (maybe_words e.column) (Words (codes "tile_data")) && (equal Binary (Words e.name) (Words (codes "gpkg_zoom_other")) && (equal Binary (Words e.definition) (Words (codes "OGC 12-128r17")) && (equal Binary x (Words (codes "read-write")) && true)))))
    (columns_are r (extension_row e) 4 is)
    ∙ rw (equal_maybe e.table table, equal_maybe e.column (codes "tile_data"), equal_text e.name (codes "gpkg_zoom_other"), equal_text e.definition (codes "OGC 12-128r17"), equal_text e.scope (codes "read-write"))
    (five (option_cmp text_cmp e.table (Some table)) (option_cmp text_cmp e.column (Some (codes "tile_data"))) (text_cmp e.name (codes "gpkg_zoom_other")) (text_cmp e.definition (codes "OGC 12-128r17")) (text_cmp e.scope (codes "read-write")))

-- where the column is absent
maybe_absent : (o : Option Text) → is_true (binary (Is Binary) (maybe_words o) Null)
    ≡ is_eq (option_cmp text_cmp o None)
unfolding binary value_cmp lib.Ieee.is_nan lib.Ieee.lt
maybe_absent None = refl
maybe_absent (Some t) = refl

abbrev pub related_terms : List Term
related_terms = equals 1 0 ∷ is_absent 2 ∷ reads 3 (codes "gpkg_related_tables") ∷ reads 4 (codes "OGC 18-000") ∷ reads 5 (codes "read-write") ∷ []

abbrev related_where : Text → Value → Value → Value → Value → Value → Bool
related_where mapping a b c d e =
    equal Binary a (Words mapping) && (is_true (binary (Is Binary) b Null) && (equal Binary c (Words (codes "gpkg_related_tables")) && (equal Binary d (Words (codes "OGC 18-000")) && (equal Binary e (Words (codes "read-write")) && true))))

pub related_test : (mapping : Text) (r : Row) → past_rowid r ≡ extension_row (extension_of r)
    → passes related_terms (Words mapping ∷ []) r ≡ is_extension (mapping_extension mapping) r
related_test mapping r is =
    let e = extension_of r in
    ap (λ x. related_where mapping x (column r 2) (column r 3) (column r 4) (column r 5))
    (columns_are r (extension_row e) 0 is)
    ∙ ap (λ x. related_where mapping (maybe_words e.table) x (column r 3) (column r 4) (column r 5))
    (columns_are r (extension_row e) 1 is)
    ∙ ap (λ x. related_where mapping (maybe_words e.table) (maybe_words e.column) x (column r 4) (column r 5))
    (columns_are r (extension_row e) 2 is)
    ∙ ap (λ x. related_where mapping (maybe_words e.table) (maybe_words e.column) (Words e.name) x (column r 5))
    (columns_are r (extension_row e) 3 is)
    ∙ ap (λ x. related_where mapping (maybe_words e.table) (maybe_words e.column) (Words e.name) (Words e.definition) x)
    (columns_are r (extension_row e) 4 is)
    ∙ rw (equal_maybe e.table mapping, maybe_absent e.column, equal_text e.name (codes "gpkg_related_tables"), equal_text e.definition (codes "OGC 18-000"), equal_text e.scope (codes "read-write"))
    (five (option_cmp text_cmp e.table (Some mapping)) (option_cmp text_cmp e.column None) (text_cmp e.name (codes "gpkg_related_tables")) (text_cmp e.definition (codes "OGC 18-000")) (text_cmp e.scope (codes "read-write")))
