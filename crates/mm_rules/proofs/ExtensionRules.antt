-- What the queries of extension rows show, and rule 14.
use Rattle.std.proofs.Common.{◌≡◌, ◌≢◌, ◌↔◌, ◌⊎◌, inl, inr, Bool, true, false, ◌&&◌, ℕ, zero, suc, ◌≤◌, List, [], ◌∷◌}
use Rattle.std.proofs.Common.{drop, length, filter, Option, Some, None, is_some, IsTrue, codes, refl, sym, ap, subst}
use Rattle.std.proofs.Common.{◌∙◌, arith, pos, ℤ}
use Rattle.std.specs.Prelude.{⊤}
use Rattle.std.specs.FinMap.{get}
use Rattle.std.proofs.lemmas.Bool.{and_parts, and_from}
use Rattle.std.specs.Ordering.{is_eq, is_lt, ordering_reverse}
use Rattle.std.specs.declared.cmp.Ordering.{Ordering}
use Rattle.std.specs.declared.cmp.Ordering.TheVariants.{Less, Equal, Greater}
use Rattle.sqlite.specs.Order.{Row, column}
use Rattle.sqlite.specs.Ops.{binary, is_true}
use Rattle.sqlite.specs.Tree.{Trees, IsTable, rowid}
use Rattle.sqlite.specs.View.{is_int}
use Rattle.sqlite.specs.declared.types.Value.{Value}
use Rattle.sqlite.specs.declared.types.Value.TheVariants.{Null, Int, Real, Text as Words, Blob}
use Rattle.sql_forms.specs.Collation.TheVariants.{Binary}
use Rattle.sql_forms.specs.Order.{value_cmp}
use Rattle.sql_forms.proofs.OrderLemmas.{value_cmp-Text, value_cmp_total}
use Rattle.sql_forms.specs.BinaryOp.TheVariants.{Compare, Is}
use Rattle.sql_forms.specs.CompareOp.TheVariants.{Lt}
use Rattle.sql_forms.specs.Term.{col, lit}
use Rattle.sql_forms.specs.Query.{inner, left, end, or_nulls}
use Rattle.sql_forms.specs.Rules.{equal}
use Rattle.sql_forms.specs.Lists as lists
use Rattle.sql_forms.proofs.ListLemmas.{all_has, has_filtered, has_kept}
use Rattle.sql_forms.proofs.Keys.{as_truth}
use Rattle.mm_definitions.specs.Keys.{Text, Extension}
use Rattle.mm_definitions.specs.Parts.{Each, Has, Stands}
use Rattle.mm_definitions.specs.Package.{Package, general_extension as general, mapping_extension, zoom_extension}
use Rattle.mm_definitions.specs.Rules.{IsWanted, ExactExtensions}
use Rattle.mm_definitions.proofs.Parts.{same_some, same_itself, some_of}
use Rattle.mm_definitions.proofs.KeyLaws.{texts, extension_keys}
use Rattle.mm_store.specs.Rows.{maybe_words, extension_row, extension_of, is_extension, relation_row, kind_row}
use Rattle.mm_store.specs.Rows.{as_count}
use Rattle.mm_store.specs.Stands.{StandsFor, profile_row}
use Rattle.mm_walk.specs.Columns.{text_bytes, is_there}
use Rattle.mm_rules.specs.ExtensionRows.{NoRow, IsWantedRow, IsStandingRow, IsMarkedRow, IsRelated, IsZoomOther}
use Rattle.mm_rules.specs.Parts.{ExtensionsWanted, NamedOnce, UnnamedOnce, ExtensionsOnce, GeneralExtension}
use Rattle.mm_rules.specs.Parts.{MappingExtensions, ZoomExtensions}
use Rattle.mm_walk.proofs.Counted.{counts_cover, counted_in, is_that}
use Rattle.mm_walk.proofs.Joined.{after_rowid, after_id, covered, covered_id, each_row, joined, some_joined}
use Rattle.mm_walk.proofs.Named.{equals_null, null_equals}
use Rattle.mm_walk.proofs.Keys.{tie, texts_are, name_is, same, on_true}
use Rattle.mm_rules.proofs.SystemRules.{one_row}
use Rattle.mm_walk.proofs.Terms.{equals, below, same_as}
use Rattle.mm_walk.specs.RowTests.{OnTrue}
use Rattle.mm_walk.proofs.Checks.{Says}

abbrev is : Value → Value → Bool
is a b = is_true (binary (Is Binary) a b)

-- IS, of texts or NULL
maybe_are : (a b : Option Text) → (is (maybe_words a) (maybe_words b) ≡ true) ↔ (a ≡ b)
unfolding binary value_cmp lib.Ieee.is_nan lib.Ieee.lt
maybe_are None None = (λ e. refl, λ e. refl)
maybe_are None (Some b) = (λ e. absurd (let f : false ≡ true = e in cc), λ e. absurd (let f = e in cc))
maybe_are (Some a) None = (λ e. absurd (let f : false ≡ true = e in cc), λ e. absurd (let f = e in cc))
maybe_are (Some a) (Some b) = let t = tie texts a b in (
  λ e. ap Some (t.0 (ap is_eq (sym (value_cmp-Text a b)) ∙ sym (as_truth _) ∙ e)),
  λ e. as_truth _
      ∙ ap is_eq (value_cmp-Text a b) ∙ t.1 (same_some e),
)

-- `=`, of texts or NULL
maybe_equal : (a b : Option Text) → (equal Binary (maybe_words a) (maybe_words b) ≡ true)
    ↔ ((t : Text) × (b ≡ Some t) × (a ≡ b))
maybe_equal a None = (
  λ e. absurd (let f : false ≡ true = sym (equals_null (maybe_words a)) ∙ e in cc),
  λ h. absurd
      (let f = h.1 in cc),
)
maybe_equal None (Some b) = (
  λ e. absurd (let f : false ≡ true = sym (null_equals (Words b)) ∙ e in cc),
  λ h. absurd
      (let f = h.2 in cc),
)
maybe_equal (Some a) (Some b) = let t = texts_are a b in (λ e. (b, refl, ap Some (t.0 e)), λ h. t.1 (same_some h.2))

abbrev same_columns : Bool → Extension → Value → Value → Value → Value → Bool
same_columns table l b c d e = table
    && (is (maybe_words l.column) b
    && (is (Words l.name) c && (is (Words l.definition) d && (is (Words l.scope) e && true))))

-- whatever it is by which the tables are compared
extension_by : (l k : Extension) (table : Bool) → (table ≡ true) ↔ (l.table ≡ k.table)
    → (same_columns table l (maybe_words k.column) (Words k.name) (Words k.definition) (Words k.scope) ≡ true) ↔ (l ≡ k)
extension_by l k table t =
    let c = maybe_are l.column k.column in
    let n = maybe_are (Some l.name) (Some k.name) in
    let d = maybe_are (Some l.definition) (Some k.definition) in
    let s = maybe_are (Some l.scope) (Some k.scope) in (
      λ e.
          let p = and_parts table _ e in
          let q = and_parts (is (maybe_words l.column) (maybe_words k.column)) _ p.1 in
          let u = and_parts (is (Words l.name) (Words k.name)) _ q.1 in
          let v = and_parts (is (Words l.definition) (Words k.definition)) _ u.1 in
          let w = and_parts (is (Words l.scope) (Words k.scope)) true v.1 in
          together l k (t.0 p.0) (c.0 q.0) (same_some (n.0 u.0)) (same_some (d.0 v.0)) (same_some (s.0 w.0)),
      λ e. and_from _ _ (t.1 (ap (λ (x : Extension). x.table) e))
          (and_from _ _ (c.1 (ap (λ (x : Extension). x.column) e))
          (and_from _ _ (n.1 (ap (λ (x : Extension). Some x.name) e))
          (and_from _ _ (d.1 (ap (λ (x : Extension). Some x.definition) e))
          (and_from _ _ (s.1 (ap (λ (x : Extension). Some x.scope) e)) refl)))),
    )
  where
    together : (l k : Extension) → l.table ≡ k.table → l.column ≡ k.column → l.name ≡ k.name
        → l.definition ≡ k.definition → l.scope ≡ k.scope → l ≡ k
    together l k a b c d e = λ i. record { table = a i; column = b i; name = c i; definition = d i; scope = e i }

extension_is : (l k : Extension)
    → (same_columns (is (maybe_words l.table) (maybe_words k.table)) l (maybe_words k.column) (Words k.name)
    (Words k.definition) (Words k.scope) ≡ true) ↔ (l ≡ k)
extension_is l k = extension_by l k (is (maybe_words l.table) (maybe_words k.table)) (maybe_are l.table k.table)

abbrev IsNamed : Extension → Type 0
IsNamed k = (t : Text) × (k.table ≡ Some t)

abbrev equal_columns : Extension → Value → Value → Value → Value → Value → Bool
equal_columns l table = same_columns (equal Binary (maybe_words l.table) table) l

-- an extension row of a table, which `=` finds
named_is : (l k : Extension) → IsNamed k
    → (equal_columns l (maybe_words k.table) (maybe_words k.column) (Words k.name) (Words k.definition) (Words k.scope)
    ≡ true) ↔ (l ≡ k)
named_is l k n = let t = maybe_equal l.table k.table in extension_by l k
    (equal Binary (maybe_words l.table) (maybe_words k.table)) (λ e. (t.0 e).2, λ same. t.1 (n.0, n.1, same))

both_named : (l k : Extension)
    → (equal_columns l (maybe_words k.table) (maybe_words k.column) (Words k.name) (Words k.definition) (Words k.scope)
    ≡ true) ↔ (IsNamed k × (l ≡ k))
both_named l k = (
  λ e. let t = (maybe_equal l.table k.table).0
      (and_parts (equal Binary (maybe_words l.table) (maybe_words k.table)) _ e).0 in let n : IsNamed k =
      (t.0, t.1) in (n, (named_is l k n).0 e),
  λ h. (named_is l k h.0).1 h.1,
)

both_unnamed : (l k : Extension)
    → ((is (maybe_words k.table) Null && same_columns (is (maybe_words l.table) Null) l (maybe_words k.column)
    (Words k.name) (Words k.definition) (Words k.scope)) ≡ true) ↔ ((k.table ≡ None) × (l ≡ k))
both_unnamed l k =
    let t = maybe_are k.table None in
    let by : k.table ≡ None → (same_columns (is (maybe_words l.table) Null) l (maybe_words k.column) (Words k.name)
    (Words k.definition) (Words k.scope) ≡ true) ↔ (l ≡ k) =
    λ at. extension_by l k (is (maybe_words l.table) Null)
    (subst (λ (o : Option Text). (is (maybe_words l.table) Null ≡ true) ↔ (l.table ≡ o)) (sym at)
    (maybe_are l.table None)) in (
      λ e. let p = and_parts (is (maybe_words k.table) Null) _ e in let at = t.0 p.0 in (at, (by at).0 p.1),
      λ h. and_from _ _ (t.1 h.0) ((by h.0).1 h.1),
    )

-- ---- what is wanted stands
pub mapping_extensions : Says [] (inner 10 (left 8
    (equals 2 1 1 7 ∷ same_as 2 2 (lit Null) ∷ same_as 2 3 (lit (Words (codes "gpkg_related_tables"))) ∷ same_as 2 4
    (lit (Words (codes "OGC 18-000"))) ∷ same_as 2 5 (lit (Words (codes "read-write"))) ∷ []) end)) []
    (col 2 3 ∷ []) IsStandingRow (λ _. ⊤) MappingExtensions
mapping_extensions version db p stands known =
    each_row after_id relation_row (db 10) p.relations (covered_id (λ m r. (_, _, refl)) stands.holds.relations) _ _
    (λ m r x. joined after_rowid (λ k (n : ℕ). extension_row k) (db 8) p.extensions
    (counts_cover (db 8) p.extensions stands.holds.extensions) _ (mapping_extension m)
    (λ l n y. named_is l (mapping_extension m) (m, refl)) _ (λ o. IsTrue (is_some o)) same (λ n y. same))

pub general_extension : Says [] (inner 12 (left 8
    (same_as 2 1 (lit (Words (codes "gpkgext_relations"))) ∷ same_as 2 2 (lit Null) ∷ same_as 2 3
    (lit (Words (codes "gpkg_related_tables"))) ∷ same_as 2 4 (lit (Words (codes "OGC 18-000"))) ∷ same_as 2 5
    (lit (Words (codes "read-write"))) ∷ []) end)) [] (col 2 3 ∷ []) IsStandingRow (λ _. ⊤) GeneralExtension
general_extension version db p stands known =
    let it = one_row (db 12) (profile_row version) _ stands.holds.profile in
    let j = joined after_rowid (λ k (n : ℕ). extension_row k) (db 8) p.extensions
    (counts_cover (db 8) p.extensions stands.holds.extensions) _ general (λ l n y. extension_is l general) _
    (λ o. IsTrue (is_some o)) same (λ n y. same) in
    (λ h. j.0 (it.0 h), λ g. it.1 (j.1 g))

pub zoom_extensions : Says [] (inner 13 (left 8
    (equals 2 1 1 1 ∷ same_as 2 2 (lit (Words (codes "tile_data"))) ∷ same_as 2 3
    (lit (Words (codes "gpkg_zoom_other"))) ∷ same_as 2 4 (lit (Words (codes "OGC 12-128r17"))) ∷ same_as 2 5
    (lit (Words (codes "read-write"))) ∷ []) end)) [] (col 1 2 ∷ col 2 3 ∷ []) IsMarkedRow (λ _. ⊤) ZoomExtensions
zoom_extensions version db p stands known =
    each_row after_rowid kind_row (db 13) p.kinds (covered (λ k v. (_, _, refl)) stands.holds.kinds) _ _
    (λ k v x. let j = joined after_rowid (λ e (n : ℕ). extension_row e) (db 8) p.extensions
    (counts_cover (db 8) p.extensions stands.holds.extensions) _ (zoom_extension k)
    (λ l n y. named_is l (zoom_extension k) (k, refl)) _
    (λ o. ◌≡◌ {A = Option Text} (Some v) (Some (codes "other")) → IsTrue (is_some o)) same (λ n y. same) in
    (λ h other. j.0 h (ap Some other), λ h. j.1 (λ other. h (same_some other))))

-- ---- each row is wanted
record IsRelatedOne (e : Extension) : Type 0 where
  pub column_is : e.column ≡ None
  pub name_is : e.name ≡ codes "gpkg_related_tables"
  pub definition_is : e.definition ≡ codes "OGC 18-000"
  pub scope_is : e.scope ≡ codes "read-write"

record IsZoomOne (e : Extension) : Type 0 where
  pub column_is : e.column ≡ Some (codes "tile_data")
  pub name_is : e.name ≡ codes "gpkg_zoom_other"
  pub definition_is : e.definition ≡ codes "OGC 12-128r17"
  pub scope_is : e.scope ≡ codes "read-write"

abbrev row_of : Extension → Value → Value → Row
row_of e v w = maybe_words e.table ∷ maybe_words e.column ∷ Words e.name ∷ Words e.definition ∷ Words e.scope ∷ v ∷ w
    ∷ []

absent_words : (o : Option Text) → (is_there (maybe_words o) ≡ false) ↔ (o ≡ None)
absent_words None = (λ _. refl, λ _. refl)
absent_words (Some t) = (λ e. absurd (let f : true ≡ false = e in cc), λ e. absurd (let f = e in cc))

words_maybe : (o : Option Text) → text_bytes (maybe_words o) ≡ o
words_maybe None = refl
words_maybe (Some t) = refl

related_is : (e : Extension) (v w : Value) → IsRelated (row_of e v w) ↔ IsRelatedOne e
related_is e v w = (
  λ (a, b, c, d). record {
    column_is = (absent_words e.column).0 a;
    name_is = same_some b;
    definition_is = same_some c;
    scope_is = same_some d;
  },
  λ h. ((absent_words e.column).1 h.column_is, ap Some h.name_is, ap Some h.definition_is, ap Some h.scope_is),
)

zoom_is : (e : Extension) (v w : Value) → IsZoomOther (row_of e v w) ↔ IsZoomOne e
zoom_is e v w = (
  λ (a, b, c, d). record {
    column_is = sym (words_maybe e.column) ∙ a;
    name_is = same_some b;
    definition_is = same_some c;
    scope_is = same_some d;
  },
  λ h. (words_maybe e.column ∙ h.column_is, ap Some h.name_is, ap Some h.definition_is, ap Some h.scope_is),
)

-- what an extension row of this table is wanted for, by whether the mapping stands and by the table's kind
abbrev Wants : Extension → Text → Type 0 → Option Text → Type 0
Wants e t Mapping kind = ((t ≡ codes "gpkgext_relations") × IsRelatedOne e) ⊎ ((Mapping × IsRelatedOne e) ⊎ ((kind ≡ Some (codes "other")) × IsZoomOne e))

wants_is : (e : Extension) (t : Text) (v w : Value) → e.table ≡ Some t
    → IsWantedRow (row_of e v w) ↔ Wants e t (IsTrue (is_there v)) (text_bytes w)
wants_is e t v w at =
    let r = related_is e v w in
    let z = zoom_is e v w in
    let first : text_bytes (maybe_words e.table) ≡ Some t = words_maybe e.table ∙ at in
    let there : IsTrue (is_there (maybe_words e.table)) = subst (λ o. IsTrue (is_there (maybe_words o))) (sym at)
    refl in (
      λ h. elim h [
        | inl a ↦ inl (same_some (sym first ∙ a.0), r.0 a.1)
        | inr b ↦ elim b [ inl c ↦ inr (inl (c.0.1, r.0 c.1)) | inr d ↦ inr (inr (d.0.1, z.0 d.1)) ]
      ],
      λ h. elim h [
        | inl a ↦ inl (first ∙ ap Some a.0, r.1 a.1)
        | inr b ↦ elim b [ inl c ↦ inr (inl ((there, c.0), r.1 c.1)) | inr d ↦ inr (inr ((there, d.0), z.1 d.1)) ]
      ],
    )

related_one : (e : Extension) (t : Text) → e.table ≡ Some t → IsRelatedOne e → e ≡ mapping_extension t
related_one e t at h = λ i. record
    { table = at i; column = h.column_is i; name = h.name_is i; definition = h.definition_is i; scope = h.scope_is i }

zoom_one : (e : Extension) (t : Text) → e.table ≡ Some t → IsZoomOne e → e ≡ zoom_extension t
zoom_one e t at h = λ i. record {
  table = at i;
  column = h.column_is i;
  name = h.name_is i;
  definition = h.definition_is i;
  scope = h.scope_is i;
}

is_related_one : (t : Text) (e : Extension) → e ≡ mapping_extension t → IsRelatedOne e
is_related_one t e is = subst IsRelatedOne (sym is)
    (record { column_is = refl; name_is = refl; definition_is = refl; scope_is = refl })

is_zoom_one : (t : Text) (e : Extension) → e ≡ zoom_extension t → IsZoomOne e
is_zoom_one t e is = subst IsZoomOne (sym is)
    (record { column_is = refl; name_is = refl; definition_is = refl; scope_is = refl })

table_is : (e k : Extension) (t u : Text) → e.table ≡ Some t → k.table ≡ Some u → e ≡ k → u ≡ t
table_is e k t u at to is = same_some (sym to ∙ sym (ap (λ (x : Extension). x.table) is) ∙ at)

wanted_is : (p : Package) (e : Extension) (t : Text) → e.table ≡ Some t
    → Wants e t (Stands p.relations t) (get p.kinds t) ↔ IsWanted p.kinds p.relations e
wanted_is p e t at = (
  λ h. elim h [
    | inl a ↦ inl (related_one e t at a.1 ∙ ap mapping_extension a.0)
    | inr b ↦ elim b [
      | inl c ↦ inr (inl (t, c.0, related_one e t at c.1))
      | inr d ↦ inr
          (inr (t, d.0, zoom_one e t at d.1))
    ]
  ],
  λ h. elim h [
    | inl g ↦ inl (sym (table_is e general t (codes "gpkgext_relations") at refl g), is_related_one (codes "gpkgext_relations") e g)
    | inr b ↦ elim b [
      | inl m ↦ inr (inl (
        subst (Stands p.relations) (table_is e (mapping_extension m.0) t m.0 at refl m.2) m.1,
        is_related_one m.0 e m.2,
      ))
      | inr z ↦ inr (inr (subst (λ x. get p.kinds x ≡ Some (codes "other")) (table_is e (zoom_extension z.0) t z.0 at refl z.2) z.1, is_zoom_one z.0 e z.2))
    ]
  ],
)

never_none : (p : Package) (e : Extension) → e.table ≡ None → IsWanted p.kinds p.relations e → ⊥
never_none p e at (inl g) = let f = sym at ∙ ap (λ (x : Extension). x.table) g in cc
never_none p e at (inr (inl m)) = let f = sym at ∙ ap (λ (x : Extension). x.table) m.2 in cc
never_none p e at (inr (inr z)) = let f = sym at ∙ ap (λ (x : Extension). x.table) z.2 in cc

never_shown : (e : Extension) (v w : Value) → e.table ≡ None → IsWantedRow (row_of e v w) → ⊥
never_shown e v w at h =
    let none : text_bytes (maybe_words e.table) ≡ None = words_maybe e.table ∙ at in
    let gone : IsTrue (is_there (maybe_words e.table))
    → ⊥ = λ there. let f : false ≡ true = subst (λ o. IsTrue (is_there (maybe_words o))) at there in cc in
    elim h [
      | inl a ↦ let f = sym none ∙ a.0 in cc
      | inr b ↦ elim b [ inl c ↦ gone c.0.0 | inr d ↦ gone d.0.0 ]
    ]

abbrev mappings : Trees → Value → List Row
mappings db v = or_nulls (filter (λ r. equal Binary (column r 7) v && true) (db 10))

abbrev kinds : Trees → Value → List Row
kinds db v = or_nulls (filter (λ q. equal Binary (column q 1) v && true) (db 13))

abbrev Shown : Trees → Extension → Value → Type 0
Shown db e v = (r : Row) → lists.Has (mappings db v) r → (q : Row) → lists.Has (kinds db v) q
    → IsWantedRow (row_of e (column r 7) (column q 2))

with_table : (version : ℤ) (db : Trees) (p : Package) → StandsFor version db p → (e : Extension) (t : Text)
    → e.table ≡ Some t
    → Shown db e (Words t) ↔ Wants e t (Stands p.relations t) (get p.kinds t)
with_table version db p stands e t at =
    joined after_id relation_row (db 10) p.relations (covered_id (λ m r. (_, _, refl)) stands.holds.relations) _ t
    (λ m r y. name_is m t) _ (λ o. Wants e t (IsTrue (is_some o)) (get p.kinds t)) (with_kind Null)
    (λ r y. with_kind (Words t))
  where
    with_kind : (v : Value)
        → ((q : Row) → lists.Has (kinds db (Words t)) q → IsWantedRow (row_of e v (column q 2)))
        ↔ Wants e t (IsTrue (is_there v)) (get p.kinds t)
    with_kind v = joined after_rowid kind_row (db 13) p.kinds (covered (λ m w. (_, _, refl)) stands.holds.kinds) _ t
        (λ m w y. name_is m t) _ (λ o. Wants e t (IsTrue (is_there v)) o) (wants_is e t v Null at)
        (λ w y. wants_is e t v (Words w) at)

pub extensions_wanted : Says [] (inner 8 (left 10 (equals 2 7 1 1 ∷ []) (left 13 (equals 3 1 1 1 ∷ []) end))) []
    (col 1 1 ∷ col 1 2 ∷ col 1 3 ∷ col 1 4 ∷ col 1 5 ∷ col 2 7 ∷ col 3 2 ∷ []) IsWantedRow (λ _. ⊤) ExtensionsWanted
extensions_wanted version db p stands known =
    each_row after_rowid (λ k (n : ℕ). extension_row k) (db 8) p.extensions
    (counts_cover (db 8) p.extensions stands.holds.extensions) _ _ (λ e n x. by_table e e.table refl)
  where
    by_table : (e : Extension) (o : Option Text) → e.table ≡ o
        → Shown db e (maybe_words e.table) ↔ IsWanted p.kinds p.relations e
    by_table e None at = (
      λ shown.
          let r = some_joined (filter (λ r. equal Binary (column r 7) (maybe_words e.table) && true) (db 10)) in
          let q = some_joined (filter (λ q. equal Binary (column q 1) (maybe_words e.table) && true) (db 13)) in
          absurd (never_shown e _ _ at (shown r.0 r.1 q.0 q.1)),
      λ wanted. absurd (never_none p e at wanted),
    )
    by_table e (Some t) at =
        let a = with_table version db p stands e t at in
        let b = wanted_is p e t at in
        subst (λ o. Shown db e (maybe_words o) ↔ IsWanted p.kinds p.relations e) (sym at)
        (λ h. b.0 (a.0 h), λ h. a.1 (b.1 h))

-- ---- each row once
never_less : (v : Value) → value_cmp v v ≡ Less → ⊥
never_less v h = let e = value_cmp_total.antisymm v v ∙ ap ordering_reverse h in cc

lower_is : (x y : Value) → IsTrue (is_int x) → IsTrue (is_int y) → (is_true (binary (Compare Lt Binary) x y) ≡ true)
    ↔ (value_cmp x y ≡ Less)
unfolding binary
lower_is (Int a) (Int b) h k = (λ e. less _ (sym (as_truth _) ∙ e), λ e. as_truth _ ∙ ap is_lt e)
  where
    less : (o : Ordering) → is_lt o ≡ true → o ≡ Less
    less Less e = refl
    less Equal e = absurd cc
    less Greater e = absurd cc
lower_is Null y h k = absurd cc
lower_is (Real a) y h k = absurd cc
lower_is (Words a) y h k = absurd cc
lower_is (Blob a) y h k = absurd cc
lower_is (Int a) Null h k = absurd cc
lower_is (Int a) (Real b) h k = absurd cc
lower_is (Int a) (Words b) h k = absurd cc
lower_is (Int a) (Blob b) h k = absurd cc

module _ (test : Row → Bool) where
  one_kept : (rows : List Row) (r : Row) → lists.Has rows r → test r ≡ true → (n : ℕ)
      × (length (filter test rows) ≡ suc n)
  one_kept rows r there yes_r = some_in (filter test rows) r (has_kept test rows r there yes_r)
    where
      some_in : (xs : List Row) (x : Row) → lists.Has xs x → (n : ℕ) × (length xs ≡ suc n)
      some_in [] x h = absurd h
      some_in (y ∷ xs) x h = (length xs, refl)

  kept_more : (x : Row) (rows : List Row) → test x ≡ true → (n : ℕ) × (length (filter test rows) ≡ suc n)
      → 2 ≤ length (filter test (x ∷ rows))
  kept_more x rows here n = rw here (let l = n.1 in omega (arith, l))

  kept_still : (x : Row) (rows : List Row) (b : Bool) → test x ≡ b → 2 ≤ length (filter test rows)
      → 2 ≤ length (filter test (x ∷ rows))
  kept_still x rows true is two = rw is (omega (arith, two))
  kept_still x rows false is two = rw is two

  two_kept : (rows : List Row) (a b : Row) → lists.Has rows a → lists.Has rows b → test a ≡ true → test b ≡ true → a ≢ b
      → 2 ≤ length (filter test rows)
  two_kept [] a b h k p q apart = absurd h
  two_kept (x ∷ rows) a b (inl e) (inl f) p q apart = absurd (apart (e ∙ sym f))
  two_kept (x ∷ rows) a b (inl e) (inr k) p q apart = kept_more x rows (subst (λ r. test r ≡ true) e p)
      (one_kept rows b k q)
  two_kept (x ∷ rows) a b (inr h) (inl f) p q apart = kept_more x rows (subst (λ r. test r ≡ true) f q)
      (one_kept rows a h p)
  two_kept (x ∷ rows) a b (inr h) (inr k) p q apart = kept_still x rows (test x) refl (two_kept rows a b h k p q apart)

  only_once : (rows : List Row) → IsTable rows
      → ((a b : Row) → lists.Has rows a → lists.Has rows b → test a ≡ true → test b ≡ true
      → value_cmp (rowid a) (rowid b) ≡ Less → ⊥)
      → length (filter test rows) ≤ 1
  only_once [] rise none = omega arith
  only_once (x ∷ rows) rise none = by_test (test x) refl (only_once rows rise.1 (λ a b h k. none a b (inr h) (inr k)))
    where
      no_more : (xs : List Row) → ((r : Row) → lists.Has xs r → ⊥) → length xs ≡ 0
      no_more [] h = refl
      no_more (y ∷ ys) h = absurd (h y (inl refl))

      by_test : (b : Bool) → test x ≡ b → length (filter test rows) ≤ 1 → length (filter test (x ∷ rows)) ≤ 1
      by_test false is most = rw is most
      by_test true is most =
          let none_else = no_more (filter test rows)
          (λ r there. let was = has_filtered test rows r there in
          none x r (inl refl) (inr was.0) is was.1
          (all_has (λ r. value_cmp (rowid x) (rowid r) ≡ Less) rows r rise.0 was.0)) in
          rw is (omega (arith, none_else))

-- what is compared of two rows, in the order of their rowids
abbrev in_order : Row → Row → Bool → Bool
in_order a b columns = is_true (binary (Compare Lt Binary) (rowid a) (rowid b)) && columns

abbrev rest_same : Row → Row → Bool
rest_same a b = is (column b 2) (column a 2)
    && (is (column b 3) (column a 3) && (is (column b 4) (column a 4) && (is (column b 5) (column a 5) && true)))

abbrev named_pair : Row → Row → Bool
named_pair a b = in_order a b (equal Binary (column b 1) (column a 1) && rest_same a b)

abbrev unnamed_pair : Row → Row → Bool
unnamed_pair a b = in_order a b (is (column a 1) Null && (is (column b 1) Null && rest_same a b))

-- two rows, of which the first has the lower rowid, stand for one extension of these
abbrev Finds : (Row → Row → Bool) → (Extension → Type 0) → Type 0
Finds pair Q = (a b : Row) (k l : Extension) → drop 1 a ≡ extension_row k → drop 1 b ≡ extension_row l → IsTrue
    (is_int (rowid a)) → IsTrue (is_int (rowid b)) → (pair a b ≡ true) ↔
    ((value_cmp (rowid a) (rowid b) ≡ Less) × (Q k × (l ≡ k)))

after_lower : (x y : Value) (columns : Bool) {C : Type 0} → IsTrue (is_int x) → IsTrue (is_int y) → (columns ≡ true) ↔ C
    → ((is_true (binary (Compare Lt Binary) x y) && columns) ≡ true) ↔ ((value_cmp x y ≡ Less) × C)
after_lower x y columns m n same =
    let w = lower_is x y m n in (
      λ e. let parts = and_parts (is_true (binary (Compare Lt Binary) x y)) _ e in (w.0 parts.0, same.0 parts.1),
      λ both.
          and_from _ _ (w.1 both.0) (same.1 both.1),
    )

finds_named : Finds named_pair IsNamed
finds_named [] b k l p q m n = absurd cc
finds_named (x ∷ a) [] k l p q m n = absurd cc
finds_named (x ∷ a) (y ∷ b) k l p q m n =
    subst (λ u. (named_pair (x ∷ u) (y ∷ b) ≡ true) ↔ ((value_cmp x y ≡ Less) × (IsNamed k × (l ≡ k)))) (sym p)
    (subst (λ v. (named_pair (x ∷ extension_row k) (y ∷ v) ≡ true) ↔ ((value_cmp x y ≡ Less) × (IsNamed k × (l ≡ k))))
    (sym q)
    (after_lower x y _ m n (both_named l k)))

finds_unnamed : Finds unnamed_pair (λ k. k.table ≡ None)
finds_unnamed [] b k l p q m n = absurd cc
finds_unnamed (x ∷ a) [] k l p q m n = absurd cc
finds_unnamed (x ∷ a) (y ∷ b) k l p q m n =
    subst (λ u. (unnamed_pair (x ∷ u) (y ∷ b) ≡ true) ↔ ((value_cmp x y ≡ Less) × ((k.table ≡ None) × (l ≡ k))))
    (sym p) (subst (λ v. (unnamed_pair (x ∷ extension_row k) (y ∷ v) ≡ true) ↔
    ((value_cmp x y ≡ Less) × ((k.table ≡ None) × (l ≡ k)))) (sym q)
    (after_lower x y _ m n (both_unnamed l k)))

count_of : (l n : ℕ) → as_count l ≡ Some n → l ≡ n
count_of zero n e = absurd (let f = e in cc)
count_of (suc l) n e = let f = e in cc

positive : (l n : ℕ) → as_count l ≡ Some n → 1 ≤ n
positive zero n is = absurd (let f = is in cc)
positive (suc l) n is = let f = count_of (suc l) n is in omega (arith, f)

-- no two rows are found exactly where each extension of these stands once
module _ (version : ℤ) (db : Trees) (p : Package) (stands : StandsFor version db p) (pair : Row → Row → Bool)
    (Q : Extension → Type 0) (finds : Finds pair Q) where
  abbrev rows : List Row
  rows = db 8

  int : (r : Row) → lists.Has rows r → IsTrue (is_int (rowid r))
  int r there = all_has (λ (x : Row). IsTrue (is_int (rowid x))) rows r (stands.rows 8).keyed there

  at_least : (e : Extension) (n : ℕ) → get p.extensions e ≡ Some n → 1 ≤ n
  at_least e n at = positive (length (filter (is_extension e) rows)) n (sym (stands.holds.extensions.counted e) ∙ at)

  exactly : {l : ℕ} (n : ℕ) → l ≡ n → l ≤ 1 → 1 ≤ n → n ≡ 1
  exactly n is most low = omega (arith, is, most, low)

  once_of : ((a : Row) → lists.Has rows a → (b : Row) → lists.Has rows b → OnTrue (pair a b) ⊥) ↔ Each p.extensions
      (λ e count. Q e → count ≡ 1)
  once_of =
      let h = stands.holds.extensions in (
        λ shown e n at of.
            let is_n = count_of (length (filter (is_extension e) rows)) n (sym (h.counted e) ∙ at) in
            let most = only_once (is_extension e) rows (stands.rows 8).rise (λ a b here there p q less.
            let k = is_that e a p in let l = is_that e b q in
            (on_true _ _ _ (finds a b (extension_of a) (extension_of b) (h.sound a here) (h.sound b there)
            (int a here) (int b there))).0 (shown a here b there) (less, (subst Q (sym k) of, l ∙ sym k))) in
            exactly n is_n most (at_least e n at),
        λ once a here b there.
            (on_true _ _ _ (finds a b (extension_of a) (extension_of b) (h.sound a here) (h.sound b there) (int a here)
            (int b there))).1 (λ it.
            let e = extension_of a in
            let n = counted_in rows p.extensions h a here in
            let one = once e (suc n.0) n.1 it.1.0 in
            let two = two_kept (is_extension e) rows a b here there (same_itself extension_keys e)
            (subst (λ x. is_extension x b ≡ true) it.1.1 (same_itself extension_keys (extension_of b)))
            (λ s. never_less (rowid a) (subst (λ r. value_cmp (rowid a) (rowid r) ≡ Less) (sym s) it.0)) in
            let len = n.2 in
            absurd (omega (arith, two, one, len))),
      )

pub named_once : Says [] (inner 8 (inner 8 end)) (below 1 0 2 0 ∷ equals 2 1 1 1 ∷ same_as 2 2
    (col 1 2) ∷ same_as 2 3 (col 1 3) ∷ same_as 2 4 (col 1 4) ∷ same_as 2 5 (col 1 5) ∷ [])
    (lit (Int (pos 1)) ∷ []) NoRow (λ _. ⊤) NamedOnce
named_once version db p stands known = once_of version db p stands named_pair IsNamed finds_named

pub unnamed_once : Says [] (inner 8 (inner 8 end))
    (below 1 0 2 0 ∷ same_as 1 1 (lit Null) ∷ same_as 2 1 (lit Null) ∷ same_as 2 2 (col 1 2) ∷ same_as 2 3
    (col 1 3) ∷ same_as 2 4 (col 1 4) ∷ same_as 2 5 (col 1 5) ∷ []) (lit (Int (pos 1)) ∷ []) NoRow (λ _. ⊤) UnnamedOnce
unnamed_once version db p stands known = once_of version db p stands unnamed_pair (λ k. k.table ≡ None) finds_unnamed

pub all_once : (p : Package) → (NamedOnce p × UnnamedOnce p) ↔ ExtensionsOnce p
all_once p = (λ h e n is. go h e n is e.table refl, λ once. (λ e n is _. once e n is, λ e n is _. once e n is))
  where
    go : NamedOnce p × UnnamedOnce p → (e : Extension) (n : ℕ) → get p.extensions e ≡ Some n → (o : Option Text)
        → e.table ≡ o → n ≡ 1
    go h e n is None at = h.1 e n is at
    go h e n is (Some t) at = h.0 e n is (t, at)

-- ---- all of rule 14
one_of : (p : Package) → ExtensionsOnce p → (e : Extension) → Stands p.extensions e → Has p.extensions e 1
one_of p once e there = let v = some_of (get p.extensions e) there in v.1 ∙ ap Some (once e v.0 v.1)

pub all_extensions : (p : Package)
    → (ExtensionsWanted p × (ExtensionsOnce p × (GeneralExtension p × (MappingExtensions p × ZoomExtensions p))))
    ↔ ExactExtensions p.kinds p.relations p.extensions
all_extensions p = (
  λ h. record {
    only = λ e n is. (h.0 e n is, h.1.0 e n is);
    all = λ e wanted. elim wanted [
      | inl g ↦ subst (λ x. Has p.extensions x 1) (sym g) (one_of p h.1.0 general h.1.1.0)
      | inr b ↦ elim b [
        | inl m ↦ subst (λ x. Has p.extensions x 1) (sym m.2)
            (one_of p h.1.0 (mapping_extension m.0)
            (let r = some_of (get p.relations m.0) m.1 in h.1.1.1.0 m.0 r.0 r.1))
        | inr z ↦ subst (λ x. Has p.extensions x 1) (sym z.2) (one_of p h.1.0 (zoom_extension z.0) (h.1.1.1.1 z.0 (codes "other") z.1 refl))
      ]
    ];
  },
  λ x. (
    λ e n is. (x.only e n is).0,
    (
      λ e n is. (x.only e n is).1,
      (
        ap is_some (x.all general (inl refl)),
        (
          λ m r is. ap is_some (x.all (mapping_extension m) (inr (inl (m, ap is_some is, refl)))),
          λ t v is other. ap is_some (x.all (zoom_extension t) (inr (inr (t, is ∙ ap Some other, refl)))),
        ),
      ),
    ),
  ),
)
