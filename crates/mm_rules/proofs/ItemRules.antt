-- What the queries of items, relations and mapping rows show, and rules 11 to 13.
use Rattle.std.proofs.Common.{◌≡◌, ◌↔◌, ◌⊎◌, inl, inr, Bool, true, false, ◌&&◌, ℕ, ℤ, [], ◌∷◌, List, Option, Some}
use Rattle.std.proofs.Common.{None, is_some, IsTrue, codes, filter, refl, ap, subst}
use Rattle.std.specs.Prelude.{⊤}
use Rattle.std.specs.FinMap.{get, contains_key}
use Rattle.sqlite.specs.Order.{Row, column}
use Rattle.sqlite.specs.Tree.{Trees}
use Rattle.sqlite.specs.declared.types.Value.{Value}
use Rattle.sqlite.specs.declared.types.Value.TheVariants.{Null, Int, Text as Words}
use Rattle.sql_forms.specs.Collation.TheVariants.{Binary}
use Rattle.sql_forms.specs.Term.{col}
use Rattle.sql_forms.specs.Query.{inner, left, end, or_nulls}
use Rattle.sql_forms.specs.Rules.{equal}
use Rattle.sql_forms.specs.Lists as lists
use Rattle.mm_definitions.specs.Keys.{Text, item}
use Rattle.mm_definitions.specs.Parts.{Stands}
use Rattle.mm_definitions.specs.Package.{Package, Relation, AttributeRow}
use Rattle.mm_definitions.specs.Rules.{RelationsSuited, PairingsJoin, Joins}
use Rattle.mm_definitions.proofs.Parts.{same_some}
use Rattle.mm_store.specs.Rows.{kind_row, attribute_row, MediumRow, medium_row, relation_row, pairing_row}
use Rattle.mm_store.specs.Kept.{medium_id, medium_with}
use Rattle.mm_store.specs.Stands.{StandsFor}
use Rattle.mm_walk.specs.Columns.{text_bytes, is_there}
use Rattle.mm_rules.specs.ItemRows.{IsAttributesRow, IsMediaRow, IsSuitedRow, IsJoinedRow}
use Rattle.mm_rules.specs.Parts.{RowsInTables, MediaInTables}
use Rattle.mm_walk.proofs.Joined.{after_rowid, after_id, covered, covered_id, each_row, joined, some_joined}
use Rattle.mm_blobs.proofs.Naming.{told_there}
use Rattle.mm_walk.proofs.Named.{each_named}
use Rattle.mm_walk.proofs.Keys.{name_is, item_is, same}
use Rattle.mm_walk.proofs.Terms.{equals}
use Rattle.mm_walk.proofs.Checks.{Says}

-- ---- rule 11
pub rows_in_tables : Says [] (inner 17 (left 13 (equals 2 1 1 1 ∷ []) end)) [] (col 2 2 ∷ []) IsAttributesRow (λ _. ⊤)
    RowsInTables
rows_in_tables version db p stands known =
    each_row after_rowid attribute_row (db 17) p.rows (covered (λ k r. (_, _, refl)) stands.holds.rows) _ _
    (λ k r x. joined after_rowid kind_row (db 13) p.kinds (covered (λ m v. (_, _, refl)) stands.holds.kinds) _
    k.table (λ m v y. name_is m k.table) _ (λ o. o ≡ Some (codes "attributes")) same (λ v y. same))

pub media_in_tables : Says [] (inner 19 (left 13 (equals 2 1 1 1 ∷ []) end)) [] (col 2 2 ∷ []) IsMediaRow (λ _. ⊤)
    MediaInTables
media_in_tables version db p stands known =
    let h = stands.holds in
    each_named medium_id medium_with h.kept.shelf h.kept.media p.media h.keeps.media_told after_rowid medium_row (db 19)
    (covered (λ k i. (_, _, refl)) h.keeps.media) _ _
    (λ k i x bytes at named. joined after_rowid kind_row (db 13) p.kinds
    (covered (λ m v. (_, _, refl)) stands.holds.kinds) _ k.table (λ m v y. name_is m k.table) _
    (λ o. o ≡ Some (codes "media")) same (λ v y. same))

-- ---- rule 12
-- a relation whose ends have these kinds
record IsSuitedBy (base related : Option Text) (r : Relation) : Type 0 where
  pub base_is : (base ≡ Some (codes "attributes")) ⊎ (base ≡ Some (codes "media"))
  pub related_is : ((r.name ≡ codes "media") × (related ≡ Some (codes "media"))) ⊎ ((r.name ≡ codes "simple_attributes") × (related ≡ Some (codes "attributes")))
  pub base_column : r.base_column ≡ codes "id"
  pub related_column : r.related_column ≡ codes "id"

related_to : {A B C D : Type 0} {x y z : Text} → (A → C) → (B → D)
    → ((◌≡◌ {A = Option Text} (Some x) (Some y) × A) ⊎ (◌≡◌ {A = Option Text} (Some x) (Some z) × B)) → ((x ≡ y) × C)
    ⊎ ((x ≡ z) × D)
related_to f g (inl h) = inl (same_some h.0, f h.1)
related_to f g (inr h) = inr (same_some h.0, g h.1)

related_from : {A B : Type 0} {x y z : Text} → (((x ≡ y) × A) ⊎ ((x ≡ z) × B))
    → (◌≡◌ {A = Option Text} (Some x) (Some y) × A) ⊎ (◌≡◌ {A = Option Text} (Some x) (Some z) × B)
related_from (inl h) = inl (ap Some h.0, h.1)
related_from (inr h) = inr (ap Some h.0, h.1)

suited_is : (r : Relation) (v w : Value)
    → IsSuitedRow (v ∷ w ∷ Words r.base_column ∷ Words r.related_column ∷ Words r.name ∷ []) ↔ IsSuitedBy (text_bytes v)
    (text_bytes w) r
suited_is r v w = (
  λ h. record {
    base_is = h.base;
    related_is = related_to (λ a. a) (λ a. a) h.related;
    base_column = same_some h.base_column;
    related_column = same_some h.related_column;
  },
  λ h. record {
    base = h.base_is;
    related = related_from h.related_is;
    base_column = ap Some h.base_column;
    related_column = ap Some h.related_column;
  },
)

abbrev Related : Trees → Relation → Value → Type 0
Related db r v = (q : Row) → lists.Has (or_nulls (filter (λ q. equal Binary (column q 1) (Words r.related) && true)
    (db 13))) q → IsSuitedRow (v ∷ column q 2 ∷ Words r.base_column ∷ Words r.related_column ∷ Words r.name ∷ [])

pub relations_suited : Says [] (inner 10 (left 13 (equals 2 1 1 2 ∷ []) (left 13 (equals 3 1 1 4 ∷ []) end))) []
    (col 2 2 ∷ col 3 2 ∷ col 1 3 ∷ col 1 5 ∷ col 1 6 ∷ []) IsSuitedRow (λ _. ⊤)
    (λ p. RelationsSuited p.kinds p.relations)
relations_suited version db p stands known =
    each_row after_id relation_row (db 10) p.relations (covered_id (λ m r. (_, _, refl)) stands.holds.relations) _ _
    (λ m r x. let it = with_base r in (
      λ shown. let h = it.0 shown in record
          { base = h.base_is; related = h.related_is; base_column = h.base_column; related_column = h.related_column },
      λ h. it.1 (record {
        base_is = h.base;
        related_is = h.related;
        base_column = h.base_column;
        related_column = h.related_column;
      }),
    ))
  where
    kinds_at : (Q : Row → Type 0) (P : Option Text → Type 0) (t : Text) → Q [] ↔ P None
        → ((v : Text) (x : Value) → Q (x ∷ kind_row t v) ↔ P (Some v))
        → ((q : Row) → lists.Has (or_nulls (filter (λ q. equal Binary (column q 1) (Words t) && true) (db 13))) q → Q q)
        ↔ P (get p.kinds t)
    kinds_at Q P t none some = joined after_rowid kind_row (db 13) p.kinds
        (covered (λ m v. (_, _, refl)) stands.holds.kinds) _ t (λ m v y. name_is m t) Q P none some

    with_related : (r : Relation) (v : Value) → Related db r v ↔ IsSuitedBy (text_bytes v) (get p.kinds r.related) r
    with_related r v = kinds_at (λ q. IsSuitedRow (v ∷ column q 2 ∷ Words r.base_column ∷ Words r.related_column
        ∷ Words r.name ∷ [])) (λ o. IsSuitedBy (text_bytes v) o r) r.related (suited_is r v Null)
        (λ w y. suited_is r v (Words w))

    with_base : (r : Relation)
        → ((q : Row) → lists.Has (or_nulls (filter (λ q. equal Binary (column q 1) (Words r.base) && true) (db 13)))
        q → Related db r (column q 2)) ↔ IsSuitedBy (get p.kinds r.base) (get p.kinds r.related) r
    with_base r = kinds_at (λ q. Related db r (column q 2)) (λ o. IsSuitedBy o (get p.kinds r.related) r) r.base
        (with_related r Null) (λ v y. with_related r (Words v))

-- ---- rule 13
-- the rows of the items and media of the table `t` with this id
abbrev joining : Trees → ℕ → Value → ℤ → List Row
joining db tree t id = filter (λ r. equal Binary (column r 1) t && (equal Binary (column r 2) (Int id) && true))
    (db tree)

module _ (version : ℤ) (db : Trees) (p : Package) (stands : StandsFor version db p) (w : Value) (base related : Text)
    (base_id related_id : ℤ) where
  abbrev Is : Type 0 → Type 0 → Type 0 → Type 0 → Type 0
  Is A B C D = IsTrue (is_there w) × (A ⊎ B) × (C ⊎ D)

  abbrev There : Value → Type 0
  There v = IsTrue (is_there v)

  at_row : (Q : Row → Type 0) (P : Option AttributeRow → Type 0) (t : Text) (id : ℤ) → Q [] ↔ P None
      → ((v : AttributeRow) (x : Value) → Q (x ∷ attribute_row (item t id) v) ↔ P (Some v))
      → ((r : Row) → lists.Has (or_nulls (joining db 17 (Words t) id)) r → Q r) ↔ P (get p.rows (item t id))
  at_row Q P t id none some = joined after_rowid attribute_row (db 17) p.rows
      (covered (λ k v. (_, _, refl)) stands.holds.rows) _ (item t id) (λ l v y. item_is l t id) Q P none some

  at_medium : (Q : Row → Type 0) (P : Bool → Type 0) (t : Text) (id : ℤ) → Q [] ↔ P false
      → ((v : MediumRow) (x : Value) → Q (x ∷ medium_row (item t id) v) ↔ P true)
      → ((r : Row) → lists.Has (or_nulls (joining db 19 (Words t) id)) r → Q r) ↔ P (contains_key p.media (item t id))
  at_medium Q P t id none some =
      let h = stands.holds in
      subst (λ b. ((r : Row) → lists.Has (or_nulls (joining db 19 (Words t) id)) r → Q r) ↔ P b)
      (told_there medium_id medium_with h.kept.shelf h.kept.media p.media h.keeps.media_told (item t id))
      (joined after_rowid medium_row (db 19) h.kept.media (covered (λ k v. (_, _, refl)) h.keeps.media) _ (item t id)
      (λ l v y. item_is l t id) Q (λ o. P (is_some o)) none some)

  last : (a b c : Value)
      → ((r : Row) → lists.Has (or_nulls (joining db 19 (Words related) related_id)) r
      → IsJoinedRow (w ∷ a ∷ b ∷ c ∷ column r 2 ∷ [])) ↔ Is (There a) (There b) (There c)
      (Stands p.media (item related related_id))
  last a b c = at_medium _ (λ t. Is (There a) (There b) (There c) (IsTrue t)) related related_id same (λ v x. same)

  abbrev Third : Value → Value → Value → Type 0
  Third a b c = (r : Row) → lists.Has (or_nulls (joining db 19 (Words related) related_id)) r
      → IsJoinedRow (w ∷ a ∷ b ∷ c ∷ column r 2 ∷ [])

  third : (a b : Value)
      → ((r : Row) → lists.Has (or_nulls (joining db 17 (Words related) related_id)) r → Third a b (column r 2)) ↔ Is
      (There a) (There b) (Stands p.rows (item related related_id)) (Stands p.media (item related related_id))
  third a b = at_row _ (λ o. Is (There a) (There b) (IsTrue (is_some o)) (Stands p.media (item related related_id)))
      related related_id (last a b Null) (λ v x. last a b (Int related_id))

  abbrev Second : Value → Value → Type 0
  Second a b = (r : Row) → lists.Has (or_nulls (joining db 17 (Words related) related_id)) r → Third a b (column r 2)

  second : (a : Value)
      → ((r : Row) → lists.Has (or_nulls (joining db 19 (Words base) base_id)) r → Second a (column r 2)) ↔ Is
      (There a) (Stands p.media (item base base_id)) (Stands p.rows (item related related_id))
      (Stands p.media (item related related_id))
  second a = at_medium _ (λ t. Is (There a) (IsTrue t) (Stands p.rows (item related related_id))
      (Stands p.media (item related related_id))) base base_id (third a Null) (λ v x. third a (Int base_id))

  abbrev First : Value → Type 0
  First a = (r : Row) → lists.Has (or_nulls (joining db 19 (Words base) base_id)) r → Second a (column r 2)

  both_ends : ((r : Row) → lists.Has (or_nulls (joining db 17 (Words base) base_id)) r → First (column r 2))
      ↔ Is (Stands p.rows (item base base_id)) (Stands p.media (item base base_id))
      (Stands p.rows (item related related_id)) (Stands p.media (item related related_id))
  both_ends = at_row _ (λ o. Is (IsTrue (is_some o)) (Stands p.media (item base base_id))
      (Stands p.rows (item related related_id)) (Stands p.media (item related related_id))) base base_id
      (second Null) (λ v x. second (Int base_id))

pub pairings_join : Says [] (inner 21 (left 10 (equals 2 7 1 1 ∷ [])
    (left 17 (equals 3 1 2 2 ∷ equals 3 2 1 2 ∷ [])
    (left 19 (equals 4 1 2 2 ∷ equals 4 2 1 2 ∷ [])
    (left 17 (equals 5 1 2 4 ∷ equals 5 2 1 3 ∷ []) (left 19 (equals 6 1 2 4 ∷ equals 6 2 1 3 ∷ []) end))))))
    [] (col 2 7 ∷ col 3 2 ∷ col 4 2 ∷ col 5 2 ∷ col 6 2 ∷ []) IsJoinedRow (λ _. ⊤)
    (λ p. PairingsJoin p.rows p.media p.relations p.pairings)
pairings_join version db p stands known =
    each_row after_rowid pairing_row (db 21) p.pairings (covered (λ k v. (_, _, refl)) stands.holds.pairings) _ _
    (λ k v x. joined after_id relation_row (db 10) p.relations (covered_id (λ m r. (_, _, refl)) stands.holds.relations)
    _ k.mapping (λ m r y. name_is m k.mapping) _ (λ o. Joins p.rows p.media o k) (
      λ shown.
          let a = some_joined (joining db 17 Null k.base_id) in
          let b = some_joined (joining db 19 Null k.base_id) in
          let c = some_joined (joining db 17 Null k.related_id) in
          let d = some_joined (joining db 19 Null k.related_id) in
          let it = shown a.0 a.1 b.0 b.1 c.0 c.1 d.0 d.1 in absurd (let e : false ≡ true = it.0 in cc),
      λ none. absurd none,
    )
    (λ r y. let it = both_ends version db p stands (Words k.mapping) r.base r.related k.base_id k.related_id in
    (λ shown. let s = it.0 shown in (s.1, s.2), λ joins. it.1 (refl, joins.0, joins.1))))
