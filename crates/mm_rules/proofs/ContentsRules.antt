-- What the queries of contents, kinds and matrix sets show, and rules 2 to 6.
use Rattle.std.proofs.Common.{◌≡◌, ◌↔◌, ◌⊎◌, inl, inr, true, false, ◌&&◌, ℤ, [], ◌∷◌, Option, Some, None, is_some}
use Rattle.std.proofs.Common.{IsTrue, codes, filter, refl, sym, ap, ◌∙◌}
use Rattle.std.specs.Prelude.{⊤, IfSome}
use Rattle.std.specs.FinMap.{get}
use Rattle.sqlite.specs.Order.{Row, column}
use Rattle.sqlite.specs.Tree.{Trees}
use Rattle.sqlite.specs.declared.types.Value.{Value}
use Rattle.sqlite.specs.declared.types.Value.TheVariants.{Null, Int, Text as Words}
use Rattle.sql_forms.specs.Collation.TheVariants.{Binary}
use Rattle.sql_forms.specs.Term.{col}
use Rattle.sql_forms.specs.Query.{inner, left, end, or_nulls}
use Rattle.sql_forms.specs.Rules.{equal}
use Rattle.sql_forms.specs.Lists as lists
use Rattle.mm_definitions.specs.Keys.{Text}
use Rattle.mm_definitions.specs.Package.{Package, Contents, MatrixSet, IsPyramid, kind_text}
use Rattle.mm_definitions.specs.Rules.{DistinctIdentifiers, MayName, IsPlane, IsOrdered, IsPlaced, IsUnplaced, Suits}
use Rattle.mm_definitions.specs.declared.commands.Kind.{Kind}
use Rattle.mm_definitions.specs.declared.commands.Kind.TheVariants.{Two, Other, Attributes, Media}
use Rattle.mm_definitions.proofs.Parts.{same_some}
use Rattle.mm_store.specs.Rows.{maybe, system_row, contents_row, kind_row, set_row, relation_row}
use Rattle.mm_store.specs.Stands.{StandsFor}
use Rattle.mm_walk.specs.Columns.{number_of, text_bytes, is_there}
use Rattle.mm_rules.specs.ContentsRows.{MayNameRow, IsSameRow, IsThereRow, IsAbsentRow, IsOrderedRow, IsPlacedRow}
use Rattle.mm_rules.specs.ContentsRows.{IsUnplacedRow, IsRegisteredRow}
use Rattle.mm_rules.specs.Parts.{ContentsSystems, SetSystems, MappingNames, Registered, KindsHaveContents}
use Rattle.mm_rules.specs.Parts.{SetsHaveContents, SetExtents, ContentsExtents}
use Rattle.mm_walk.proofs.Joined.{as_whole, after_rowid, after_id, covered, covered_whole, covered_id, each_row, joined}
use Rattle.mm_walk.proofs.Keys.{name_is, number_is, on_true, same}
use Rattle.mm_walk.proofs.Terms.{equals}
use Rattle.mm_walk.proofs.Checks.{Says}

-- ---- rule 2
module _ (version : ℤ) (db : Trees) (p : Package) (stands : StandsFor version db p) (table : Text) where
  abbrev Names : Value → Type 0
  Names system = (r : Row) → lists.Has (or_nulls (filter (λ r. equal Binary (column r 0) system && true) (db 0))) r
      → (q : Row) → lists.Has (or_nulls (filter (λ q. equal Binary (column q 1) (Words table) && true) (db 13))) q
      → MayNameRow (system ∷ column r 0 ∷ column q 2 ∷ [])

  with_kind : (z : ℤ) (v : Value)
      → ((q : Row) → lists.Has (or_nulls (filter (λ q. equal Binary (column q 1) (Words table) && true) (db 13))) q
      → MayNameRow (Int z ∷ v ∷ column q 2 ∷ []))
      ↔ (IsTrue (is_there v) × (IsPyramid p.kinds table → IsPlane z))
  with_kind z v = joined after_rowid kind_row (db 13) p.kinds (covered (λ m w. (_, _, refl)) stands.holds.kinds) _ table
      (λ m w y. name_is m table) _
      (λ o. IsTrue (is_there v) × ((o ≡ Some (codes "two")) ⊎ (o ≡ Some (codes "other")) → IsPlane z)) same (λ w y. same)

  names : (z : ℤ) → Names (Int z) ↔ MayName p.systems p.kinds table z
  names z = joined as_whole system_row (db 0) p.systems (covered_whole stands.holds.systems) _ z
      (λ l s y. number_is l z) _ (λ o. IsTrue (is_some o) × (IsPyramid p.kinds table → IsPlane z)) (with_kind z Null)
      (λ s y. with_kind z (Int z))

  maybe_names : (o : Option ℤ) → Names (maybe o) ↔ IfSome o (MayName p.systems p.kinds table)
  maybe_names None = (λ _. tt, λ _ r there q where_q. tt)
  maybe_names (Some z) = names z

pub contents_systems : Says [] (inner 1 (left 0 (equals 2 0 1 10 ∷ []) (left 13 (equals 3 1 1 1 ∷ []) end))) []
    (col 1 10 ∷ col 2 0 ∷ col 3 2 ∷ []) MayNameRow (λ _. ⊤) ContentsSystems
contents_systems version db p stands known =
    each_row after_rowid contents_row (db 1) p.contents (covered (λ k c. (_, _, refl)) stands.holds.contents) _ _
    (λ k c x. maybe_names version db p stands k c.system)

pub set_systems : Says [] (inner 4 (left 0 (equals 2 0 1 2 ∷ []) (left 13 (equals 3 1 1 1 ∷ []) end))) []
    (col 1 2 ∷ col 2 0 ∷ col 3 2 ∷ []) MayNameRow (λ _. ⊤) SetSystems
set_systems version db p stands known =
    each_row after_rowid set_row (db 4) p.sets (covered (λ k s. (_, _, refl)) stands.holds.sets) _ _
    (λ k s x. names version db p stands k s.system)

-- ---- rule 3
pub distinct_identifiers : Says [] (inner 1 (inner 1 end)) (equals 2 3 1 3 ∷ []) (col 1 1 ∷ col 2 1 ∷ []) IsSameRow
    (λ _. ⊤) (λ p. DistinctIdentifiers p.contents)
distinct_identifiers version db p stands known =
    let here = covered (λ k c. (_, _, refl)) stands.holds.contents in
    each_row after_rowid contents_row (db 1) p.contents here _ _
    (λ k c x. each_row after_rowid contents_row (db 1) p.contents here _ _
    (λ l d y. let n = name_is d.identifier c.identifier in on_true _ (c.identifier ≡ d.identifier) (k ≡ l)
    (λ e. sym (n.0 e), λ e. n.1 (sym e))))

-- ---- rule 4
pub mapping_names : Says [] (inner 10 (left 1 (equals 2 1 1 7 ∷ []) end)) [] (col 2 1 ∷ []) IsAbsentRow (λ _. ⊤)
    MappingNames
mapping_names version db p stands known =
    each_row after_id relation_row (db 10) p.relations (covered_id (λ m r. (_, _, refl)) stands.holds.relations) _ _
    (λ m r x. joined after_rowid contents_row (db 1) p.contents
    (covered (λ k c. (_, _, refl)) stands.holds.contents) _ m (λ k c y. name_is k m) _ (λ o. o ≡ None)
    (λ _. refl, λ _. refl) (λ c y. (λ e. absurd (true_not_false e), λ e. absurd (let f = e in cc))))
  where
    true_not_false : true ≡ false → ⊥
    true_not_false e = cc

-- ---- rule 5
pub kinds_have_contents : Says [] (inner 13 (left 1 (equals 2 1 1 1 ∷ []) end)) [] (col 2 1 ∷ []) IsThereRow (λ _. ⊤)
    KindsHaveContents
kinds_have_contents version db p stands known =
    each_row after_rowid kind_row (db 13) p.kinds (covered (λ k v. (_, _, refl)) stands.holds.kinds) _ _
    (λ k v x. joined after_rowid contents_row (db 1) p.contents (covered (λ k c. (_, _, refl)) stands.holds.contents) _
    k (λ l c y. name_is l k) _ (λ o. IsTrue (is_some o)) same (λ c y. same))

pub sets_have_contents : Says [] (inner 4 (left 1 (equals 2 1 1 1 ∷ []) end)) [] (col 2 1 ∷ []) IsThereRow (λ _. ⊤)
    SetsHaveContents
sets_have_contents version db p stands known =
    each_row after_rowid set_row (db 4) p.sets (covered (λ k s. (_, _, refl)) stands.holds.sets) _ _
    (λ k s x. joined after_rowid contents_row (db 1) p.contents (covered (λ k c. (_, _, refl)) stands.holds.contents) _
    k (λ l c y. name_is l k) _ (λ o. IsTrue (is_some o)) same (λ c y. same))

number_maybe : (o : Option ℤ) → number_of (maybe o) ≡ o
number_maybe None = refl
number_maybe (Some z) = refl

absent_maybe : (o : Option ℤ) → (is_there (maybe o) ≡ false) ↔ (o ≡ None)
absent_maybe None = (λ _. refl, λ _. refl)
absent_maybe (Some z) = (λ e. absurd (let f : true ≡ false = e in cc), λ e. absurd (let f = e in cc))

abbrev row_of : Value → Contents → Value → Value → Value → Value → Value → Row
row_of v c min_x min_y max_x max_y system = v ∷ Words c.data_type ∷ maybe c.min_x ∷ maybe c.min_y ∷ maybe c.max_x
    ∷ maybe c.max_y ∷ maybe c.system ∷ min_x ∷ min_y ∷ max_x ∷ max_y ∷ system ∷ []

abbrev with_set : Value → Contents → Option MatrixSet → Row
with_set v c None = row_of v c Null Null Null Null Null
with_set v c (Some s) = row_of v c (Int s.box.min_x) (Int s.box.min_y) (Int s.box.max_x) (Int s.box.max_y)
    (Int s.system)

placed_is : (v : Value) (c : Contents) (o : Option MatrixSet) → IsPlacedRow (with_set v c o) ↔ IsPlaced c o
placed_is v c None = (λ h. absurd (let f : false ≡ true = h.there in cc), λ h. absurd h)
placed_is v c (Some s) = (
  λ h. record {
    data_type = same_some h.data_type;
    system = sym (number_maybe c.system) ∙ h.system;
    min_x = sym (number_maybe c.min_x) ∙ h.min_x;
    min_y = sym (number_maybe c.min_y) ∙ h.min_y;
    max_x = sym (number_maybe c.max_x) ∙ h.max_x;
    max_y = sym (number_maybe c.max_y) ∙ h.max_y;
  },
  λ h. record {
    data_type = ap Some h.data_type;
    there = refl;
    system = number_maybe c.system ∙ h.system;
    min_x = number_maybe c.min_x ∙ h.min_x;
    min_y = number_maybe c.min_y ∙ h.min_y;
    max_x = number_maybe c.max_x ∙ h.max_x;
    max_y = number_maybe c.max_y ∙ h.max_y;
  },
)

no_set : (v : Value) (c : Contents) (o : Option MatrixSet) → (is_there (column (with_set v c o) 11) ≡ false)
    ↔ (o ≡ None)
no_set v c None = (λ _. refl, λ _. refl)
no_set v c (Some s) = (λ e. absurd (let f : true ≡ false = e in cc), λ e. absurd (let f = e in cc))

unplaced_is : (v : Value) (c : Contents) (o : Option MatrixSet) → IsUnplacedRow (with_set v c o) ↔ IsUnplaced c o
unplaced_is v c None = (
  λ h. (
    same_some h.data_type,
    (absent_maybe c.min_x).0 h.min_x,
    (absent_maybe c.min_y).0 h.min_y,
    (absent_maybe c.max_x).0 h.max_x,
    (absent_maybe c.max_y).0 h.max_y,
    (absent_maybe c.system).0 h.system,
    (no_set v c None).0 h.set,
  ),
  λ (t, a, b, d, e, f, s). record {
    data_type = ap Some t;
    min_x = (absent_maybe c.min_x).1 a;
    min_y = (absent_maybe c.min_y).1 b;
    max_x = (absent_maybe c.max_x).1 d;
    max_y = (absent_maybe c.max_y).1 e;
    system = (absent_maybe c.system).1 f;
    set = (no_set v c None).1 s;
  },
)
unplaced_is v c (Some s) = (
  λ h. absurd (let f : true ≡ false = h.set in cc),
  λ (t, a, b, d, e, f, s). absurd (let f = s in cc),
)

suits_is : (v : Value) (c : Contents) (o : Option MatrixSet)
    → IsRegisteredRow (with_set v c o) ↔ ((kind : Kind) × (text_bytes v ≡ Some (kind_text kind)) × Suits kind c o)
suits_is v c o = (to o, from o)
  where
    to : (o : Option MatrixSet) → IsRegisteredRow (with_set v c o) → (kind : Kind)
        × (text_bytes v ≡ Some (kind_text kind)) × Suits kind c o
    to None (inl (inl is, h)) = (Two, is, (placed_is v c None).0 h)
    to None (inl (inr is, h)) = (Other, is, (placed_is v c None).0 h)
    to None (inr (inl is, h)) = (Attributes, is, (unplaced_is v c None).0 h)
    to None (inr (inr is, h)) = (Media, is, (unplaced_is v c None).0 h)
    to (Some s) (inl (inl is, h)) = (Two, is, (placed_is v c (Some s)).0 h)
    to (Some s) (inl (inr is, h)) = (Other, is, (placed_is v c (Some s)).0 h)
    to (Some s) (inr (inl is, h)) = (Attributes, is, (unplaced_is v c (Some s)).0 h)
    to (Some s) (inr (inr is, h)) = (Media, is, (unplaced_is v c (Some s)).0 h)

    from : (o : Option MatrixSet) → (kind : Kind) × (text_bytes v ≡ Some (kind_text kind)) × Suits kind c o
        → IsRegisteredRow (with_set v c o)
    from None (Two, is, h) = inl (inl is, (placed_is v c None).1 h)
    from None (Other, is, h) = inl (inr is, (placed_is v c None).1 h)
    from None (Attributes, is, h) = inr (inl is, (unplaced_is v c None).1 h)
    from None (Media, is, h) = inr (inr is, (unplaced_is v c None).1 h)
    from (Some s) (Two, is, h) = inl (inl is, (placed_is v c (Some s)).1 h)
    from (Some s) (Other, is, h) = inl (inr is, (placed_is v c (Some s)).1 h)
    from (Some s) (Attributes, is, h) = inr (inl is, (unplaced_is v c (Some s)).1 h)
    from (Some s) (Media, is, h) = inr (inr is, (unplaced_is v c (Some s)).1 h)

pub registered : Says [] (inner 1 (left 13 (equals 2 1 1 1 ∷ []) (left 4 (equals 3 1 1 1 ∷ []) end))) []
    (col 2 2 ∷ col 1 2 ∷ col 1 6 ∷ col 1 7 ∷ col 1 8 ∷ col 1 9 ∷ col 1 10 ∷ col 3 3 ∷ col 3 4 ∷ col 3 5 ∷ col 3 6
    ∷ col 3 2 ∷ []) IsRegisteredRow (λ _. ⊤) Registered
registered version db p stands known =
    each_row after_rowid contents_row (db 1) p.contents (covered (λ k c. (_, _, refl)) stands.holds.contents) _ _
    (λ k c x. joined after_rowid kind_row (db 13) p.kinds (covered (λ m v. (_, _, refl)) stands.holds.kinds) _ k
    (λ m v y. name_is m k) _ (λ o. (kind : Kind) × (o ≡ Some (kind_text kind)) × Suits kind c (get p.sets k))
    (with_its_set k c Null) (λ v y. with_its_set k c (Words v)))
  where
    with_its_set : (k : Text) (c : Contents) (v : Value)
        → ((r : Row) → lists.Has (or_nulls (filter (λ r. equal Binary (column r 1) (Words k) && true) (db 4))) r
        → IsRegisteredRow (row_of v c (column r 3) (column r 4) (column r 5) (column r 6) (column r 2)))
        ↔ ((kind : Kind) × (text_bytes v ≡ Some (kind_text kind)) × Suits kind c (get p.sets k))
    with_its_set k c v = joined after_rowid set_row (db 4) p.sets
        (covered (λ m s. (_, _, refl)) stands.holds.sets) _ k (λ m s y. name_is m k) _
        (λ o. (kind : Kind) × (text_bytes v ≡ Some (kind_text kind)) × Suits kind c o) (suits_is v c None)
        (λ s y. suits_is v c (Some s))

-- ---- rule 6
pub set_extents : Says [] (inner 4 end) [] (col 1 3 ∷ col 1 4 ∷ col 1 5 ∷ col 1 6 ∷ []) IsOrderedRow (λ _. ⊤) SetExtents
set_extents version db p stands known = each_row after_rowid set_row (db 4) p.sets
    (covered (λ k s. (_, _, refl)) stands.holds.sets) _ _ (λ k s x. same)

ordered_is : (low high : Option ℤ) → IsOrdered (number_of (maybe low)) (number_of (maybe high)) ↔ IsOrdered low high
ordered_is None high = same
ordered_is (Some a) None = same
ordered_is (Some a) (Some b) = same

pub contents_extents : Says [] (inner 1 end) [] (col 1 6 ∷ col 1 7 ∷ col 1 8 ∷ col 1 9 ∷ []) IsOrderedRow (λ _. ⊤)
    ContentsExtents
contents_extents version db p stands known =
    each_row after_rowid contents_row (db 1) p.contents (covered (λ k c. (_, _, refl)) stands.holds.contents) _ _
    (λ k c x.
    let a = ordered_is c.min_x c.max_x in
    let b = ordered_is c.min_y c.max_y in
    (λ h. (a.0 h.0, b.0 h.1), λ h. (a.1 h.0, b.1 h.1)))
