-- The list of the tables, from the rows that the query shows.
use Rattle.std.proofs.Common.{◌≡◌, inl, inr, ℕ, ℤ, Bool, true, false, List, [], ◌∷◌, map, filter, Option, Some, None}
use Rattle.std.proofs.Common.{codes, refl, sym, ap, subst, ◌∙◌}
use Rattle.std.specs.Prelude.{if◌then◌else◌, ◌||◌, ◌&&◌}
use Rattle.std.specs.Ordering.{is_gt}
use Rattle.std.specs.List.{AllByRecursion, flat_map}
use Rattle.std.specs.List.Sorted.{IsPermutation, IsSorted}
use Rattle.std.specs.Cmp.{on_total}
use Rattle.std.specs.FinMap.{get}
use Rattle.sqlite.specs.declared.types.Value.TheVariants.{Null, Int, Text as Words}
use Rattle.sql_forms.specs.Collation.TheVariants.{Binary}
use Rattle.sql_forms.specs.Key.{Key}
use Rattle.sql_forms.specs.Order.{value_cmp}
use Rattle.sql_forms.proofs.OrderLemmas.{value_cmp-Text, then-Equal}
use Rattle.sql_forms.specs.BinaryOp.TheVariants.{Compare}
use Rattle.sql_forms.specs.CompareOp.TheVariants.{Eq}
use Rattle.sql_forms.specs.Query.{or_nulls}
use Rattle.sql_forms.proofs.QueryLemmas.{output_cmp_total}
use Rattle.sqlite.specs.Order.{Row, column}
use Rattle.sqlite.specs.Term.{Term, Env, eval_all, col, op2}
use Rattle.sqlite.specs.Query.{Query, Join, inner, left, end, matches, Output, output, output_cmp, IsAnswer}
use Rattle.sqlite.specs.Tree.{Trees, IsTable}
use Rattle.sqlite.specs.Listing.{understood}
use Rattle.sql_forms.specs.Compute.{everything}
use Rattle.sql_forms.specs.Tree.{IsAscending}
use Rattle.sql_forms.proofs.TreeLists.{pull_back, map-map}
use Rattle.sql_forms.proofs.PartitionLemmas.{ascending_from_sorted, IsSorted-from_map}
use Rattle.sql_forms.specs.Rules.{equal}
use Rattle.sql_forms.specs.Lists.{Has}
use Rattle.sql_forms.specs.Forms.{query, no_limit}
use Rattle.sql_forms.specs.Maps.{Holds}
use Rattle.sql_forms.proofs.Keys.{columns_are}
use Rattle.sql_forms.proofs.Selects.{IsSelect}
use Rattle.mm_store.specs.Tables.{schema}
use Rattle.mm_definitions.specs.Keys.{Text, text_cmp, same_text}
use Rattle.mm_definitions.specs.Package.{Package, Contents, Box, kind_text}
use Rattle.mm_definitions.specs.Parts.{at_value}
use Rattle.mm_definitions.specs.declared.commands.Kind.{Kind}
use Rattle.mm_definitions.specs.declared.commands.Kind.TheVariants.{Two, Other, Attributes, Media}
use Rattle.mm_definitions.specs.declared.entries.Entry.{Entry}
use Rattle.mm_store.specs.Rows.{past_rowid, contents_row, kind_row, maybe}
use Rattle.mm_store.proofs.Keys as parts
use Rattle.mm_store.proofs.Keys.{by_text, same_words}
use Rattle.mm_reads.specs.Contents.{placed, entry_told, table_told, ListsTables, IsShown, ShowsPlaceOf, ShowsEntry}
use Rattle.mm_reads.proofs.InOrder.{Picks, picked, Enters, entered, all_entered, entries_are}

-- ---- the answer of a query whose matches are those of some rows, one each

module _ (from : Join) (terms project : List Term) (order : List (Term × Key)) (db : Trees) (params : Row)
    (rows : List Row) (a : IsAnswer (query from terms project order no_limit) db params rows)
    (env_of : Row → Env) (xs : List Row) (whole : matches db terms from (params ∷ []) ≡ map env_of xs) where
  abbrev q : Query
  q = query from terms project order no_limit

  abbrev as_output : Row → Output
  as_output x = output q (env_of x)

  abbrev pub InOrder : Row → Row → Type 0
  InOrder x y = is_gt (output_cmp q (as_output x) (as_output y)) ≡ false

  -- the rows in the order of ORDER BY, and what is shown of each
  pub in_order : (ys : List Row) × IsPermutation xs ys × IsAscending InOrder ys
      × (rows ≡ map (λ x. eval_all project (env_of x)) ys)
  in_order =
      let kept : a.kept ≡ map as_output xs = a.distinct ∙ ap (map (output q)) (a.grouped ∙ whole)
      ∙ map-map (output q) env_of xs in
      let pulled = pull_back as_output a.kept a.ordered a.same xs kept in (
        pulled.0,
        pulled.1,
        ascending_from_sorted (λ x y. output_cmp q (as_output x) (as_output y))
            (on_total as_output (output_cmp_total q)) pulled.0
            (IsSorted-from_map (output_cmp q) as_output pulled.0 (subst (IsSorted (output_cmp q)) pulled.2 a.sorted)),
        a.shown ∙ ap (map (λ (o : Output). o.1)) pulled.2 ∙ map-map (λ (o : Output). o.1) as_output pulled.0,
      )

pub flat_single : {X Y : Type 0} (f : X → List Y) (g : X → Y) (xs : List X) → ((x : X) → Has xs x → f x ≡ g x ∷ [])
    → flat_map f xs ≡ map g xs
flat_single f g [] one = refl
flat_single f g (x ∷ xs) one = let here = one x (inl refl) in let more =
    flat_single f g xs (λ y there. one y (inr there)) in rw (here, more)

-- ---- the query

abbrev pub list_text : List ℕ
list_text = codes "SELECT c.table_name, t.kind, c.identifier, c.last_change, c.srs_id, c.min_x, c.min_y, c.max_x, c.max_y FROM gpkg_contents AS c LEFT JOIN mm_tables AS t ON t.table_name = c.table_name ORDER BY c.table_name"

abbrev pub same_name : List Term
same_name = op2 (Compare Eq Binary) (col 2 1) (col 1 1) ∷ []

abbrev pub shown : List Term
shown = col 1 1 ∷ col 2 2 ∷ col 1 3 ∷ col 1 5 ∷ col 1 10 ∷ col 1 6 ∷ col 1 7 ∷ col 1 8 ∷ col 1 9 ∷ []

abbrev pub by_name : List (Term × Key)
by_name = (col 1 1, record { collation = Binary; descending = false }) ∷ []

abbrev pub joined : Join
joined = inner 1 (left 13 same_name end)

pub list_tables : IsSelect schema list_text 1 (query joined [] shown by_name no_limit)
    (codes "table_name" ∷ codes "kind" ∷ codes "identifier" ∷ codes "last_change" ∷ codes "srs_id" ∷ codes "min_x" ∷ codes "min_y" ∷ codes "max_x" ∷ codes "max_y" ∷ [])
unfolding understood everything
list_tables = record { compiled = refl; plain = (refl, refl); unlisted = refl; listed = refl }

-- ---- a table with the row of its kind, if there is one

abbrev pub first_or_none : List Row → Row
first_or_none [] = []
first_or_none (x ∷ xs) = x

abbrev pub joins : Row → Row → Bool
joins r s = equal Binary (column s 1) (column r 1) && true

abbrev pub kind_at : List Row → Row → Row
kind_at kinds r = first_or_none (filter (joins r) kinds)

abbrev env_at : List Row → Row → Env
env_at kinds r = [] ∷ r ∷ kind_at kinds r ∷ []

abbrev shown_row : List Row → Row → Row
shown_row kinds r = eval_all shown (env_at kinds r)

abbrev pub ShowsAll : List Row → List Entry → Type 0
ShowsAll [] es = es ≡ []
ShowsAll (r ∷ rows) [] = ⊥
ShowsAll (r ∷ rows) (e ∷ es) = ShowsEntry r e × ShowsAll rows es

maybe_some : (o : Option ℤ) (z : ℤ) → maybe o ≡ Int z → o ≡ Some z
maybe_some None z e = absurd (let f : Null ≡ Int z = e in cc)
maybe_some (Some y) z e = let f : y ≡ z = cc in ap Some f

never_null : (t : Text) → Null ≡ Words t → ⊥
never_null t e = absurd cc

-- the place of a pyramid is that of its contents row
place_is : (row : Row) (c : Contents) → column row 4 ≡ maybe c.system → column row 5 ≡ maybe c.min_x
    → column row 6 ≡ maybe c.min_y
    → column row 7 ≡ maybe c.max_x → column row 8 ≡ maybe c.max_y
    → (place : Option (ℤ × Box)) → IsShown row place → place ≡ placed c.system c.min_x c.min_y c.max_x c.max_y
place_is row c system min_x min_y max_x max_y None is = absurd is
place_is row c system min_x min_y max_x max_y (Some place) is =
    let s = maybe_some c.system place.0 (sym system ∙ is.system) in
    let a = maybe_some c.min_x place.1.min_x (sym min_x ∙ is.min_x) in
    let b = maybe_some c.min_y place.1.min_y (sym min_y ∙ is.min_y) in
    let d = maybe_some c.max_x place.1.max_x (sym max_x ∙ is.max_x) in
    let f = maybe_some c.max_y place.1.max_y (sym max_y ∙ is.max_y) in
    λ i. placed (sym s i) (sym a i) (sym b i) (sym d i) (sym f i)

abbrev tiled : Option Text → Bool
tiled o = at_value (same_text (kind_text Two)) o || at_value (same_text (kind_text Other)) o

-- only pyramids have a place
place_by : (row : Row) (c : Contents) (kind : Kind) (place : Option (ℤ × Box)) → ShowsPlaceOf row kind place
    → ((place : Option (ℤ × Box)) → IsShown row place → place ≡ placed c.system c.min_x c.min_y c.max_x c.max_y)
    → place ≡ (if tiled (Some (kind_text kind)) then placed c.system c.min_x c.min_y c.max_x c.max_y else None)
place_by row c Two place is so = so place is
place_by row c Other place is so = so place is
place_by row c Attributes place is so = is
place_by row c Media place is so = is

module _ (p : Package) (tables kinds : List Row) (ht : Holds past_rowid contents_row tables p.contents)
    (hk : Holds past_rowid kind_row kinds p.kinds) (ut : IsTable tables) (uk : IsTable kinds) where
  -- ---- each row of the contents joins one row

  pub same_test : (r : Row) (k : Text) (c : Contents) → past_rowid r ≡ contents_row k c
      → filter (joins r) kinds ≡ filter (by_text k) kinds
  same_test r k c is = ap (λ v. filter (λ s. equal Binary (column s 1) v && true) kinds)
      (columns_are r (contents_row k c) 0 is)

  single : (k : Text) (o : Option Text) (xs : List Row) → Picks parts.kinds kinds p.kinds hk uk k o xs
      → or_nulls xs ≡ first_or_none xs ∷ []
  single k None xs none = ap or_nulls none ∙ ap (λ ys. first_or_none ys ∷ []) (sym none)
  single k (Some kind) xs one = ap or_nulls one.1 ∙ ap (λ ys. first_or_none ys ∷ []) (sym one.1)

  pub one_each : (r : Row) → Has tables r → or_nulls (filter (joins r) kinds) ≡ kind_at kinds r ∷ []
  one_each r there =
      let at = ht.sound r there in
      let same = same_test r at.0 at.1 at.3 in
      single at.0 (get p.kinds at.0) (filter (joins r) kinds)
      (subst (Picks parts.kinds kinds p.kinds hk uk at.0 (get p.kinds at.0)) (sym same)
      (picked parts.kinds kinds p.kinds hk uk at.0 (get p.kinds at.0) refl))

  -- the kind that a row shows is the registry's
  pub kind_is : (k : Text) (o : Option Text) (xs : List Row) → Picks parts.kinds kinds p.kinds hk uk k o xs → (t : Text)
      → column (first_or_none xs) 2 ≡ Words t → o ≡ Some t
  kind_is k None xs none t is = absurd (never_null t (ap (λ ys. column (first_or_none ys) 2) (sym none) ∙ is))
  kind_is k (Some kind) xs one t is =
      ap Some (same_words (sym (columns_are one.0 (kind_row k kind) 1 one.2) ∙ ap (λ ys. column (first_or_none ys) 2)
      (sym one.1) ∙ is))

  -- what is told of a row is what the package has
  told_is : (r : Row) (k : Text) (c : Contents) → past_rowid r ≡ contents_row k c → (e : Entry)
      → ShowsEntry (shown_row kinds r) e
      → table_told e ≡ entry_told p (k, c)
  told_is r k c is e it =
      let table = same_words (sym it.table ∙ columns_are r (contents_row k c) 0 is) in
      let got = kind_is k (get p.kinds k) (filter (joins r) kinds)
      (subst (Picks parts.kinds kinds p.kinds hk uk k (get p.kinds k)) (sym (same_test r k c is))
      (picked parts.kinds kinds p.kinds hk uk k (get p.kinds k) refl)) (kind_text e.kind) it.kind in
      let identifier = same_words (sym it.identifier ∙ columns_are r (contents_row k c) 2 is) in
      let last_change = same_words (sym it.last_change ∙ columns_are r (contents_row k c) 4 is) in
      let place =
      place_by (shown_row kinds r) c e.kind e.place it.place
      (place_is (shown_row kinds r) c (columns_are r (contents_row k c) 9 is) (columns_are r (contents_row k c) 5 is)
      (columns_are r (contents_row k c) 6 is) (columns_are r (contents_row k c) 7 is)
      (columns_are r (contents_row k c) 8 is))
      ∙ ap (λ o. if tiled o then placed c.system c.min_x c.min_y c.max_x c.max_y else None) (sym got) in
      λ i. record {
        table = table i;
        kind = sym got i;
        identifier = identifier i;
        last_change = last_change i;
        place = place i;
      }

  told_all : (ys : List Row) (all : AllByRecursion (Enters parts.contents tables p.contents ht ut) ys) (es : List Entry)
      → ShowsAll (map (shown_row kinds) ys) es
      → map table_told es ≡ map (entry_told p) (entered parts.contents tables p.contents ht ut ys all)
  told_all [] all es none = ap (map table_told) none
  told_all (y ∷ ys) all [] it = absurd it
  told_all (y ∷ ys) all (e ∷ es) it =
      let one = told_is y all.0.0 all.0.1 all.0.3 e it.0 in
      let more = told_all ys all.1 es it.1 in
      λ i. one i ∷ more i

  -- ---- the whole list

  module _ (db : Trees) (here : db 1 ≡ tables) (there : db 13 ≡ kinds) where
    matched : matches db [] joined ([] ∷ []) ≡ map (env_at kinds) tables
    matched = rw (here, there) (flat_single
        (λ (r : Row). flat_map (λ (s : Row). ([] ∷ r ∷ s ∷ []) ∷ []) (or_nulls (filter (joins r) kinds))) (env_at kinds)
        tables (λ r at. ap (flat_map (λ (s : Row). ([] ∷ r ∷ s ∷ []) ∷ [])) (one_each r at)))

    -- the order of the rows is that of the names
    rises_as : (r s : Row) (k l : Text) (c d : Contents) → past_rowid r ≡ contents_row k c
        → past_rowid s ≡ contents_row l d
        → is_gt (output_cmp (query joined [] shown by_name no_limit)
        (output (query joined [] shown by_name no_limit) (env_at kinds r))
        (output (query joined [] shown by_name no_limit) (env_at kinds s))) ≡ false → is_gt (text_cmp k l) ≡ false
    rises_as r s k l c d is also low =
        ap is_gt (sym (value_cmp-Text k l) ∙ sym (then-Equal (value_cmp (Words k) (Words l))))
        ∙ rw (columns_are r (contents_row k c) 0 is, columns_are s (contents_row l d) 0 also) at low

    pub lists_tables : (rows : List Row) → IsAnswer (query joined [] shown by_name no_limit) db [] rows
        → (es : List Entry) → ShowsAll rows es
        → ListsTables p es
    lists_tables rows a es it =
        let found = in_order joined [] shown by_name db [] rows a (env_at kinds) tables matched in
        let all = all_entered parts.contents tables p.contents ht ut
        (InOrder joined [] shown by_name db [] rows a (env_at kinds) tables matched) rises_as found.0 found.1 in
        told_all found.0 all es (subst (λ rs. ShowsAll rs es) found.3 it)
        ∙ ap (map (entry_told p)) (sym (entries_are parts.contents tables p.contents ht ut
        (InOrder joined [] shown by_name db [] rows a (env_at kinds) tables matched) rises_as found.0 found.1 found.2))
