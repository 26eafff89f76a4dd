-- The lines of the tables, from the rows that the query shows.
use Rattle.std.proofs.Common.{◌≡◌, ℕ, pos, Bool, true, false, ◌&&◌, List, [], ◌∷◌, ◌++◌, map, filter, length, Some}
use Rattle.std.proofs.Common.{None, codes, refl, sym, ap, subst, ◌∙◌, arith}
use Rattle.std.specs.Prelude.{ℤ, if◌then◌else◌, ◌||◌, unwrap_or, min}
use Rattle.std.specs.Ordering.{is_gt}
use Rattle.std.specs.List.{flat_map}
use Rattle.std.specs.FinMap.{get}
use Rattle.sqlite.specs.declared.types.Value.{Value}
use Rattle.sqlite.specs.declared.types.Value.TheVariants.{Int, Text as Words}
use Rattle.sql_forms.specs.Collation.TheVariants.{Binary}
use Rattle.sql_forms.specs.Key.{Key}
use Rattle.sql_forms.specs.Order.{value_cmp}
use Rattle.sql_forms.proofs.OrderLemmas.{value_cmp-Text, then-Equal}
use Rattle.sql_forms.specs.BinaryOp.TheVariants.{Compare}
use Rattle.sql_forms.specs.CompareOp.TheVariants.{Eq}
use Rattle.sql_forms.specs.Query.{or_nulls, counted}
use Rattle.sqlite.specs.Order.{Row, column}
use Rattle.sqlite.specs.Term.{Term, Env, eval_all, col, op2}
use Rattle.sqlite.specs.Query.{Join, inner, left, end, matches, output, output_cmp, IsAnswer}
use Rattle.sqlite.specs.Tree.{Trees, IsTable}
use Rattle.sqlite.specs.Listing.{understood}
use Rattle.sql_forms.specs.Compute.{everything}
use Rattle.sql_forms.specs.Rules.{equal}
use Rattle.sql_forms.specs.Forms.{query, no_limit}
use Rattle.sql_forms.proofs.Keys.{equal_text, columns_are}
use Rattle.sql_forms.proofs.Lists.{and_true, flat_counted}
use Rattle.sql_forms.proofs.Selects.{IsSelect}
use Rattle.mm_store.specs.Tables.{schema}
use Rattle.mm_definitions.specs.Keys.{Text, text_cmp, same_text}
use Rattle.mm_definitions.specs.Package.{Package, Contents, kind_text}
use Rattle.mm_definitions.specs.declared.commands.Kind.TheVariants.{Two, Other, Attributes, Media}
use Rattle.mm_store.specs.Rows.{past_rowid, contents_row}
use Rattle.mm_store.specs.Kept.{tile_id, tile_with, medium_id, medium_with}
use Rattle.mm_store.specs.Stands.{Holding}
use Rattle.mm_store.proofs.Keys as parts
use Rattle.mm_store.proofs.Keys.{by_text, same_words}
use Rattle.mm_blobs.proofs.Naming.{told_there}
use Rattle.mm_reads.proofs.InOrder.{Picks, picked, all_entered, entries_are}
use Rattle.mm_reads.proofs.Listed as reads
use Rattle.mm_reads.proofs.Listed.{joins, kind_at, flat_single, in_order, InOrder}
use Rattle.mm_reads.specs.Lines.{table_text}
use Rattle.mm_reads.specs.Listing.{by_kind, tile_count, row_count, medium_count, kind_of, count_of, table_line}
use Rattle.mm_reads.specs.Listing.{table_lines}
use Rattle.mm_reads.specs.ShownLines.{MostCounted, IsCount, ShowsTable}
use Rattle.mm_reads.proofs.Counting.{count_is, same_count}
use Rattle.mm_reads.proofs.Fronts.{ShowsEach, Fronts, fronts}

-- ---- the query

abbrev pub tables_text : List ℕ
tables_text = codes "SELECT c.table_name, k.kind, c.last_change, c.identifier, (SELECT count(*) FROM mm_tiles AS t WHERE t.table_name = c.table_name), (SELECT count(*) FROM mm_rows AS r WHERE r.table_name = c.table_name), (SELECT count(*) FROM mm_media AS m WHERE m.table_name = c.table_name) FROM gpkg_contents AS c LEFT JOIN mm_tables AS k ON k.table_name = c.table_name ORDER BY c.table_name"

-- the name in this slot is that of the table
abbrev pub of_name : ℕ → List Term
of_name slot = op2 (Compare Eq Binary) (col slot 1) (col 1 1) ∷ []

abbrev pub shown : List Term
shown = col 1 1 ∷ col 2 2 ∷ col 1 5 ∷ col 1 3 ∷ col 3 0 ∷ col 4 0 ∷ col 5 0 ∷ []

abbrev pub by_name : List (Term × Key)
by_name = (col 1 1, record { collation = Binary; descending = false }) ∷ []

abbrev pub joined : Join
joined = inner 1 (left 13 (of_name 2)
    (counted MostCounted (inner 15 end) (of_name 3)
    (counted MostCounted (inner 17 end) (of_name 4) (counted MostCounted (inner 19 end) (of_name 5) end))))

pub list_tables : IsSelect schema tables_text 1 (query joined [] shown by_name no_limit)
    (codes "table_name" ∷ codes "kind" ∷ codes "last_change" ∷ codes "identifier" ∷ codes "(SELECT count(*) FROM mm_tiles AS t WHERE t.table_name = c.table_name)" ∷ codes "(SELECT count(*) FROM mm_rows AS r WHERE r.table_name = c.table_name)" ∷ codes "(SELECT count(*) FROM mm_media AS m WHERE m.table_name = c.table_name)" ∷ [])
unfolding understood everything
list_tables = record { compiled = refl; plain = (refl, refl); unlisted = refl; listed = refl }

-- ---- a count

-- what is told below the greatest count is the count
pub uncapped : (a n : ℕ) (v : Value) → v ≡ Int (pos (min MostCounted a)) → IsCount v n → a ≡ n
uncapped a n v is counts =
    let e : Int (pos (min MostCounted a)) ≡ Int (pos n) = sym is ∙ counts.is in
    let same : min MostCounted a ≡ n = cc in
    let low = counts.below in
    omega (arith, same, low)

-- a first column that is a text
pub first_is : (k : Text) (r : Row) (l : Text) (rest : Row) → past_rowid r ≡ Words l ∷ rest
    → by_text k r ≡ same_text l k
first_is k r l rest is = ap (λ x. equal Binary x (Words k) && true) (columns_are r (Words l ∷ rest) 0 is)
    ∙ ap (λ b. b && true) (equal_text l k) ∙ and_true _

-- the kind tells which of the counts in columns 4, 5 and 6
chosen : (row : Row) (x y z : Bool) (a b d at n : ℕ)
    → (if x then Some 4 else (if y then Some 5 else (if z then Some 6 else None))) ≡ Some at
    → column row 4 ≡ Int (pos (min MostCounted a)) → column row 5 ≡ Int (pos (min MostCounted b))
    → column row 6 ≡ Int (pos (min MostCounted d)) → IsCount (column row at) n
    → (if x then Some a else (if y then Some b else (if z then Some d else None))) ≡ Some n
chosen row true y z a b d at n is four five six counts = let s : 4 ≡ at =
    cc in ap Some (uncapped a n (column row at) (ap (column row) (sym s) ∙ four) counts)
chosen row false true z a b d at n is four five six counts = let s : 5 ≡ at =
    cc in ap Some (uncapped b n (column row at) (ap (column row) (sym s) ∙ five) counts)
chosen row false false true a b d at n is four five six counts = let s : 6 ≡ at =
    cc in ap Some (uncapped d n (column row at) (ap (column row) (sym s) ∙ six) counts)
chosen row false false false a b d at n is four five six counts = absurd (let e : None ≡ Some at = is in cc)

-- ---- the rows that the query shows

abbrev counted_at : Trees → ℕ → ℕ → Env → Row
counted_at db tree slot env = Int (pos (min MostCounted (length (matches db (of_name slot) (inner tree end) env)))) ∷ []

abbrev with_kind : List Row → Row → Env
with_kind kinds r = [] ∷ r ∷ kind_at kinds r ∷ []

abbrev with_tiles : Trees → List Row → Row → Env
with_tiles db kinds r = with_kind kinds r ++ counted_at db 15 3 (with_kind kinds r) ∷ []

abbrev with_rows : Trees → List Row → Row → Env
with_rows db kinds r = with_tiles db kinds r ++ counted_at db 17 4 (with_tiles db kinds r) ∷ []

abbrev env_at : Trees → List Row → Row → Env
env_at db kinds r = with_rows db kinds r ++ counted_at db 19 5 (with_rows db kinds r) ∷ []

abbrev shown_row : Trees → List Row → Row → Row
shown_row db kinds r = eval_all shown (env_at db kinds r)

module _ (version : ℤ) (p : Package) (trees : Trees) (h : Holding version trees p) (up : (t : ℕ) → IsTable (trees t))
    (db : Trees) (at_1 : db 1 ≡ trees 1) (at_13 : db 13 ≡ trees 13) (at_15 : db 15 ≡ trees 15)
    (at_17 : db 17 ≡ trees 17) (at_19 : db 19 ≡ trees 19) where
  abbrev contents_rows : List Row
  contents_rows = trees 1

  abbrev kinds : List Row
  kinds = trees 13

  same_filter : (rows : List Row) (r : Row) (k : Text) (c : Contents) → past_rowid r ≡ contents_row k c
      → filter (joins r) rows ≡ filter (by_text k) rows
  same_filter rows r k c is = ap (λ v. filter (λ s. equal Binary (column s 1) v && true) rows)
      (columns_are r (contents_row k c) 0 is)

  tiles_are : (r : Row) (k : Text) (c : Contents) → past_rowid r ≡ contents_row k c
      → length (matches db (of_name 3) (inner 15 end) (with_kind kinds r)) ≡ tile_count p k
  tiles_are r k c is =
      flat_counted (joins r) (λ s. with_kind kinds r ++ s ∷ []) (db 15)
      ∙ ap (λ rows. length (filter (joins r) rows)) at_15 ∙ ap length (same_filter (trees 15) r k c is)
      ∙ count_is parts.tiles (trees 15) h.kept.tiles h.keeps.tiles (up 15) (λ q. same_text q.table k) (by_text k)
      (λ s l v it. first_is k s l.table _ it)
      ∙ same_count parts.tiles.order h.kept.tiles p.tiles
      (told_there tile_id tile_with h.kept.shelf h.kept.tiles p.tiles h.keeps.tiles_told) (λ q. same_text q.table k)

  rows_are : (r : Row) (k : Text) (c : Contents) → past_rowid r ≡ contents_row k c
      → length (matches db (of_name 4) (inner 17 end) (with_tiles db kinds r)) ≡ row_count p k
  rows_are r k c is =
      flat_counted (joins r) (λ s. with_tiles db kinds r ++ s ∷ []) (db 17)
      ∙ ap (λ rows. length (filter (joins r) rows)) at_17 ∙ ap length (same_filter (trees 17) r k c is)
      ∙ count_is parts.rows (trees 17) p.rows h.rows (up 17) (λ q. same_text q.table k) (by_text k)
      (λ s l v it. first_is k s l.table _ it)

  media_are : (r : Row) (k : Text) (c : Contents) → past_rowid r ≡ contents_row k c
      → length (matches db (of_name 5) (inner 19 end) (with_rows db kinds r)) ≡ medium_count p k
  media_are r k c is =
      flat_counted (joins r) (λ s. with_rows db kinds r ++ s ∷ []) (db 19)
      ∙ ap (λ rows. length (filter (joins r) rows)) at_19 ∙ ap length (same_filter (trees 19) r k c is)
      ∙ count_is parts.media (trees 19) h.kept.media h.keeps.media (up 19) (λ q. same_text q.table k) (by_text k)
      (λ s l v it. first_is k s l.table _ it)
      ∙ same_count parts.media.order h.kept.media p.media
      (told_there medium_id medium_with h.kept.shelf h.kept.media p.media h.keeps.media_told) (λ q. same_text q.table k)

  -- the kind that a row shows is the registry's
  kind_told : (r : Row) (k : Text) (c : Contents) → past_rowid r ≡ contents_row k c → (kind : Text)
      → column (kind_at kinds r) 2 ≡ Words kind
      → get p.kinds k ≡ Some kind
  kind_told r k c is kind shows =
      reads.kind_is p contents_rows kinds h.contents h.kinds (up 1) (up 13) k (get p.kinds k) (filter (joins r) kinds)
      (subst (Picks parts.kinds kinds p.kinds h.kinds (up 13) k (get p.kinds k)) (sym (same_filter kinds r k c is))
      (picked parts.kinds kinds p.kinds h.kinds (up 13) k (get p.kinds k) refl)) kind shows

  line_told : (r : Row) (k : Text) (c : Contents) → past_rowid r ≡ contents_row k c → (line : List ℕ)
      → ShowsTable (shown_row db kinds r) line
      → line ≡ table_line p (k, c)
  line_told r k c is line it =
      let name : it.name ≡ k = same_words (sym it.name_is ∙ columns_are r (contents_row k c) 0 is) in
      let time : it.time ≡ c.last_change = same_words (sym it.time_is ∙ columns_are r (contents_row k c) 4 is) in
      let identifier : it.identifier ≡ c.identifier =
      same_words (sym it.identifier_is ∙ columns_are r (contents_row k c) 2 is) in
      let kind : kind_of p k ≡ it.kind = ap (λ o. unwrap_or o []) (kind_told r k c is it.kind it.kind_is) in
      let counts : by_kind it.kind (tile_count p k) (row_count p k) (medium_count p k) ≡ Some it.count =
      chosen (shown_row db kinds r) (same_text it.kind (kind_text Two) || same_text it.kind (kind_text Other))
      (same_text it.kind (kind_text Attributes)) (same_text it.kind (kind_text Media)) (tile_count p k) (row_count p k)
      (medium_count p k) it.at it.count it.at_is
      (ap (λ n. Int (pos (min MostCounted n))) (tiles_are r k c is))
      (ap (λ n. Int (pos (min MostCounted n))) (rows_are r k c is))
      (ap (λ n. Int (pos (min MostCounted n))) (media_are r k c is)) it.count_is in
      let count : count_of p k ≡ it.count =
      ap (λ t. unwrap_or (by_kind t (tile_count p k) (row_count p k) (medium_count p k)) 0) kind
      ∙ ap (λ o. unwrap_or o 0) counts in
      it.line_is ∙ (λ i. table_text (name i) (sym kind i) (sym count i) (time i) (identifier i))

  matched : matches db [] joined ([] ∷ []) ≡ map (env_at db kinds) contents_rows
  matched =
      rw (at_1, at_13) (flat_single (λ (r : Row). flat_map (λ (s : Row). env_of r s ∷ [])
      (or_nulls (filter (joins r) kinds))) (env_at db kinds) contents_rows
      (λ r at. ap (flat_map (λ (s : Row). env_of r s ∷ []))
      (reads.one_each p contents_rows kinds h.contents h.kinds (up 1) (up 13) r at)))
    where
      env_of : Row → Row → Env
      env_of r s =
          let one : Env = [] ∷ r ∷ s ∷ [] in
          let two : Env = one ++ counted_at db 15 3 one ∷ [] in
          let three : Env = two ++ counted_at db 17 4 two ∷ [] in
          three ++ counted_at db 19 5 three ∷ []

  rises_as : (r s : Row) (k l : Text) (c d : Contents) → past_rowid r ≡ contents_row k c
      → past_rowid s ≡ contents_row l d
      → is_gt (output_cmp (query joined [] shown by_name no_limit)
      (output (query joined [] shown by_name no_limit) (env_at db kinds r))
      (output (query joined [] shown by_name no_limit) (env_at db kinds s))) ≡ false → is_gt (text_cmp k l) ≡ false
  rises_as r s k l c d is also low =
      ap is_gt (sym (value_cmp-Text k l) ∙ sym (then-Equal (value_cmp (Words k) (Words l))))
      ∙ rw (columns_are r (contents_row k c) 0 is, columns_are s (contents_row l d) 0 also) at low

  -- the lines of the first rows of an answer are the first lines of the tables
  pub tables_front : (rows tail : List Row) → IsAnswer (query joined [] shown by_name no_limit) db [] (rows ++ tail)
      → (text : List ℕ)
      → ShowsEach ShowsTable rows text → Fronts (table_lines p) text tail
  tables_front rows tail a text each =
      let found = in_order joined [] shown by_name db [] (rows ++ tail) a (env_at db kinds) contents_rows matched in
      let order : Row → Row → Type 0 = InOrder joined [] shown by_name db [] (rows ++ tail) a (env_at db kinds)
      contents_rows matched in
      let all = all_entered parts.contents contents_rows p.contents h.contents (up 1) order rises_as found.0 found.1 in
      subst (λ es. Fronts (flat_map (table_line p) es) text tail)
      (sym (entries_are parts.contents contents_rows p.contents h.contents (up 1) order rises_as found.0 found.1
      found.2))
      (fronts parts.contents contents_rows p.contents h.contents (up 1) (table_line p) (shown_row db kinds) ShowsTable
      line_told found.0 all rows tail (sym found.3) text each)
