-- The rows of a table from an id on, from the rows that the query shows.
use Rattle.std.proofs.Common.{◌≡◌, ℕ, ◌≤◌, ℤ, Bool, true, false, not, ◌&&◌, List, [], ◌∷◌, ◌++◌, map, filter, length}
use Rattle.std.proofs.Common.{take, codes, refl, sym, ap, subst, ◌∙◌, append-nil, arith}
use Rattle.std.specs.declared.cmp.Ordering.TheVariants.{Equal}
use Rattle.std.specs.Ordering.{is_gt, is_ge, int_cmp, ordering_then}
use Rattle.std.specs.Cmp.{tied_itself}
use Rattle.std.specs.List.{AllByRecursion}
use Rattle.std.specs.FinMap.{FinMap, retain_keys}
use Rattle.std.proofs.lemmas.Bool.{and_parts}
use Rattle.std.proofs.lemmas.List.{length-map, take_all}
use Rattle.std.proofs.Math.Seq.{take-append_seam}
use Rattle.sqlite.specs.declared.types.Value.{Value}
use Rattle.sqlite.specs.declared.types.Value.TheVariants.{Int, Text as Words}
use Rattle.sql_forms.specs.Collation.TheVariants.{Binary}
use Rattle.sql_forms.specs.Key.{Key}
use Rattle.sql_forms.specs.Keys.{ascending}
use Rattle.sql_forms.specs.Order.{value_cmp}
use Rattle.sql_forms.proofs.OrderLemmas.{value_cmp-Int, then-Equal}
use Rattle.sql_forms.specs.BinaryOp.TheVariants.{Compare}
use Rattle.sql_forms.specs.CompareOp.TheVariants.{Ge}
use Rattle.sqlite.specs.Ops.{binary, is_true}
use Rattle.sqlite.specs.Order.{Row, column}
use Rattle.sqlite.specs.Term.{Term, Env, col}
use Rattle.sqlite.specs.Query.{Query, inner, end, matches, output, output_cmp, IsAnswer}
use Rattle.sqlite.specs.Schema.{Schema}
use Rattle.sqlite.specs.Tree.{Trees, IsTable}
use Rattle.sqlite.specs.Listing.{understood}
use Rattle.sql_forms.specs.Compute.{everything}
use Rattle.sql_forms.specs.Tree.{IsAscending}
use Rattle.sql_forms.proofs.TreeLists.{ascending-filter}
use Rattle.sql_forms.specs.Rules.{equal}
use Rattle.sql_forms.specs.Lists.{Has}
use Rattle.sql_forms.proofs.ListLemmas.{all_from, has_filtered}
use Rattle.sql_forms.specs.Forms.{query, no_limit, equals, compares}
use Rattle.sql_forms.specs.Maps.{Holds}
use Rattle.sql_forms.specs.Tables.{passes, without}
use Rattle.sql_forms.proofs.Keys.{as_truth, equal_text, columns_are}
use Rattle.sql_forms.proofs.Lists.{and_true, not_not, flat_filtered, has_permuted}
use Rattle.sql_forms.proofs.Selects.{IsSelect, shows}
use Rattle.mm_store.specs.Tables.{schema}
use Rattle.mm_definitions.specs.Keys.{Text, text_cmp, same_text, Item, item_cmp}
use Rattle.mm_definitions.specs.Package.{Package, AttributeRow}
use Rattle.mm_definitions.specs.declared.entries.Row.{Row as RowTold}
use Rattle.mm_definitions.proofs.KeyLaws.{texts}
use Rattle.mm_laws.proofs.KindFacts.{are_same}
use Rattle.mm_store.specs.Rows.{past_rowid, attribute_row}
use Rattle.mm_store.proofs.Keys as parts
use Rattle.mm_store.proofs.Parts.{retains}
use Rattle.mm_store.proofs.Keys.{same_words, same_int}
use Rattle.mm_walk.specs.Walk.{OnlyAsks}
use Rattle.mm_walk.proofs.Quiet.{IsQuiet, only_asks}
use Rattle.mm_reads.specs.RowLists.{is_from_id, rows_on, numbered, numbered_told, ShowsNumbered}
use Rattle.mm_reads.proofs.InOrder.{Enters, entered, all_entered, entries_are}
use Rattle.mm_reads.proofs.Listed.{in_order}

-- ---- the query

abbrev pub rows_text : List ℕ
rows_text = codes "SELECT r.id, r.title, r.note, r.amount FROM mm_rows AS r WHERE r.table_name = ?1 AND r.id >= ?2 ORDER BY r.id"

abbrev pub terms : List Term
terms = equals 1 0 ∷ compares Ge 2 1 ∷ []

abbrev pub shown : List Term
shown = col 1 2 ∷ col 1 3 ∷ col 1 4 ∷ col 1 5 ∷ []

abbrev pub by_id : List (Term × Key)
by_id = (col 1 2, ascending Binary) ∷ []

abbrev pub asked : Query
asked = query (inner 17 end) terms shown by_id no_limit

pub list_rows : IsSelect schema rows_text 17 asked (codes "id" ∷ codes "title" ∷ codes "note" ∷ codes "amount" ∷ [])
unfolding understood everything
list_rows = record { compiled = refl; plain = (refl, refl); unlisted = refl; listed = refl }

quiet : IsQuiet rows_text
unfolding everything
quiet = λ schema base. refl

pub rows_ask : (schema : Schema) → OnlyAsks schema rows_text
rows_ask = only_asks rows_text quiet

-- ---- lists

-- each row shows the entry that is told of it
abbrev pub ShowsAll : List Row → List (ℤ × RowTold) → Type 0
ShowsAll [] items = items ≡ []
ShowsAll (r ∷ rows) [] = ⊥
ShowsAll (r ∷ rows) (t ∷ items) = ShowsNumbered r t × ShowsAll rows items

pub shows_more : (rows : List Row) (last : Row) (items : List (ℤ × RowTold)) (t : ℤ × RowTold) → ShowsAll rows items
    → ShowsNumbered last t
    → ShowsAll (rows ++ last ∷ []) (items ++ t ∷ [])
shows_more [] last items t none one = subst (λ l. ShowsAll (last ∷ []) (l ++ t ∷ [])) (sym none) (one, refl)
shows_more (r ∷ rows) last [] t none one = absurd none
shows_more (r ∷ rows) last (u ∷ items) t it one = (it.0, shows_more rows last items t it.1 one)

-- the rows that are told begin the list, and end it where no rows are left
abbrev pub Starts : List (ℤ × AttributeRow) → List (ℤ × RowTold) → List Row → Type 0
Starts whole items tail = (rest : List (ℤ × AttributeRow)) × (whole ≡ map numbered_told items ++ rest)
    × (tail ≡ [] → rest ≡ [])

-- an order of elements that pass a test is one of elements that are known to pass it
module _ {X : Type 0} (R : X → X → Type 0) (P : X → Type 0) where
  abbrev pub Both : X → X → Type 0
  Both x y = R x y × P x × P y

  each : (x : X) → P x → (ys : List X) → AllByRecursion (R x) ys → AllByRecursion P ys → AllByRecursion (Both x) ys
  each x here [] low all = tt
  each x here (y ∷ ys) low all = ((low.0, here, all.0), each x here ys low.1 all.1)

  pub ascending_both : (xs : List X) → IsAscending R xs → AllByRecursion P xs → IsAscending Both xs
  ascending_both [] up all = tt
  ascending_both (x ∷ xs) up all = (each x all.0 xs up.0 all.1, ascending_both xs up.1 all.1)

-- ---- the rows that pass

abbrev not_below : Value → Value → Bool
not_below a b = is_true (binary (Compare Ge Binary) a b)

not_below_int : (a b : ℤ) → not_below (Int a) (Int b) ≡ is_ge (int_cmp a b)
unfolding binary
not_below_int a b = as_truth _ ∙ ap is_ge (value_cmp-Int a b)

module _ (table : Text) (first : ℤ) where
  abbrev pub params : Row
  params = Words table ∷ Int first ∷ []

  abbrev passing : Row → Bool
  passing = passes terms params

  abbrev env_of : Row → Env
  env_of r = params ∷ r ∷ []

  abbrev show : Row → Row
  show = shows shown params

  -- the test is that of the keys
  tells : (r : Row) (k : Item) (v : AttributeRow) → past_rowid r ≡ attribute_row k v
      → passing r ≡ is_from_id table first k
  tells r k v is =
      ap (λ x. equal Binary x (Words table) && (not_below (column r 2) (Int first) && true))
      (columns_are r (attribute_row k v) 0 is)
      ∙ ap (λ x. equal Binary (Words k.table) (Words table) && (not_below x (Int first) && true))
      (columns_are r (attribute_row k v) 1 is)
      ∙ ap (λ b. b && (not_below (Int k.id) (Int first) && true)) (equal_text k.table table)
      ∙ ap (λ b. same_text k.table table && b) (and_true (not_below (Int k.id) (Int first)) ∙ not_below_int k.id first)

  -- what is told of a row is what the package has
  told_is : (r : Row) (k : Item) (v : AttributeRow) → past_rowid r ≡ attribute_row k v → (t : ℤ × RowTold)
      → ShowsNumbered (show r) t
      → numbered (k, v) ≡ numbered_told t
  told_is r k v is t it =
      let id = same_int (sym (columns_are r (attribute_row k v) 1 is) ∙ it.id) in
      let title = same_words (sym (columns_are r (attribute_row k v) 2 is) ∙ it.title) in
      let note = same_words (sym (columns_are r (attribute_row k v) 3 is) ∙ it.note) in
      let amount = same_int (sym (columns_are r (attribute_row k v) 4 is) ∙ it.amount) in
      λ i. (id i, record { title = title i; note = note i; amount = amount i })

  abbrev IsOf : Row → Type 0
  IsOf r = column r 1 ≡ Words table

  module _ (p : Package) (all_rows : List Row) (h : Holds past_rowid attribute_row all_rows p.rows)
      (up : IsTable all_rows) (db : Trees) (here : db 17 ≡ all_rows) where
    abbrev rows_kept : List Row
    rows_kept = filter passing all_rows

    abbrev kept : FinMap item_cmp AttributeRow
    kept = retain_keys p.rows (is_from_id table first)

    holds : Holds past_rowid attribute_row rows_kept kept
    holds =
        let same : without (λ r. not (passing r)) all_rows ≡ rows_kept = ap (λ f. filter f all_rows)
        (λ i r. not_not (passing r) i) in
        subst (λ xs. Holds past_rowid attribute_row xs kept) same
        (retains parts.rows all_rows p.rows h (λ r. not (passing r)) (is_from_id table first)
        (λ r k v is. not_not (passing r) ∙ tells r k v is))

    rise : IsTable rows_kept
    rise = ascending-filter _ passing all_rows up

    is_of : (r : Row) → Has rows_kept r → IsOf r
    is_of r there =
        let was = has_filtered passing all_rows r there in
        let at = h.sound r was.0 in
        let both = and_parts (same_text at.0.table table) (is_ge (int_cmp at.0.id first))
        (sym (tells r at.0 at.1 at.3) ∙ was.1) in
        columns_are r (attribute_row at.0 at.1) 0 at.3 ∙ ap Words (are_same texts at.0.table table both.0)

    matched : matches db terms (inner 17 end) (params ∷ []) ≡ map env_of rows_kept
    matched = rw here (flat_filtered passing env_of all_rows)

    abbrev Low : Row → Row → Type 0
    Low r s = is_gt (output_cmp asked (output asked (env_of r)) (output asked (env_of s))) ≡ false

    -- the order of the rows is that of the keys
    rises_as : (r s : Row) (k l : Item) (v w : AttributeRow) → past_rowid r ≡ attribute_row k v
        → past_rowid s ≡ attribute_row l w
        → Both Low IsOf r s → is_gt (item_cmp k l) ≡ false
    rises_as r s k l v w is also low =
        let one : k.table ≡ table = same_words (sym (columns_are r (attribute_row k v) 0 is) ∙ low.1) in
        let two : l.table ≡ table = same_words (sym (columns_are s (attribute_row l w) 0 also) ∙ low.2) in
        let tied : text_cmp k.table l.table ≡ Equal = (λ i. text_cmp (one i) (two i)) ∙ tied_itself texts.total table in
        ap (λ o. is_gt (ordering_then o (int_cmp k.id l.id))) tied
        ∙ ap is_gt (sym (value_cmp-Int k.id l.id) ∙ sym (then-Equal (value_cmp (Int k.id) (Int l.id))))
        ∙ rw (columns_are r (attribute_row k v) 1 is, columns_are s (attribute_row l w) 1 also) at low.0

    -- ---- the first of them

    abbrev list : (ys : List Row) → AllByRecursion (Enters parts.rows rows_kept kept holds rise) ys
        → List (ℤ × AttributeRow)
    list ys all = map numbered (entered parts.rows rows_kept kept holds rise ys all)

    ends : (ys : List Row) (all : AllByRecursion (Enters parts.rows rows_kept kept holds rise) ys) → map show ys ≡ []
        → list ys all ≡ []
    ends [] all none = refl
    ends (y ∷ ys) all none = absurd cc

    begins : (ys : List Row) (all : AllByRecursion (Enters parts.rows rows_kept kept holds rise) ys)
        (rows tail : List Row) → map show ys ≡ rows ++ tail
        → (items : List (ℤ × RowTold)) → ShowsAll rows items → Starts (list ys all) items tail
    begins ys all [] tail same items none =
        (list ys all, ap (λ l. map numbered_told l ++ list ys all) (sym none), λ no. ends ys all (same ∙ no))
    begins [] all (r ∷ rows) tail same items it = absurd cc
    begins (y ∷ ys) all (r ∷ rows) tail same [] it = absurd it
    begins (y ∷ ys) all (r ∷ rows) tail same (t ∷ items) it =
        let head : show y ≡ r = cc in
        let others : map show ys ≡ rows ++ tail = cc in
        let one = told_is y all.0.0 all.0.1 all.0.3 t (subst (λ x. ShowsNumbered x t) (sym head) it.0) in
        let next = begins ys all.1 rows tail others items it.1 in
        (next.0, (λ i. one i ∷ next.1 i), next.2)

    pub rows_begin : (rows tail : List Row) → IsAnswer asked db params (rows ++ tail) → (items : List (ℤ × RowTold))
        → ShowsAll rows items
        → Starts (map numbered (rows_on p table first)) items tail
    rows_begin rows tail a items it =
        let found = in_order (inner 17 end) terms shown by_id db params (rows ++ tail) a env_of rows_kept matched in
        let all = all_entered parts.rows rows_kept kept holds rise (Both Low IsOf) rises_as found.0 found.1 in
        let of_table = all_from IsOf found.0 (λ r there. is_of r (has_permuted rows_kept found.0 r found.1 there)) in
        subst (λ es. Starts (map numbered es) items tail)
        (sym (entries_are parts.rows rows_kept kept holds rise (Both Low IsOf) rises_as found.0 found.1
        (ascending_both Low IsOf found.0 found.2 of_table)))
        (begins found.0 all rows tail (sym found.3) items it)

-- all rows were told, and they are no more than are listed
pub lists_all : (most : ℕ) (whole : List (ℤ × AttributeRow)) (items : List (ℤ × RowTold))
    (rest : List (ℤ × AttributeRow)) → whole ≡ map numbered_told items ++ rest
    → rest ≡ [] → length items ≤ most → map numbered_told items ≡ take most whole
lists_all most whole items rest is none few =
    let same : whole ≡ map numbered_told items = is ∙ ap (λ r. map numbered_told items ++ r) none
    ∙ append-nil (map numbered_told items) in
    let short : length whole ≤ most = omega (arith, ap length same, length-map items numbered_told) in
    sym (take_all most whole short ∙ same)

-- as many rows were told as are listed
pub lists_first : (most : ℕ) (whole : List (ℤ × AttributeRow)) (items : List (ℤ × RowTold))
    (rest : List (ℤ × AttributeRow)) → whole ≡ map numbered_told items ++ rest
    → length items ≡ most → map numbered_told items ≡ take most whole
lists_first most whole items rest is full =
    sym (ap (take most) is ∙ ap (λ n. take n (map numbered_told items ++ rest))
    (sym (length-map items numbered_told ∙ full)) ∙ take-append_seam (map numbered_told items) rest)
