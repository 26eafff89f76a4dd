-- The first row among the lower zooms, or the higher ones, is that of the nearest.
use Rattle.std.proofs.Common.{◌≡◌, ℕ, ℤ, pos, ◌<ℤ◌, ◌≤ℤ◌, Bool, true, false, ◌&&◌, List, [], ◌∷◌, Option, Some, None}
use Rattle.std.proofs.Common.{refl, sym, ap, subst, ◌∙◌, arith}
use Rattle.std.proofs.lemmas.Int.{ints}
use Rattle.std.specs.declared.cmp.Ordering.{Ordering}
use Rattle.std.specs.declared.cmp.Ordering.TheVariants.{Less, Equal, Greater}
use Rattle.std.specs.Ordering.{MatchOrdering, is_lt, is_gt, int_cmp}
use Rattle.std.specs.Cmp.{int_ranks}
use Rattle.std.specs.List.{list_any}
use Rattle.std.specs.FinMap.{FinMap, get}
use Rattle.std.proofs.lemmas.Bool.{both_ways, false_from_ne_true, and_parts}
use Rattle.sqlite.specs.declared.types.Value.{Value}
use Rattle.sqlite.specs.declared.types.Value.TheVariants.{Int, Text as Words}
use Rattle.sql_forms.specs.Collation.TheVariants.{Binary}
use Rattle.sql_forms.specs.Key.{Key}
use Rattle.sql_forms.specs.Order.{value_cmp}
use Rattle.sql_forms.proofs.OrderLemmas.{value_cmp-Int}
use Rattle.sql_forms.specs.BinaryOp.TheVariants.{Compare}
use Rattle.sql_forms.specs.CompareOp.{CompareOp}
use Rattle.sql_forms.specs.CompareOp.TheVariants.{Lt, Gt}
use Rattle.sqlite.specs.Ops.{binary, is_true}
use Rattle.sqlite.specs.Order.{Row, column}
use Rattle.sqlite.specs.Term.{Term, col}
use Rattle.sql_forms.specs.Rules.{equal}
use Rattle.sql_forms.specs.Lists.{Has as IsAmong}
use Rattle.sql_forms.proofs.ListLemmas.{some_from}
use Rattle.sql_forms.specs.Forms.{equals, compares}
use Rattle.sql_forms.specs.Tables.{passes, FindsFirst}
use Rattle.sql_forms.specs.Maps.{Holds}
use Rattle.sql_forms.proofs.Keys.{as_truth, equal_text, columns_are}
use Rattle.sql_forms.proofs.Lists.{and_true}
use Rattle.sql_forms.proofs.Orders.{by_column}
use Rattle.sql_forms.proofs.Selects.{shows}
use Rattle.mm_definitions.proofs.Integers.{not_less}
use Rattle.mm_definitions.specs.Keys.{Text, same_text, Level, level, level_cmp}
use Rattle.mm_definitions.specs.Parts.{Has, Stands}
use Rattle.mm_definitions.specs.Package.{Grid}
use Rattle.mm_definitions.specs.Conditions.{grid}
use Rattle.mm_definitions.specs.Neighbours.{IsNearestBelow, IsNearestAbove, zoomed}
use Rattle.mm_definitions.specs.declared.commands.Matrix.{Matrix}
use Rattle.mm_definitions.proofs.Parts.{some_of, same_itself}
use Rattle.mm_definitions.proofs.KeyLaws.{texts}
use Rattle.mm_laws.proofs.KindFacts.{are_same}
use Rattle.mm_store.specs.Rows.{past_rowid, grid_row}
use Rattle.mm_store.proofs.Keys.{same_int}
use Rattle.mm_meta.specs.Shown.{ShowsZoomed, GivesZoomed}

-- ---- comparisons of numbers

absurd_less : {A : Type 0} → false ≡ true → A
absurd_less h = absurd (let f : false ≡ true = h in cc)

absurd_more : {A : Type 0} → true ≡ false → A
absurd_more h = absurd (let f : true ≡ false = h in cc)

less_is : (a b : ℤ) → is_lt (int_cmp a b) ≡ true → a <ℤ b
less_is a b h = go (int_cmp a b) (int_ranks a b) h
  where
    go : (o : Ordering) → MatchOrdering o (a <ℤ b) (a ≡ b) (b <ℤ a) → is_lt o ≡ true → a <ℤ b
    go Less m t = m
    go Equal m t = absurd_less t
    go Greater m t = absurd_less t

is_less : (a b : ℤ) → a <ℤ b → is_lt (int_cmp a b) ≡ true
is_less a b h = go (int_cmp a b) (int_ranks a b)
  where
    go : (o : Ordering) → MatchOrdering o (a <ℤ b) (a ≡ b) (b <ℤ a) → is_lt o ≡ true
    go Less m = refl
    go Equal m = absurd (omega (arith, ints))
    go Greater m = absurd (omega (arith, ints))

more_is : (a b : ℤ) → is_gt (int_cmp a b) ≡ true → b <ℤ a
more_is a b h = go (int_cmp a b) (int_ranks a b) h
  where
    go : (o : Ordering) → MatchOrdering o (a <ℤ b) (a ≡ b) (b <ℤ a) → is_gt o ≡ true → b <ℤ a
    go Less m t = absurd_less t
    go Equal m t = absurd_less t
    go Greater m t = m

not_more : (a b : ℤ) → is_gt (int_cmp a b) ≡ false → a ≤ℤ b
not_more a b h = go (int_cmp a b) (int_ranks a b) h
  where
    go : (o : Ordering) → MatchOrdering o (a <ℤ b) (a ≡ b) (b <ℤ a) → is_gt o ≡ false → a ≤ℤ b
    go Less m t = omega (arith, ints)
    go Equal m t = omega (arith, ints)
    go Greater m t = absurd_more t

is_more : (a b : ℤ) → b <ℤ a → is_gt (int_cmp a b) ≡ true
is_more a b h = go (int_cmp a b) (int_ranks a b)
  where
    go : (o : Ordering) → MatchOrdering o (a <ℤ b) (a ≡ b) (b <ℤ a) → is_gt o ≡ true
    go Less m = absurd (omega (arith, ints))
    go Equal m = absurd (omega (arith, ints))
    go Greater m = refl

-- ---- the first of the matrices that pass, whatever the direction

-- what the query shows of a matrix
abbrev zoomed_row : Level → Grid → Row
zoomed_row k g = Int k.zoom ∷ Int g.matrix_width ∷ Int g.matrix_height ∷ Int g.tile_width ∷ Int g.tile_height
    ∷ Int g.pixel_x_size ∷ Int g.pixel_y_size ∷ []

module _ (rows : List Row) (m : FinMap level_cmp Grid) (h : Holds past_rowid grid_row rows m) (table : Text)
    (near : ℤ → Bool) (before : ℤ → ℤ → Bool) (test : Row → Bool) (cmp : Row → Row → Ordering) (show : Row → Row)
    (tells : (r : Row) (k : Level) (g : Grid) → past_rowid r ≡ grid_row k g
    → test r ≡ (same_text k.table table && near k.zoom))
    (orders : (r s : Row) (k l : Level) (g i : Grid) → past_rowid r ≡ grid_row k g → past_rowid s ≡ grid_row l i
    → is_lt (cmp r s) ≡ before k.zoom l.zoom)
    (shown : (r : Row) (k : Level) (g : Grid) → past_rowid r ≡ grid_row k g → show r ≡ zoomed_row k g) where
  -- the row of a matrix of the table whose zoom passes
  passing : (other : ℤ) (g : Grid) → Has m (level table other) g → near other ≡ true
      → (r : Row) × IsAmong rows r × (test r ≡ true) × (past_rowid r ≡ grid_row (level table other) g)
  passing other g has is =
      let r = h.complete (level table other) g has in
      (r.0, r.1, tells r.0 (level table other) g r.2 ∙ ap (λ b. b && near other) (same_itself texts table) ∙ is, r.2)

  none_near : list_any test rows ≡ false → (other : ℤ) → Stands m (level table other) → near other ≡ false
  none_near no_row other stands = false_from_ne_true _ (λ is.
      let g = some_of (get m (level table other)) stands in
      let r = passing other g.0 g.1 is in
      both_ways _ no_row (some_from test rows r.0 r.1 r.2))

  first_near : (entry : ℕ × Matrix) (x : Row) → ShowsZoomed x entry → FindsFirst test cmp show rows (Some x)
      → Has m (level table (pos entry.0)) (grid entry.1) × (near (pos entry.0) ≡ true)
      × ((other : ℤ) → Stands m (level table other) → near other ≡ true → before other (pos entry.0) ≡ false)
  first_near entry x it f =
      let at = h.sound f.0 f.1 in
      let both = and_parts (same_text at.0.table table) (near at.0.zoom) (sym (tells f.0 at.0 at.1 at.3) ∙ f.2) in
      let table_is : at.0.table ≡ table = are_same texts at.0.table table both.0 in
      let row_is : x ≡ zoomed_row at.0 at.1 = f.3 ∙ shown f.0 at.0 at.1 at.3 in
      let zoom_is : at.0.zoom ≡ pos entry.0 = same_int (sym (ap (λ (r : Row). column r 0) row_is) ∙ it.0) in
      let a : at.1.matrix_width ≡ pos entry.1.mw = same_int (sym (ap (λ (r : Row). column r 1) row_is) ∙ it.1.mw) in
      let b : at.1.matrix_height ≡ pos entry.1.mh = same_int (sym (ap (λ (r : Row). column r 2) row_is) ∙ it.1.mh) in
      let c : at.1.tile_width ≡ pos entry.1.tw = same_int (sym (ap (λ (r : Row). column r 3) row_is) ∙ it.1.tw) in
      let d : at.1.tile_height ≡ pos entry.1.th = same_int (sym (ap (λ (r : Row). column r 4) row_is) ∙ it.1.th) in
      let e : at.1.pixel_x_size ≡ entry.1.px = same_int (sym (ap (λ (r : Row). column r 5) row_is) ∙ it.1.px) in
      let i : at.1.pixel_y_size ≡ entry.1.py = same_int (sym (ap (λ (r : Row). column r 6) row_is) ∙ it.1.py) in
      let grid_is : at.1 ≡ grid entry.1 =
      λ j. record {
        matrix_width = a j;
        matrix_height = b j;
        tile_width = c j;
        tile_height = d j;
        pixel_x_size = e j;
        pixel_y_size = i j;
      } in
      let key_is : at.0 ≡ level table (pos entry.0) = λ j. level (table_is j) (zoom_is j) in (
        ap (get m) (sym key_is) ∙ at.2 ∙ ap Some grid_is,
        ap near (sym zoom_is) ∙ both.1,
        λ other stands is.
            let g = some_of (get m (level table other)) stands in
            let r = passing other g.0 g.1 is in
            ap (before other) (sym zoom_is) ∙ sym (orders r.0 f.0 (level table other) at.0 g.0 at.1 r.3 at.3)
            ∙ f.4 r.0 r.1 r.2,
      )

-- ---- the two queries

abbrev pub zoom_columns : List Term
zoom_columns = col 1 2 ∷ col 1 3 ∷ col 1 4 ∷ col 1 5 ∷ col 1 6 ∷ col 1 7 ∷ col 1 8 ∷ []

abbrev pub lower_terms : List Term
lower_terms = equals 1 0 ∷ compares Lt 2 1 ∷ []

abbrev pub higher_terms : List Term
higher_terms = equals 1 0 ∷ compares Gt 2 1 ∷ []

abbrev pub falling : Key
falling = record { collation = Binary; descending = true }

abbrev pub rising : Key
rising = record { collation = Binary; descending = false }

abbrev pub at_zoom : Text → ℤ → Row
at_zoom table zoom = Words table ∷ Int zoom ∷ []

abbrev compared : CompareOp → Value → Value → Bool
compared op a b = is_true (binary (Compare op Binary) a b)

less_int : (a b : ℤ) → compared Lt (Int a) (Int b) ≡ is_lt (int_cmp a b)
unfolding binary
less_int a b = as_truth _ ∙ ap is_lt (value_cmp-Int a b)

more_int : (a b : ℤ) → compared Gt (Int a) (Int b) ≡ is_gt (int_cmp a b)
unfolding binary
more_int a b = as_truth _ ∙ ap is_gt (value_cmp-Int a b)

module _ (rows : List Row) (m : FinMap level_cmp Grid) (h : Holds past_rowid grid_row rows m) (table : Text) (zoom : ℤ)
  where
    tells : (op : CompareOp) (near : ℤ → Bool) → ((z : ℤ) → compared op (Int z) (Int zoom) ≡ near z)
        → (r : Row) (k : Level) (g : Grid)
        → past_rowid r ≡ grid_row k g
        → passes (equals 1 0 ∷ compares op 2 1 ∷ []) (at_zoom table zoom) r ≡ (same_text k.table table && near k.zoom)
    tells op near is_near r k g is =
        ap (λ x. equal Binary x (Words table) && (compared op (column r 2) (Int zoom) && true))
        (columns_are r (grid_row k g) 0 is)
        ∙ ap (λ x. equal Binary (Words k.table) (Words table) && (compared op x (Int zoom) && true))
        (columns_are r (grid_row k g) 1 is)
        ∙ ap (λ b. b && (compared op (Int k.zoom) (Int zoom) && true)) (equal_text k.table table)
        ∙ ap (λ b. same_text k.table table && b) (and_true (compared op (Int k.zoom) (Int zoom)) ∙ is_near k.zoom)

    shown : (r : Row) (k : Level) (g : Grid) → past_rowid r ≡ grid_row k g
        → shows zoom_columns (at_zoom table zoom) r ≡ zoomed_row k g
    shown r k g is = λ i.
        columns_are r (grid_row k g) 1 is i ∷ columns_are r (grid_row k g) 2 is i ∷ columns_are r (grid_row k g) 3 is i
        ∷ columns_are r (grid_row k g) 4 is i
        ∷ columns_are r (grid_row k g) 5 is i ∷ columns_are r (grid_row k g) 6 is i
        ∷ columns_are r (grid_row k g) 7 is i
        ∷ []

    order_of : (r s : Row) (k l : Level) (g i : Grid) → past_rowid r ≡ grid_row k g → past_rowid s ≡ grid_row l i
        → value_cmp (column r 2) (column s 2) ≡ int_cmp k.zoom l.zoom
    order_of r s k l g i p q = ap (λ x. value_cmp x (column s 2)) (columns_are r (grid_row k g) 1 p)
        ∙ ap (value_cmp (Int k.zoom)) (columns_are s (grid_row l i) 1 q) ∙ value_cmp-Int k.zoom l.zoom

    abbrev is_lower : ℤ → Bool
    is_lower z = is_lt (int_cmp z zoom)

    abbrev is_higher : ℤ → Bool
    is_higher z = is_gt (int_cmp z zoom)

    pub below_found : (near : Option (ℕ × Matrix)) (first : Option Row) → GivesZoomed near first
        → FindsFirst (passes lower_terms (at_zoom table zoom)) (by_column (col 1 2) falling (at_zoom table zoom))
        (shows zoom_columns (at_zoom table zoom)) rows first
        → IsNearestBelow m table zoom (zoomed near)
    below_found None first gives finds =
        let none = subst (FindsFirst (passes lower_terms (at_zoom table zoom))
        (by_column (col 1 2) falling (at_zoom table zoom)) (shows zoom_columns (at_zoom table zoom)) rows) gives
        finds in
        λ other stands. not_less other zoom
        (none_near rows m h table is_lower (λ a b. is_lt (int_cmp b a)) _
        (by_column (col 1 2) falling (at_zoom table zoom)) _ (tells Lt is_lower (λ z. less_int z zoom))
        (λ r s k l g i p q. ap is_lt (order_of s r l k i g q p)) shown none other stands)
    below_found (Some entry) first gives finds =
        let some = subst (FindsFirst (passes lower_terms (at_zoom table zoom))
        (by_column (col 1 2) falling (at_zoom table zoom)) (shows zoom_columns (at_zoom table zoom)) rows) gives.1
        finds in
        let it = first_near rows m h table is_lower (λ a b. is_lt (int_cmp b a)) _
        (by_column (col 1 2) falling (at_zoom table zoom)) _ (tells Lt is_lower (λ z. less_int z zoom))
        (λ r s k l g i p q. ap is_lt (order_of s r l k i g q p)) shown entry gives.0 gives.2 some in (
          it.0,
          less_is (pos entry.0) zoom it.1,
          λ other stands lower. not_less (pos entry.0) other
              (it.2 other stands (is_less other zoom lower)),
        )

    pub above_found : (near : Option (ℕ × Matrix)) (first : Option Row) → GivesZoomed near first
        → FindsFirst (passes higher_terms (at_zoom table zoom)) (by_column (col 1 2) rising (at_zoom table zoom))
        (shows zoom_columns (at_zoom table zoom)) rows first
        → IsNearestAbove m table zoom (zoomed near)
    above_found None first gives finds =
        let none = subst (FindsFirst (passes higher_terms (at_zoom table zoom))
        (by_column (col 1 2) rising (at_zoom table zoom)) (shows zoom_columns (at_zoom table zoom)) rows) gives finds in
        λ other stands. not_more other zoom
        (none_near rows m h table is_higher (λ a b. is_lt (int_cmp a b)) _
        (by_column (col 1 2) rising (at_zoom table zoom)) _ (tells Gt is_higher (λ z. more_int z zoom))
        (λ r s k l g i p q. ap is_lt (order_of r s k l g i p q)) shown none other stands)
    above_found (Some entry) first gives finds =
        let some = subst (FindsFirst (passes higher_terms (at_zoom table zoom))
        (by_column (col 1 2) rising (at_zoom table zoom)) (shows zoom_columns (at_zoom table zoom)) rows) gives.1
        finds in
        let it = first_near rows m h table is_higher (λ a b. is_lt (int_cmp a b)) _
        (by_column (col 1 2) rising (at_zoom table zoom)) _ (tells Gt is_higher (λ z. more_int z zoom))
        (λ r s k l g i p q. ap is_lt (order_of r s k l g i p q)) shown entry gives.0 gives.2 some in (
          it.0,
          more_is (pos entry.0) zoom it.1,
          λ other stands higher. not_less other (pos entry.0)
              (it.2 other stands (is_more other zoom higher)),
        )
