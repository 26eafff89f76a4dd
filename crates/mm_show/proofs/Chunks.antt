-- The rows of a table from an id on, taken some at a time.
use Rattle.std.proofs.Common.{◌≡◌, ◌∙◌, ℤ, pos, ◌+ℤ◌, ◌≤ℤ◌, ◌<ℤ◌, Bool, true, false, ◌&&◌, cond, List, []}
use Rattle.std.proofs.Common.{◌∷◌, ◌++◌}
use Rattle.std.proofs.Common.{map, take, drop, length, ◌<◌, ◌≤◌, Option, Some, None, refl, sym, ap, subst, arith}
use Rattle.std.specs.Prelude.{T, if◌then◌else◌}
use Rattle.std.specs.declared.cmp.Ordering.{Ordering}
use Rattle.std.specs.declared.cmp.Ordering.TheVariants.{Less, Equal, Greater}
use Rattle.std.specs.Ordering.{MatchOrdering, is_eq, is_ge, is_gt, is_lt, int_cmp, ordering_reverse, ordering_then}
use Rattle.std.specs.Cmp.{int_ranks, tied_itself}
use Rattle.std.specs.FinMap.{entries, entries_sorted, find, get, get-entries, is_sorted, retain_keys, same_map}
use Rattle.std.specs.FinMap.Entries.{below_all, same_entries}
use Rattle.std.proofs.lemmas.Bool.{and_parts}
use Rattle.std.proofs.lemmas.Int.{ints}
use Rattle.std.proofs.lemmas.List.{length-take, take_all, take-append-drop}
use Rattle.mm_definitions.specs.Keys.{Text, Item, item, item_cmp, same_text, text_cmp}
use Rattle.mm_definitions.specs.Package.{AttributeRow, Package}
use Rattle.mm_definitions.proofs.Listed.{and_both, and_parts as parts_of}
use Rattle.mm_definitions.proofs.KeyLaws.{items, numbers, texts}
use Rattle.mm_definitions.proofs.Parts.{after_retain, at_retain}
use Rattle.mm_definitions.specs.Bounds.{current}
use Rattle.mm_definitions.specs.Rules.{Meets}
use Rattle.mm_laws.proofs.KindFacts.{are_same}
use Rattle.mm_reads.specs.RowLists.{MostRows, first_rows, is_from_id, numbered, rows_on}
use Rattle.mm_show.specs.Showing.{at_id, rows_of}
use Rattle.mm_show.specs.Turns.{first_at}

-- ---- numbers

ge_is : (a b : ℤ) → b ≤ℤ a → is_ge (int_cmp a b) ≡ true
ge_is a b low = go (int_cmp a b) (int_ranks a b)
  where
    go : (o : Ordering) → MatchOrdering o (a <ℤ b) (a ≡ b) (b <ℤ a) → is_ge o ≡ true
    go Less it = absurd (omega (arith, ints, it, low))
    go Equal it = refl
    go Greater it = refl

below_is : (a b : ℤ) → a <ℤ b → is_ge (int_cmp a b) ≡ false
below_is a b low = go (int_cmp a b) (int_ranks a b)
  where
    go : (o : Ordering) → MatchOrdering o (a <ℤ b) (a ≡ b) (b <ℤ a) → is_ge o ≡ false
    go Less it = refl
    go Equal it = absurd (omega (arith, ints, it, low))
    go Greater it = absurd (omega (arith, ints, it, low))

ge_tells : (a b : ℤ) → is_ge (int_cmp a b) ≡ true → b ≤ℤ a
ge_tells a b h = go (int_cmp a b) (int_ranks a b) h
  where
    go : (o : Ordering) → MatchOrdering o (a <ℤ b) (a ≡ b) (b <ℤ a) → is_ge o ≡ true → b ≤ℤ a
    go Less it h = absurd (let e : false ≡ true = h in cc)
    go Equal it h = omega (arith, ints, it)
    go Greater it h = omega (arith, ints, it)

-- ---- lists in the order of their keys

less_of : (o : Ordering) → T (is_lt o) → o ≡ Less
less_of Less p = refl
less_of Equal p = absurd p
less_of Greater p = absurd p

abbrev Entry : Type 0
Entry = Item × AttributeRow

sorted_tail : (front rest : List Entry) → T (is_sorted item_cmp (front ++ rest)) → T (is_sorted item_cmp rest)
sorted_tail [] rest up = up
sorted_tail (x ∷ front) rest up = sorted_tail front rest (parts_of _ _ up).1

-- each key of the front is below the one behind it
below_next : (x : Item) (front : List Entry) (e : Entry) (rest : List Entry)
    → T (below_all item_cmp x (front ++ e ∷ rest)) → item_cmp x e.0 ≡ Less
below_next x [] e rest low = less_of _ (parts_of _ _ low).0
below_next x (y ∷ front) e rest low = below_next x front e rest (parts_of _ _ low).1

turned_less : (a b : Item) → item_cmp a b ≡ Less → item_cmp b a ≡ Greater
turned_less a b less = items.total.antisymm b a ∙ ap ordering_reverse less

greater_than : (q k x : Item) → item_cmp q k ≡ Greater → item_cmp x k ≡ Less → item_cmp q x ≡ Greater
greater_than q k x over under =
    turned_less x q (items.total.trans x k q under (items.total.antisymm k q ∙ ap ordering_reverse over))

-- behind a key, what is looked for is found behind it
beyond : (front : List Entry) (e : Entry) (rest : List Entry) (q : Item) → T (is_sorted item_cmp (front ++ e ∷ rest))
    → item_cmp q e.0 ≡ Greater
    → find item_cmp q (front ++ e ∷ rest) ≡ find item_cmp q rest
beyond [] e rest q up over = ap (λ o. cond (is_eq o) (Some e.1) (find item_cmp q rest)) over
beyond (x ∷ front) e rest q up over =
    let more = greater_than q e.0 x.0 over (below_next x.0 front e rest (parts_of _ _ up).0) in
    ap (λ o. cond (is_eq o) (Some x.1) (find item_cmp q (front ++ e ∷ rest))) more
    ∙ beyond front e rest q (parts_of _ _ up).1 over

-- a key below all others is not among them
find_none : (q : Item) (xs : List Entry) → T (below_all item_cmp q xs) → find item_cmp q xs ≡ None
find_none q [] low = refl
find_none q (x ∷ xs) low = ap (λ o. cond (is_eq o) (Some x.1) (find item_cmp q xs)) (less_of _ (parts_of _ _ low).0)
    ∙ find_none q xs (parts_of _ _ low).1

-- up to a key nothing is found behind it
not_beyond : (e : Entry) (rest : List Entry) (q : Item) → T (is_sorted item_cmp (e ∷ rest))
    → is_gt (item_cmp q e.0) ≡ false → find item_cmp q rest ≡ None
not_beyond e rest q up at_most = find_none q rest (under rest (parts_of _ _ up).0)
  where
    step : (x : Item) → item_cmp e.0 x ≡ Less → (o : Ordering) → item_cmp q e.0 ≡ o → is_gt o ≡ false
        → item_cmp q x ≡ Less
    step x less Less is off = items.total.trans q e.0 x is less
    step x less Equal is off = items.total.congr q e.0 x is ∙ less
    step x less Greater is off = absurd (let f : true ≡ false = off in cc)

    under : (xs : List Entry) → T (below_all item_cmp e.0 xs) → T (below_all item_cmp q xs)
    under [] low = tt
    under (x ∷ xs) low =
        and_both _ _ (subst (λ o. T (is_lt o))
        (sym (step x.0 (less_of _ (parts_of _ _ low).0) (item_cmp q e.0) refl at_most)) tt)
        (under xs (parts_of _ _ low).1)

-- an entry is found by its key
found_at : (front : List Entry) (e : Entry) (rest : List Entry) → T (is_sorted item_cmp (front ++ e ∷ rest))
    → find item_cmp e.0 (front ++ e ∷ rest) ≡ Some e.1
found_at [] e rest up = ap (λ o. cond (is_eq o) (Some e.1) (find item_cmp e.0 rest)) (tied_itself items.total e.0)
found_at (x ∷ front) e rest up =
    let over = turned_less x.0 e.0 (below_next x.0 front e rest (parts_of _ _ up).0) in
    ap (λ o. cond (is_eq o) (Some x.1) (find item_cmp e.0 (front ++ e ∷ rest))) over
    ∙ found_at front e rest (parts_of _ _ up).1

-- ---- the rows of a table from an id on

module _ (p : Package) (table : Text) where
  -- what is found among them is what the package has
  at_key : (first : ℤ) (q : Item) → find item_cmp q (rows_on p table first) ≡ cond (is_from_id table first q)
      (get p.rows q) None
  at_key first q = sym (get-entries (retain_keys p.rows (is_from_id table first)) q)
      ∙ at_retain items p.rows (is_from_id table first) q

  not_of : (first : ℤ) (q : Item) → is_from_id table first q ≡ false → find item_cmp q (rows_on p table first) ≡ None
  not_of first q off = at_key first q ∙ ap (λ b. cond b (get p.rows q) None) off

  is_of : (first : ℤ) (q : Item) → is_from_id table first q ≡ true
      → find item_cmp q (rows_on p table first) ≡ get p.rows q
  is_of first q on = at_key first q ∙ ap (λ b. cond b (get p.rows q) None) on

  from_off : (first : ℤ) (q : Item) → same_text q.table table ≡ false → is_from_id table first q ≡ false
  from_off first q off = ap (λ b. b && is_ge (int_cmp q.id first)) off

  from_on : (first : ℤ) (q : Item) → same_text q.table table ≡ true → first ≤ℤ q.id → is_from_id table first q ≡ true
  from_on first q on low = ap (λ b. b && is_ge (int_cmp q.id first)) on ∙ ge_is q.id first low

  from_below : (first : ℤ) (q : Item) → same_text q.table table ≡ true → q.id <ℤ first
      → is_from_id table first q ≡ false
  from_below first q on low = ap (λ b. b && is_ge (int_cmp q.id first)) on ∙ below_is q.id first low

  -- one of them is of the table, and from the id on
  of_table : (first : ℤ) (front : List Entry) (e : Entry) (rest : List Entry) → rows_on p table first ≡ front ++ e
      ∷ rest
      → (e.0.table ≡ table) × (first ≤ℤ e.0.id)
  of_table first front e rest is =
      let m = retain_keys p.rows (is_from_id table first) in
      let up = subst (λ l. T (is_sorted item_cmp l)) is (entries_sorted m) in
      let there = get-entries m e.0 ∙ ap (find item_cmp e.0) is ∙ found_at front e rest up in
      let kept = after_retain items p.rows (is_from_id table first) e.0 e.1 there in
      let both = and_parts (same_text e.0.table table) (is_ge (int_cmp e.0.id first)) kept.0 in
      (are_same texts e.0.table table both.0, ge_tells e.0.id first both.1)

  module _ (first : ℤ) (front : List Entry) (e : Entry) (rest : List Entry)
      (is : rows_on p table first ≡ front ++ e ∷ rest) where
    abbrev next : ℤ
    next = e.0.id +ℤ pos 1

    up : T (is_sorted item_cmp (front ++ e ∷ rest))
    up = subst (λ l. T (is_sorted item_cmp l)) is (entries_sorted (retain_keys p.rows (is_from_id table first)))

    tail_up : T (is_sorted item_cmp (e ∷ rest))
    tail_up = sorted_tail front (e ∷ rest) up

    here : (e.0.table ≡ table) × (first ≤ℤ e.0.id)
    here = of_table first front e rest is

    behind : (q : Item) → is_gt (item_cmp q e.0) ≡ true → find item_cmp q rest ≡ find item_cmp q (rows_on p table first)
    behind q over = sym (beyond front e rest q up (greater_of (item_cmp q e.0) over)) ∙ ap (find item_cmp q) (sym is)
      where
        greater_of : (o : Ordering) → is_gt o ≡ true → o ≡ Greater
        greater_of Less h = absurd (let f : false ≡ true = h in cc)
        greater_of Equal h = absurd (let f : false ≡ true = h in cc)
        greater_of Greater h = refl

    -- by whether the key is behind that of the entry
    in_other : (q : Item) → same_text q.table table ≡ false → find item_cmp q rest ≡ None
    in_other q off = go (is_gt (item_cmp q e.0)) refl
      where
        go : (b : Bool) → is_gt (item_cmp q e.0) ≡ b → find item_cmp q rest ≡ None
        go true over = behind q over ∙ not_of first q (from_off first q off)
        go false under = not_beyond e rest q tail_up under

    by_id : (q : Item) → q.table ≡ table → item_cmp q e.0 ≡ int_cmp q.id e.0.id
    by_id q of = (λ i. ordering_then (text_cmp (of i) (here.0 i)) (int_cmp q.id e.0.id))
        ∙ ap (λ o. ordering_then o (int_cmp q.id e.0.id))
        (tied_itself texts.total table)

    in_table : (q : Item) → same_text q.table table ≡ true
        → find item_cmp q (rows_on p table next) ≡ find item_cmp q rest
    in_table q on = go (int_cmp q.id e.0.id) (int_ranks q.id e.0.id) (by_id q (are_same texts q.table table on))
      where
        go : (o : Ordering) → MatchOrdering o (q.id <ℤ e.0.id) (q.id ≡ e.0.id) (e.0.id <ℤ q.id) → item_cmp q e.0 ≡ o
            → find item_cmp q
            (rows_on p table next) ≡ find item_cmp q rest
        go Less it cmp = not_of next q (from_below next q on (omega (arith, ints, it)))
            ∙ sym (not_beyond e rest q tail_up (ap is_gt cmp))
        go Equal it cmp = not_of next q (from_below next q on (omega (arith, ints, it)))
            ∙ sym (not_beyond e rest q tail_up (ap is_gt cmp))
        go Greater it cmp =
            is_of next q (from_on next q on (omega (arith, ints, it)))
            ∙ sym (is_of first q (from_on first q on (omega (arith, ints, it, here.1))))
            ∙ sym (behind q (ap is_gt cmp))

    rows_behind : rows_on p table next ≡ rest
    rows_behind = same_entries item_cmp items.total items.exact (rows_on p table next) rest
        (entries_sorted (retain_keys p.rows (is_from_id table next)))
        (parts_of _ _ tail_up).1 (λ q. by_table q (same_text q.table table) refl)
      where
        by_table : (q : Item) (b : Bool) → same_text q.table table ≡ b
            → find item_cmp q (rows_on p table next) ≡ find item_cmp q rest
        by_table q true on = in_table q on
        by_table q false off = not_of next q (from_off next q off) ∙ sym (in_other q off)

  -- ---- as they are told

  -- a list whose image is cut at an element is cut there
  split : (es : List Entry) (before : List (ℤ × AttributeRow)) (last : ℤ × AttributeRow)
      (more : List (ℤ × AttributeRow)) → map numbered es ≡
      (before ++ last ∷ []) ++ more
      → (front : List Entry) × (e : Entry) × (rest : List Entry) × (es ≡ front ++ e ∷ rest) × (numbered e ≡ last)
      × (map numbered rest ≡ more)
  split [] [] last more is = absurd cc
  split [] (x ∷ before) last more is = absurd cc
  split (e ∷ es) [] last more is = ([], e, es, refl, cc, cc)
  split (e ∷ es) (x ∷ before) last more is =
      let rest = split es before last more cc in (
        e ∷ rest.0,
        rest.1,
        rest.2,
        ap (λ (l : List Entry). e ∷ l) {y = rest.0 ++ rest.1 ∷ rest.2} rest.3,
        rest.4,
        rest.5,
      )

  -- what was read, and what comes behind its last row, is all
  pub all_behind : (first : ℤ) (rows before : List (ℤ × AttributeRow)) (last : ℤ × AttributeRow)
      → rows ≡ first_rows p table first → rows ≡ before ++ last ∷ []
      → map numbered (rows_on p table first) ≡ rows ++ map numbered (rows_on p table (last.0 +ℤ pos 1))
  all_behind first rows before last read ends =
      let all = map numbered (rows_on p table first) in
      let whole : all ≡ rows ++ drop MostRows all = sym (take-append-drop MostRows all)
      ∙ ap (λ l. l ++ drop MostRows all) (sym read) in
      let cut = split (rows_on p table first) before last (drop MostRows all)
      (whole ∙ ap (λ l. l ++ drop MostRows all) ends) in
      let (front, e, rest, is, same, behind) = cut in
      whole ∙ ap (λ l. rows ++ l)
      (sym behind ∙ ap (map numbered) (sym (rows_behind first front e rest is)) ∙ ap
      (λ (r : ℤ × AttributeRow). map numbered (rows_on p table (r.0 +ℤ pos 1))) same)

  -- where fewer were read than a read tells, they are all
  pub all_read : (first : ℤ) (rows : List (ℤ × AttributeRow)) → rows ≡ first_rows p table first → length rows < MostRows
      → map numbered
      (rows_on p table first) ≡ rows
  all_read first rows read few =
      let all = map numbered (rows_on p table first) in
      let short : length all ≤ MostRows = omega (arith, few, ap length read, length-take MostRows all) in
      sym (read ∙ take_all MostRows all short)

  -- ---- all of a table

  abbrev cond_of : Bool → Option AttributeRow → Option AttributeRow
  cond_of b o = cond b o None

  either : (a b : Bool) → cond_of a None ≡ cond_of b None
  either true true = refl
  either true false = refl
  either false true = refl
  either false false = refl

  alike : (q : Item) → pos 1 ≤ℤ q.id → (b : Bool) → same_text q.table table ≡ b
      → is_from_id table (pos 1) q ≡ same_text q.table table
  alike q low true on = from_on (pos 1) q on low ∙ sym on
  alike q low false off = from_off (pos 1) q off ∙ sym off

  pub all_rows : Meets current p → map numbered (rows_on p table (pos 1)) ≡ rows_of p table
  all_rows meets = ap (λ m. map numbered (entries m))
      (same_map items.total items.exact _ _
      (λ q. at_retain items p.rows (is_from_id table (pos 1)) q ∙ go q (get p.rows q) refl ∙ sym
      (at_retain items p.rows (λ (k : Item). same_text k.table table) q)))
    where
      go : (q : Item) (o : Option AttributeRow) → get p.rows q ≡ o
          → cond (is_from_id table (pos 1) q) (get p.rows q) None ≡ cond
          (same_text q.table table) (get p.rows q) None
      go q None none = ap (cond_of (is_from_id table (pos 1) q)) none
          ∙ either (is_from_id table (pos 1) q) (same_text q.table table) ∙ ap
          (cond_of (same_text q.table table)) (sym none)
      go q (Some row) is = ap (λ b. cond b (get p.rows q) None)
          (alike q (meets.q16.rows q row is).id.0 (same_text q.table table) refl)

  -- ---- one of them

  same_itself_text : same_text table table ≡ true
  same_itself_text = ap is_eq (tied_itself texts.total table)

  module _ (id : ℤ) where
    found : find item_cmp (item table id) (rows_on p table id) ≡ get p.rows (item table id)
    found = is_of id (item table id) (from_on id (item table id) same_itself_text (omega (arith, ints)))

    -- the first of them is the one, or is behind it
    of_first : (es : List Entry) → rows_on p table id ≡ es
        → first_at id (take MostRows (map numbered es)) ≡ at_id id (find item_cmp (item table id) es)
    of_first [] is = refl
    of_first (e ∷ rest) is = go (int_cmp e.0.id id) (int_ranks e.0.id id) refl turned
      where
        here : (e.0.table ≡ table) × (id ≤ℤ e.0.id)
        here = of_table id [] e rest is

        up : T (is_sorted item_cmp (e ∷ rest))
        up = subst (λ l. T (is_sorted item_cmp l)) is (entries_sorted (retain_keys p.rows (is_from_id table id)))

        turned : item_cmp (item table id) e.0 ≡ ordering_reverse (int_cmp e.0.id id)
        turned = ap (λ t. ordering_then (text_cmp table t) (int_cmp id e.0.id)) here.0
            ∙ ap (λ o. ordering_then o (int_cmp id e.0.id))
            (tied_itself texts.total table)
            ∙ numbers.total.antisymm id e.0.id

        go : (o : Ordering) → MatchOrdering o (e.0.id <ℤ id) (e.0.id ≡ id) (id <ℤ e.0.id) → int_cmp e.0.id id ≡ o
            → item_cmp
            (item table id) e.0 ≡ ordering_reverse o
            → first_at id (take MostRows (map numbered (e ∷ rest)))
            ≡ at_id id (find item_cmp (item table id) (e ∷ rest))
        go Less it cmp back = absurd (omega (arith, ints, it, here.1))
        go Equal it cmp back =
            ap (λ o. if is_eq o then numbered e ∷ [] else []) cmp ∙ ap (λ n. (n, e.1) ∷ []) it ∙ sym
            (ap (λ o. at_id id (cond (is_eq o) (Some e.1) (find item_cmp (item table id) rest))) back)
        go Greater it cmp back =
            ap (λ o. if is_eq o then numbered e ∷ [] else []) cmp
            ∙ sym (ap (λ o. at_id id (cond (is_eq o) (Some e.1) (find item_cmp (item table id) rest))) back
            ∙ ap (at_id id)
            (not_beyond e rest (item table id) up (ap is_gt back)))

    pub one_row : first_at id (first_rows p table id) ≡ at_id id (get p.rows (item table id))
    one_row = of_first (rows_on p table id) refl ∙ ap (at_id id) found
