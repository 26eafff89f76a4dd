-- A DELETE with its actions takes away rows that are not kept, and no others.
use Rattle.std.proofs.Common.{◌≡◌, ◌⊎◌, inl, inr, ℕ, zero, suc, ◌+◌, ℤ, Bool, true, false, not, ◌&&◌, cond, eqb, List}
use Rattle.std.proofs.Common.{[], ◌∷◌, ◌++◌, map, filter, Option, Some, None, Ok, Err, refl, sym, ap, subst, ◌∙◌}
use Rattle.std.specs.Prelude.{nat_lt, MatchBool}
use Rattle.std.specs.List.{list_any, filter_map}
use Rattle.std.proofs.lemmas.Bool.{and_parts, cases_eq, eqb-true}
use Rattle.std.proofs.lemmas.Cmp.{tied_itself}
use Rattle.std.specs.Cmp.{Equal-is}
use Rattle.sqlite_value.specs.declared.value.Value.TheVariants.{Int}
use Rattle.sqlite_value.specs.Order.{Row}
use Rattle.sqlite_value.proofs.OrderLemmas.{value_cmp_total}
use Rattle.sqlite_trees.specs.Tree.{Trees, rowid, has_rowid, without_rowid, IsTable}
use Rattle.sqlite_schema.specs.declared.schema.Keys.{Keys}
use Rattle.sqlite_schema.specs.declared.schema.Reference.{Reference}
use Rattle.sqlite_schema.specs.declared.schema.Table.{Table}
use Rattle.sqlite_schema.specs.declared.schema.Schema.{Schema}
use Rattle.sqlite_schema.specs.Rules.{ParentKey}
use Rattle.sqlite_rules.specs.declared.action.Deed.{Deed}
use Rattle.sqlite_rules.specs.declared.action.Deed.TheVariants.{Refuse, Delete, Follow, Clear, Reset}
use Rattle.sqlite_rules.specs.declared.error.Refusal.TheVariants.{TooDeep}
use Rattle.sqlite_rules.specs.Lists.{Has}
use Rattle.sqlite_rules.specs.Edit.{Edit, without_all, row_at, taken_by, Applies}
use Rattle.sqlite_rules.specs.Action.{End, Work, pairs, loses, works, work_by, work_for, is_child_of, AreChildren}
use Rattle.sqlite_rules.specs.Action.{action_edit, Goes, Acts, ActsOn, Leads, Writes, max_depth, refuses}
use Rattle.sqlite_rules.proofs.ListLemmas.{all_has, all_from, some_has, has_left, has_right, has_either, has_filtered}
use Rattle.sqlite_rules.proofs.ProbeLemmas.{has_mapped}
use Rattle.sqlite_rules.proofs.TableLemmas.{without_all_has}
use Rattle.sqlite_rules.proofs.PlaceLemmas.{tied_same, row_at_is}
use Rattle.sqlite_catalog.proofs.LayoutLemmas.{ascending_filter}
use Rattle.sql_forms.specs.Tables.{AreRows, AreTables}
use Rattle.sql_forms.specs.Cascade.{Keep, FollowsAt, Follows, Shrinks}
use Rattle.sql_forms.proofs.Lists.{has_flat, has_filter_mapped, filter_after, not_false}
use Rattle.sql_forms.proofs.Tables.{rows_in, tables_from}

-- ---- rows that are taken by their rowids

pub filter_left : (p : Row → Bool) (ids : List ℤ) (rows : List Row)
    → ((id : ℤ) (r : Row) → Has ids id → Has rows r → has_rowid id r ≡ true → p r ≡ false)
    → filter p (without_all rows ids) ≡ filter p rows
filter_left p [] rows so = refl
filter_left p (id ∷ ids) rows so =
    filter_left p ids (without_rowid id rows) (λ k r h there is. so k r (inr h) (has_filtered _ rows r there).0 is)
    ∙ filter_after p (λ r. not (has_rowid id r)) rows (λ r there out. so id r (inl refl) there (not_false _ out))

pub rise_left : (ids : List ℤ) (rows : List Row) → IsTable rows → IsTable (without_all rows ids)
rise_left [] rows up = up
rise_left (id ∷ ids) rows up = rise_left ids (without_rowid id rows) (ascending_filter _ _ rows up)

rows_left : (ids : List ℤ) (rows : List Row) → AreRows rows → AreRows (without_all rows ids)
rows_left ids rows up = record {
  rise = rise_left ids rows up.rise;
  keyed = all_from _ (without_all rows ids) (λ r h. all_has _ rows r up.keyed (without_all_has ids rows r h));
}

-- none of the rowids is left
pub left_lacks : (ids : List ℤ) (rows : List Row) (r : Row) (id : ℤ) → Has (without_all rows ids) r → Has ids id
    → has_rowid id r ≡ true → ⊥
left_lacks [] rows r id there h is = h
left_lacks (k ∷ ids) rows r id there (inl same) is = let out =
    (has_filtered _ rows r (without_all_has ids (without_rowid k rows) r there)).1 in
    let here : has_rowid k r ≡ true = rw (← same) is in absurd (cc)
left_lacks (k ∷ ids) rows r id there (inr more) is = left_lacks ids (without_rowid k rows) r id there more is

pub own_rowid : (r : Row) (id : ℤ) → rowid r ≡ Int id → has_rowid id r ≡ true
own_rowid r id e = rw (e, tied_itself value_cmp_total (Int id))

pub same_row : (rows : List Row) (id : ℤ) (a b : Row) → IsTable rows → Has rows a → Has rows b → rowid a ≡ Int id
    → has_rowid id b ≡ true → b ≡ a
same_row rows id a b up h k keyed is = tied_same rows b a up k h (rw keyed ((Equal-is _).0 is))

-- ---- an edit that puts no row

module _ (schema : Schema) (keys : Keys) (keep : Keep) where
  pub shrinks_then : (a b c : Trees) → Shrinks schema keep a b → Shrinks schema keep b c → Shrinks schema keep a c
  shrinks_then a b c p q = record {
    kept = λ t h. q.kept t h ∙ p.kept t h;
    was = λ t h r there. p.was t h r (q.was t h r there);
    rise = λ t h up. q.rise t h (p.rise t h up);
  }

  pub applied : (db next : Trees) (edit : Edit) → edit.news ≡ []
      → ((id : ℤ) (r : Row) → Has edit.gone id → Has (db edit.table.tree) r → has_rowid id r ≡ true
      → keep edit.table.tree r ≡ false)
      → Has schema.tables edit.table → Applies schema keys db edit next → Shrinks schema keep db next
  applied db next edit none out listed h =
      let rows : next edit.table.tree ≡ without_all (db edit.table.tree) edit.gone = rw none at h.rows in
      record {
        kept = λ t known. elim (cases_eq t.tree edit.table.tree) [
          | inl same ↦ rw (same, rows) (filter_left (keep edit.table.tree) edit.gone (db edit.table.tree) out)
          | inr other ↦ ap (filter (keep t.tree)) (all_has _ schema.tables t h.tables known other)
        ];
        was = λ t known r there. elim (cases_eq t.tree edit.table.tree) [
          | inl same ↦ rw same (without_all_has edit.gone _ r (rw (same, rows) at there))
          | inr other ↦ subst (λ l. Has l r) (all_has _ schema.tables t h.tables known other) there
        ];
        rise = λ t known up. elim (cases_eq t.tree edit.table.tree) [
          | inl same ↦ rw (same, rows) (rows_left edit.gone _ (rw same at up))
          | inr other ↦ subst AreRows (sym (all_has _ schema.tables t h.tables known other)) up
        ];
      }

-- ---- what an edit sets off

pub unless : (A B : Type 0) (b : Bool) → b ≡ false → MatchBool b A B → B
unless A B true e h = absurd (cc)
unless A B false e h = h

abbrev IsDue : Schema → Keep → Work → Type 0
IsDue schema keep w = Has schema.tables w.child
    × ((w.deed ≡ Refuse) ⊎ ((w.deed ≡ Delete)
    × ((row : Row) → list_any (is_child_of w row) w.moves ≡ true → keep w.child.tree row ≡ false)))

moved : (olds : List Row) (move : Row × Row) → Has (pairs olds []) move → Has olds move.0
moved [] move h = absurd h
moved (o ∷ olds) move (inl same) = inl (ap (λ m. m.0) same)
moved (o ∷ olds) move (inr later) = inr (moved olds move later)

module _ (schema : Schema) (keys : Keys) (keep : Keep) (follows : Follows schema keys keep) where
  work_due : (depth tree : ℕ) (olds : List Row) (child : Table) (ref : Reference) (deed : Option Deed)
      (key : Option ParentKey) (w : Work)
      → Has schema.tables child
      → FollowsAt keep child.tree ref deed key → ((r : Row) → Has olds r → keep tree r ≡ false)
      → work_by depth tree (pairs olds []) child ref deed key ≡ Some w → IsDue schema keep w
  work_due depth tree olds child ref None key w listed so out is = absurd (cc)
  work_due depth tree olds child ref (Some deed) None w listed so out is = absurd (cc)
  work_due depth tree olds child ref (Some deed) (Some key) w listed so out is =
      go (eqb key.0 tree && list_any (loses key.2 key.1) (pairs olds [])) refl is
    where
      made : Work
      made = record {
        depth = depth;
        child = child;
        ref = ref;
        places = key.1;
        order = key.2;
        deed = deed;
        moves = pairs olds [];
      }

      due : (d : Deed) → deed ≡ d → key.0 ≡ tree → FollowsAt keep child.tree ref (Some d) (Some key)
          → IsDue schema keep made
      due Refuse e on so = (listed, inl e)
      due Delete e on so = (
        listed,
        inr (
          e,
          λ row hit.
              let m = some_has (is_child_of made row) (pairs olds []) hit in
              so row m.0.0 (and_parts _ _ m.2).1 (rw on (out m.0.0 (moved olds m.0 m.1))),
        ),
      )
      due Follow e on so = absurd so
      due Clear e on so = absurd so
      due Reset e on so = absurd so

      go : (b : Bool) → (eqb key.0 tree && list_any (loses key.2 key.1) (pairs olds [])) ≡ b
          → cond b (Some made) None ≡ Some w → IsDue schema keep w
      go false e is = absurd (cc)
      go true e is = let same : made ≡ w = cc in subst (IsDue schema keep) same
          (due deed refl (eqb-true _ _ (and_parts _ _ e).0) so)

  works_due : (depth tree : ℕ) (olds : List Row) → ((r : Row) → Has olds r → keep tree r ≡ false) → (w : Work)
      → Has (works schema keys depth tree olds []) w → IsDue schema keep w
  works_due depth tree olds out w h =
      let c = has_flat (λ (child : Table). filter_map (work_for schema keys depth tree olds [] child) child.references)
      schema.tables w h in
      let r = has_filter_mapped (work_for schema keys depth tree olds [] c.0) c.0.references w c.2 in
      work_due depth tree olds c.0 r.0 _ _ w c.1
      (all_has _ c.0.references r.0 (all_has _ schema.tables c.0 follows c.1) r.1) out r.2

  module _ (db end : Trees) (tables : AreTables schema db) where
    -- the children of doomed rows are doomed, and so is each row that has the rowid of one
    out_of : (now : Trees) (w : Work) (ids : List ℤ) → Shrinks schema keep db now → AreChildren now w ids
        → Has schema.tables w.child
        → ((row : Row) → list_any (is_child_of w row) w.moves ≡ true → keep w.child.tree row ≡ false)
        → (id : ℤ) (r : Row) → Has ids id → Has (now w.child.tree) r → has_rowid id r ≡ true
        → keep w.child.tree r ≡ false
    out_of now w ids so found listed out id r h there is =
        let c = found.sound id h in
        let up = so.rise w.child listed (rows_in schema db tables w.child listed) in
        let same : r ≡ c.0 = same_row (now w.child.tree) id c.0 r up.rise c.1 there c.3 is in
        rw same (out c.0 c.2)

    taken_out : (now : Trees) (w : Work) (ids : List ℤ) → Shrinks schema keep db now → AreChildren now w ids
        → Has schema.tables w.child
        → ((row : Row) → list_any (is_child_of w row) w.moves ≡ true → keep w.child.tree row ≡ false)
        → (r : Row) → Has (map (row_at (now w.child.tree)) ids) r → keep w.child.tree r ≡ false
    taken_out now w ids so found listed out r h =
        let m = has_mapped (row_at (now w.child.tree)) ids r h in
        let c = found.sound m.0 m.1 in
        let up = so.rise w.child listed (rows_in schema db tables w.child listed) in
        let same : r ≡ c.0 = m.2 ∙ row_at_is (now w.child.tree) m.0 c.0 up.rise c.1 (own_rowid c.0 m.0 c.3) in
        rw same (out c.0 c.2)

    abbrev AllDue : List Work → Type 0
    AllDue stack = (w : Work) → Has stack w → IsDue schema keep w

    -- one action, whatever follows it
    module _ (Then : Trees → List Work → End → Type 0)
        (on : (now : Trees) (stack : List Work) → Shrinks schema keep db now → AllDue stack → Then now stack (Ok end)
        → Shrinks schema keep db end)
        (now : Trees) (so : Shrinks schema keep db now) (below : List Work) (rest : AllDue below) where
      deletes : (w : Work) (ids : List ℤ) → Has schema.tables w.child
          → ((row : Row) → list_any (is_child_of w row) w.moves ≡ true → keep w.child.tree row ≡ false)
          → AreChildren now w ids
          → (edit : Edit) → edit.table ≡ w.child → edit.gone ≡ ids → edit.news ≡ []
          → Goes schema keys Then now edit (w.depth + 1) below (Ok end)
          → Shrinks schema keep db end
      deletes w ids listed out found edit table gone none (inl refused) = absurd (let k = refused.2 in cc)
      deletes w ids listed out found edit table gone none (inr (inl big)) = absurd (let k = big.3 in cc)
      deletes w ids listed out found edit table gone none (inr (inr went)) =
          let lost : (id : ℤ) (r : Row) → Has edit.gone id → Has (now edit.table.tree) r → has_rowid id r ≡ true
          → keep edit.table.tree r ≡ false = rw (table, gone) (out_of now w ids so found listed out) in
          let olds : (r : Row) → Has (taken_by now edit) r
          → keep edit.table.tree r ≡ false = rw (table, gone) (taken_out now w ids so found listed out) in
          on went.0 (below ++ works schema keys (w.depth + 1) edit.table.tree (taken_by now edit) edit.news)
          (shrinks_then schema keys keep db now went.0 so
          (applied schema keys keep now went.0 edit none lost (rw table listed) went.1))
          (λ x k. elim (has_either below _ x k) [
            | inl old ↦ rest x old
            | inr new ↦ works_due (w.depth + 1) edit.table.tree (taken_by now edit) olds x
                (subst (λ news. Has (works schema keys (w.depth + 1) edit.table.tree (taken_by now edit) news) x) none
                new)
          ])
          went.2

      acted : (w : Work) → IsDue schema keep w → (ids : List ℤ) → AreChildren now w ids
          → ActsOn schema keys Then now w below (Ok end) ids
          → Shrinks schema keep db end
      acted w due [] found h = on now below so rest h
      acted w (listed, inl e) (id ∷ ids) found h = absurd (let k = rw e at h in cc)
      acted w (listed, inr (e, out)) (id ∷ ids) found h =
          deletes w (id ∷ ids) listed out found (action_edit now w (id ∷ ids)) refl refl (rw e)
          (unless _ _ _ (ap refuses e) h)

      turn : (w : Work) → IsDue schema keep w → Acts schema keys Then now w below (Ok end) → Shrinks schema keep db end
      turn w due h = go (nat_lt w.depth max_depth) h
        where
          go : (b : Bool)
              → MatchBool b ((ids : List ℤ) × AreChildren now w ids × ActsOn schema keys Then now w below (Ok end) ids)
              (◌≡◌ {A = End} (Ok end) (Err (Some TooDeep))) → Shrinks schema keep db end
          go true h = acted w due h.0 h.1 h.2
          go false h = absurd (cc)

    leads_shrinks : (n : ℕ) (now : Trees) (stack : List Work) → Shrinks schema keep db now → AllDue stack
        → Leads schema keys n now stack (Ok end)
        → Shrinks schema keep db end
    leads_shrinks zero now stack so due h = let same : now ≡ end = (let e = h.1 in cc) in subst (Shrinks schema keep db)
        same so
    leads_shrinks (suc n) now stack so due h =
        turn (Leads schema keys n) (leads_shrinks n) now so h.0 (λ x k. due x (rw h.2 (has_left h.0 (h.1 ∷ []) x k)))
        h.1 (due h.1 (rw h.2 (has_right h.0 (h.1 ∷ []) h.1 (inl refl)))) h.3

-- A step that puts no row takes away rows that are not kept, and its actions no others. What the step itself left is
-- told too.
pub writes_shrinks : (schema : Schema) (keys : Keys) (keep : Keep) → Follows schema keys keep → (db end : Trees)
    → AreTables schema db → (edit : Edit)
    → edit.news ≡ [] → Has schema.tables edit.table
    → ((id : ℤ) (r : Row) → Has edit.gone id → Has (db edit.table.tree) r → has_rowid id r ≡ true
    → keep edit.table.tree r ≡ false)
    → ((r : Row) → Has (taken_by db edit) r → keep edit.table.tree r ≡ false)
    → Writes schema keys db edit (Ok end)
    → Shrinks schema keep db end × ((r : Row) → Has (end edit.table.tree) r
    → Has (without_all (db edit.table.tree) edit.gone) r)
writes_shrinks schema keys keep follows db end tables edit none listed out olds (inl refused) =
    absurd (let k = refused.2 in cc)
writes_shrinks schema keys keep follows db end tables edit none listed out olds (inr (inl big)) =
    absurd (let k = big.3 in cc)
writes_shrinks schema keys keep follows db end tables edit none listed out olds (inr (inr went)) =
    let mid = went.0 in
    let rows : mid edit.table.tree ≡ without_all (db edit.table.tree) edit.gone = rw none at went.1.rows in
    let first = applied schema keys keep db mid edit none out listed went.1 in
    let up : AreTables schema mid = tables_from schema mid (λ t h. first.rise t h (rows_in schema db tables t h)) in
    let still : Shrinks schema keep mid mid =
    record { kept = λ t h. refl; was = λ t h r there. there; rise = λ t h u. u } in
    let later = leads_shrinks schema keys keep follows mid end up went.2.0 mid
    (works schema keys 0 edit.table.tree (taken_by db edit) edit.news) still
    (λ x k. works_due schema keys keep follows 0 edit.table.tree (taken_by db edit) olds x
    (subst (λ news. Has (works schema keys 0 edit.table.tree (taken_by db edit) news) x) none k)) went.2.1 in (
      shrinks_then schema keys keep db mid end first later,
      λ r there. subst (λ l. Has l r) rows
          (later.was edit.table listed r there),
    )
