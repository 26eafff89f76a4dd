-- DELETE FROM t WHERE c = ?1, whose foreign keys carry the value of c to other tables: the rows that have it are gone
-- there too, whatever the order of the actions.
use Rattle.std.proofs.Common.{◌≡◌, inl, inr, ℕ, zero, suc, ◌+◌, Bool, true, false, not, ◌&&◌, ◌||◌, eqb, List, []}
use Rattle.std.proofs.Common.{◌∷◌, filter, slice_get, unwrap_or, option_map, Option, Some, None, Ok, Err, Result}
use Rattle.std.proofs.Common.{OnOk, refl, sym, ap, subst, ◌∙◌, arith}
use Rattle.std.specs.List.{AllByRecursion, list_any, list_all}
use Rattle.std.proofs.lemmas.Bool.{or_cases, and_parts, and_from, eqb-true, both_ways, true_from_ne_false}
use Rattle.sqlite.specs.declared.error.Error.{Error}
use Rattle.sqlite.specs.declared.types.Value.{Value}
use Rattle.sqlite_value.specs.declared.keys.Collation.{Collation}
use Rattle.sqlite_value.specs.declared.keys.Collation.TheVariants.{Binary, NoCase, RTrim}
use Rattle.sqlite_value.specs.Keys.{first_key, plain}
use Rattle.sqlite.specs.Order.{Row, column}
use Rattle.sqlite.specs.Ops.{is_null}
use Rattle.sqlite.specs.Tree.{Trees}
use Rattle.sqlite.specs.Table.{Table}
use Rattle.sqlite.specs.Schema.{Schema}
use Rattle.sqlite.specs.Command.TheVariants.{Delete}
use Rattle.sqlite_schema.specs.declared.schema.Constraint.TheVariants.{NotNull, ForeignKey}
use Rattle.sqlite_schema.specs.declared.schema.Column.{Column}
use Rattle.sqlite_schema.specs.declared.schema.Keys.{Keys}
use Rattle.sqlite_schema.specs.declared.schema.Keys.TheVariants.{Enforced}
use Rattle.sqlite_schema.specs.declared.schema.Reference.{Reference}
use Rattle.sqlite_schema.specs.Names.{is_key}
use Rattle.sqlite_schema.specs.Rules.{agree, equal, has_null, has_parent, are_present, ParentKey, parent_key, Obeys}
use Rattle.sqlite_rules.specs.declared.action.Deed.{Deed}
use Rattle.sqlite_rules.specs.declared.action.Deed.TheVariants.{Refuse, Delete as Remove, Follow, Clear, Reset}
use Rattle.sqlite_rules.specs.Lists.{Has}
use Rattle.sqlite_rules.specs.Action.{deed_for}
use Rattle.sqlite_rules.proofs.ListLemmas.{all_has, all_from, test_has, some_has}
use Rattle.sqlite_rules.proofs.KeyLemmas.{agree_back, agree_chain}
use Rattle.sqlite_rules.proofs.RuleLemmas.{keeps_at}
use Rattle.sqlite.specs.Listing.{understood}
use Rattle.sqlite.specs.State.{State, ExecutesInside, Writes}
use Rattle.sqlite.proofs.Callers.{IsPlain, command_of, statement_of, runs_as}
use Rattle.sql_forms.specs.Forms.{equals, deletes}
use Rattle.sql_forms.specs.Tables.{tables_of, IsReady, Leaves}
use Rattle.sql_forms.specs.Cascade.{FollowsAt, Follows, has_at, keep_but, is_binary, heads_match, carries_at, carries}
use Rattle.sql_forms.specs.Cascade.{is_needed, left_without, leads_to, is_covered, covers_from, covers, cut}
use Rattle.sql_forms.proofs.Lists.{filter_whole, not_true, not_false, not_not, and_true}
use Rattle.sql_forms.proofs.Tables.{at_tables}
use Rattle.sql_forms.proofs.Deletes.{deletes_kept, shrunk_rows}

-- ---- SQL's equality

equal_back : (a b : Value) → equal Binary a b ≡ true → equal Binary b a ≡ true
unfolding first_key
equal_back a b h = (and_parts _ _ (agree_back plain (0 ∷ []) (0 ∷ []) (a ∷ []) (b ∷ []) (and_from _ _ h refl))).0

equal_chain : (a b c : Value) → equal Binary a b ≡ true → equal Binary b c ≡ true → equal Binary a c ≡ true
unfolding first_key
equal_chain a b c h k = (and_parts _ _
    (agree_chain plain (0 ∷ []) (0 ∷ []) (0 ∷ []) (a ∷ []) (b ∷ []) (c ∷ []) (and_from _ _ h refl)
    (and_from _ _ k refl))).0

binary_is : (c : Collation) → is_binary c ≡ true → c ≡ Binary
binary_is Binary h = refl
binary_is NoCase h = absurd (cc)
binary_is RTrim h = absurd (cc)

-- ---- the test for `Follows`

-- rows that agree go or stay together
pub head_out : (place : ℕ → Option ℕ) (v : Value) (child : ℕ) (ps : List ℕ) (key : ParentKey) (row old : Row)
    → (heads_match (place child) (place key.0) ps key.1 && is_binary (first_key key.2).collation) ≡ true
    → agree key.2 ps row key.1 old ≡ true → keep_but place v key.0 old ≡ false → keep_but place v child row ≡ false
head_out place v child ps key row old h same out = go (place child) (place key.0) ps key.1 (and_parts _ _ h).0 same
    (not_false _ out)
  where
    go : (c k : Option ℕ) (ps qs : List ℕ) → heads_match c k ps qs ≡ true → agree key.2 ps row qs old ≡ true
        → has_at k v old ≡ true
        → not (has_at c v row) ≡ false
    go c None ps qs h same out = absurd (cc)
    go None (Some q) ps qs h same out = absurd (cc)
    go (Some p) (Some q) [] qs h same out = absurd (cc)
    go (Some p) (Some q) (x ∷ ps) [] h same out = absurd (cc)
    go (Some p) (Some q) (x ∷ ps) (y ∷ qs) match same out =
        let parts = and_parts _ _ match in
        let there : equal (first_key key.2).collation (column row x) (column old y) ≡ true = (and_parts _ _ same).0 in
        let binary : (first_key key.2).collation ≡ Binary = binary_is (first_key key.2).collation (and_parts _ _ h).1 in
        let first : equal Binary (column row p) (column old q) ≡ true =
        rw (← eqb-true x p parts.0, ← eqb-true y q parts.1)
        (subst (λ c. equal c (column row x) (column old y) ≡ true) binary there) in
        ap not (equal_chain (column row p) (column old q) v first out)

pub carried : (schema : Schema) (keys : Keys) (place : ℕ → Option ℕ) (v : Value) → carries schema keys place ≡ true
    → Follows schema keys (keep_but place v)
carried schema keys place v h =
    all_from _ schema.tables (λ t known. all_from _ t.references (λ ref there.
    at t ref (deed_for keys true ref) (parent_key schema.tables ref)
    (test_has _ t.references ref (test_has _ schema.tables t h known) there)))
  where
    at : (t : Table) (ref : Reference) (deed : Option Deed) (key : Option ParentKey)
        → carries_at place t.tree ref deed key ≡ true
        → FollowsAt (keep_but place v) t.tree ref deed key
    at t ref None key h = tt
    at t ref (Some Refuse) key h = tt
    at t ref (Some Remove) None h = tt
    at t ref (Some Remove) (Some key) h = λ row old same out. head_out place v t.tree ref.columns key row old h same out
    at t ref (Some Follow) key h = absurd (cc)
    at t ref (Some Clear) key h = absurd (cc)
    at t ref (Some Reset) key h = absurd (cc)

-- ---- a row whose parents are gone is gone too

present : (key : Option ℕ) (at i : ℕ) (cs : List Column) (row : Row) → are_present key at cs row ≡ true
    → unwrap_or (option_map (λ (c : Column). c.not_null && not (is_key key (at + i))) (slice_get cs i)) false ≡ true
    → is_null (column row (at + i + 1)) ≡ false
present key at i [] row all h = absurd (cc)
present key at zero (c ∷ cs) row all h =
    let here : (c.not_null ≡ true) × (not (is_key key at) ≡ true) = and_parts c.not_null (not (is_key key at))
    (let e : at + 0 ≡ at = omega arith in rw e at h) in
    let e : at + 0 + 1 ≡ at + 1 = omega arith in
    rw e (stays (is_key key at) c.not_null (is_null (column row (at + 1))) (not_true (is_key key at) here.1) here.0
    (and_parts _ _ all).0)
  where
    stays : (k n null : Bool) → k ≡ false → n ≡ true → (k || not n || not null) ≡ true → null ≡ false
    stays k n true p q h = absurd (let e = rw (p, q) at h in cc)
    stays k n false p q h = refl
present key at (suc i) (c ∷ cs) row all h =
    let e : at + suc i ≡ at + 1 + i = omega arith in
    let f : at + suc i + 1 ≡ at + 1 + i + 1 = omega arith in
    rw f (present key (at + 1) i cs row (and_parts _ _ all).1 (rw e at h))

pub whole : (t : Table) (ps : List ℕ) (row : Row) → are_present t.key 0 t.columns row ≡ true
    → list_all (is_needed t) ps ≡ true → has_null ps row ≡ false
whole t [] row all h = refl
whole t (zero ∷ ps) row all h = absurd (cc)
whole t (suc p ∷ ps) row all h =
    let parts = and_parts (is_needed t (suc p)) (list_all (is_needed t) ps) h in
    let zero_plus : 0 + p ≡ p = omega arith in
    let here : is_null (column row (suc p)) ≡ false =
    (let e : 0 + p + 1 ≡ suc p = omega arith in rw e at (present t.key 0 p t.columns row all (rw zero_plus parts.0))) in
    rw here (whole t ps row all parts.1)

module _ (schema : Schema) (db : Trees) (obeys : Obeys schema db) where
  -- each row has a parent
  pub parent_of : (t : Table) (ref : Reference) (key : ParentKey) → Has schema.tables t → Has t.references ref
      → parent_key schema.tables ref ≡ Some key → list_all (is_needed t) ref.columns ≡ true
      → (row : Row) → Has (db t.tree) row → (old : Row) × Has (db key.0) old
      × (agree key.2 key.1 old ref.columns row ≡ true)
  parent_of t ref key listed on is needed row there =
      let full = whole t ref.columns row (keeps_at NotNull schema db t row (obeys.rules NotNull) listed there) needed in
      let held : has_parent schema.tables db row ref ≡ true = test_has _ t.references ref
      (keeps_at ForeignKey schema db t row (obeys.rules ForeignKey) listed there) on in
      some_has _ (db key.0) (rw (full, is) at held)

  pub orphans_gone : (place : ℕ → Option ℕ) (v : Value) (t : Table) (ref : Reference) (key : ParentKey)
      → Has schema.tables t → Has t.references ref
      → parent_key schema.tables ref ≡ Some key
      → list_all (is_needed t) ref.columns ≡ true
      → (heads_match (place key.0) (place t.tree) key.1 ref.columns && is_binary (first_key key.2).collation) ≡ true
      → ((old : Row) → Has (db key.0) old → keep_but place v key.0 old ≡ true) → (row : Row) → Has (db t.tree) row
      → keep_but place v t.tree row ≡ true
  orphans_gone place v t ref key listed on is needed heads parents row there =
      let p = parent_of t ref key listed on is needed row there in
      true_from_ne_false _ (λ out. both_ways _
      (head_out place v key.0 key.1 (t.tree, ref.columns, key.2) p.0 row heads p.2 out) (parents p.0 p.1))

-- ---- all tables at once

module _ (schema : Schema) (db : Trees) (obeys : Obeys schema db) (place : ℕ → Option ℕ) (v : Value) where
  abbrev pub IsClear : ℕ → Type 0
  IsClear t = (r : Row) → Has (db t) r → keep_but place v t r ≡ true

  among : (tree : ℕ) (above : List ℕ) → ((t : ℕ) → Has above t → IsClear t) → list_any (λ t. eqb t tree) above ≡ true
      → IsClear tree
  among tree above clear h = let m = some_has (λ t. eqb t tree) above h in subst IsClear (eqb-true m.0 tree m.2)
      (clear m.0 m.1)

  led : (t : Table) (above : List ℕ) → Has schema.tables t → ((s : ℕ) → Has above s → IsClear s) → (ref : Reference)
      → Has t.references ref
      → (key : Option ParentKey) → parent_key schema.tables ref ≡ key
      → leads_to place t above ref key ≡ true → IsClear t.tree
  led t above listed clear ref on None is h = absurd (cc)
  led t above listed clear ref on (Some key) is h =
      let parts = and_parts (list_any (λ tree. eqb tree key.0) above) _ h in
      let rest = and_parts (list_all (is_needed t) ref.columns) _ parts.1 in
      orphans_gone schema db obeys place v t ref key listed on is rest.0 rest.1 (among key.0 above clear parts.0)

  covered : (t : Table) (above : List ℕ) → Has schema.tables t → ((s : ℕ) → Has above s → IsClear s) → (o : Option ℕ)
      → place t.tree ≡ o
      → is_covered schema.tables place above t o ≡ true → IsClear t.tree
  covered t above listed clear None is h = λ r there. rw is refl
  covered t above listed clear (Some p) is h = elim (or_cases (list_any (λ tree. eqb tree t.tree) above) _ h) [
    | inl before ↦ among t.tree above clear before
    | inr leads ↦ let m = some_has (λ ref. leads_to place t above ref (parent_key schema.tables ref)) t.references
        leads in led t above listed clear m.0 m.1 (parent_key schema.tables m.0) refl m.2
  ]

  clear_from : (ts : List Table) (above : List ℕ) → ((t : Table) → Has ts t → Has schema.tables t)
      → ((s : ℕ) → Has above s → IsClear s)
      → covers_from schema.tables place above ts ≡ true → AllByRecursion (λ t. IsClear t.tree) ts
  clear_from [] above listed clear h = tt
  clear_from (t ∷ ts) above listed clear h =
      let parts = and_parts (is_covered schema.tables place above t (place t.tree)) _ h in
      let here = covered t above (listed t (inl refl)) clear (place t.tree) refl parts.0 in (
        here,
        clear_from ts (t.tree ∷ above) (λ s k. listed s (inr k))
            (λ s k. elim k [ inl same ↦ subst IsClear (sym same) here | inr earlier ↦ clear s earlier ]) parts.1,
      )

  -- where the first table has no row with the value, no table has one
  pub all_clear : (first : ℕ) → covers schema place first ≡ true → IsClear first
      → AllByRecursion (λ t. IsClear t.tree) schema.tables
  all_clear first h clear = clear_from schema.tables (first ∷ []) (λ t k. k)
      (λ s k. elim k [ inl same ↦ subst IsClear (sym same) clear | inr none ↦ absurd none ]) h

filtered : (o : Option ℕ) (v : Value) (was now : List Row)
    → filter (λ r. not (has_at o v r)) now ≡ filter (λ r. not (has_at o v r)) was
    → ((r : Row) → Has now r → not (has_at o v r) ≡ true) → now ≡ left_without o v was
filtered None v was now h clear = sym (filter_whole (λ _. true) now (λ r there. refl)) ∙ h
    ∙ filter_whole (λ _. true) was (λ r there. refl)
filtered (Some p) v was now h clear = sym (filter_whole (λ r. not (has_at (Some p) v r)) now clear) ∙ h

-- `refl` finds each of these, where the schema and the text are written out
pub record IsCascade (schema : Schema) (sql : List ℕ) (at : ℕ) (table : Table) (p : ℕ) (place : ℕ → Option ℕ) : Type 0
  where
    pub compiled : command_of (understood schema sql) ≡ Delete at (deletes table.tree (equals p 0 ∷ []))
    pub plain : IsPlain (understood schema sql)
    pub placed : slice_get schema.tables at ≡ Some table
    pub on : place table.tree ≡ Some p
    pub carried : carries schema Enforced place ≡ true
    pub covered : covers schema place table.tree ≡ true

nothing_less : (p : Option ℕ) (v : Value) → left_without p v [] ≡ []
nothing_less None v = refl
nothing_less (Some p) v = refl

-- in each table the rows that have the value at its place are gone
pub cascaded : (schema : Schema) (sql : List ℕ) (at : ℕ) (table : Table) (p : ℕ) (place : ℕ → Option ℕ)
    → IsCascade schema sql at table p place
    → (old new : State) (v : Value) (given : Row) (r : Result ℕ Error)
    → IsReady schema old → given ≡ v ∷ [] → ExecutesInside 0 sql given old new r
    → OnOk r (Leaves schema old new (cut place v (tables_of schema old.now.trees)))
cascaded schema sql at table p place it old new v given (Err e) ready same h = tt
cascaded schema sql at table p place it old new v given (Ok count) ready same h =
    let keep = keep_but place v in
    let terms = equals p 0 ∷ [] in
    let w : Writes old new None (Delete at (deletes table.tree terms)) (statement_of sql (understood schema sql))
    (v ∷ []) count = runs_as sql (v ∷ []) old new schema ready.schema_is _ it.compiled it.plain count
    (rw same at h).0 in
    let follows = carried schema Enforced place v it.carried in
    let on = it.on in
    let made = deletes_kept schema at table it.placed keep follows terms old new ready
    (statement_of sql (understood schema sql)) (v ∷ []) count
    (λ r there. rw on (and_true (equal Binary (column r p) v) ∙ sym (not_not _))) w in
    let so = made.1 in
    let known : new.now.schema ≡ schema = made.0 in
    let clear = all_clear schema new.now.trees (subst (λ s. Obeys s new.now.trees) known w.sound.obeys) place v
    table.tree it.covered made.2 in
    let each : (t : Table) → Has schema.tables t
    → new.now.trees t.tree ≡ left_without (place t.tree) v (old.now.trees t.tree) = λ t listed. (
    filtered (place t.tree) v (old.now.trees t.tree) (new.now.trees t.tree) (so.kept t listed)
    (all_has (λ (x : Table). (r : Row) → Has (new.now.trees x.tree) r → keep x.tree r ≡ true) schema.tables t clear
    listed)) in
    record {
      ready = record {
        schema_is = known;
        inside = h.1.mode;
        rows = shrunk_rows schema at table it.placed keep follows terms old new ready new.now.trees so;
      };
      sound = w.sound;
      is_open = h.1.is_open;
      tables_are = λ i t. at_tables schema (λ n was now. now ≡ left_without (place n) v was) old.now.trees new.now.trees
          (λ n. sym (nothing_less (place n) v)) each t i;
      committed = h.1.committed_is;
    }
