-- A walk over an item's mapping rows is a read, and so is one read after another.
use Rattle.std.proofs.Common.{◌≡◌, ℤ, Bool, true, false, List, [], ◌∷◌, ◌++◌, Result, Ok, Err, IfOk, Vec, Global, refl}
use Rattle.std.proofs.Common.{sym, ap, subst, ◌∙◌, append_assoc, append-nil, arith}
use Rattle.sqlite.specs.declared.types.Value.TheVariants.{Int, Text as Words}
use Rattle.sql_forms.specs.Values.TheVariants.{Null}
use Rattle.sqlite.specs.Order.{Row}
use Rattle.sqlite.specs.State.{State, Shown}
use Rattle.sql_forms.proofs.States.{shows_as, shown_open}
use Rattle.sql_forms.proofs.Queries.{no_overlay}
use Rattle.sql_forms.specs.Tables.{tables_of}
use Rattle.mm_store.specs.Tables.{schema}
use Rattle.mm_definitions.specs.Bounds.{Profile}
use Rattle.mm_definitions.specs.Keys.{Text}
use Rattle.mm_definitions.specs.Package.{Package}
use Rattle.mm_definitions.specs.declared.answers.Fault.{Fault}
use Rattle.mm_definitions.specs.declared.entries.Related.{Related}
use Rattle.mm_store.specs.Seen.{IsSeenAs, IsRead}
use Rattle.mm_store.proofs.Quiet.{quiet_then}
use Rattle.mm_walk.specs.Walk.{TakesRows, Ends, IsWalk}
use Rattle.mm_reads.specs.Related.{GathersMates, ListsMates}
use Rattle.mm_reads.proofs.Asked as asked
use Rattle.mm_reads.proofs.Asked.{listed_text}
use Rattle.mm_reads.proofs.OnlyAsks.{only_asks}
use Rattle.mm_reads.proofs.GatheredRead.{Found, gathered_read}
use Rattle.mm_reads.proofs.ListedMates.{ShowsAll, lists_mates}

-- ---- the walk of a visitor that keeps what it gathers

module _ {V : Type 0} (takes : V → Row → V → Result Bool Fault → Type 0) (items : V → List Related)
    (gathers : (v u : V) (row : Row) (result : Result Bool Fault) → takes v row u result
    → GathersMates (items v) row (items u) result) where
  gathered : (v w : V) (rows : List Row) → TakesRows takes v rows w → (found : List Related)
      × (items w ≡ items v ++ found) × ShowsAll rows found
  gathered v w [] same = ([], ap items (sym same) ∙ sym (append-nil (items v)), refl)
  gathered v w (r ∷ rows) (u, step, more) =
      let one = gathers v u r (Ok true) step in
      let rest = gathered u w rows more in (
        one.1 ∷ rest.0,
        rest.1 ∙ ap (λ found. found ++ rest.0) one.3 ∙ append_assoc (items v) (one.1 ∷ []) rest.0,
        (one.2, rest.2),
      )

  module _ (table : Text) (id : ℤ) (given : Row) (same : given ≡ Words table ∷ Int id ∷ []) (old new : State) (v w : V)
      (empty : items v ≡ []) where
    module _ (profile : Profile) where
      items_told : (p : Package) → IsSeenAs profile old p → (result : Result Bool Fault)
          → Ends takes listed_text given old new v w result
          → IfOk result (λ _. ListsMates p table id (items w))
      items_told p it (Err fault) h = tt
      items_told p it (Ok false) h = absurd
          (let e : false ≡ true = (gathers h.before w h.last (Ok false) h.ends).0 in cc)
      items_told p it (Ok true) h =
          let params = Words table ∷ Int id ∷ [] in
          let at = it.reads (shown_open listed_text given old new h.rows h.shown) in
          let read = shows_as old new listed_text params schema at.schema_is _ asked.listed.compiled asked.listed.plain
          asked.listed.unlisted h.rows (subst (λ x. Shown listed_text x old new h.rows) same h.shown) in
          let all = gathered v w h.rows h.taken in
          let holds = at.stands.holds in
          subst (ListsMates p table id) (sym (all.1 ∙ ap (λ found. found ++ all.0) empty))
          (lists_mates p table id (tables_of schema old.now.trees 10) (tables_of schema old.now.trees 21)
          holds.relations holds.pairings (at.stands.rows 10).rise (at.stands.rows 21).rise _
          (no_overlay old.now.trees 10) (no_overlay old.now.trees 21) h.rows (read.0.answer Null) all.0 all.2)

      pub read_by_walk : (result : Result Bool Fault) (last : Result (Vec Related Global) Fault)
          → IsWalk takes listed_text given old new v w result
          → Found (items w) result last → IsRead profile old new
          (λ p (found : Vec Related Global). ListsMates p table id found.items) last
      read_by_walk = gathered_read takes listed_text given old new v w (items w) profile (only_asks old.now.schema)
          (λ p. ListsMates p table id) items_told (λ before row fault. gathers before w row (Err fault))

-- ---- reads whose answers are made of others'

module _ (profile : Profile) {T U : Type 0} where
  pub read_as : {Says : Package → T → Type 0} {Less : Package → U → Type 0} (old new : State) (x : T) (y : U)
      → IsRead profile old new Says (Ok x)
      → ((p : Package) → Says p x → Less p y) → IsRead profile old new Less (Ok y)
  read_as old new x y read so = record {
    survives = read.survives;
    seen = read.seen;
    settled = read.settled;
    says = λ clean p meets it. so p (read.says clean p meets it);
    faults = tt;
  }

  pub read_failed : {Says : Package → T → Type 0} {Less : Package → U → Type 0} (old new : State) (e : Fault)
      → IsRead profile old new Says (Err e)
      → IsRead profile old new Less (Err e)
  read_failed old new e read = record {
    survives = read.survives;
    seen = read.seen;
    settled = read.settled;
    says = λ clean p meets it. tt;
    faults = read.faults;
  }

  -- one read, then another
  pub reads_then : {Says : Package → T → Type 0} {More : Package → U → Type 0} (a b c : State) (x : T)
      (r : Result U Fault)
      → IsRead profile a b Says (Ok x) → IsRead profile b c More r → IsRead profile a c (λ p y. Says p x × More p y) r
  reads_then {Says} {More} a b c x r one two = record {
    survives = quiet_then a b c one.survives two.survives;
    seen = λ clean p it. two.seen clean p (one.seen (omega (arith, two.survives.clean)) p it);
    settled = λ clean p it. two.settled clean p (one.settled (omega (arith, two.survives.clean)) p it);
    says = λ clean p meets it. let early = one.seen (omega (arith, two.survives.clean)) p it in both p
        (one.says (omega (arith, two.survives.clean)) p meets it) r (two.says clean p meets early);
    faults = two.faults;
  }
    where
      both : (p : Package) → Says p x → (r : Result U Fault) → IfOk r (λ y. More p y)
          → IfOk r (λ y. Says p x × More p y)
      both p said (Ok y) more = (said, more)
      both p said (Err e) more = tt
