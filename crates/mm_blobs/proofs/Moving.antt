-- Statements and queries as moves, and one move after another.
use Rattle.std.proofs.Common.{◌≡◌, ℕ, List, Option, Result, Ok, Err, IfOk, OnOk, IfErr, IsTrue, sym, subst, ◌∙◌, arith}
use Rattle.std.proofs.Common.{refl}
use Rattle.sqlite.specs.Order.{Row}
use Rattle.sqlite.specs.Tree.{Trees}
use Rattle.sqlite.specs.State.{State, HasCleanDisk, Shown, ExecutesInside, IsUnchanged}
use Rattle.sql_forms.specs.Listing.{IsSound}
use Rattle.sql_forms.specs.Tables.{tables_of, IsReady, Leaves, IsFirstShown}
use Rattle.sql_forms.proofs.States.{shown_open}
use Rattle.mm_definitions.specs.declared.answers.Fault.{Fault}
use Rattle.mm_definitions.specs.Faults.{IsStoreFault}
use Rattle.mm_store.specs.Stands.{Ground}
use Rattle.mm_store.specs.Statements.{CommitsNothing, KeepsGround, IsRun, IsAsked, AreGiven}
use Rattle.mm_store.proofs.Quiet.{quiet_then}
use Rattle.mm_store.specs.Tables.{schema}
use Rattle.mm_definitions.specs.Bounds.{Profile}
use Rattle.mm_store.specs.Kept.{Spare}
use Rattle.mm_blobs.specs.Views.{View, HoldsAs, Sees, IsSeen}
use Rattle.mm_blobs.specs.Moves.{IsMove}

abbrev pub seen : State → Trees
seen s = tables_of schema s.now.trees

pub ready_inside : (profile : Profile) (spare : Spare) (s : State) (ground : Ground) (x : View)
    → IsSeen spare profile s ground x → IsTrue s.is_open
    → IsReady schema s
ready_inside profile spare s ground x it up = let at =
    it.reads up in record { schema_is = at.schema_is; inside = it.mode; rows = at.rows }

pub inside_same : (profile : Profile) (spare : Spare) (old new : State) (ground : Ground) (x : View)
    → IsUnchanged old new
    → IsSeen spare profile old ground x → IsSeen spare profile new ground x
inside_same profile spare old new ground x same it = record {
  mode = same.0.mode ∙ it.mode;
  back = λ _. let on = it.back same.0.was_open in (same.0.committed_is ∙ on.0, on.1);
  reads = λ _. subst (λ d. Sees spare profile.version d x) (sym same.0.now_is) (it.reads same.0.was_open);
}

-- the same tables and tiles, of which less is known
pub inside_looser : (profile : Profile) (spare more : Spare) (s : State) (ground : Ground) (x : View)
    → ((tables : Trees) → HoldsAs spare profile.version tables x → HoldsAs more profile.version tables x)
    → IsSeen spare profile s ground x
    → IsSeen more profile s ground x
inside_looser profile spare more s ground x so it = record {
  mode = it.mode;
  back = it.back;
  reads = λ up. let at = it.reads up in record {
    schema_is = at.schema_is;
    sound = at.sound;
    rows = at.rows;
    holds = so (tables_of schema s.now.trees) at.holds;
  };
}

module _ (profile : Profile) (old new : State) (sql : List ℕ) (given : Row) (before : Spare) where
  -- a statement that changes the tables so
  module _ {T : Type 0} (tables : Trees → Trees) (When : View → Type 0) (next : View → T → View) (after : T → Spare)
      (result : Result T Fault)
      (survives : CommitsNothing old new) (on : KeepsGround old new) (faults : IfErr result IsStoreFault)
      (ran : HasCleanDisk new → IsTrue old.in_transaction
      → IfOk result (λ _. (count : ℕ) × ExecutesInside 0 sql given old new (Ok count)))
      (leaves : (count : ℕ) → IsReady schema old → ExecutesInside 0 sql given old new (Ok count)
      → Leaves schema old new (tables (seen old)))
      (holds : (t : T) → result ≡ Ok t → (count : ℕ) → IsReady schema old → ExecutesInside 0 sql given old new
      (Ok count) → (x : View) → HoldsAs before profile.version (seen old) x → When x
      → HoldsAs (after t) profile.version (tables (seen old)) (next x t)) where
    made_by : (ground : Ground) (x : View) → IsSeen before profile old ground x → When x → (r : Result T Fault)
        → result ≡ r
        → IfOk r (λ _. (count : ℕ) × ExecutesInside 0 sql given old new (Ok count))
        → IfOk r (λ t. IsTrue new.is_open × (y : View) × ((y ≡ next x t) × IsSeen (after t) profile new ground y))
    made_by ground x it when (Err e) is ran = tt
    made_by ground x it when (Ok t) is ran =
        let up = ran.1.1.was_open in
        let at = it.reads up in
        let ready = ready_inside profile before old ground x it up in
        let left = leaves ran.0 ready ran.1 in
        let last = holds t is ran.0 ready ran.1 x at.holds when in (
          left.is_open,
          next x t,
          (
            refl,
            record {
              mode = left.ready.inside;
              back = λ _. let on = it.back up in (left.committed ∙ on.0, on.1);
              reads = λ _. record {
                schema_is = left.ready.schema_is;
                sound = ∣ subst (λ s. IsSound s new.now.trees) left.ready.schema_is left.sound ∣₁;
                rows = left.ready.rows;
                holds = subst (λ db. HoldsAs (after t) profile.version db (next x t)) (sym left.tables_are) last;
              };
            },
          ),
        )

    pub moves : IsMove old new (λ ground x. IsSeen before profile old ground x × When x)
        (λ ground x t y. (y ≡ next x t) × IsSeen (after t) profile new ground y) result
    moves = record {
      survives = survives;
      on = λ clean ground x it. on clean it.0.mode ground it.0.back;
      moved = λ clean ground x it. made_by ground x it.0 it.1 result refl (ran clean it.0.mode);
      faults = faults;
    }

  -- the same of a statement that gives nothing
  pub moves_run : (tables : Trees → Trees) (When : View → Type 0) (next : View → View) (after : Spare)
      (result : Result (Unit {0}) Fault)
      → IsRun old new sql given result
      → ((count : ℕ) → IsReady schema old → ExecutesInside 0 sql given old new (Ok count)
      → Leaves schema old new (tables (seen old)))
      → (IsReady schema old → (x : View) → HoldsAs before profile.version (seen old) x → When x
      → HoldsAs after profile.version (tables (seen old)) (next x))
      → IsMove old new (λ ground x. IsSeen before profile old ground x × When x)
      (λ ground x _ y. (y ≡ next x) × IsSeen after profile new ground y) result
  moves_run tables When next after result run leaves holds =
      moves tables When (λ x _. next x) (λ _. after) result run.survives run.on run.faults
      (λ clean inside. as_if result (run.ran clean inside)) leaves
      (λ t is count ready h x keeps when. holds ready x keeps when)
    where
      as_if : (r : Result (Unit {0}) Fault) → OnOk r ((count : ℕ) × ExecutesInside 0 sql given old new (Ok count))
          → IfOk r (λ _. (count : ℕ) × ExecutesInside 0 sql given old new (Ok count))
      as_if (Ok u) h = h
      as_if (Err e) h = tt

  -- a query whose first row tells this
  module _ {T : Type 0} (Gives : T → Option Row → Type 0) (Says : View → T → Type 0) (result : Result T Fault)
      (asked : IsAsked old new sql given Gives result)
      (finds : (t : T) (first : Option Row) → IsReady schema old → IsFirstShown sql given old new first → Gives t first
      → IsUnchanged old new × ((x : View) → HoldsAs before profile.version (seen old) x → Says x t)) where
    told : (ground : Ground) (x : View) → IsSeen before profile old ground x → (r : Result T Fault)
        → IfOk r (λ t. (first : Option Row) × IsFirstShown sql given old new first × Gives t first)
        → IfOk r (λ t. IsTrue new.is_open × (y : View) × ((y ≡ x) × IsSeen before profile new ground y × Says y t))
    told ground x it (Err e) h = tt
    told ground x it (Ok t) h =
        let up = shown_open sql given old new h.1.0 h.1.1 in
        let found = finds t h.0 (ready_inside profile before old ground x it up) h.1 h.2 in (
          found.0.0.is_open,
          x,
          (
            refl,
            inside_same profile before old new ground x found.0 it,
            found.1 x
                (it.reads up).holds,
          ),
        )

    pub looks : IsMove old new (IsSeen before profile old) (λ ground x t y. (y ≡ x) × IsSeen before profile new ground y
        × Says y t) result
    looks = record {
      survives = asked.survives;
      on = λ clean ground x it. asked.on clean it.mode ground it.back;
      moved = λ clean ground x it. told ground x it result (asked.gives clean);
      faults = asked.faults;
    }

  -- a query all of whose rows tell this
  module _ {T : Type 0} (rows_of : T → List Row) (Says : View → T → Type 0) (result : Result T Fault)
      (listed : AreGiven old new sql given rows_of result)
      (finds : (t : T) → IsReady schema old → Shown sql given old new (rows_of t) → IsUnchanged old new
      × ((x : View) → HoldsAs before profile.version (seen old) x → Says x t)) where
    shown : (ground : Ground) (x : View) → IsSeen before profile old ground x → (r : Result T Fault)
        → IfOk r (λ t. Shown sql given old new (rows_of t))
        → IfOk r (λ t. IsTrue new.is_open × (y : View) × ((y ≡ x) × IsSeen before profile new ground y × Says y t))
    shown ground x it (Err e) h = tt
    shown ground x it (Ok t) h =
        let up = shown_open sql given old new (rows_of t) h in
        let found = finds t (ready_inside profile before old ground x it up) h in (
          found.0.0.is_open,
          x,
          (
            refl,
            inside_same profile before old new ground x found.0 it,
            found.1 x
                (it.reads up).holds,
          ),
        )

    pub lists : IsMove old new (IsSeen before profile old) (λ ground x t y. (y ≡ x) × IsSeen before profile new ground y
        × Says y t) result
    lists = record {
      survives = listed.survives;
      on = λ clean ground x it. listed.on clean it.mode ground it.back;
      moved = λ clean ground x it. shown ground x it result (listed.lists clean);
      faults = listed.faults;
    }

-- ---- one move after another

after_ok : {T : Type 0} (A : T → Type 0) (B : T → Type 0) (r : Result T Fault) → IfOk r A → ((t : T) → A t → B t)
    → IfOk r B
after_ok A B (Ok t) h f = f t h
after_ok A B (Err e) h f = tt

module _ {X : Type 0} where
  -- where the second move rests on it that the store is open
  pub then_moves_open : {T U : Type 0} {First Second : Ground → X → Type 0} {Middle : Ground → X → T → X → Type 0}
      {Last : Ground → X → U → X → Type 0} (Whole : Ground → X → U → X → Type 0) (a b c : State) (t : T)
      (r : Result U Fault)
      → IsMove a b First Middle (Ok t) → IsMove b c Second Last r
      → ((ground : Ground) (x y : X) → IsTrue b.is_open → First ground x → Middle ground x t y → Second ground y)
      → ((ground : Ground) (x y z : X) (u : U) → First ground x → Middle ground x t y → Last ground y u z
      → Whole ground x u z) → IsMove a c First Whole r
  then_moves_open Whole a b c t r one two leads joins = record {
    survives = quiet_then a b c one.survives two.survives;
    on = λ clean ground x it. let mid = one.moved (omega (arith, two.survives.clean)) ground x it in two.on clean ground
        mid.1 (leads ground x mid.1 mid.0 it mid.2);
    moved = λ clean ground x it.
        let mid = one.moved (omega (arith, two.survives.clean)) ground x it in
        after_ok _ _ r (two.moved clean ground mid.1 (leads ground x mid.1 mid.0 it mid.2))
        (λ u last. (last.0, last.1, joins ground x mid.1 last.1 u it mid.2 last.2));
    faults = two.faults;
  }

  pub then_moves : {T U : Type 0} {First Second : Ground → X → Type 0} {Middle : Ground → X → T → X → Type 0}
      {Last : Ground → X → U → X → Type 0} (Whole : Ground → X → U → X → Type 0) (a b c : State) (t : T)
      (r : Result U Fault)
      → IsMove a b First Middle (Ok t) → IsMove b c Second Last r
      → ((ground : Ground) (x y : X) → First ground x → Middle ground x t y → Second ground y)
      → ((ground : Ground) (x y z : X) (u : U) → First ground x → Middle ground x t y → Last ground y u z
      → Whole ground x u z) → IsMove a c First Whole r
  then_moves Whole a b c t r one two leads joins = then_moves_open Whole a b c t r one two
      (λ ground x y up it mid. leads ground x y it mid) joins

  -- a move where more is known to stand before
  pub moves_where : {T : Type 0} {First : Ground → X → Type 0} {Last : Ground → X → T → X → Type 0}
      (Where : Ground → X → Type 0) (a b : State) (r : Result T Fault) → IsMove a b First Last r
      → ((ground : Ground) (x : X) → Where ground x → First ground x)
      → IsMove a b Where (λ ground x t y. Where ground x × Last ground x t y) r
  moves_where Where a b r one leads = record {
    survives = one.survives;
    on = λ clean ground x it. one.on clean ground x (leads ground x it);
    moved = λ clean ground x it. after_ok _ _ r (one.moved clean ground x (leads ground x it))
        (λ t last. (last.0, last.1, (it, last.2)));
    faults = one.faults;
  }

  -- the same move, of which less is told
  pub moves_less : {T : Type 0} {First Where : Ground → X → Type 0} {Last : Ground → X → T → X → Type 0}
      (Less : Ground → X → T → X → Type 0) (a b : State) (r : Result T Fault) → IsMove a b First Last r
      → ((ground : Ground) (x : X) → Where ground x → First ground x)
      → ((ground : Ground) (x y : X) (t : T) → Where ground x → Last ground x t y → Less ground x t y)
      → IsMove a b Where Less r
  moves_less Less a b r one leads tells = record {
    survives = one.survives;
    on = λ clean ground x it. one.on clean ground x (leads ground x it);
    moved = λ clean ground x it. after_ok _ _ r (one.moved clean ground x (leads ground x it))
        (λ t last. (last.0, last.1, tells ground x last.1 t it last.2));
    faults = one.faults;
  }

  -- the same move, where the answer is made of the move's
  pub moves_as : {T U : Type 0} {First Where : Ground → X → Type 0} {Last : Ground → X → T → X → Type 0}
      {Less : Ground → X → U → X → Type 0} (a b : State) (t : T) (u : U) → IsMove a b First Last (Ok t)
      → ((ground : Ground) (x : X) → Where ground x → First ground x)
      → ((ground : Ground) (x y : X) → Where ground x → Last ground x t y → Less ground x u y)
      → IsMove a b Where Less (Ok u)
  moves_as a b t u one leads tells = record {
    survives = one.survives;
    on = λ clean ground x it. one.on clean ground x (leads ground x it);
    moved = λ clean ground x it. let last = one.moved clean ground x (leads ground x it) in
        (last.0, last.1, tells ground x last.1 it last.2);
    faults = tt;
  }

  pub move_failed : {T U : Type 0} {First Where : Ground → X → Type 0} {Last : Ground → X → T → X → Type 0}
      {Less : Ground → X → U → X → Type 0} (a b : State) (e : Fault) → IsMove a b First Last (Err e)
      → ((ground : Ground) (x : X) → Where ground x → First ground x) → IsMove a b Where Less (Err e)
  move_failed a b e one leads = record {
    survives = one.survives;
    on = λ clean ground x it. one.on clean ground x (leads ground x it);
    moved = λ clean ground x it. tt;
    faults = one.faults;
  }

  -- the first move, where the second failed
  pub then_failed : {T U : Type 0} {First Second : Ground → X → Type 0} {Middle : Ground → X → T → X → Type 0}
      {Last : Ground → X → U → X → Type 0} (a b c : State) (t : T) (e : Fault)
      → IsMove a b First Middle (Ok t) → IsMove b c Second Last (Err e)
      → ((ground : Ground) (x y : X) → IsTrue b.is_open → First ground x → Middle ground x t y → Second ground y)
      → IsMove a c First (λ (ground : Ground) (x : X) (u : U) (y : X). ⊥) (Err e)
  then_failed a b c t e one two leads = record {
    survives = quiet_then a b c one.survives two.survives;
    on = λ clean ground x it. let mid = one.moved (omega (arith, two.survives.clean)) ground x it in two.on clean ground
        mid.1 (leads ground x mid.1 mid.0 it mid.2);
    moved = λ clean ground x it. tt;
    faults = two.faults;
  }

  -- a move from whose answer another is made, or a fault
  pub move_made : {T U : Type 0} {First : Ground → X → Type 0} {Last : Ground → X → T → X → Type 0}
      (Less : Ground → X → U → X → Type 0) (a b : State) (t : T) (r : Result U Fault) → IsMove a b First Last (Ok t)
      → IfErr r IsStoreFault
      → IfOk r (λ u. (ground : Ground) (x y : X) → Last ground x t y → Less ground x u y) → IsMove a b First Less r
  move_made {T} {U} {First} {Last} Less a b t r one faults tells = record {
    survives = one.survives;
    on = one.on;
    moved = λ clean ground x it. let last = one.moved clean ground x it in after_ok _ _ r tells
        (λ u told. (last.0, last.1, told ground x last.1 last.2));
    faults = faults;
  }

  -- a move whose answer could not be told
  pub move_untold : {T U : Type 0} {First : Ground → X → Type 0} {Last : Ground → X → T → X → Type 0}
      {Less : Ground → X → U → X → Type 0} (a b : State) (t : T) (e : Fault) → IsMove a b First Last (Ok t)
      → IsStoreFault e → IsMove a b First Less (Err e)
  move_untold a b t e one fault =
      record { survives = one.survives; on = one.on; moved = λ clean ground x it. tt; faults = fault }
