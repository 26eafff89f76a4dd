-- From tables without a row to the opening package.
use Rattle.std.proofs.Common.{◌≡◌, ◌≢◌, true≢false, negsuc, ℕ, ℤ, pos, true, false, List, Option, Some, None, Result}
use Rattle.std.proofs.Common.{Ok, Err, OnOk, IsTrue, refl, sym, ap, subst, subst₂, ◌∙◌, arith, [], IfOk}
use Rattle.std.specs.declared.cmp.Ordering.{Ordering}
use Rattle.std.specs.Ordering.{eq_by_cmp, int_cmp}
use Rattle.std.specs.FinMap.{FinMap, get, insert, empty, get-empty}
use Rattle.sqlite.specs.Order.{Row}
use Rattle.sqlite.specs.Schema.{Schema}
use Rattle.sqlite.specs.Tree.{Trees, with_tree, put_row}
use Rattle.sqlite.specs.State.{State, ExecutesInside}
use Rattle.sql_forms.specs.Listing.{IsSound}
use Rattle.sql_forms.specs.Tables.{tables_of, IsReady, Leaves}
use Rattle.sql_forms.proofs.Tables.{bare_at, bare_rows}
use Rattle.mm_store.specs.Tables.{schema}
use Rattle.mm_definitions.specs.Bounds.{Profile}
use Rattle.mm_definitions.specs.Keys.{tile_cmp, item_cmp, piece_cmp, extension_cmp}
use Rattle.mm_definitions.specs.Package.{Package, System, general_extension}
use Rattle.mm_definitions.specs.Rules.{geographic, undefined_cartesian}
use Rattle.mm_definitions.specs.declared.answers.Fault.{Fault}
use Rattle.mm_definitions.proofs.Parts.{beside_put}
use Rattle.mm_definitions.proofs.KeyLaws.{numbers}
use Rattle.mm_store.specs.Rows.{Counts}
use Rattle.mm_store.specs.Blobs.{Shelf, Told, Tells}
use Rattle.mm_store.specs.Kept.{Kept, tile_id, tile_with, medium_id, medium_with, piece_id, piece_with}
use Rattle.mm_store.specs.Stands.{Holding, Ground, StandsInside, profile_row}
use Rattle.mm_store.specs.Statements.{IsRun}
use Rattle.mm_store.specs.Handed.{ChangesWhere}
use Rattle.sqlite.specs.Held.{state}
use Rattle.sqlite.specs.Store.{Ghosts}
use Rattle.sqlite.specs.declared.transaction.Transaction.{Transaction}
use Rattle.mm_store.proofs.Parts.{holds_none}
use Rattle.mm_store.proofs.Keys as parts
use Rattle.mm_store.proofs.Quiet.{quiet_then}
use Rattle.mm_meta.specs.Opening.{nothing, IsBareAt, IsCreating, IsMaking}
use Rattle.std.specs.Prelude.{⊤}

-- ---- the profile's row alone

no_entry : {K X : Type 0} (R : K → K → Ordering) (k : K) (x : X) → get (empty {X = X} {R = R}) k ≡ Some x → ⊥
no_entry R k x is = let e : None ≡ Some x = sym (get-empty R k) ∙ is in cc

-- no entry tells none
none_told : {K I V : Type 0} (R : K → K → Ordering) (id_of : I → Option ℤ) (filled : I → List ℕ → V) (shelf : Shelf)
    → Tells {R = R} id_of filled shelf empty empty
none_told R id_of filled shelf k = subst₂ (Told id_of filled shelf) (sym (get-empty R k)) (sym (get-empty R k)) refl

nothing_kept : Kept
nothing_kept = record { tiles = empty; media = empty; pieces = empty; shelf = empty }

pub nothing_holds : (version : ℤ) (db : Trees) → ((t : ℕ) → db t ≡ [])
    → Holding version (with_tree db 12 (put_row (profile_row version) (db 12))) nothing
unfolding nothing_kept
nothing_holds version db none = record {
  systems = holds_none parts.systems _ (none 0);
  contents = holds_none parts.contents _ (none 1);
  kinds = holds_none parts.kinds _ (none 13);
  sets = holds_none parts.sets _ (none 4);
  matrices = holds_none parts.matrices _ (none 6);
  extensions = subst (λ rs. Counts rs empty) (sym (none 8))
      (record { sound = λ r there. absurd there; counted = λ e. get-empty extension_cmp e });
  rows = holds_none parts.rows _ (none 17);
  relations = holds_none parts.relations _ (none 10);
  pairings = holds_none parts.pairings _ (none 21);
  editions = holds_none parts.editions _ (none 23);
  kept = nothing_kept;
  keeps = record {
    tiles = holds_none parts.tiles _ (none 15);
    media = holds_none parts.media _ (none 19);
    pieces = holds_none parts.pieces _ (none 25);
    blobs = holds_none parts.blobs _ (none 27);
    tiles_told = none_told tile_cmp tile_id tile_with empty;
    media_told = none_told item_cmp medium_id medium_with empty;
    pieces_told = none_told piece_cmp piece_id piece_with empty;
    are = record {
      digested = λ id b is. absurd (no_entry int_cmp id b is);
      filled = λ id b is. absurd (no_entry int_cmp id b is);
      single = λ i j b c is js. absurd (no_entry int_cmp i b is);
    };
    named = λ id b is. absurd (no_entry int_cmp id b is);
  };
  profile = ap (put_row (profile_row version)) (none 12);
}

module _ (profile : Profile) (old new : State) (sql : List ℕ) (given : Row) where
  -- a statement that makes the tables so
  pub makes : (tables : Trees → Trees) (p : Package) (result : Result (Unit {0}) Fault) → IsRun old new sql given result
      → ((count : ℕ) → IsReady schema old → ExecutesInside 0 sql given old new (Ok count)
      → Leaves schema old new (tables (tables_of schema old.now.trees)))
      → ((db : Trees) → ((t : ℕ) → db t ≡ []) → Holding profile.version (tables db) p)
      → IsMaking schema old new profile p result
  makes tables p result run leaves holds =
      record {
        survives = run.survives;
        made = λ clean ground it. go ground it result (run.ran clean it.mode);
        faults = run.faults;
      }
    where
      go : (ground : Ground) → IsBareAt schema old ground → (r : Result (Unit {0}) Fault)
          → OnOk r ((count : ℕ) × ExecutesInside 0 sql given old new (Ok count))
          → OnOk r (IsTrue new.is_open × StandsInside profile new ground p)
      go ground it (Err e) ran = tt
      go ground it (Ok u) ran =
          let up = ran.1.1.was_open in
          let bare = it.bare up in
          let left = leaves ran.0 (record
          { schema_is = bare.schema_is; inside = it.mode; rows = bare_rows schema old.now bare }) ran.1 in (
            left.is_open,
            record {
              mode = left.ready.inside;
              back = λ _. let on = it.back up in (left.committed ∙ on.0, on.1);
              reads = λ _. record {
                schema_is = left.ready.schema_is;
                stands = record {
                  sound = ∣ subst (λ s. IsSound s new.now.trees) left.ready.schema_is left.sound ∣₁;
                  rows = left.ready.rows;
                  holds = subst (λ db. Holding profile.version db p) (sym left.tables_are)
                      (holds (tables_of schema old.now.trees) (bare_at schema old.now bare));
                };
              };
            },
          )

module _ (profile : Profile) (from : Schema) where
  pub creating_makes : {T U : Type 0} (a b c : State) (mid : Schema) (p : Package) (t : T) (result : Result U Fault)
      → IsCreating from a b mid (Ok t)
      → IsMaking mid b c profile p result → IsMaking from a c profile p result
  creating_makes a b c mid p t result one two = record {
    survives = quiet_then a b c one.survives two.survives;
    made = λ clean ground bare. two.made clean ground (one.made (omega (arith, two.survives.clean)) ground bare).1;
    faults = two.faults;
  }

  pub creating_gave_up : {T U : Type 0} (a b : State) (mid : Schema) (p : Package) (e : Fault)
      → IsCreating {T = T} from a b mid (Err e)
      → IsMaking {T = U} from a b profile p (Err e)
  creating_gave_up a b mid p e one =
      record { survives = one.survives; made = λ clean ground bare. tt; faults = one.faults }

  pub making_then : {S T U : Type 0} {g : Ghosts S} {a b : Transaction S} {When : Package → Type 0} {next : Package
      → Package} {old : State} {p : Package} {t : T} {result : Result U Fault}
      → IsMaking from old (state g a.conn.now) profile p (Ok t) → ChangesWhere g a b When next result → When p
      → IsMaking from old (state g b.conn.now) profile (next p) result
  making_then {U = U} {g = g} {a = a} {b = b} {next = next} {old = old} {p = p} {result = result} one two when =
      record {
        survives = quiet_then old (state g a.conn.now) (state g b.conn.now) one.survives two.survives;
        made = λ clean ground it. less _ _ result
            (two.comes clean profile ground p (one.made (omega (arith, two.survives.clean)) ground it).1 when);
        faults = two.faults;
      }
    where
      less : (A B : Type 0) (r : Result U Fault) → IfOk r (λ _. A × B × ⊤) → OnOk r (A × B)
      less A B (Ok u) h = (h.0, h.1)
      less A B (Err e) h = tt

  pub making_failed : {T U : Type 0} (old new : State) (p q : Package) (e : Fault)
      → IsMaking {T = T} from old new profile p (Err e)
      → IsMaking {T = U} from old new profile q (Err e)
  making_failed old new p q e one =
      record { survives = one.survives; made = λ clean ground it. tt; faults = one.faults }

-- ---- the numbers of the given systems are free in turn

differs : (k l : ℤ) → eq_by_cmp int_cmp k k ≡ true → eq_by_cmp int_cmp k l ≡ false → k ≢ l
differs k l same other e = true≢false (sym same ∙ ap (eq_by_cmp int_cmp k) e ∙ other)

abbrev with_first : FinMap int_cmp System
with_first = insert empty (pos 4326) geographic

pub first_free : get (empty {X = System} {R = int_cmp}) (pos 4326) ≡ None
first_free = get-empty int_cmp (pos 4326)

pub second_free : get with_first (negsuc 0) ≡ None
second_free = beside_put numbers empty (pos 4326) geographic (negsuc 0) (differs (negsuc 0) (pos 4326) refl refl)
    ∙ get-empty int_cmp (negsuc 0)

pub third_free : get (insert with_first (negsuc 0) undefined_cartesian) (pos 0) ≡ None
third_free =
    beside_put numbers with_first (negsuc 0) undefined_cartesian (pos 0) (differs (pos 0) (negsuc 0) refl refl)
    ∙ beside_put numbers empty (pos 4326) geographic (pos 0) (differs (pos 0) (pos 4326) refl refl)
    ∙ get-empty int_cmp (pos 0)

pub general_free : get (empty {X = ℕ} {R = extension_cmp}) general_extension ≡ None
general_free = get-empty extension_cmp general_extension
