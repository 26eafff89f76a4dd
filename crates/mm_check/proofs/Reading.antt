-- A database whose blobs have their form reads as the package that it holds otherwise, and no other does.
use Rattle.std.proofs.Common.{◌≡◌, ◌⊎◌, inl, inr, ℤ, Bool, true, false, IsTrue, Result, Ok, Err, refl, sym, subst}
use Rattle.sqlite.specs.Effect.{Database}
use Rattle.sqlite.specs.State.{State, HasCleanDisk, IsUnchanged}
use Rattle.mm_definitions.specs.Package.{Package}
use Rattle.mm_definitions.specs.declared.answers.Fault.{Fault}
use Rattle.mm_definitions.specs.declared.answers.Open.{Open}
use Rattle.mm_definitions.specs.declared.answers.Open.TheVariants as opens
use Rattle.mm_store.specs.Kept.{Kept}
use Rattle.mm_store.specs.Stands.{ReadsAs}
use Rattle.mm_check.specs.Form.{KeepsAs, AreInForm, ReadsLoosely, IsFormCheck, DecidesReading, BlobsStand, BlobsFail}
use Rattle.mm_check.specs.Form.{TellsForm}

formed_reads : (version : ℤ) (db : Database) (kept : Kept) (p : Package) → ReadsLoosely version db kept p
    → AreInForm kept → ReadsAs version db p
formed_reads version db kept p l form =
    let h = l.holds in
    record {
      schema_is = l.keeps.schema_is;
      stands = record {
        sound = l.sound;
        rows = l.rows;
        holds = record {
          systems = h.systems;
          contents = h.contents;
          kinds = h.kinds;
          sets = h.sets;
          matrices = h.matrices;
          extensions = h.extensions;
          rows = h.rows;
          relations = h.relations;
          pairings = h.pairings;
          editions = h.editions;
          kept = kept;
          keeps = record {
            tiles = l.keeps.tiles;
            media = l.keeps.media;
            pieces = l.keeps.pieces;
            blobs = l.keeps.blobs;
            tiles_told = h.tiles_told;
            media_told = h.media_told;
            pieces_told = h.pieces_told;
            are = form.0;
            named = λ id b is. inl (form.1 id b is);
          };
          profile = h.profile;
        };
      };
    }

not_spared : {A : Type 0} → A ⊎ (◌≡◌ {A = Bool} false true) → A
not_spared (inl a) = a
not_spared (inr e) = absurd (let f : false ≡ true = e in cc)

pub reads_formed : (version : ℤ) (db : Database) (p : Package) → ReadsAs version db p → (kept : Kept) × KeepsAs db kept
    × AreInForm kept
reads_formed version db p r =
    let h = r.stands.holds in
    let k = h.keeps in (
      h.kept,
      record { schema_is = r.schema_is; tiles = k.tiles; media = k.media; pieces = k.pieces; blobs = k.blobs },
      (k.are, λ id b is. not_spared (k.named id b is)),
    )

pub decided : (old new : State) (result : Result Bool Fault) → IsFormCheck old new AreInForm result → HasCleanDisk new
    → DecidesReading old new result
decided old new (Err fault) h clean version kept p loosely = tt
decided old new (Ok b) h clean version kept p loosely =
    let same = h.same clean in
    let reads = loosely same.0 in
    let t = h.says clean kept (λ up. (loosely up).keeps) in (
      λ e. subst (λ db. ReadsAs version db p) (sym same.2) (formed_reads version old.now kept p reads (t.0 e)),
      λ after. let k = reads_formed version old.now p (subst (λ db. ReadsAs version db p) same.2 after) in
          (h.says clean k.0 (λ up. k.1)).1 k.2,
    )

-- ---- what is told of the form by one that was asked for

pub asked_stands : (old new : State) → IsFormCheck old new AreInForm (Ok true) → HasCleanDisk new → BlobsStand old
asked_stands old new it clean kept keeps = (it.says clean kept keeps).0 refl

pub asked_fails : (old new : State) → IsFormCheck old new AreInForm (Ok false) → HasCleanDisk new → BlobsFail old
asked_fails old new it clean kept keeps form = let e : false ≡ true = (it.says clean kept keeps).1 form in absurd (cc)

-- of a database that is as it was
module _ (old new : State) (same : IsUnchanged old new) where
  before : (kept : Kept) → (IsTrue old.is_open → KeepsAs old.now kept) → IsTrue new.is_open → KeepsAs new.now kept
  before kept keeps up = subst (λ db. KeepsAs db kept) (sym same.0.now_is) (keeps same.0.was_open)

  pub stand_as_before : BlobsStand new → BlobsStand old
  stand_as_before stands kept keeps = stands kept (before kept keeps)

  pub fail_as_before : BlobsFail new → BlobsFail old
  fail_as_before fails kept keeps = fails kept (before kept keeps)

  pub told_as_before : (result : Result (Unit {0}) Open) → TellsForm new result → TellsForm old result
  told_as_before (Ok u) it = stand_as_before it
  told_as_before (Err opens.BadBlobs) it = fail_as_before it
  told_as_before (Err (opens.Rule rule)) it = stand_as_before it
  told_as_before (Err (opens.Version version)) it = tt
  told_as_before (Err opens.NoProfile) it = tt
  told_as_before (Err opens.BadProfile) it = tt
  told_as_before (Err (opens.Fault fault)) it = tt

-- the form never fails of a database that reads as a package
pub formed_for : (version : ℤ) (s : State) (p : Package) → (IsTrue s.is_open → ReadsAs version s.now p) → BlobsFail s
    → IsTrue s.is_open → ⊥
formed_for version s p reads fails up = let it = reads_formed version s.now p (reads up) in fails it.0 (λ _. it.1) it.2
