-- From the import of a list's entries to that of a folder.
use Rattle.std.proofs.Common.{◌≡◌, ◌∙◌, ◌⊎◌, inl, inr, ℕ, ◌≤◌, ◌<◌, ◌+◌, List, length, Option, Some, None, Result, Ok}
use Rattle.std.proofs.Common.{Err, refl, sym, ap, arith}
use Rattle.std.proofs.Math.Nat.{max-eq_left}
use Rattle.std.specs.FinMap.{get}
use Rattle.mm_definitions.specs.Bounds.{current}
use Rattle.mm_definitions.specs.Keys.{Text}
use Rattle.mm_definitions.specs.Package.{Package, published_state}
use Rattle.mm_definitions.specs.Rules.{Meets}
use Rattle.mm_definitions.specs.declared.commands.Piece.{Piece}
use Rattle.mm_definitions.specs.declared.answers.Staged.{Staged}
use Rattle.mm_definitions.specs.declared.answers.Staged.TheVariants.{Refused}
use Rattle.std.proofs.lemmas.Bool.{le-ltb, lt-ltb}
use Rattle.mm_definitions.specs.declared.entries.EditionState.TheVariants as states
use Rattle.mm_definitions.specs.Standing.{TellsState}
use Rattle.mm_run.specs.Applied.{IsSound}
use Rattle.mm_kit.specs.Editions.{Edition, Open, Published, IsEdition, HasPieces}
use Rattle.mm_kit.specs.Folders.{Files}
use Rattle.mm_kit.specs.Imports.{IsImportAnswered, AreImported, AreStaged, AreStagedOn, HasCounted, ImportWorksOn}
use Rattle.mm_kit.specs.Imports.{GrowsAlong, IsCounted, OnlyGrows, MayBeStaged, IsImportStopped}
use Rattle.mm_kit.specs.Kits.{edition_answer, kit_of}
use Rattle.mm_kit.specs.Lists.{IsKitList}
use Rattle.mm_kit.specs.declared.entries.KitEntry.{KitEntry}
use Rattle.mm_kit.proofs.EditionFacts.{open_has}

zero_le : (n : ℕ) → 0 ≤ n
zero_le n = omega arith

-- the numbers from 51 to 55 are those of no file
no_file : (n : ℕ) → 51 ≤ n → n ≤ 55 → (n ≡ 57) ⊎ (n ≡ 11) → ⊥
no_file n low high (inl e) = absurd (omega (arith, high, e))
no_file n low high (inr e) = absurd (omega (arith, low, e))

-- nothing was staged
pub as_it_was : (name : Text) (p : Package) → IsCounted 0 name p p
as_it_was name p old has = (old, has, inl (sym (max-eq_left (zero_le (length old)))))

pub counted_as_it_was : (name : Text) (p : Package) → HasCounted 0 name p p
counted_as_it_was name p old has = (old, has, sym (max-eq_left (zero_le (length old))))

-- each edition is absent, open or published
pub some_edition : (p : Package) (name : Text) → Meets current p → (edition : Option Edition) × IsEdition p name edition
some_edition p name meets = by (get p.editions name) refl
  where
    by : (v : Option Text) → get p.editions name ≡ v → (edition : Option Edition) × IsEdition p name edition
    by None e = (None, e)
    by (Some s) e = elim (meets.q15.states name s e) as (λ _. (edition : Option Edition) × IsEdition p name edition) [
      | inl o ↦ let it = open_has p name _ meets (e ∙ ap Some o) refl in (Some (Open it.0), it.1)
      | inr o ↦ (Some Published, e ∙ ap Some o)
    ]

module _ (files : Files) (name : Text) (p : Package) where
  pub imported : (entries : List KitEntry) (a : Staged) (settled : Package → Type 0) → IsKitList files (Ok entries)
      → AreImported files name entries p settled a → IsImportAnswered files name p settled a
  imported entries a settled read it = record {
    list = Ok entries;
    read = read;
    edition = it.edition;
    stands = it.stands;
    answer_is = it.answer_is;
    next = it.next;
    sound = it.sound;
    grows = it.grows;
    has = it.has;
  }

  -- a list that is refused
  pub no_kit : (place number : ℕ) (settled : Package → Type 0) → IsKitList files (Err (place, number))
      → IsSound settled p
      → IsImportAnswered files name p settled (Refused place number)
  no_kit place number settled read sound =
      let it = some_edition p name sound.1 in
      record {
        list = Err (place, number);
        read = read;
        edition = it.0;
        stands = it.1;
        answer_is = refl;
        next = p;
        sound = sound;
        grows = inl refl;
        has = tt;
      }

  along : (list : Result (List KitEntry) (ℕ × ℕ)) → IsKitList files list → (q : Package)
      → OnlyGrows name (kit_of files list) p q → GrowsAlong files name p q
  along list read q (inl same) = inl same
  along list read q (inr grown) = inr (list, read, grown)

  pub stopped_some : {D : Type 0} (entries : List KitEntry) (may_leave : D → Type 0) (stands_for : D → Package → Type 0)
      (s : ℕ)
      → IsKitList files (Ok entries) → MayBeStaged files name entries p may_leave stands_for s
      → IsImportStopped files name p may_leave stands_for s
  stopped_some entries may_leave stands_for s read left db may =
      let (q, stands, meets, grows, counted) = left db may in
      (q, stands, meets, along (Ok entries) read q grows, counted)

  pub works_some : (entries : List KitEntry) (settled : Package → Type 0) (s : ℕ) → IsKitList files (Ok entries)
      → AreStagedOn files name entries p settled s → ImportWorksOn files name p settled s
  works_some entries settled s read (q, sound, grows, counted) = (q, sound, along (Ok entries) read q grows, counted)

  pub stopped_at_once : {D : Type 0} (may_leave : D → Type 0) (stands_for : D → Package → Type 0) → Meets current p
      → ((db : D) → may_leave db → stands_for db p) → IsImportStopped files name p may_leave stands_for 0
  stopped_at_once may_leave stands_for meets left db may = (p, left db may, meets, inl refl, as_it_was name p)

  pub staged_at_once : {D : Type 0} (entries : List KitEntry) (may_leave : D → Type 0)
      (stands_for : D → Package → Type 0) → Meets current p
      → ((db : D) → may_leave db → stands_for db p) → MayBeStaged files name entries p may_leave stands_for 0
  staged_at_once entries may_leave stands_for meets left db may = (p, left db may, meets, inl refl, as_it_was name p)

  -- ---- the import of the entries, by how the edition stands
  module _ (entries : List KitEntry) (settled : Package → Type 0) where
    at_once : (place number : ℕ) (edition : Option Edition) → IsEdition p name edition → IsSound settled p
        → Refused place number ≡ edition_answer files entries edition → ((number ≡ 57) ⊎ (number ≡ 11) → ⊥)
        → AreImported files name entries p settled (Refused place number)
    at_once place number edition stands sound is other =
        record {
          edition = edition;
          stands = stands;
          answer_is = is;
          next = p;
          sound = sound;
          grows = inl refl;
          has = λ why. absurd (other why);
        }

    pub imported_none : get p.editions name ≡ None → IsSound settled p
        → AreImported files name entries p settled (Refused 0 51)
    imported_none is sound = at_once 0 51 None is sound refl (no_file 51 (omega arith) (omega arith))

    pub imported_published : get p.editions name ≡ Some published_state → IsSound settled p
        → AreImported files name entries p settled (Refused 0 55)
    imported_published is sound = at_once 0 55 (Some Published) is sound refl (no_file 55 (omega arith) (omega arith))

    pub imported_longer : (count : ℕ) → TellsState p name (Some (states.Open count)) → length entries < count
        → IsSound settled p
        → AreImported files name entries p settled (Refused (length entries + 1) 52)
    imported_longer count tells less sound =
        let (old, has, size) = open_has p name count sound.1 tells.0 tells.1 in
        at_once (length entries + 1) 52 (Some (Open old)) has sound
        (rw (lt-ltb (length entries) (length old) (omega (arith, less, size))) refl)
        (no_file 52 (omega arith) (omega arith))

    pub imported_open : (old : List Piece) → HasPieces p name old → length old ≤ length entries → (a : Staged)
        → AreStaged files name entries p old settled a → AreImported files name entries p settled a
    imported_open old has most a it = record {
      edition = Some (Open old);
      stands = has;
      answer_is = it.answer_is ∙ rw (le-ltb (length entries) (length old) most) refl;
      next = it.next;
      sound = it.sound;
      grows = it.grows;
      has = it.has;
    }
