-- What an import asks and tells since its editor was as it was at first, and what that comes to where it was settled.
use Rattle.std.proofs.Common.{◌≡◌, ◌∙◌, inl, inr, ℕ, pos, List, length, Option, Some, None, Result, Ok, Err, subst}
use Rattle.mm_definitions.specs.Bounds.{current}
use Rattle.mm_definitions.specs.Keys.{Text}
use Rattle.mm_definitions.specs.Package.{Package}
use Rattle.mm_definitions.specs.Rules.{Meets}
use Rattle.mm_definitions.specs.Standing.{TellsState}
use Rattle.mm_definitions.specs.declared.entries.EditionState.{EditionState}
use Rattle.mm_definitions.specs.declared.entries.EditionState.TheVariants as states
use Rattle.mm_definitions.specs.declared.commands.Command.TheVariants as commands
use Rattle.mm_definitions.specs.declared.commands.Piece.{Piece}
use Rattle.mm_definitions.specs.declared.answers.Fault.{Fault}
use Rattle.mm_definitions.specs.declared.answers.KitFault.{KitFault}
use Rattle.mm_definitions.specs.declared.answers.Staged.{Staged}
use Rattle.mm_run.specs.Applied.{IsSound}
use Rattle.mm_run.specs.Sessions.{shown, shown_since}
use Rattle.mm_run.specs.Shown.{Shown}
use Rattle.mm_run.specs.declared.apply.Apply.{Ghosts}
use Rattle.mm_run.proofs.Since.{Eases, SettledIs, either_eased, settles, since, sound_eased, sound_seen}
use Rattle.mm_kit.specs.Editions.{HasPieces}
use Rattle.mm_kit.specs.Folders.{Files}
use Rattle.mm_kit.specs.Imports.{AreStaged, AreStagedOn, ImportWorksOn, IsEntryStaged, IsImportAnswered, IsImportKept}
use Rattle.mm_kit.specs.Imports.{IsImportStopped}
use Rattle.mm_kit.specs.Imports.{IsStillKept, MayBeStaged}
use Rattle.mm_kit.specs.Promised.{Imports}
use Rattle.mm_kit.specs.declared.entries.KitEntry.{KitEntry}
use Rattle.mm_kit.proofs.EditionFacts.{open_has}

module _ {D : Type 0} (a b : Shown D) (eases : Eases a b) where
  entry_eased : (told : Option Files) (e : KitEntry) (name : Text) (n : ℕ) (p : Package) (moment : ℕ)
      (result : Result (Option ℕ) Fault)
      → IsEntryStaged told e name n p moment a result → IsEntryStaged told e name n p moment b result
  entry_eased told e name n p moment (Ok None) h = (h.0, h.1, h.2, sound_eased a b eases _ h.3)
  entry_eased told e name n p moment (Ok (Some number)) h = (sound_eased a b eases p h.0, h.1)
  entry_eased told e name n p moment (Err fault) (inl h) = inl (sound_eased a b eases p h.0, eases.failed ∙ h.1)
  entry_eased told e name n p moment (Err fault) (inr h) =
      inr (eases.failed ∙ h.0, h.1, h.2, h.3, either_eased a b eases p (commands.Stage name (pos n) h.1) moment h.4)

  pub are_staged_eased : (files : Files) (name : Text) (entries : List KitEntry) (p : Package) (old : List Piece)
      (answer : Staged)
      → AreStaged files name entries p old a.settled answer → AreStaged files name entries p old b.settled answer
  are_staged_eased files name entries p old answer it = record {
    answer_is = it.answer_is;
    next = it.next;
    sound = sound_eased a b eases it.next it.sound;
    grows = it.grows;
    has = it.has;
  }

  answered_eased : (files : Files) (name : Text) (p : Package) (answer : Staged)
      → IsImportAnswered files name p a.settled answer
      → IsImportAnswered files name p b.settled answer
  answered_eased files name p answer it = record {
    list = it.list;
    read = it.read;
    edition = it.edition;
    stands = it.stands;
    answer_is = it.answer_is;
    next = it.next;
    sound = sound_eased a b eases it.next it.sound;
    grows = it.grows;
    has = it.has;
  }

  pub may_be_staged_eased : (files : Files) (name : Text) (entries : List KitEntry) (p : Package) (s : ℕ)
      → MayBeStaged files name entries p a.may_leave a.stands_for s
      → MayBeStaged files name entries p b.may_leave b.stands_for s
  may_be_staged_eased files name entries p s it db may =
      let (q, stands, meets, grows, counted) = it db (eases.left db may) in
      (q, eases.stands db q stands, meets, grows, counted)

  stopped_eased : (files : Files) (name : Text) (p : Package) (s : ℕ)
      → IsImportStopped files name p a.may_leave a.stands_for s
      → IsImportStopped files name p b.may_leave b.stands_for s
  stopped_eased files name p s it db may =
      let (q, stands, meets, grows, counted) = it db (eases.left db may) in
      (q, eases.stands db q stands, meets, grows, counted)

  pub staged_on_eased : (files : Files) (name : Text) (entries : List KitEntry) (p : Package) (s : ℕ)
      → AreStagedOn files name entries p a.settled s → AreStagedOn files name entries p b.settled s
  staged_on_eased files name entries p s (q, sound, grows, counted) = (q, sound_eased a b eases q sound, grows, counted)

  works_eased : (files : Files) (name : Text) (p : Package) (s : ℕ) → ImportWorksOn files name p a.settled s
      → ImportWorksOn files name p b.settled s
  works_eased files name p s (q, sound, grows, counted) = (q, sound_eased a b eases q sound, grows, counted)

  pub kept_eased : (name : Text) (p : Package) (result : Result Staged KitFault)
      → IsImportKept name p a.settled a.may_leave a.stands_for result
      → IsImportKept name p b.settled b.may_leave b.stands_for result
  kept_eased name p (Ok answer) (q, sound, others) = (q, sound_eased a b eases q sound, others)
  kept_eased name p (Err e) it =
      λ db may. let (q, stands, meets, others) = it db (eases.left db may) in
      (q, eases.stands db q stands, meets, others)

  pub still_kept_eased : (name : Text) (p : Package) → IsStillKept name p a.settled → IsStillKept name p b.settled
  still_kept_eased name p (q, sound, others) = (q, sound_eased a b eases q sound, others)

module _ {A : Type 0} (ghosts : Ghosts A) where
  -- one entry more
  pub entry_since : (first mid new : A) (told : Option Files) (e : KitEntry) (name : Text) (n moment : ℕ)
      (result : Result (Option ℕ) Fault)
      (clean : Type 0)
      → (clean → (q : Package) → IsSound (ghosts.seen mid) q → IsEntryStaged told e name n q moment
      (shown_since ghosts mid q new) result)
      → (was : Package) → clean → (q : Package) → IsSound (shown_since ghosts first was mid).settled q
      → IsEntryStaged told e name n q moment (shown_since ghosts first was new) result
  entry_since first mid new told e name n moment result clean staged was is q sound =
      entry_eased (shown_since ghosts mid q new) (shown_since ghosts first was new)
      (since ghosts first was mid q sound.0 new) told e name n q
      moment result (staged is q (sound.0.0, sound.1))

  module _ (clean : Type 0) (old new : A) where
    -- the editor was asked how an edition stands, and is settled as before
    pub asked_keeps : (clean → (p : Package) → ghosts.seen old p → Meets current p
        → (shown_since ghosts old p new).settled p)
        → clean → (p : Package) → IsSound (ghosts.seen old) p → IsSound (shown_since ghosts old p new).settled p
    asked_keeps settled is p sound = (settled is p sound.0 sound.1, sound.1)

    -- it told that the edition is open with so many pieces
    pub stands_open : (name : Text) (count : ℕ) (found : Option EditionState) → found ≡ Some (states.Open count)
        → (clean → (p : Package) → ghosts.seen old p → Meets current p → (shown_since ghosts old p new).settled p)
        → (clean → (p : Package) → ghosts.seen old p → Meets current p → TellsState p name found)
        → clean → (p : Package) → IsSound (ghosts.seen old) p
        → (pieces : List Piece) × HasPieces p name pieces × (length pieces ≡ count)
        × IsSound (shown_since ghosts old p new).settled p
    stands_open name count found told_so settled tells is p sound =
        let told = subst (TellsState p name) told_so (tells is p sound.0 sound.1) in
        let (pieces, has, size) = open_has p name count sound.1 told.0 told.1 in
        (pieces, has, size, asked_keeps settled is p sound)

  -- What is promised of an editor that reads as a package holds of one that is settled for it.
  pub imports_settled : SettledIs ghosts → (name : Text) (clean : Type 0) (old new : A) (told : Option Files)
      (result : Result Staged KitFault)
      → Imports name clean (ghosts.seen old) told (ghosts.has_failed old) (λ p. shown_since ghosts old p new) result
      → Imports name clean (ghosts.settled old) told (ghosts.has_failed old) (λ p. shown ghosts new) result
  imports_settled law name clean old new told (Ok answer) it = record {
    answered = λ is p sound files tells.
        answered_eased (shown_since ghosts old p new) (shown ghosts new) (settles ghosts law old p sound.0 new) files
        name p answer
        (it.answered is p (sound_seen ghosts law old p sound) files tells);
    stopped = tt;
    works = tt;
    kept = λ is p sound.
        kept_eased (shown_since ghosts old p new) (shown ghosts new) (settles ghosts law old p sound.0 new) name p
        (Ok answer)
        (it.kept is p (sound_seen ghosts law old p sound));
    still_kept = tt;
  }
  imports_settled law name clean old new told (Err e) it = record {
    answered = tt;
    stopped = λ is p sound files tells.
        stopped_eased (shown_since ghosts old p new) (shown ghosts new) (settles ghosts law old p sound.0 new) files
        name p e.staged
        (it.stopped is p (sound_seen ghosts law old p sound) files tells);
    works = λ is p sound files tells same.
        works_eased (shown_since ghosts old p new) (shown ghosts new) (settles ghosts law old p sound.0 new) files name
        p e.staged
        (it.works is p (sound_seen ghosts law old p sound) files tells same);
    kept = λ is p sound.
        kept_eased (shown_since ghosts old p new) (shown ghosts new) (settles ghosts law old p sound.0 new) name p
        (Err e)
        (it.kept is p (sound_seen ghosts law old p sound));
    still_kept = λ is p sound same.
        still_kept_eased (shown_since ghosts old p new) (shown ghosts new) (settles ghosts law old p sound.0 new) name p
        (it.still_kept is p (sound_seen ghosts law old p sound) same);
  }
