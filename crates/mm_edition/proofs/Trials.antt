-- How far the publishing of an edition has come, piece by piece.
use Rattle.std.proofs.Common.{◌≡◌, inl, le_refl, ℕ, suc, ◌+◌, pos, unsigned_abs, refl, sym, ap, subst, ◌∙◌}
use Rattle.std.proofs.Common.{List, [], ◌∷◌, Option, Some, None, Result, Ok, Err}
use Rattle.std.specs.Prelude.{⊤, IsErrAnd, IsTrue}
use Rattle.std.proofs.Math.Numerals.{add-one}
use Rattle.std.specs.FinMap.{get}
use Rattle.sqlite.specs.Held.{state}
use Rattle.sqlite.specs.State.{State}
use Rattle.sqlite.specs.Store.{Ghosts}
use Rattle.sqlite.specs.declared.transaction.Transaction.{Transaction}
use Rattle.mm_definitions.specs.Bounds.{Profile}
use Rattle.mm_definitions.specs.Keys.{Text, PieceKey, piece}
use Rattle.mm_definitions.specs.Package.{Package, Contents, PieceRow}
use Rattle.mm_definitions.specs.Pieces.{piece_row, piece_by_kind, row_piece}
use Rattle.mm_definitions.specs.Rules.{Meets, IsSpelled}
use Rattle.mm_definitions.specs.Stamp.{IsStamp}
use Rattle.mm_definitions.specs.Within.{IsPieceWithin}
use Rattle.mm_definitions.specs.Conditions.{least, piece_reasons, pieces_of}
use Rattle.mm_definitions.specs.Effects.{piece_effect, touched_row}
use Rattle.mm_definitions.specs.Editions.{decided, piece_trial, after_trial, trial, edition_trial}
use Rattle.mm_definitions.specs.declared.answers.Fault.{Fault}
use Rattle.mm_definitions.specs.declared.commands.Piece.{Piece}
use Rattle.mm_definitions.specs.declared.commands.Piece.TheVariants as pieces
use Rattle.mm_definitions.proofs.Parts.{same_some, not_none}
use Rattle.mm_laws.proofs.InOrder.{AreFrom, pieces_in_order}
use Rattle.mm_laws.proofs.OneStamp.{stamped_moment}
use Rattle.mm_laws.proofs.Published.{by_kind, piece_keeps, read_back}
use Rattle.mm_definitions.specs.Faults.{store}
use Rattle.mm_store.specs.Stands.{Ground, StandsInside}
use Rattle.mm_edition.specs.Turns.{IsOpened, row_given, piece_given, after_turn, TellsPieceTurn, TakesTurn, TellsTrial}
use Rattle.mm_edition.specs.Turns.{Attempts, TriesPieces}
use Rattle.mm_edition.specs.declared.running.Turn.{Turn}
use Rattle.mm_edition.specs.declared.running.Turn.TheVariants.{Done, End, Refused}
use Rattle.mm_edition.proofs.Attempting.{attempts, attempts_then, attempts_failed, attempts_fault}

-- ---- a piece leaves the editions and what is staged

touched_apart : (p : Package) (table at : Text) (v : Option Contents)
    → ((touched_row p table at v).editions ≡ p.editions) × ((touched_row p table at v).pieces ≡ p.pieces)
touched_apart p table at None = (refl, refl)
touched_apart p table at (Some c) = (refl, refl)

piece_apart : (p : Package) (q : Piece) (at : Text) → ((piece_effect p q at).editions ≡ p.editions)
    × ((piece_effect p q at).pieces ≡ p.pieces)
piece_apart p (pieces.Tile table place bytes) at = touched_apart _ table at (get p.contents table)
piece_apart p (pieces.TileDrop table place) at = touched_apart _ table at (get p.contents table)
piece_apart p (pieces.Row table id title note amount) at = touched_apart _ table at (get p.contents table)
piece_apart p (pieces.RowDrop table id) at = touched_apart _ table at (get p.contents table)
piece_apart p (pieces.Media table id content_type bytes) at = touched_apart _ table at (get p.contents table)
piece_apart p (pieces.MediaDrop table id) at = touched_apart _ table at (get p.contents table)
piece_apart p (pieces.Map mapping base_id related_id) at = (refl, refl)
piece_apart p (pieces.MapDrop mapping base_id related_id) at = (refl, refl)
piece_apart p (pieces.Matrix table zoom m) at = touched_apart _ table at (get p.contents table)

-- a piece that stands in a package of the rules is within the limits
stands_within : (profile : Profile) (q : Piece) → IsSpelled profile (piece_row q) → IsPieceWithin profile q
stands_within profile q is = subst (IsPieceWithin profile)
    (same_some (sym (by_kind is.0) ∙ ap piece_by_kind (sym is.1) ∙ by_kind q)) is.2

-- ---- one piece of the list

module _ (q : Package) (e : PieceKey × PieceRow) (es : List (PieceKey × PieceRow)) (x : Piece)
    (row_is : e.1 ≡ piece_row x) (at : Text) where
  spelled_is : row_piece e.1 ≡ Some x
  spelled_is = ap row_piece row_is ∙ read_back x

  trial_is : (v : Option ℕ) → least (piece_reasons q x) ≡ v
      → trial (e ∷ es) q at ≡ after_trial (decided q (unsigned_abs e.0.number) x at v) (λ next. trial es next at)
  trial_is v is = ap (λ o. after_trial (piece_trial q (unsigned_abs e.0.number) at o) (λ next. trial es next at))
      spelled_is ∙ ap (λ o. after_trial (decided q (unsigned_abs e.0.number) x at o) (λ next. trial es next at)) is

-- ---- how far it has come

-- The pieces before this number were done in turn, the transaction stands for what they gave, and the rest goes on from
-- it.
pub record IsOn (edition at : Text) (number : ℕ) (profile : Profile) (s : State) (ground : Ground) (p : Package) : Type
    0 where
  pub edited : Package
  pub meets : Meets profile edited
  pub inside : StandsInside profile s ground edited
  pub editions : edited.editions ≡ p.editions
  pub pieces : edited.pieces ≡ p.pieces
  pub rest : List (PieceKey × PieceRow)
  pub are : AreFrom p.pieces edition number rest
  pub goes_on : trial rest edited at ≡ edition_trial p edition at

module _ (edition at : Text) (number : ℕ) (profile : Profile) (s : State) (ground : Ground) (p : Package)
    (on : IsOn edition at number profile s ground p) where
  abbrev key : PieceKey
  key = piece edition (pos number)

  none_is : get on.edited.pieces key ≡ None → get p.pieces key ≡ None
  none_is none = ap (λ m. get m key) (sym on.pieces) ∙ none

  row_is : (x : Piece) → get on.edited.pieces key ≡ Some (piece_row x) → (e : PieceKey × PieceRow) → e.0 ≡ key
      → get p.pieces e.0 ≡ Some e.1 → e.1 ≡ piece_row x
  row_is x there e key_is stands =
      same_some (sym stands ∙ (ap (get p.pieces) key_is ∙ (ap (λ m. get m key) (sym on.pieces) ∙ there)))

  -- one more is done
  pub one_more : (s' : State) (moment : ℕ) → IsStamp moment at
      → StandsInside profile s' ground (after_turn edition number at on.edited Done)
      → TellsPieceTurn edition number on.edited Done
      → IsOn edition at (number + 1) profile s' ground p
  one_more s' moment stamped inside (x, there, none) = subst (λ n. IsOn edition at n profile s' ground p)
      (sym (add-one number)) (by on.rest on.are on.goes_on)
    where
      by : (rest : List (PieceKey × PieceRow)) → AreFrom p.pieces edition number rest
          → trial rest on.edited at ≡ edition_trial p edition at
          → IsOn edition at (suc number) profile s' ground p
      by [] are goes_on = absurd (not_none (ap (λ m. get m key) (sym on.pieces) ∙ there) are)
      by (e ∷ es) are goes_on = record {
        edited = piece_effect on.edited x at;
        meets =
            let within = stands_within profile x (on.meets.q15.spelled key (piece_row x) there) in
            piece_keeps x profile on.edited moment at on.meets within (stamped_moment moment at stamped) stamped none;
        inside = subst (StandsInside profile s' ground)
            (ap (row_given on.edited at) there ∙ ap (piece_given on.edited at) (read_back x)) inside;
        editions = (piece_apart on.edited x at).0 ∙ on.editions;
        pieces = (piece_apart on.edited x at).1 ∙ on.pieces;
        rest = es;
        are = are.2;
        goes_on = sym (trial_is on.edited e es x (row_is x there e are.0 are.1) at None none) ∙ goes_on;
      }

  -- all are done
  pub all_done : (s' : State) → IsTrue s'.is_open → StandsInside profile s' ground on.edited
      → TellsPieceTurn edition number on.edited End
      → TellsTrial edition at profile s' ground p None
  all_done s' up inside none = (on.edited, sym on.goes_on ∙ by on.rest on.are, on.editions, up, inside)
    where
      by : (rest : List (PieceKey × PieceRow)) → AreFrom p.pieces edition number rest
          → trial rest on.edited at ≡ Ok on.edited
      by [] are = refl
      by (e ∷ es) are = absurd (not_none are.1 (ap (get p.pieces) are.0 ∙ none_is none))

  -- this one is refused
  pub one_refused : (s' : State) (why : ℕ) → TellsPieceTurn edition number on.edited (Refused why)
      → TellsTrial edition at profile s' ground p (Some (number, why))
  one_refused s' why (x, there, reason) = sym on.goes_on ∙ by on.rest on.are
    where
      by : (rest : List (PieceKey × PieceRow)) → AreFrom p.pieces edition number rest
          → trial rest on.edited at ≡ Err (number, why)
      by [] are = absurd (not_none (ap (λ m. get m key) (sym on.pieces) ∙ there) are)
      by (e ∷ es) are =
          trial_is on.edited e es x (row_is x there e are.0 are.1) at (Some why) reason
          ∙ ap (λ (k : PieceKey). Err (unsigned_abs k.number, why)) are.0

-- ---- the loop: what is done before this number, and then one turn

abbrev pub HasDone : {S : Type 0} (g : Ghosts S) (old new : Transaction S) (edition at : Text) (number : ℕ) → Type 0
HasDone g old new edition at number =
    Attempts g old new {T = ⊤} (IsOpened edition at)
    (λ profile s ground p it. IsOn edition at number profile s ground p) (Ok tt)

module _ {S : Type 0} {g : Ghosts S} where
  pub begins : {a : Transaction S} {edition at : Text} → HasDone g a a edition at 1
  begins {edition = edition} = record {
    same = refl;
    survives = record {
      clean = le_refl _;
      shield = λ is. is;
      counts = le_refl _;
      limit = refl;
      closes = λ clean is_open. inl is_open;
      crash = λ clean db may. inl may;
    };
    on = λ clean profile ground p it when. it.back;
    tells = λ clean profile ground p it when. record {
      edited = p;
      meets = when.0;
      inside = it;
      editions = refl;
      pieces = refl;
      rest = pieces_of p edition;
      are = let n = when.0.q15.numbered edition when.1 in pieces_in_order p edition n.0 n.2;
      goes_on = refl;
    };
    faults = tt;
  }

  module _ {a b : Transaction S} {edition at : Text} {number : ℕ} (done : HasDone g a b edition at number) where
    pub trial_endless : TriesPieces g a b edition at (Err store)
    trial_endless = record { attempt = attempts_fault done }

    module _ {c : Transaction S} where
      pub goes_on_after : {it : Turn} → TakesTurn g b c edition number at (Ok it) → it ≡ Done
          → HasDone g a c edition at (number + 1)
      goes_on_after turn is = attempts_then done (attempts (rw is at turn.goes)) (λ profile ground p when on. (
        on.edited,
        on.inside,
        on.meets,
        λ end. one_more edition at number profile (state g b.conn.now) ground p on (state g c.conn.now) when.2 when.3
            end.1 end.2,
      ))

      pub trial_ended : {it : Turn} → TakesTurn g b c edition number at (Ok it) → it ≡ End
          → TriesPieces g a c edition at (Ok None)
      trial_ended turn is = record {
        attempt = attempts_then done (attempts (rw is at turn.goes)) (λ profile ground p when on. (
          on.edited,
          on.inside,
          on.meets,
          λ end. all_done edition at number profile (state g b.conn.now) ground p on (state g c.conn.now) end.0 end.1
              end.2,
        ));
      }

      pub trial_refused : {it : Turn} {why : ℕ} → TakesTurn g b c edition number at (Ok it) → it ≡ Refused why
          → TriesPieces g a c edition at (Ok (Some (number, why)))
      trial_refused {why = why} turn is = record {
        attempt = attempts_then done (attempts (rw is at turn.goes)) (λ profile ground p when on. (
          on.edited,
          on.inside,
          on.meets,
          λ end. one_refused edition at number profile (state g b.conn.now) ground p on (state g c.conn.now) why end.2,
        ));
      }

      pub trial_gave_up : {e : Fault} {r : Result (Option (ℕ × ℕ)) Fault} → TakesTurn g b c edition number at (Err e)
          → IsErrAnd r (λ f. f ≡ e)
          → TriesPieces g a c edition at r
      trial_gave_up turn is = record {
        attempt = attempts_failed done (attempts turn.goes) is
            (λ profile ground p when on. (on.edited, on.inside, on.meets));
      }
