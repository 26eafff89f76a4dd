-- The numbers with which commands are refused, and the piece that 53 names.
use Rattle.std.proofs.Common.{◌≡◌, ℕ, Bool, true, false, not, ◌&&◌, ◌==◌, cond, min, [], ◌∷◌, ◌++◌, Option, Some}
use Rattle.std.proofs.Common.{None, Result, Ok, Err, is_err, is_some, if◌then◌else◌, refl, sym, ap, subst, ◌∙◌, ◌⊎◌}
use Rattle.std.proofs.Common.{inl, inr, arith}
use Rattle.std.proofs.Math.Bool.{and-false}
use Rattle.std.proofs.lemmas.Bool.{and_parts}
use Rattle.mm_definitions.proofs.Parts.{same_some}
use Rattle.mm_definitions.specs.Package.{Package}
use Rattle.mm_definitions.specs.Conditions.{Reasons, least, smaller, own_reasons, piece_reasons}
use Rattle.mm_definitions.specs.Editions.{PieceRefusal}
use Rattle.mm_definitions.specs.Step.{reasons, is_publishing, publishing, refused_piece, refusal_of, refusal}
use Rattle.mm_definitions.specs.Refusals.{Refusal}
use Rattle.mm_definitions.specs.declared.commands.Command.{Command}
use Rattle.mm_definitions.specs.declared.commands.Command.TheVariants as commands
use Rattle.mm_definitions.specs.declared.commands.Piece.{Piece}
use Rattle.mm_definitions.specs.declared.commands.Piece.TheVariants as pieces
use Rattle.mm_laws.specs.Laws.{is_reason_number, IsNumberedRefusal}

abbrev AllNumbers : (ℕ → Bool) → Reasons → Bool
AllNumbers test [] = true
AllNumbers test (r ∷ rs) = test r.0 && AllNumbers test rs

passes : (test : ℕ → Bool) (m : ℕ) (b : Bool) (v : Option ℕ) (n : ℕ) → test m ≡ true
    → ((k : ℕ) → v ≡ Some k → test k ≡ true)
    → smaller (cond b (Some m) None) v ≡ Some n → test n ≡ true
passes test m true None n this rest e = subst (λ k. test k ≡ true) (same_some e) this
passes test m true (Some k) n this rest e = subst (λ j. test j ≡ true) (same_some e)
    (elim (min_is m k) as (λ _. test (min m k) ≡ true) [
      | inl a ↦ ap test a ∙ this
      | inr b ↦ ap test b ∙ rest k refl
    ]) where
      min_is : (m n : ℕ) → (min m n ≡ m) ⊎ (min m n ≡ n)
      min_is m n = grind arith
passes test m false v n this rest e = rest n e

-- what is true of each number is true of the least that holds
least_passes : (test : ℕ → Bool) (rs : Reasons) (n : ℕ) → AllNumbers test rs ≡ true → least rs ≡ Some n → test n ≡ true
least_passes test [] n all e = absurd (let f : ◌≡◌ {A = Option ℕ} None (Some n) = e in cc)
least_passes test (r ∷ rs) n all e =
    let p = and_parts (test r.0) (AllNumbers test rs) all in
    passes test r.0 r.1 (least rs) n p.0 (λ k f. least_passes test rs k p.1 f) e

piece_numbers : (p : Package) (q : Piece) → AllNumbers (λ n. is_reason_number n && not (n == 53)) (piece_reasons p q)
    ≡ true
piece_numbers p (pieces.Tile table place bytes) = refl
piece_numbers p (pieces.TileDrop table place) = refl
piece_numbers p (pieces.Row table id title note amount) = refl
piece_numbers p (pieces.RowDrop table id) = refl
piece_numbers p (pieces.Media table id content_type bytes) = refl
piece_numbers p (pieces.MediaDrop table id) = refl
piece_numbers p (pieces.Map mapping base_id related_id) = refl
piece_numbers p (pieces.MapDrop mapping base_id related_id) = refl
piece_numbers p (pieces.Matrix table zoom m) = refl

own_numbers : (p : Package) (c : Command) → AllNumbers (λ n. is_reason_number n && not (n == 53)) (own_reasons p c)
    ≡ true
own_numbers p (commands.Srs id name organization organization_id definition description) = refl
own_numbers p (commands.Pyramid table identifier system min_x min_y max_x max_y step) = refl
own_numbers p (commands.Table table kind identifier) = refl
own_numbers p (commands.Drop table) = refl
own_numbers p (commands.Relation mapping base related name) = refl
own_numbers p (commands.RelationDrop mapping) = refl
own_numbers p (commands.Edition name) = refl
own_numbers p (commands.Discard name) = refl
own_numbers p (commands.Stage edition number q) = refl
own_numbers p (commands.Publish edition) = refl
own_numbers p (commands.Rehearse edition) = refl
own_numbers p (commands.Edit q) = piece_numbers p q

with_last : (test : ℕ → Bool) (rs : Reasons) (n : ℕ) (b : Bool) → AllNumbers test rs ≡ true → test n ≡ true
    → AllNumbers test (rs ++ (n, b) ∷ []) ≡ true
with_last test [] n b all this = ap (λ t. t && true) this
with_last test (r ∷ rs) n b all this =
    let p = and_parts (test r.0) (AllNumbers test rs) all in
    ap (λ t. t && AllNumbers test (rs ++ (n, b) ∷ [])) p.0 ∙ with_last test rs n b p.1 this

weaker : (test more : ℕ → Bool) (rs : Reasons) → ((n : ℕ) → test n ≡ true → more n ≡ true) → AllNumbers test rs ≡ true
    → AllNumbers more rs ≡ true
weaker test more [] so all = refl
weaker test more (r ∷ rs) so all =
    let p = and_parts (test r.0) (AllNumbers test rs) all in
    ap (λ t. t && AllNumbers more rs) (so r.0 p.0) ∙ weaker test more rs so p.1

without_last : (rs : Reasons) (n : ℕ) → least (rs ++ (n, false) ∷ []) ≡ least rs
without_last [] n = refl
without_last (r ∷ rs) n = ap (smaller (cond r.1 (Some r.0) None)) (without_last rs n)

-- 53 is the least only where it holds
last_holds : (rs : Reasons) (b : Bool) (n : ℕ) → AllNumbers (λ n. not (n == 53)) rs ≡ true
    → least (rs ++ (53, b) ∷ []) ≡ Some n → (n == 53) ≡ true → b ≡ true
last_holds rs true n all e same = refl
last_holds rs false n all e same =
    let other = least_passes (λ n. not (n == 53)) rs n all (sym (without_last rs 53) ∙ e) in
    absurd (let f : false ≡ true = sym (ap not same) ∙ other in cc)

named : (b : Bool) (v : Result Package PieceRefusal) → (b && is_err v) ≡ true → is_some (refused_piece v) ≡ true
named b (Ok q) e = absurd (let f : false ≡ true = sym (and-false b) ∙ e in cc)
named b (Err r) e = refl

if_so : (t : Bool) (piece : Option PieceRefusal) → (t ≡ true → is_some piece ≡ true)
    → is_some (if t then piece else None) ≡ t
if_so true piece h = h refl
if_so false piece h = refl

pub numbered : (p : Package) (c : Command) (r : Refusal) → refusal p c ≡ Some r → IsNumberedRefusal r
numbered p c r e = by_least (least (reasons p c)) refl e where
  all : (p : Package) (c : Command) → AllNumbers is_reason_number (reasons p c) ≡ true
  all p c = with_last is_reason_number (own_reasons p c) 53 (is_publishing p c && is_err (publishing p c []))
      (weaker (λ n. is_reason_number n && not (n == 53)) is_reason_number (own_reasons p c)
      (λ n h. (and_parts (is_reason_number n) (not (n == 53)) h).0) (own_numbers p c)) refl

  not_it : (p : Package) (c : Command) → AllNumbers (λ n. not (n == 53)) (own_reasons p c) ≡ true
  not_it p c = weaker (λ n. is_reason_number n && not (n == 53)) (λ n. not (n == 53)) (own_reasons p c)
      (λ n h. (and_parts (is_reason_number n) (not (n == 53)) h).1) (own_numbers p c)

  by_least : (v : Option ℕ) → least (reasons p c) ≡ v → refusal_of v (refused_piece (publishing p c [])) ≡ Some r
      → IsNumberedRefusal r
  by_least None l f = absurd (let g : ◌≡◌ {A = Option Refusal} None (Some r) = f in cc)
  by_least (Some n) l f = subst IsNumberedRefusal (same_some f) (record {
    known = least_passes is_reason_number (reasons p c) n (all p c) l;
    names_a_piece = if_so (n == 53) (refused_piece (publishing p c []))
        (λ same. named (is_publishing p c) (publishing p c [])
        (last_holds (own_reasons p c) (is_publishing p c && is_err (publishing p c [])) n (not_it p c) l same));
  })
