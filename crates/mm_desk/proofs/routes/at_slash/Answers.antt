use Rattle.std.proofs.Common.{◌≡◌, ◌≢◌, ℕ, ◌<◌, Bor, ◌∷◌, ◌++◌, length, get_or, length-append, Option, Some, None}
use Rattle.std.proofs.Common.{MatchOption, false, ap, ◌∙◌, arith}
use Rattle.std.proofs.Math.Seq.{get_or-append_seam}
use Rattle.std.proofs.lemmas.Str.Pattern.{split_parts}
use Rattle.matchit.specs.Seek.{has_slash}
use Rattle.mm_definitions.specs.Keys.{Text}
use Rattle.mm_desk.proofs.RowPaths.{slash_free}
use Rattle.mm_desk.proofs.routes.at_slash.Goals as goal

parts : (text : Text) (r : Option (Bor Text × Bor Text)) → MatchOption r
    ((i : ℕ) → i < length text → get_or text i 0 ≢ 47)
    (λ x. (text ≡ x.0.now ++ (47 ∷ x.1.now)) × ((i : ℕ) → i < length x.0.now → get_or x.0.now i 0 ≢ 47))
    → MatchOption r ((front back : Text) → text ≢ (front ++ 47 ∷ back))
    (λ x. (text ≡ x.0.now ++ 47 ∷ x.1.now) × (has_slash x.0.now ≡ false))
parts text None none = λ front back is. none (length front)
    (omega (arith, ap length is, length-append front (47 ∷ back)))
    (ap (λ l. get_or l (length front) 0) is ∙ get_or-append_seam front 47 back 0)
parts text (Some x) it = (it.0, slash_free x.0.now it.1)

pub returns : goal.returns
returns c = parts c.args.text.now c.split_once.result
    (split_parts 47 c.args.text.now c.split_once.result c.split_once.ensures.cases (omega arith))
