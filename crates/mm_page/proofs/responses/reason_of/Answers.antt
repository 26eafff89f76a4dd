use Rattle.std.proofs.Common.{◌≡◌, ◌∙◌, Bor, List, ℕ, Option, Some, None, option_map, unwrap_or, refl, ap, []}
use Rattle.mm_page.specs.Responses.{reason}
use Rattle.mm_page.proofs.responses.reason_of.Goals as goal

told : (o : Option (Bor (List ℕ))) (e : Bor (List ℕ)) → e.now ≡ []
    → (unwrap_or o e).now ≡ unwrap_or (option_map (λ s. s.now) o) []
told None e h = h
told (Some s) e h = refl

pub returns : goal.returns
unfolding reason
returns c =
    ap (λ b. b.now) c.unwrap_or.ensures ∙ told c.canonical_reason.result _ refl
    ∙ ap (λ o. unwrap_or o []) c.canonical_reason.ensures.value
