use Rattle.std.proofs.Common.{◌≡◌, true, false, Some, option_map, string_bytes, sym, ap, ◌∙◌}
use Rattle.std.proofs.lemmas.Slice.Eq.{bytes_eq-Decides}
use Rattle.mm_store.proofs.Going.{tells}
use Rattle.mm_layout.proofs.contents.is_stamped.Goals as goal

pub returns-in-Some : goal.returns-in-Some
returns-in-Some g c =
    let decides = bytes_eq-Decides c.as_str.result.now c.args.last_change.now in
    tells c.in_ok-text.ensures (λ profile p says yes.
    says ∙ ap (option_map string_bytes) c.in-Some.is
    ∙ ap Some (sym c.as_str.ensures.value ∙ decides.0 (sym c.eq.ensures ∙ yes)))

pub returns-in-None : goal.returns-in-None
returns-in-None g c = tells c.in_ok-text.ensures (λ profile p says yes. absurd (let e : false ≡ true = yes in cc))
