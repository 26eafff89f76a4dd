-- The values of a name in a list of headers with one more.
use Rattle.std.proofs.Common.{◌≡◌, ◌++◌, ◌∷◌, [], List, Bool, true, false, refl, ap, ◌∙◌, append-nil}
use Rattle.std.specs.Prelude.{if◌then◌else◌}
use Rattle.std.proofs.lemmas.Grind.{flat_map-append}
use Rattle.http1.specs.Fields.{Header, is_named, values_named}
use Rattle.mm_definitions.specs.Keys.{Text}

abbrev own : Text → Bool → List Text
own v true = v ∷ []
own v false = []

as_if : (v : Text) (b : Bool) → (if b then v ∷ [] else []) ≡ own v b
as_if v true = refl
as_if v false = refl

pub named_push : (name : Text) (hs : List Header) (h : Header) → values_named name (hs ++ h ∷ []) ≡ values_named name hs
    ++ own h.1 (is_named name h)
named_push name hs h = flat_map-append (λ it. if is_named name it then it.1 ∷ [] else []) hs (h ∷ [])
    ∙ ap (λ l. values_named name hs ++ l) (append-nil (if is_named name h then h.1 ∷ [] else [])
    ∙ as_if h.1 (is_named name h))

pub named_yes : (name : Text) (hs : List Header) (h : Header) → is_named name h ≡ true
    → values_named name (hs ++ h ∷ []) ≡ values_named name hs ++ h.1 ∷ []
named_yes name hs h is = named_push name hs h ∙ ap (λ b. values_named name hs ++ own h.1 b) is

pub named_no : (name : Text) (hs : List Header) (h : Header) → is_named name h ≡ false
    → values_named name (hs ++ h ∷ []) ≡ values_named name hs
named_no name hs h is = named_push name hs h ∙ ap (λ b. values_named name hs ++ own h.1 b) is
    ∙ append-nil (values_named name hs)
