-- Texts within a limit are UTF-8.
use Rattle.std.proofs.Common.{◌≡◌, ℕ, suc, ◌+◌, ◌<◌, take, drop, Bool, true, false, not, ◌||◌, List, [], ◌∷◌, Option}
use Rattle.std.proofs.Common.{Some, None, MatchOption, nat_lt, refl, sym, ap, subst, ◌∙◌, arith}
use Rattle.std.specs.Str.{IsUtf8}
use Rattle.std.specs.List.{list_any, before_first, after_first, position_or_len}
use Rattle.std.proofs.lemmas.Bool.Decides.{nat_tests}
use Rattle.std.proofs.lemmas.List.Elements.{All-from_recursion}
use Rattle.std.proofs.lemmas.Str.{IsUtf8-from_ascii}
use Rattle.std.proofs.lemmas.Str.Ascii.{IsAscii-from_all}
use Rattle.std.specs.List.{AllByRecursion}
use Rattle.std.proofs.lemmas.Bool.{not-true}
use Rattle.mm_definitions.specs.Keys.{Text}
use Rattle.mm_definitions.specs.Bounds.{IsName, IsContentType, is_word_byte, is_slash}
use Rattle.mm_definitions.specs.Stamp.{IsSomeStamp}
use Rattle.mm_definitions.proofs.CleanTexts.{name_is_clean, none_of_fewer}
use Rattle.mm_definitions.proofs.Parts.{either_false}
use Rattle.mm_definitions.proofs.StampText.{stamp_utf8}
use Rattle.mm_walk.specs.Columns.{Unread}

-- what is no UTF-8 passes no test of texts
pub unread : (P : List ℕ → Type 0) (o : Option (List ℕ)) → Unread o → MatchOption o ⊥ (λ text. IsUtf8 text × P text) → ⊥
unread P None u h = h
unread P (Some text) u h = u h.0

pub name_utf8 : (text : Text) → IsName text → IsUtf8 text
name_utf8 text n = (name_is_clean text n).utf8

pub stamp_is_utf8 : (text : Text) → IsSomeStamp text → IsUtf8 text
stamp_is_utf8 text s = subst IsUtf8 (sym s.2.spelled) (stamp_utf8 _ _ _ _)

abbrev high : ℕ → Bool
high c = not (nat_lt c 128)

is_low : (c : ℕ) → high c ≡ false → c < 128
is_low c e = grind (arith, nat_tests)

all_low : (text : Text) → list_any high text ≡ false → AllByRecursion (λ c. c < 128) text
all_low [] e = tt
all_low (c ∷ cs) e = let p = either_false (high c) (list_any high cs) e in (is_low c p.0, all_low cs p.1)

word_low : (c : ℕ) → not (is_word_byte c) ≡ false → high c ≡ false
word_low c e = grind (arith, nat_tests)

slash_low : (c : ℕ) → is_slash c ≡ true → high c ≡ false
slash_low c e = grind (arith, nat_tests)

one_more : (n : ℕ) → 1 + n ≡ suc n
one_more n = omega arith

two_more : (n : ℕ) → (1 + n) + 1 ≡ suc (n + 1)
two_more n = omega arith

low_round : (text : Text) → list_any high (before_first is_slash text) ≡ false
    → list_any high (after_first is_slash text) ≡ false → list_any high text ≡ false
low_round [] a b = refl
low_round (c ∷ cs) a b = go (is_slash c) refl a b (low_round cs)
  where
    go : (s : Bool) → is_slash c ≡ s → list_any high (before_first is_slash (c ∷ cs)) ≡ false
        → list_any high (after_first is_slash (c ∷ cs)) ≡ false
        → (list_any high (before_first is_slash cs) ≡ false → list_any high (after_first is_slash cs) ≡ false
        → list_any high cs ≡ false)
        → list_any high (c ∷ cs) ≡ false
    go true is a b more = ap (λ x. x || list_any high cs) (slash_low c is) ∙ rw is at b
    go false is a b more =
        let n = position_or_len is_slash cs in
        let a_more = subst (λ k. list_any high (take k (c ∷ cs)) ≡ false) (one_more n) (rw is at a) in
        let b_more = subst (λ k. list_any high (drop k (c ∷ cs)) ≡ false) (two_more n) (rw is at b) in
        let p = either_false (high c) (list_any high (before_first is_slash cs)) a_more in
        ap (λ x. x || list_any high cs) p.0 ∙ more p.1 b_more

pub content_type_utf8 : (text : Text) → IsContentType text → IsUtf8 text
content_type_utf8 text t =
    let low = low_round text (none_of_fewer (λ c. not (is_word_byte c)) high word_low (before_first is_slash text)
    (not-true _ t.kind.all)) (none_of_fewer (λ c. not (is_word_byte c)) high word_low (after_first is_slash text)
    (not-true _ t.form.all)) in
    IsUtf8-from_ascii text (IsAscii-from_all text (All-from_recursion (λ c. c < 128) text (all_low text low)))
