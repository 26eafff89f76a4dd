-- The digits of a digest are a text.
use Rattle.std.proofs.Common.{◌≡◌, ◌<◌, List, [], ◌∷◌, ℕ, true, nat_lt, IsUtf8, IsAscii, subst, sym, refl, arith}
use Rattle.std.specs.List.{list_all}
use Rattle.std.proofs.lemmas.Bool.{and_parts}
use Rattle.std.proofs.lemmas.Bool.Decides.{nat_tests}
use Rattle.std.proofs.lemmas.Str.{IsUtf8-from_ascii}
use Rattle.std.proofs.lemmas.Str.Ascii.{IsAscii-nil, IsAscii-cons}
use Rattle.hex.specs.Hex.{lower_digits}
use Rattle.hex.proofs.HexLemmas.{IsAscii-encode_with}
use Rattle.sha2.specs.Sha256.{sha256}
use Rattle.mm_store.specs.Blobs.{digest_of}

below : (x : ℕ) → nat_lt x 128 ≡ true → x < 128
below x h = grind (h, arith, nat_tests)

all_ascii : (xs : List ℕ) → list_all (λ x. nat_lt x 128) xs ≡ true → IsAscii xs
all_ascii [] h = IsAscii-nil
all_ascii (x ∷ xs) h = let p = and_parts (nat_lt x 128) (list_all (λ x. nat_lt x 128) xs) h in IsAscii-cons x xs
    (below x p.0) (all_ascii xs p.1)

digits_are : IsAscii lower_digits
digits_are = all_ascii lower_digits refl

pub digest_is_text : (bytes text : List ℕ) → text ≡ digest_of bytes → IsUtf8 text
digest_is_text bytes text is = subst IsUtf8 (sym is)
    (IsUtf8-from_ascii (digest_of bytes) (IsAscii-encode_with lower_digits (sha256 bytes) digits_are))
