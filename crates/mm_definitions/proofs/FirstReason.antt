-- Which number a command is refused with, where the first of its reasons that holds is known.
use Rattle.std.proofs.Common.{◌≡◌, ℕ, ◌≤◌, Bool, true, false, cond, [], ◌∷◌, Option, Some, None, min, refl, ap, arith}
use Rattle.std.specs.Prelude.{nat_le, ⊤}
use Rattle.std.specs.List.{list_all}
use Rattle.std.proofs.lemmas.Bool.{and_parts}
use Rattle.mm_definitions.specs.Conditions.{Reasons, least, smaller}

abbrev AtLeast : ℕ → Option ℕ → Type 0
AtLeast n None = ⊤
AtLeast n (Some m) = n ≤ m

both_least : (n : ℕ) (a b : Option ℕ) → AtLeast n a → AtLeast n b → AtLeast n (smaller a b)
both_least n None b h k = k
both_least n (Some m) None h k = h
both_least n (Some m) (Some q) h k = omega arith

at_least : (n : ℕ) (rs : Reasons) → list_all (λ r. nat_le n r.0) rs ≡ true → AtLeast n (least rs)
at_least n [] h = tt
at_least n (r ∷ rs) h = let parts = and_parts (nat_le n r.0) _ h in both_least n (cond r.1 (Some r.0) None) (least rs)
    (one r.0 r.1 parts.0) (at_least n rs parts.1)
  where
    one : (m : ℕ) (b : Bool) → nat_le n m ≡ true → AtLeast n (cond b (Some m) None)
    one m true h = grind arith
    one m false h = tt

-- the first of the reasons holds, and the others have greater numbers
pub first_of : (n : ℕ) (rs : Reasons) → list_all (λ r. nat_le n r.0) rs ≡ true → least ((n, true) ∷ rs) ≡ Some n
first_of n rs h = go (least rs) (at_least n rs h)
  where
    go : (o : Option ℕ) → AtLeast n o → smaller (Some n) o ≡ Some n
    go None k = refl
    go (Some m) k = ap Some (let e : min n m ≡ n = omega arith in e)
