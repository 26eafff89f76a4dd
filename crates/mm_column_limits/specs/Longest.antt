-- What is known of how many bytes the entries of a package have.
use Rattle.std.specs.Prelude.{ℕ, Bool, false, not, nat_lt, Option, Some, None, ⊤}
use Rattle.mm_definitions.specs.Bounds.{IsLong}
use Rattle.mm_definitions.specs.Package.{Package}
use Rattle.mm_definitions.specs.Parts.{Each}

-- each tile and each medium has some bytes, and at most so many; of None nothing is known
abbrev pub AreFew : Option ℕ → Package → Type 0
AreFew None p = ⊤
AreFew (Some longest) p =
    Each p.tiles (λ k bytes. IsLong 1 longest bytes) × Each p.media (λ k medium. IsLong 1 longest medium.bytes)

-- whether it is known that none has more bytes than this
abbrev pub is_few : Option ℕ → ℕ → Bool
is_few None most = false
is_few (Some longest) most = not (nat_lt most longest)
