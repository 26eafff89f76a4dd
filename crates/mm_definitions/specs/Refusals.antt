-- The numbers that are told: of refusals, of faults and of rules.
use Rattle.std.specs.Prelude.{ℕ, ◌≡◌, Bool, true, nat_le, ◌&&◌, ◌||◌, Option, Some, None}
use Rattle.mm_definitions.specs.declared.refusals.TheConstants.{PIECE_REFUSED}

-- a number of the table of refusals, other than 53
abbrev pub is_reason : ℕ → Bool
is_reason n =
    (nat_le 10 n && nat_le n 12) || (nat_le 20 n && nat_le n 27) || (nat_le 30 n && nat_le n 35)
    || (nat_le 40 n && nat_le n 48)
    || (nat_le 50 n && nat_le n 52) || (nat_le 54 n && nat_le n 57)

abbrev pub IsReason : ℕ → Type 0
IsReason n = is_reason n ≡ true

-- why a command is refused: the number that is told, and with 53 the number of the piece and the piece's own
pub record Refusal : Type 0 where
  pub number : ℕ
  pub piece : Option (ℕ × ℕ)

-- a number of the table; 53 exactly with a piece, whose own is of the table and another than 53
abbrev pub IsRefusal : ℕ → Option (ℕ × ℕ) → Type 0
IsRefusal number None = IsReason number
IsRefusal number (Some (piece, own)) = (number ≡ PIECE_REFUSED) × IsReason own

-- a number, or with a piece the piece's own
abbrev pub own_number : ℕ → Option (ℕ × ℕ) → ℕ
own_number number None = number
own_number number (Some (piece, own)) = own

-- the reason of a refusal; with 53 that of the piece
abbrev pub reason_of : Refusal → ℕ
reason_of r = own_number r.number r.piece

-- want of memory, the store, a session that has to be opened again, the input and the output
abbrev pub is_fault_number : ℕ → Bool
is_fault_number n = (nat_le 90 n && nat_le n 92) || (nat_le 96 n && nat_le n 97)

abbrev pub IsFaultNumber : ℕ → Type 0
IsFaultNumber n = is_fault_number n ≡ true

-- the sixteen rules
abbrev pub IsRuleNumber : ℕ → Type 0
IsRuleNumber n = (nat_le 1 n && nat_le n 16) ≡ true
