-- The terms of the check's queries.
use Rattle.std.proofs.Common.{ℕ, pos}
use Rattle.sql_forms.specs.Collation.TheVariants.{Binary}
use Rattle.sql_forms.specs.BinaryOp.TheVariants.{Compare, Is, Arith}
use Rattle.sql_forms.specs.ArithOp.TheVariants.{Sub}
use Rattle.sqlite.specs.declared.types.Value.TheVariants.{Int}
use Rattle.sql_forms.specs.CompareOp.TheVariants.{Eq, Lt}
use Rattle.sql_forms.specs.Term.{Term, col, lit, op2}

-- place c of slot s and place d of slot t
abbrev pub equals : ℕ → ℕ → ℕ → ℕ → Term
equals s c t d = op2 (Compare Eq Binary) (col s c) (col t d)

abbrev pub below : ℕ → ℕ → ℕ → ℕ → Term
below s c t d = op2 (Compare Lt Binary) (col s c) (col t d)

-- also of NULL
abbrev pub same_as : ℕ → ℕ → Term → Term
same_as s c t = op2 (Is Binary) (col s c) t

-- the number before it
abbrev pub follows : ℕ → ℕ → ℕ → ℕ → Term
follows s c t d = op2 (Compare Eq Binary) (col s c) (op2 (Arith Sub) (col t d) (lit (Int (pos 1))))
