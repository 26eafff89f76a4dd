-- The forms of statements: their terms, queries and programs.
use Rattle.std.specs.Prelude.{ℕ, List, [], ◌∷◌, pos, negsuc, false, None}
use Rattle.sqlite_value.specs.declared.keys.Collation.TheVariants.{Binary}
use Rattle.sqlite_value.specs.declared.keys.Key.{Key}
use Rattle.sqlite.specs.declared.types.Value.TheVariants.{Null, Int, Text}
use Rattle.sqlite_sql.specs.declared.ops.BinaryOp.TheVariants.{Compare, Is, Or}
use Rattle.sqlite_sql.specs.declared.ops.CompareOp.{CompareOp}
use Rattle.sqlite_sql.specs.declared.ops.CompareOp.TheVariants.{Eq}
use Rattle.sqlite.specs.Term.{Term, lit, col, op2}
use Rattle.sqlite.specs.Query.{Query, Join, inner, end}
use Rattle.sqlite_schema.specs.declared.program.Program.{Program}

-- a column of the one table against a parameter, both by their places
abbrev pub compares : CompareOp → ℕ → ℕ → Term
compares op column param = op2 (Compare op Binary) (col 1 column) (col 0 param)

-- the column equals the parameter, both by their places
abbrev pub equals : ℕ → ℕ → Term
equals = compares Eq

-- one term or the other
abbrev pub either : Term → Term → Term
either = op2 Or

-- the column holds this text
abbrev pub reads : ℕ → List ℕ → Term
reads column text = op2 (Compare Eq Binary) (col 1 column) (lit (Text text))

-- the column is NULL
abbrev pub is_absent : ℕ → Term
is_absent column = op2 (Is Binary) (col 1 column) (lit Null)

-- LIMIT -1, which is no limit
abbrev pub no_limit : Term
no_limit = lit (Int (negsuc 0))

-- with no GROUP BY, DISTINCT and OFFSET
abbrev pub query : Join → List Term → List Term → List (Term × Key) → Term → Query
query from filter project order limit = record {
  from = from;
  filter = filter;
  group = None;
  project = project;
  distinct = false;
  collations = [];
  order = order;
  limit = limit;
  offset = lit (Int (pos 0));
}

-- over one table
abbrev pub over : ℕ → List Term → List Term → List (Term × Key) → Term → Query
over tree = query (inner tree end)

-- what is shown of each row of one table that passes WHERE, in no order that is asked for
abbrev pub all_of : ℕ → List Term → List Term → Query
all_of tree filter project = over tree filter project [] no_limit

-- one of them, by LIMIT 1
abbrev pub first_of : ℕ → List Term → List Term → Query
first_of tree filter project = over tree filter project [] (lit (Int (pos 1)))

-- the program of a query that needs no tables computed before it
abbrev pub alone : Query → Program
alone q = record { lets = []; body = q }

-- by the rowid
abbrev pub deletes : ℕ → List Term → Program
deletes tree filter = alone (all_of tree filter (col 1 0 ∷ []))

-- the rowid of the row, and the row that takes its place at the same rowid
abbrev pub updates : ℕ → List Term → List Term → Program
updates tree filter sets = alone (all_of tree filter (col 1 0 ∷ col 1 0 ∷ sets))
