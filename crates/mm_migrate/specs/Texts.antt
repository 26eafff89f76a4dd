-- The statements that tell a package in the smaller unit, and the form of an UPDATE of every row.
use Rattle.std.specs.Prelude.{ℕ, ℤ, pos, List, [], ◌∷◌, codes}
use Rattle.sqlite.specs.declared.types.Value.TheVariants.{Null, Int}
use Rattle.sql_forms.specs.BinaryOp.TheVariants.{Arith}
use Rattle.sql_forms.specs.ArithOp.TheVariants.{Mul}
use Rattle.sqlite.specs.Term.{Term, lit, col, op2}

-- the four bounds of each contents row, from millimetres to micrometres; NULL stays NULL
abbrev pub scale_contents : List ℕ
scale_contents = codes "UPDATE gpkg_contents SET min_x = min_x * 1000, min_y = min_y * 1000, max_x = max_x * 1000, max_y = max_y * 1000"

-- the four bounds of each matrix set, from millimetres to micrometres
abbrev pub scale_matrix_sets : List ℕ
scale_matrix_sets = codes "UPDATE gpkg_tile_matrix_set SET min_x = min_x * 1000, min_y = min_y * 1000, max_x = max_x * 1000, max_y = max_y * 1000"

-- both pixel sizes of each matrix, from millimetres to micrometres
abbrev pub scale_matrices : List ℕ
scale_matrices = codes "UPDATE gpkg_tile_matrix SET pixel_x_size = pixel_x_size * 1000, pixel_y_size = pixel_y_size * 1000"

-- the profile's row says version 2, that of whole micrometres
abbrev pub set_version : List ℕ
set_version = codes "UPDATE mm_profile SET version = 2"

-- the column times a number
abbrev pub times : ℕ → ℤ → Term
times column factor = op2 (Arith Mul) (col 1 column) (lit (Int factor))

-- a contents row after its UPDATE: the four bounds times 1000, and all else as it was
abbrev pub contents_sets : List Term
contents_sets = col 1 1 ∷ col 1 2 ∷ col 1 3 ∷ col 1 4 ∷ col 1 5 ∷ times 6 (pos 1000) ∷ times 7 (pos 1000)
    ∷ times 8 (pos 1000) ∷ times 9 (pos 1000) ∷ col 1 10 ∷ []

-- a matrix set after its UPDATE: the four bounds times 1000, and all else as it was
abbrev pub set_sets : List Term
set_sets = col 1 1 ∷ col 1 2 ∷ times 3 (pos 1000) ∷ times 4 (pos 1000) ∷ times 5 (pos 1000) ∷ times 6 (pos 1000) ∷ []

-- a matrix after its UPDATE: both pixel sizes times 1000, and all else as it was
abbrev pub matrix_sets : List Term
matrix_sets = col 1 1 ∷ col 1 2 ∷ col 1 3 ∷ col 1 4 ∷ col 1 5 ∷ col 1 6 ∷ times 7 (pos 1000) ∷ times 8 (pos 1000) ∷ []

-- the profile's row after its UPDATE: NULL for the id, which is the rowid, and version 2
abbrev pub version_sets : List Term
version_sets = lit Null ∷ lit (Int (pos 2)) ∷ []
