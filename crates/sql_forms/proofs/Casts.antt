-- A value of its column's type is stored as it is.
use Rattle.std.proofs.Common.{◌≡◌, Bool, true, false, ◌&&◌, cond, List, [], ◌∷◌, refl}
use Rattle.std.proofs.lemmas.Bool.{and_parts}
use Rattle.sqlite.specs.declared.types.Value.{Value}
use Rattle.sqlite.specs.declared.types.Value.TheVariants.{Null, Int, Real, Text, Blob}
use Rattle.sqlite.specs.Order.{Row}
use Rattle.sqlite.specs.Ops.{unary}
use Rattle.sqlite.specs.Kind.{Kind}
use Rattle.sqlite.specs.Kind.TheVariants as kind
use Rattle.sqlite_schema.specs.declared.schema.Column.{Column}
use Rattle.sqlite.specs.Cast.{cast, cast_all, cast_row}
use Rattle.sqlite.specs.Table.{Table}

-- of the type, or NULL, where the type is no REAL
abbrev pub is_of : Kind → Value → Bool
is_of kind.Real v = false
is_of k Null = true
is_of kind.Integer (Int n) = true
is_of kind.Text (Text t) = true
is_of kind.Blob (Blob b) = true
is_of k v = false

either : (b : Bool) (x : Value) → cond b x x ≡ x
either true x = refl
either false x = refl

pub cast_int : (v : Value) → is_of kind.Integer v ≡ true → cast kind.Integer v ≡ v
unfolding unary
cast_int Null h = either _ Null
cast_int (Int n) h = either _ (Int n)
cast_int (Real x) h = absurd cc
cast_int (Text t) h = absurd cc
cast_int (Blob b) h = absurd cc

cast_text : (v : Value) → is_of kind.Text v ≡ true → cast kind.Text v ≡ v
cast_text Null h = refl
cast_text (Int n) h = absurd cc
cast_text (Real x) h = absurd cc
cast_text (Text t) h = refl
cast_text (Blob b) h = absurd cc

cast_is : (k : Kind) (v : Value) → is_of k v ≡ true → cast k v ≡ v
cast_is kind.Integer v h = cast_int v h
cast_is kind.Text v h = cast_text v h
cast_is kind.Blob v h = refl
cast_is kind.Any v h = refl
cast_is kind.Real v h = absurd cc

abbrev pub are_of : List Column → Row → Bool
are_of [] vs = true
are_of (c ∷ cs) [] = true
are_of (c ∷ cs) (v ∷ vs) = is_of c.kind v && are_of cs vs

pub cast_all_is : (cs : List Column) (vs : Row) → are_of cs vs ≡ true → cast_all cs vs ≡ vs
cast_all_is [] vs h = refl
cast_all_is (c ∷ cs) [] h = refl
cast_all_is (c ∷ cs) (v ∷ vs) h = let parts =
    and_parts _ _ h in rw (cast_is c.kind v parts.0, cast_all_is cs vs parts.1)

pub cast_row_is : (table : Table) (v : Value) (vs : Row) → is_of kind.Integer v ≡ true → are_of table.columns vs ≡ true
    → cast_row table (v ∷ vs) ≡ v ∷ vs
cast_row_is table v vs h k = rw (cast_int v h, cast_all_is table.columns vs k)
