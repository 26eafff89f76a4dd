-- What holds of each row whose entry names a blob, in the words of the entries that have bytes.
use Rattle.std.proofs.Common.{◌≡◌, ◌↔◌, inl, inr, ℕ, ℤ, true, false, ◌&&◌, List, [], ◌∷◌, filter, Option, Some, None}
use Rattle.std.proofs.Common.{option_map, refl, sym, ap, subst, ◌∙◌}
use Rattle.std.specs.declared.cmp.Ordering.{Ordering}
use Rattle.std.specs.FinMap.{FinMap, get}
use Rattle.sqlite.specs.Order.{Row, column}
use Rattle.sqlite.specs.Ops.{binary}
use Rattle.sqlite.specs.declared.types.Value.{Value}
use Rattle.sqlite.specs.declared.types.Value.TheVariants.{Null, Int, Real, Text as Words, Blob as Bytes}
use Rattle.sql_forms.specs.Collation.TheVariants.{Binary}
use Rattle.sql_forms.specs.Query.{or_nulls}
use Rattle.sql_forms.specs.Rules.{equal}
use Rattle.sql_forms.specs.Lists as lists
use Rattle.sql_forms.specs.Maps.{Holds}
use Rattle.mm_definitions.specs.Parts.{Each}
use Rattle.mm_definitions.proofs.Parts.{same_some}
use Rattle.mm_store.specs.Rows.{whole, maybe}
use Rattle.mm_store.specs.Blobs.{Blob, Shelf, blob_row, bytes_at, StandsAt, Tells}
use Rattle.mm_blobs.proofs.Naming.{entry_in, entry_of}
use Rattle.mm_walk.proofs.Joined.{Covers, as_whole, covered_whole, joined}
use Rattle.mm_walk.proofs.Keys.{number_is, same}

pub also : {A B C : Type 0} → A ↔ B → B ↔ C → A ↔ C
also one two = (λ a. two.0 (one.0 a), λ c. one.1 (two.1 c))

module _ {X K I V : Type 0} {R : K → K → Ordering} (id_of : I → Option ℤ) (filled : I → List ℕ → V) (shelf : Shelf)
    (ids : FinMap R I) (m : FinMap R V) (tells : Tells id_of filled shelf ids m)
    (full : X → Row → Row) (row_of : K → I → Row) (rows : List Row) (h : Covers full row_of rows ids) where
  -- of each row, and of each entry with the bytes of the blob that it names
  pub each_named : (Q : Row → Type 0) (P : K → V → Type 0)
      → ((k : K) (i : I) (x : X) (bytes : List ℕ) → get m k ≡ Some (filled i bytes) → StandsAt shelf (id_of i) bytes
      → Q (full x (row_of k i)) ↔ P k (filled i bytes))
      → ((r : Row) → lists.Has rows r → Q r) ↔ Each m P
  each_named Q P alike = (
    λ all k v is.
        let e = entry_of id_of filled shelf ids m tells k v is in
        let c = h.complete k e.0 e.1 in
        subst (P k) (sym e.4) ((alike k e.0 c.0 e.2 (is ∙ ap Some e.4) e.3).0 (all (full c.0 (row_of k e.0)) c.1)),
    λ each r there.
        let e = h.sound r there in
        let b = entry_in id_of filled shelf ids m tells e.0 e.1 e.3 in
        subst Q (sym e.4) ((alike e.0 e.1 e.2 b.0 b.2 b.1).1 (each e.0 (filled e.1 b.0) b.2)),
  )

-- ---- a LEFT JOIN of the blob that an entry names

pub null_equals : (v : Value) → equal Binary Null v ≡ false
unfolding binary
null_equals Null = refl
null_equals (Int z) = refl
null_equals (Real x) = refl
null_equals (Words t) = refl
null_equals (Bytes b) = refl

pub equals_null : (v : Value) → equal Binary v Null ≡ false
unfolding binary
equals_null Null = refl
equals_null (Int z) = refl
equals_null (Real x) = refl
equals_null (Words t) = refl
equals_null (Bytes b) = refl

-- the data that the join shows: of a blob its bytes, and of none NULL
abbrev data_in : Option Blob → Value
data_in None = Null
data_in (Some b) = Bytes b.bytes

abbrev pub data_of : Option ℤ → List ℕ → Value
data_of None bytes = Null
data_of (Some id) bytes = Bytes bytes

none_kept : (rows : List Row) → filter (λ r. equal Binary (column r 0) Null && true) rows ≡ []
none_kept [] = refl
none_kept (r ∷ rows) = rw (equals_null (column r 0)) (none_kept rows)

-- the rows that the join gives of the blob of this id
abbrev pub JoinsBlob : List Row → Value → Row → Type 0
JoinsBlob rows id r = lists.Has (or_nulls (filter (λ r. equal Binary (column r 0) id && true) rows)) r

module _ (rows : List Row) (shelf : Shelf) (h : Holds whole blob_row rows shelf) (Q : Value → Type 0) where
  of_one : (id : ℤ) (bytes : List ℕ) → bytes_at shelf id ≡ Some bytes → (o : Option Blob) → get shelf id ≡ o
      → ((r : Row) → JoinsBlob rows (Int id) r → Q (column r 3)) ↔ Q (Bytes bytes)
  of_one id bytes stands None none =
      absurd (let e : None ≡ Some bytes = sym (ap (option_map (λ (b : Blob). b.bytes)) none) ∙ stands in cc)
  of_one id bytes stands (Some b) is =
      let all = joined as_whole blob_row rows shelf (covered_whole h)
      (λ r. equal Binary (column r 0) (Int id) && true) id (λ l c x. number_is l id) (λ r. Q (column r 3))
      (λ o. Q (data_in o)) same (λ c x. same) in
      let bytes_are : b.bytes ≡ bytes = same_some (sym (ap (option_map (λ (c : Blob). c.bytes)) is) ∙ stands) in
      subst (λ v. ((r : Row) → JoinsBlob rows (Int id) r → Q (column r 3)) ↔ Q v) (ap data_in is ∙ ap Bytes bytes_are)
      all

  pub joined_blob : (o : Option ℤ) (bytes : List ℕ) → StandsAt shelf o bytes
      → ((r : Row) → JoinsBlob rows (maybe o) r → Q (column r 3)) ↔ Q (data_of o bytes)
  joined_blob None bytes stands = (
    λ all. all [] (subst (λ found. lists.Has (or_nulls found) []) (sym (none_kept rows)) (inl refl)),
    λ q r there. subst Q (sym (nothing r (subst (λ found. lists.Has (or_nulls found) r) (none_kept rows) there))) q,
  )
    where
      nothing : (r : Row) → lists.Has (or_nulls []) r → column r 3 ≡ Null
      nothing r (inl is) = ap (λ row. column row 3) is
      nothing r (inr more) = absurd more
  joined_blob (Some id) bytes stands = of_one id bytes stands (get shelf id) refl
