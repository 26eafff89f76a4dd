-- A database stands for at most one package.
use Rattle.std.proofs.Common.{◌≡◌, ℕ, ℤ, pos, List, ◌∷◌, Option, Some, None, sym, ap, subst, ◌∙◌}
use Rattle.std.specs.declared.cmp.Ordering.{Ordering}
use Rattle.std.specs.FinMap.{FinMap, get, same_map}
use Rattle.sqlite.specs.declared.types.Value.TheVariants.{Int}
use Rattle.sqlite.specs.Order.{Row}
use Rattle.sqlite.specs.Tree.{Trees}
use Rattle.sql_forms.specs.Tables.{tables_of}
use Rattle.mm_store.specs.Tables.{schema}
use Rattle.mm_definitions.specs.Package.{Package}
use Rattle.mm_definitions.proofs.KeyLaws.{extension_keys, tile_keys, items, piece_keys}
use Rattle.mm_definitions.proofs.Parts.{IsKeyOrder, same_some}
use Rattle.mm_store.specs.Blobs.{Shelf, StandsAt, Told, Tells}
use Rattle.mm_store.specs.Kept.{Kept, Spare, no_spare, HoldsKept, tile_id, tile_with, medium_id, medium_with, piece_id}
use Rattle.mm_store.specs.Kept.{piece_with}
use Rattle.mm_store.specs.Stands.{HoldingBut, StandsForBut, StandsFor}
use Rattle.mm_store.proofs.Parts.{one_map}
use Rattle.mm_store.proofs.Keys as parts

-- an id stands for one list of bytes
pub one_bytes : (shelf : Shelf) (id : Option ℤ) (a b : List ℕ) → StandsAt shelf id a → StandsAt shelf id b → a ≡ b
one_bytes shelf None a b p q = p ∙ sym q
one_bytes shelf (Some id) a b p q = same_some (sym p ∙ q)

one_told : {I V : Type 0} (id_of : I → Option ℤ) (filled : I → List ℕ → V) (shelf : Shelf) (i : Option I)
    (v w : Option V)
    → Told id_of filled shelf i v → Told id_of filled shelf i w → v ≡ w
one_told id_of filled shelf None v w p q = p ∙ sym q
one_told id_of filled shelf (Some i) v w p q = p.2
    ∙ ap (λ bytes. Some (filled i bytes)) (one_bytes shelf (id_of i) p.0 q.0 p.1 q.1) ∙ sym q.2

module _ {K I V : Type 0} {R : K → K → Ordering} (o : IsKeyOrder R) (id_of : I → Option ℤ) (filled : I → List ℕ → V)
  where
    -- entries that name blobs tell at most one map
    pub one_telling : (shelf other : Shelf) (ids same : FinMap R I) (m n : FinMap R V) → shelf ≡ other → ids ≡ same
        → Tells id_of filled shelf ids m
        → Tells id_of filled other same n → m ≡ n
    one_telling shelf other ids same m n p q h j =
        let k : Tells id_of filled shelf ids n = subst (λ s. Tells id_of filled s ids n) (sym p)
        (subst (λ is. Tells id_of filled other is n) (sym q) j) in
        same_map o.total o.exact m n (λ key. one_told id_of filled shelf (get ids key) (get m key) (get n key) (h key)
        (k key))

module _ (spare more : Spare) (tables : Trees) (a b : Kept) (p q : Package) (h : HoldsKept spare tables a p)
    (j : HoldsKept more tables b q) where
  same_shelf : a.shelf ≡ b.shelf
  same_shelf = one_map parts.blobs _ a.shelf b.shelf h.blobs j.blobs

  pub same_tiles : p.tiles ≡ q.tiles
  same_tiles = one_telling tile_keys tile_id tile_with a.shelf b.shelf a.tiles b.tiles p.tiles q.tiles same_shelf
      (one_map parts.tiles _ a.tiles b.tiles h.tiles j.tiles) h.tiles_told j.tiles_told

  pub same_media : p.media ≡ q.media
  same_media = one_telling items medium_id medium_with a.shelf b.shelf a.media b.media p.media q.media same_shelf
      (one_map parts.media _ a.media b.media h.media j.media) h.media_told j.media_told

  pub same_pieces : p.pieces ≡ q.pieces
  same_pieces = one_telling piece_keys piece_id piece_with a.shelf b.shelf a.pieces b.pieces p.pieces q.pieces
      same_shelf (one_map parts.pieces _ a.pieces b.pieces h.pieces j.pieces) h.pieces_told j.pieces_told

same_package : (spare more : Spare) (version : ℤ) (db : Trees) (p q : Package) → HoldingBut spare version db p
    → HoldingBut more version db q → p ≡ q
same_package spare more version db p q h j i = record {
  systems = one_map parts.systems _ p.systems q.systems h.systems j.systems i;
  contents = one_map parts.contents _ p.contents q.contents h.contents j.contents i;
  kinds = one_map parts.kinds _ p.kinds q.kinds h.kinds j.kinds i;
  sets = one_map parts.sets _ p.sets q.sets h.sets j.sets i;
  matrices = one_map parts.matrices _ p.matrices q.matrices h.matrices j.matrices i;
  extensions = same_map extension_keys.total extension_keys.exact p.extensions q.extensions
      (λ e. h.extensions.counted e ∙ sym (j.extensions.counted e)) i;
  tiles = same_tiles spare more db h.kept j.kept p q h.keeps j.keeps i;
  rows = one_map parts.rows _ p.rows q.rows h.rows j.rows i;
  media = same_media spare more db h.kept j.kept p q h.keeps j.keeps i;
  relations = one_map parts.relations _ p.relations q.relations h.relations j.relations i;
  pairings = one_map parts.pairings _ p.pairings q.pairings h.pairings j.pairings i;
  editions = one_map parts.editions _ p.editions q.editions h.editions j.editions i;
  pieces = same_pieces spare more db h.kept j.kept p q h.keeps j.keeps i;
}

-- also where more or fewer blobs are spared
pub stands_once_but : (spare more : Spare) (version : ℤ) (db : Trees) (p q : Package) → StandsForBut spare version db p
    → StandsForBut more version db q → p ≡ q
stands_once_but spare more version db p q one two = same_package spare more version (tables_of schema db) p q one.holds
    two.holds

pub stands_once : (version : ℤ) (db : Trees) (p q : Package) → StandsFor version db p → StandsFor version db q → p ≡ q
stands_once = stands_once_but no_spare no_spare

-- the version in the one row of the profile's table
version_in : List Row → ℤ
version_in ((id ∷ rowid ∷ Int version ∷ rest) ∷ more) = version
version_in _ = pos 0

pub one_version : (v w : ℤ) (db : Trees) (p q : Package) → StandsFor v db p → StandsFor w db q → v ≡ w
unfolding version_in
one_version v w db p q one two = ap version_in (sym one.holds.profile ∙ two.holds.profile)
