-- What the path of a request asks for.
use Rattle.std.specs.Prelude.{◌≡◌, ◌-◌, ℤ, pos, ◌≤ℤ◌, [], ◌∷◌, ◌++◌, List, codes}
use Rattle.mm_definitions.specs.Bounds.{IsName, LastZoom, MostTiles, LastId}
use Rattle.mm_definitions.specs.Keys.{Text}
use Rattle.mm_definitions.specs.Numbers.{SpellsNumber}

-- a tile, a medium, what an item is related to, or the tables
pub data Wanted : Type 0 where
  Tile : (table : Text) (zoom column row : ℤ) → Wanted
  Media : (table : Text) (id : ℤ) → Wanted
  Related : (table : Text) (id : ℤ) → Wanted
  Contents : Wanted

-- the text spells this number, which is within these limits
abbrev pub SpellsWithin : ℤ → ℤ → Text → ℤ → Type 0
SpellsWithin least most text z = SpellsNumber text z × (least ≤ℤ z) × (z ≤ℤ most)

-- a path of these parts, each after a slash
abbrev pub path_from : List Text → Text
path_from [] = []
path_from (part ∷ []) = 47 ∷ part
path_from (part ∷ next ∷ rest) = 47 ∷ (part ++ path_from (next ∷ rest))

-- The table of routes: a table's name, then numbers within their limits.
abbrev pub IsRouted : Text → Wanted → Type 0
IsRouted path (Tile table z c r) = (zoom column row : Text)
    × (path ≡ path_from (codes "tiles" ∷ table ∷ zoom ∷ column ∷ row ∷ []))
    × IsName table × SpellsWithin (pos 0) (pos LastZoom) zoom z
    × SpellsWithin (pos 0) (pos (MostTiles - 1)) column c × SpellsWithin (pos 0) (pos (MostTiles - 1)) row r
IsRouted path (Media table i) = (id : Text)
    × (path ≡ path_from (codes "media" ∷ table ∷ id ∷ []))
    × IsName table × SpellsWithin (pos 1) (pos LastId) id i
IsRouted path (Related table i) = (id : Text)
    × (path ≡ path_from (codes "related" ∷ table ∷ id ∷ []))
    × IsName table × SpellsWithin (pos 1) (pos LastId) id i
IsRouted path Contents = path ≡ path_from (codes "contents" ∷ [])
