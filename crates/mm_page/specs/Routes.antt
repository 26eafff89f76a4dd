-- The routes of the page as rows of a router.
use Rattle.std.specs.Prelude.{ℕ, ℤ, pos, List, [], ◌∷◌, ◌++◌, ◌≡◌, ◌<◌, false, Some, zero, suc, length, codes}
use Rattle.matchit.specs.Seek.{has_slash}
use Rattle.matchit.specs.Params.{AllText, named, walk}
use Rattle.mm_definitions.specs.Keys.{Text}
use Rattle.mm_definitions.specs.Bounds.{IsName, LastId}
use Rattle.mm_page.specs.Asked.{path_from}
use Rattle.mm_page.specs.Asked as page
use Rattle.matchit.specs.Rows.{Rows, RowsOf}
use Rattle.matchit.specs.Router.{RouteOf, rename}
use Rattle.matchit.specs.declared.params.Params.{Params}
use Rattle.mm_page.specs.declared.routes.Route.{Route}
use Rattle.mm_page.specs.declared.routes.Wanted.{Wanted}
use Rattle.mm_page.specs.declared.routes.Wanted.TheVariants as wanted
use Rattle.mm_page.specs.declared.routes.Route.TheVariants as route

-- the token of a parameter, before the rest of a pattern
abbrev pub hole : List ℕ → List ℕ
hole rest = 256 ∷ rest

-- the patterns, by number
abbrev pub numbered_patterns : Rows
numbered_patterns =
    (codes "/contents", 3)
    ∷ (codes "/media/" ++ hole (47 ∷ hole []), 1)
    ∷ (codes "/related/" ++ hole (47 ∷ hole []), 2)
    ∷ (codes "/tiles/" ++ hole (47 ∷ hole (47 ∷ hole (47 ∷ hole []))), 0)
    ∷ []

-- the route of a tile, with the places of the parameters' names in its text
abbrev pub tile_route : RouteOf Route
tile_route = record {
  pattern = codes "/tiles/" ++ hole (47 ∷ hole (47 ∷ hole (47 ∷ hole [])));
  text = codes "/tiles/{table}/{z}/{c}/{r}";
  names = (8, 13) ∷ (16, 17) ∷ (20, 21) ∷ (24, 25) ∷ [];
  value = route.Tile;
}

-- the route of a medium
abbrev pub media_row : RouteOf Route
media_row = record {
  pattern = codes "/media/" ++ hole (47 ∷ hole []);
  text = codes "/media/{table}/{id}";
  names = (8, 13) ∷ (16, 18) ∷ [];
  value = route.Media;
}

-- the route of what an item is related to
abbrev pub related_row : RouteOf Route
related_row = record {
  pattern = codes "/related/" ++ hole (47 ∷ hole []);
  text = codes "/related/{table}/{id}";
  names = (10, 15) ∷ (18, 20) ∷ [];
  value = route.Related;
}

-- the route of the tables
abbrev pub contents_route : RouteOf Route
contents_route = record {
  pattern = codes "/contents";
  text = codes "/contents";
  names = [];
  value = route.Contents;
}

-- the route of a number
abbrev pub route_of : ℕ → RouteOf Route
route_of zero = tile_route
route_of (suc zero) = media_row
route_of (suc (suc zero)) = related_row
route_of (suc (suc (suc n))) = contents_route

-- the four routes, as the router has them
abbrev pub page_rows : RowsOf (RouteOf Route)
page_rows = rename route_of numbered_patterns

-- a part of a path between slashes
abbrev pub IsPathPart : Text → Type 0
IsPathPart v = (has_slash v ≡ false) × (0 < length v)

-- the paths of the routes with parameters
abbrev pub tile_path : Text → Text → Text → Text → Text
tile_path t z c r = path_from (codes "tiles" ∷ t ∷ z ∷ c ∷ r ∷ [])

-- the path of a medium, by its table and id
abbrev pub media_path : Text → Text → Text
media_path t i = path_from (codes "media" ∷ t ∷ i ∷ [])

-- the path of what an item is related to, by the item's table and id
abbrev pub related_path : Text → Text → Text
related_path t i = path_from (codes "related" ∷ t ∷ i ∷ [])

-- the names of parameters with what they took
abbrev pub Pairs : Type 0
Pairs = List (Text × Text)

-- those of a tile's path: table, zoom level, column and row
abbrev pub tile_pairs : Text → Text → Text → Text → Pairs
tile_pairs t z c r = (codes "table", t) ∷ (codes "z", z) ∷ (codes "c", c) ∷ (codes "r", r) ∷ []

-- those of a path of a table and an id
abbrev pub row_pairs : Text → Text → Pairs
row_pairs t i = (codes "table", t) ∷ (codes "id", i) ∷ []

-- the names of a route's parameters, each with the part of the path that it took
abbrev pub pairs_of : Params → Pairs
pairs_of p = walk p.pattern.now p.text.now p.path.now p.names.now 0 0

-- a parameter took this text
abbrev pub TookText : Params → Text → Text → Type 0
TookText p key v = AllText (pairs_of p) × (named key (pairs_of p) ≡ Some v)

-- the parameters of a tile's path, and of a row's
abbrev pub TookTile : Params → Text → Text → Text → Text → Type 0
TookTile p t z c r = AllText (pairs_of p) × (pairs_of p ≡ tile_pairs t z c r) × IsPathPart t × IsPathPart z
    × IsPathPart c × IsPathPart r

-- the parameters took this table and this id, in the path of a medium or of what an item is related to
abbrev pub TookRow : Params → Text → Text → Type 0
TookRow p t i = AllText (pairs_of p) × (pairs_of p ≡ row_pairs t i)

-- the texts name a row
abbrev pub IsRowPath : Text → Text → Type 0
IsRowPath t i = IsName t × (n : ℤ) × page.SpellsWithin (pos 1) (pos LastId) i n

-- what the code's value asks for
abbrev pub asked : Wanted → page.Wanted
asked (wanted.Tile table place) = page.Tile table (pos place.zoom) (pos place.column) (pos place.row)
asked (wanted.Media table id) = page.Media table id
asked (wanted.Related table id) = page.Related table id
asked wanted.Contents = page.Contents
