-- What a path asks for, by the route that it takes.
use Rattle.std.proofs.Common.{◌≡◌, ◌∙◌, ◌<◌, ◌-◌, inl, inr, ℕ, ℤ, pos, zero, suc, List, [], ◌∷◌, ◌++◌, drop, get_or}
use Rattle.std.proofs.Common.{Option, Some, None, true, false, ltb, ◌==◌, refl, sym, ap, subst, arith, codes, IsUtf8}
use Rattle.std.proofs.lemmas.Bool.{and_parts, eq-eqb, ltb-true}
use Rattle.std.proofs.lemmas.Str.{IsAscii-append, IsUtf8-from_ascii}
use Rattle.std.specs.List.{list_all}
use Rattle.std.specs.Str.{IsAscii}
use Rattle.matchit.specs.Seek.{first, has_slash}
use Rattle.matchit.specs.Router.{RouteOf, map_key}
use Rattle.matchit.specs.Level.{IsText}
use Rattle.matchit.specs.Params.{AllText, walk}
use Rattle.matchit.proofs.RenameLemmas.{seek-rename}
use Rattle.mm_definitions.specs.Keys.{Text}
use Rattle.mm_definitions.specs.Bounds.{IsName, LastZoom, MostTiles}
use Rattle.mm_page.specs.Asked.{IsRouted, Wanted, Tile, Media, Related, Contents, SpellsWithin, path_from}
use Rattle.mm_page.specs.Routes.{IsPathPart, IsRowPath, media_path, numbered_patterns, page_rows, related_path}
use Rattle.mm_page.specs.Routes.{route_of}
use Rattle.mm_page.specs.Routes.{row_pairs, tile_pairs, tile_path, tile_route, media_row, related_row}
use Rattle.mm_page.specs.declared.routes.Route.{Route}
use Rattle.mm_page.specs.declared.routes.Route.TheVariants as route
use Rattle.mm_page.proofs.WalkFacts.{media_walk, related_walk, tile_walk}
use Rattle.mm_page.proofs.NumberFacts.{name_ascii, name_part, spelled_ascii, spelled_part}
use Rattle.mm_page.proofs.SeekFacts.{no_slash}
use Rattle.mm_page.proofs.RouteFacts.{Formed, contents_goes, media_goes, path_back, related_goes, tile_goes}

abbrev pub second : Text → ℕ
second path = get_or path 1 0

-- parts that have no slash are those before the first slash
pub same_front : (a b c d : Text) → has_slash a ≡ false → has_slash c ≡ false → a ++ 47 ∷ b ≡ c ++ 47 ∷ d → (a ≡ c)
    × (b ≡ d)
same_front [] b [] d ha hc e = (refl, ap (drop 1) e)
same_front [] b (x ∷ c) d ha hc e =
    let q : 47 ≡ x = ap (λ l. get_or l 0 0) e in
    absurd (let f : (x == 47) ≡ true = eq-eqb x 47 (sym q) in let g : true ≡ false = sym f ∙ (no_slash x c hc).0 in cc)
same_front (x ∷ a) b [] d ha hc e =
    let q : x ≡ 47 = ap (λ l. get_or l 0 0) e in
    absurd (let f : (x == 47) ≡ true = eq-eqb x 47 q in let g : true ≡ false = sym f ∙ (no_slash x a ha).0 in cc)
same_front (x ∷ a) b (y ∷ c) d ha hc e =
    let q : x ≡ y = ap (λ l. get_or l 0 0) e in
    let (f, g) = same_front a b c d (no_slash x a ha).1 (no_slash y c hc).1 (ap (drop 1) e) in
    (cons x y a c q f, g)
  where
    cons : (x y : ℕ) (a c : Text) → x ≡ y → a ≡ c → ◌≡◌ {A = Text} (x ∷ a) (y ∷ c)
    cons x y a c q f = rw (q, f) refl

-- what a tile's path can ask for
abbrev pub IsTile : Text → Text → Text → Text → Type 0
IsTile t z c r = IsName t × ((n : ℤ) × SpellsWithin (pos 0) (pos LastZoom) z n)
    × ((n : ℤ) × SpellsWithin (pos 0) (pos (MostTiles - 1)) c n)
    × ((n : ℤ) × SpellsWithin (pos 0) (pos (MostTiles - 1)) r n)

pub tile_only : (t z c r : Text) (w : Wanted) → IsPathPart t → IsPathPart z → IsPathPart c
    → IsRouted (tile_path t z c r) w → IsTile t z c r
tile_only t z c r (Tile u n d e) pt pz pc (z2, c2, r2, is, name, nz, nc, nr) =
    let (a1, b1) = same_front t (z ++ 47 ∷ (c ++ 47 ∷ r)) u (z2 ++ 47 ∷ (c2 ++ 47 ∷ r2)) pt.0 (name_part u name).0
    (ap (drop 7) is) in
    let (a2, b2) = same_front z (c ++ 47 ∷ r) z2 (c2 ++ 47 ∷ r2) pz.0 (spelled_part z2 n nz.0).0 b1 in
    let (a3, b3) = same_front c r c2 r2 pc.0 (spelled_part c2 d nc.0).0 b2 in
    (rw a1 name, (n, rw a2 nz), (d, rw a3 nc), (e, rw b3 nr))
tile_only t z c r (Media u n) pt pz pc (i, is, n1, n2) = absurd (let q : 116 ≡ 109 = ap second is in omega (arith, q))
tile_only t z c r (Related u n) pt pz pc (i, is, n1, n2) = absurd (let q : 116 ≡ 114 = ap second is in omega (arith, q))
tile_only t z c r Contents pt pz pc is = absurd (let q : 116 ≡ 99 = ap second is in omega (arith, q))

pub media_only : (t i : Text) (w : Wanted) → IsPathPart t → IsRouted (media_path t i) w → IsRowPath t i
media_only t i (Media u n) pt (i2, is, name, ni) =
    let (a1, b1) = same_front t i u i2 pt.0 (name_part u name).0 (ap (drop 7) is) in
    (rw a1 name, n, rw b1 ni)
media_only t i (Tile u n d e) pt (z2, c2, r2, is, n1, n2, n3, n4) =
    absurd (let q : 109 ≡ 116 = ap second is in omega (arith, q))
media_only t i (Related u n) pt (i2, is, n1, n2) = absurd (let q : 109 ≡ 114 = ap second is in omega (arith, q))
media_only t i Contents pt is = absurd (let q : 109 ≡ 99 = ap second is in omega (arith, q))

pub related_only : (t i : Text) (w : Wanted) → IsPathPart t → IsRouted (related_path t i) w → IsRowPath t i
related_only t i (Related u n) pt (i2, is, name, ni) =
    let (a1, b1) = same_front t i u i2 pt.0 (name_part u name).0 (ap (drop 9) is) in
    (rw a1 name, n, rw b1 ni)
related_only t i (Tile u n d e) pt (z2, c2, r2, is, n1, n2, n3, n4) =
    absurd (let q : 114 ≡ 116 = ap second is in omega (arith, q))
related_only t i (Media u n) pt (i2, is, n1, n2) = absurd (let q : 114 ≡ 109 = ap second is in omega (arith, q))
related_only t i Contents pt is = absurd (let q : 114 ≡ 99 = ap second is in omega (arith, q))

-- what ASCII is
pub ascii_text : (path : Text) → IsAscii path → IsText path
ascii_text [] h = tt
ascii_text (b ∷ rest) h = ((let low : b < 128 = h 0 in omega (arith, low)), ascii_text rest (λ i. h (suc i)))

ascii_left : (a b : Text) → IsAscii (a ++ b) → IsAscii a
ascii_left [] b h i = omega arith
ascii_left (x ∷ a) b h zero = h 0
ascii_left (x ∷ a) b h (suc i) = ascii_left a b (λ j. h (suc j)) i

ascii_right : (a b : Text) → IsAscii (a ++ b) → IsAscii b
ascii_right [] b h = h
ascii_right (x ∷ a) b h = ascii_right a b (λ j. h (suc j))

ascii_next : (a b : Text) → IsAscii (a ++ 47 ∷ b) → IsAscii b
ascii_next a b h = ascii_right (47 ∷ []) b (ascii_right a (47 ∷ b) h)

pub ascii_word : (w : Text) → list_all (λ b. ltb b 128) w ≡ true → IsAscii w
ascii_word [] h i = omega arith
ascii_word (b ∷ w) h zero = ltb-true b 128 (and_parts (ltb b 128) (list_all (λ b. ltb b 128) w) h).0
ascii_word (b ∷ w) h (suc i) = ascii_word w (and_parts (ltb b 128) (list_all (λ b. ltb b 128) w) h).1 i

key : (w : Text) → list_all (λ b. ltb b 128) w ≡ true → IsUtf8 w
key w h = IsUtf8-from_ascii w (ascii_word w h)

text : (w : Text) → IsAscii w → IsUtf8 w
text = IsUtf8-from_ascii

pub tile_texts : (t z c r : Text) → IsAscii (tile_path t z c r) → AllText (tile_pairs t z c r)
tile_texts t z c r h =
    let a = ascii_right (codes "/tiles/") (t ++ 47 ∷ (z ++ 47 ∷ (c ++ 47 ∷ r))) h in
    let b = ascii_next t (z ++ 47 ∷ (c ++ 47 ∷ r)) a in
    let d = ascii_next z (c ++ 47 ∷ r) b in (
      key (codes "table") refl,
      text t (ascii_left t _ a),
      (
        key (codes "z") refl,
        text z (ascii_left z _ b),
        (key (codes "c") refl, text c (ascii_left c _ d), (key (codes "r") refl, text r (ascii_next c r d), tt)),
      ),
    )

row_texts : (t i : Text) → IsAscii (t ++ 47 ∷ i) → AllText (row_pairs t i)
row_texts t i a =
    (key (codes "table") refl, text t (ascii_left t _ a), (key (codes "id") refl, text i (ascii_next t i a), tt))

pub media_texts : (t i : Text) → IsAscii (media_path t i) → AllText (row_pairs t i)
media_texts t i h = row_texts t i (ascii_right (codes "/media/") (t ++ 47 ∷ i) h)

pub related_texts : (t i : Text) → IsAscii (related_path t i) → AllText (row_pairs t i)
related_texts t i h = row_texts t i (ascii_right (codes "/related/") (t ++ 47 ∷ i) h)

-- the route that a path takes
pub taken : (path : Text) (m : RouteOf Route) → IsText path → first page_rows path ≡ Some m → (k : ℕ) × (m ≡ route_of k)
    × Formed k path
taken path m low h = by (first numbered_patterns path) refl
  where
    by : (o : Option ℕ) → first numbered_patterns path ≡ o → (k : ℕ) × (m ≡ route_of k) × Formed k path
    by None e = absurd (let f : None ≡ Some m = sym (ap (map_key route_of) e)
        ∙ sym (seek-rename route_of 0 numbered_patterns path) ∙ h in cc)
    by (Some k) e =
        let f : Some (route_of k) ≡ Some m = sym (ap (map_key route_of) e)
        ∙ sym (seek-rename route_of 0 numbered_patterns path) ∙ h in
        (k, (let g : route_of k ≡ m = cc in sym g), path_back path k low e)

-- what no route takes asks for nothing
goes_on : (path : Text) (k : ℕ) → first numbered_patterns path ≡ Some k → first page_rows path ≡ None → ⊥
goes_on path k e h = let f : Some (route_of k) ≡ None = sym (ap (map_key route_of) e)
    ∙ sym (seek-rename route_of 0 numbered_patterns path) ∙ h in cc

pub untaken : (path : Text) → IsText path → first page_rows path ≡ None → (w : Wanted) → ¬ (IsRouted path w)
untaken path low h (Tile t n d e) (z, c, r, is, name, nz, nc, nr) =
    goes_on path 0 (rw is (tile_goes t z c r (rw is at low) (name_part t name) (spelled_part z n nz.0)
    (spelled_part c d nc.0) (spelled_part r e nr.0))) h
untaken path low h (Media t n) (i, is, name, ni) =
    goes_on path 1 (rw is (media_goes t i (rw is at low) (name_part t name) (spelled_part i n ni.0))) h
untaken path low h (Related t n) (i, is, name, ni) = goes_on path 2
    (rw is (related_goes t i (rw is at low) (name_part t name) (spelled_part i n ni.0))) h
untaken path low h Contents is = goes_on path 3 (rw is contents_goes) h

-- the parameters that a match took
abbrev pub pairs_at : RouteOf Route → Text → List (Text × Text)
pairs_at m path = walk m.pattern m.text path m.names 0 0

abbrev pub IsTileMatch : Text → RouteOf Route → Type 0
IsTileMatch path m = (t z c r : Text) × (path ≡ tile_path t z c r) × (pairs_at m path ≡ tile_pairs t z c r)
    × AllText (tile_pairs t z c r) × IsPathPart t × IsPathPart z × IsPathPart c × IsPathPart r

abbrev pub IsMediaMatch : Text → RouteOf Route → Type 0
IsMediaMatch path m = (t i : Text) × (path ≡ media_path t i) × (pairs_at m path ≡ row_pairs t i)
    × AllText (row_pairs t i) × IsPathPart t

abbrev pub IsRelatedMatch : Text → RouteOf Route → Type 0
IsRelatedMatch path m = (t i : Text) × (path ≡ related_path t i) × (pairs_at m path ≡ row_pairs t i)
    × AllText (row_pairs t i) × IsPathPart t

-- what a match says, by its route
abbrev pub IsMatch : Text → RouteOf Route → Route → Type 0
IsMatch path m route.Tile = IsTileMatch path m
IsMatch path m route.Media = IsMediaMatch path m
IsMatch path m route.Related = IsRelatedMatch path m
IsMatch path m route.Contents = path ≡ path_from (codes "contents" ∷ [])

from_row : (path : Text) (k : ℕ) → IsAscii path → Formed k path → IsMatch path (route_of k) (route_of k).value
from_row path k low (inl (n, t, z, c, r, is, pt, pz, pc, pr)) =
    subst (λ j. IsMatch path (route_of j) (route_of j).value) (sym n) (
      t,
      z,
      c,
      r,
      is,
      ap (λ p. pairs_at tile_route p) is
          ∙ tile_walk t z c r pt pz pc pr,
      tile_texts t z c r (rw is at low),
      pt,
      pz,
      pc,
      pr,
    )
from_row path k low (inr (inl (n, t, i, is, pt, pi))) =
    subst (λ j. IsMatch path (route_of j) (route_of j).value) (sym n)
    (t, i, is, ap (λ p. pairs_at media_row p) is ∙ media_walk t i pt pi, media_texts t i (rw is at low), pt)
from_row path k low (inr (inr (inl (n, t, i, is, pt, pi)))) =
    subst (λ j. IsMatch path (route_of j) (route_of j).value) (sym n)
    (t, i, is, ap (λ p. pairs_at related_row p) is ∙ related_walk t i pt pi, related_texts t i (rw is at low), pt)
from_row path k low (inr (inr (inr (n, is)))) = subst (λ j. IsMatch path (route_of j) (route_of j).value) (sym n) is

pub matched : (path : Text) (m : RouteOf Route) → IsAscii path → first page_rows path ≡ Some m → IsMatch path m m.value
matched path m low h =
    let (k, is, form) = taken path m (ascii_text path low) h in
    subst (λ n. IsMatch path n n.value) (sym is) (from_row path k low form)

-- a path that asks for something is ASCII
part_ascii : (a b : Text) → IsAscii a → IsAscii b → IsAscii (a ++ 47 ∷ b)
part_ascii a b ha hb = IsAscii-append a (47 ∷ b) ha (IsAscii-append (47 ∷ []) b (ascii_word (47 ∷ []) refl) hb)

pub asks_ascii : (path : Text) (w : Wanted) → IsRouted path w → IsAscii path
asks_ascii path (Tile t n d e) (z, c, r, is, name, nz, nc, nr) =
    rw is (IsAscii-append (codes "/tiles/") _ (ascii_word (codes "/tiles/") refl)
    (part_ascii t _ (name_ascii t name)
    (part_ascii z _ (spelled_ascii z n nz.0) (part_ascii c r (spelled_ascii c d nc.0) (spelled_ascii r e nr.0)))))
asks_ascii path (Media t n) (i, is, name, ni) =
    rw is (IsAscii-append (codes "/media/") _ (ascii_word (codes "/media/") refl) (part_ascii t i (name_ascii t name) (spelled_ascii i n ni.0)))
asks_ascii path (Related t n) (i, is, name, ni) =
    rw is (IsAscii-append (codes "/related/") _ (ascii_word (codes "/related/") refl) (part_ascii t i (name_ascii t name) (spelled_ascii i n ni.0)))
asks_ascii path Contents is = rw is (ascii_word (codes "/contents") refl)
