-- What the parameters of a match are.
use Rattle.std.proofs.Common.{◌≡◌, ◌∙◌, ◌<◌, ◌≤◌, ◌+◌, ◌-◌, ℕ, List, [], ◌∷◌, ◌++◌, length, drop, get_or, true, false}
use Rattle.std.proofs.Common.{Bool, cond, ◌==◌, ltb, leb, ◌&&◌, min, refl, sym, ap, arith, codes}
use Rattle.std.proofs.lemmas.Bool.{le-ltb, lt-ltb, le-leb, eq-eqb}
use Rattle.std.proofs.lemmas.List.{append-nil, drop-drop, length-append, length-drop}
use Rattle.std.proofs.Math.Seq.{drop-append_seam, take-append_seam}
use Rattle.std.proofs.Math.Nat.{min-eq_left}
use Rattle.matchit.specs.Seek.{has_slash, segment}
use Rattle.matchit.specs.Level.{IsText}
use Rattle.matchit.specs.Params.{after_token, part_of, walk, wild_from, wild_stop}
use Rattle.mm_definitions.specs.Keys.{Text}
use Rattle.mm_page.specs.Routes.{IsPathPart, media_path, media_row, related_path, related_row, row_pairs, tile_pairs}
use Rattle.mm_page.specs.Routes.{tile_path, tile_route}
use Rattle.mm_page.proofs.SeekFacts.{segment-slashed}
use Rattle.mm_page.proofs.RouteFacts.{low_text}

drop-add : (n m : ℕ) (l : List ℕ) → drop (n + m) l ≡ drop m (drop n l)
drop-add n m l = sym (drop-drop m n l)

pair : (a b c d : ℕ) → a ≡ b → c ≡ d → ◌≡◌ {A = ℕ × ℕ} (a, c) (b, d)
pair a b c d e f = rw (e, f) refl

wild_from-lit : (lit rest : List ℕ) (len token at : ℕ) → IsText lit → at + length lit ≤ len
    → wild_from (lit ++ 256 ∷ rest) len token at ≡ (token + length lit, at + length lit)
wild_from-lit [] rest len token at low fits = pair _ _ _ _ (omega arith) (omega arith)
wild_from-lit (b ∷ lit) rest len token at low fits =
    let l : ltb b 256 ≡ true = lt-ltb b 256 low.0 in
    let m : ltb at len ≡ true = lt-ltb at len (omega arith) in
    let one : wild_from (b ∷ lit ++ 256 ∷ rest) len token at ≡ wild_from (lit ++ 256 ∷ rest) len (token + 1) (at + 1) =
    rw (l, m) refl in
    one ∙ wild_from-lit lit rest len (token + 1) (at + 1) low.1 (omega arith) ∙ pair _ _ _ _ (omega arith) (omega arith)

-- the parameter, and what is left of the path behind it
part_is : (path v tail : List ℕ) (start : ℕ) → drop start path ≡ v ++ tail → start ≤ length path
    → (part_of path start (start + length v) ≡ v) × (start + length v ≤ length path)
    × (drop (start + length v) path ≡ tail)
part_is path v tail start is low =
    let size : length (drop start path) ≡ length v + length tail = ap length is ∙ length-append v tail in
    let fits : start + length v ≤ length path = omega (arith, size, length-drop start path) in
    let a : leb start (start + length v) ≡ true = le-leb _ _ (omega arith) in
    let b : leb (start + length v) (length path) ≡ true = le-leb _ _ fits in
    let n : start + length v - start ≡ length v = omega arith in (
      rw (a, b, n, is) (take-append_seam v tail),
      fits,
      drop-add start (length v) path ∙ ap (drop (length v)) is ∙ drop-append_seam v tail,
    )

-- a walk past a parameter that a slash follows
pub walk-mid : (pattern text path : List ℕ) (name : ℕ × ℕ) (names : List (ℕ × ℕ)) (token next at : ℕ)
    (lit more v rest : List ℕ)
    → drop token pattern ≡ lit ++ 256 ∷ 47 ∷ more → IsText lit → next ≡ token + length lit + 1 → next < length pattern
    → next ≤ 18446744073709551615
    → get_or pattern (token + length lit) 0 ≡ 256 → drop next pattern ≡ 47 ∷ more
    → drop at path ≡ lit ++ (v ++ 47 ∷ rest) → at ≤ length path → has_slash v ≡ false
    → (end : ℕ) × (walk pattern text path (name ∷ names) token at ≡ (part_of text name.0 name.1, v)
    ∷ walk pattern text path names next end)
    × (drop end path ≡ 47 ∷ rest) × (end ≤ length path)
walk-mid pattern text path name names token next at lit more v rest pat low nexts inside small token_is behind is at_low
    none =
    let all : length (drop at path) ≡ length lit + length (v ++ 47 ∷ rest) = ap length is
    ∙ length-append lit (v ++ 47 ∷ rest) in
    let room : at + length lit ≤ length path = omega (arith, all, length-drop at path) in
    let start = at + length lit in
    let after : drop start path ≡ v ++ 47 ∷ rest = drop-add at (length lit) path ∙ ap (drop (length lit)) is
    ∙ drop-append_seam lit (v ++ 47 ∷ rest) in
    let wf : wild_from (drop token pattern) (length path) token at ≡ (token + length lit, start) =
    ap (λ p. wild_from p (length path) token at) pat ∙ wild_from-lit lit (47 ∷ more) (length path) token at low room in
    let (part, fits, left) = part_is path v (47 ∷ rest) start after room in
    let nx : token + length lit + 1 ≡ next = sym nexts in
    let a : ltb (token + length lit) (length pattern) ≡ true = lt-ltb _ _ (omega arith) in
    let b : (get_or pattern (token + length lit) 0 == 256) ≡ true = eq-eqb _ _ token_is in
    let d : ltb (token + length lit + 1) (length pattern) ≡ true = lt-ltb _ _ (omega arith) in
    let seg : segment (drop start path) ≡ v ++ 47 ∷ [] = ap segment after ∙ segment-slashed v rest none in
    let seg2 : segment (drop (token + length lit + 1) pattern) ≡ 47 ∷ [] = ap (λ n. segment (drop n pattern)) nx
    ∙ ap segment behind in
    let sum : start + length (v ++ 47 ∷ []) - 1 ≡ start + length v = omega (arith, length-append v (47 ∷ [])) in
    let ws : wild_stop pattern (token + length lit) path start ≡ start + length v = rw (a, b, d, seg, seg2) sum in
    let aft : after_token (token + length lit) ≡ next = ap (λ n. min n 18446744073709551615) nx ∙ min-eq_left small in
    (start + length v, (rw (wf, ws, part, aft) refl), left, fits)

-- a walk past the parameter that ends a pattern
pub walk-last : (pattern text path : List ℕ) (name : ℕ × ℕ) (token at : ℕ) (lit v : List ℕ)
    → drop token pattern ≡ lit ++ 256 ∷ [] → IsText lit → token + length lit + 1 ≡ length pattern
    → drop at path ≡ lit ++ v → at ≤ length path
    → walk pattern text path (name ∷ []) token at ≡ (part_of text name.0 name.1, v) ∷ []
walk-last pattern text path name token at lit v pat low size is at_low =
    let all : length (drop at path) ≡ length lit + length v = ap length is ∙ length-append lit v in
    let room : at + length lit ≤ length path = omega (arith, all, length-drop at path) in
    let start = at + length lit in
    let after : drop start path ≡ v ++ [] = drop-add at (length lit) path ∙ ap (drop (length lit)) is
    ∙ drop-append_seam lit v ∙ sym (append-nil v) in
    let wf : wild_from (drop token pattern) (length path) token at ≡ (token + length lit, start) =
    ap (λ p. wild_from p (length path) token at) pat ∙ wild_from-lit lit [] (length path) token at low room in
    let (part, fits, left) = part_is path v [] start after room in
    let d : ltb (token + length lit + 1) (length pattern) ≡ false = le-ltb _ _ (omega arith) in
    let whole : length path ≡ start + length v = omega (arith, all, length-drop at path) in
    let ws : wild_stop pattern (token + length lit) path start ≡ start + length v =
    and_left-none (ltb (token + length lit) (length pattern)) (get_or pattern (token + length lit) 0 == 256) _ d _ _
    ∙ whole in
    rw (wf, ws, part) refl
  where
    and_left-none : {A : Type 0} (x y z : Bool) → z ≡ false → (p q : A) → cond (x && y && z) p q ≡ q
    and_left-none true true z e p q = rw e refl
    and_left-none true false z e p q = refl
    and_left-none false y z e p q = refl

-- the parameters of each route

pub tile_walk : (t z c r : Text) → IsPathPart t → IsPathPart z → IsPathPart c → IsPathPart r
    → walk tile_route.pattern tile_route.text (tile_path t z c r) tile_route.names 0 0 ≡ tile_pairs t z c r
tile_walk t z c r pt pz pc pr =
    let path = tile_path t z c r in
    let (e1, w1, d1, l1) = walk-mid tile_route.pattern tile_route.text path (8, 13)
    ((16, 17) ∷ (20, 21) ∷ (24, 25) ∷ []) 0 8 0 (codes "/tiles/") (256 ∷ 47 ∷ 256 ∷ 47 ∷ 256 ∷ []) t (z ++ 47 ∷ (c ++ 47 ∷ r))
    refl (low_text (codes "/tiles/") refl) refl (omega arith) (omega arith) refl refl refl (omega arith) pt.0 in
    let (e2, w2, d2, l2) = walk-mid tile_route.pattern tile_route.text path (16, 17) ((20, 21) ∷ (24, 25) ∷ []) 8 10 e1
    (47 ∷ []) (256 ∷ 47 ∷ 256 ∷ []) z (c ++ 47 ∷ r)
    refl (low_text (47 ∷ []) refl) refl (omega arith) (omega arith) refl refl d1 l1 pz.0 in
    let (e3, w3, d3, l3) = walk-mid tile_route.pattern tile_route.text path (20, 21) ((24, 25) ∷ []) 10 12 e2 (47 ∷ [])
    (256 ∷ []) c r
    refl (low_text (47 ∷ []) refl) refl (omega arith) (omega arith) refl refl d2 l2 pc.0 in
    let w4 = walk-last tile_route.pattern tile_route.text path (24, 25) 12 e3 (47 ∷ []) r refl (low_text (47 ∷ []) refl)
    refl d3 l3 in
    w1 ∙ ap (λ l. (codes "table", t) ∷ l) (w2 ∙ ap (λ l. (codes "z", z) ∷ l) (w3 ∙ ap (λ l. (codes "c", c) ∷ l) w4))

pub media_walk : (t i : Text) → IsPathPart t → IsPathPart i
    → walk media_row.pattern media_row.text (media_path t i) media_row.names 0 0 ≡ row_pairs t i
media_walk t i pt pi =
    let path = media_path t i in
    let (e1, w1, d1, l1) = walk-mid media_row.pattern media_row.text path (8, 13) ((16, 18) ∷ []) 0 8 0 (codes "/media/") (256 ∷ []) t i
    refl (low_text (codes "/media/") refl) refl (omega arith) (omega arith) refl refl refl (omega arith) pt.0 in
    let w2 = walk-last media_row.pattern media_row.text path (16, 18) 8 e1 (47 ∷ []) i refl (low_text (47 ∷ []) refl)
    refl d1 l1 in
    w1 ∙ ap (λ l. (codes "table", t) ∷ l) w2

pub related_walk : (t i : Text) → IsPathPart t → IsPathPart i
    → walk related_row.pattern related_row.text (related_path t i) related_row.names 0 0 ≡ row_pairs t i
related_walk t i pt pi =
    let path = related_path t i in
    let (e1, w1, d1, l1) = walk-mid related_row.pattern related_row.text path (10, 15) ((18, 20) ∷ []) 0 10 0 (codes "/related/") (256 ∷ []) t i
    refl (low_text (codes "/related/") refl) refl (omega arith) (omega arith) refl refl refl (omega arith) pt.0 in
    let w2 = walk-last related_row.pattern related_row.text path (18, 20) 10 e1 (47 ∷ []) i refl
    (low_text (47 ∷ []) refl) refl d1 l1 in
    w1 ∙ ap (λ l. (codes "table", t) ∷ l) w2
