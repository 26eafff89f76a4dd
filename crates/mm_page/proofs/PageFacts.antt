-- An input and a package have at most one response.
use Rattle.std.proofs.Common.{◌≡◌, ◌≢◌, ◌∙◌, inl, inr, ℕ, ℤ, ◌∷◌, ◌++◌, drop, refl, sym, ap, subst, arith, codes}
use Rattle.httparse.proofs.GrammarLemmas.{request_unique}
use Rattle.mm_definitions.specs.Package.{Package}
use Rattle.mm_definitions.specs.Keys.{Text}
use Rattle.mm_definitions.proofs.ReadingFacts.{spells_one}
use Rattle.mm_page.specs.Asked.{IsRouted, Contents, Media, Related, Tile, Wanted}
use Rattle.mm_page.specs.Responses.{response_of}
use Rattle.mm_page.specs.Routes.{IsPathPart}
use Rattle.mm_page.proofs.NumberFacts.{name_part, spelled_part}
use Rattle.mm_page.proofs.AskFacts.{same_front, second}
use Rattle.mm_page.specs.Page.{Page, Writes, WritesTo, path_of, reply_of}

other : {A : Type 0} (path a b : Text) (x y : ℕ) → path ≡ a → path ≡ b → second a ≡ x → second b ≡ y → x ≢ y → A
other path a b x y e f g h differ = absurd (differ (sym g ∙ ap second (sym e ∙ f) ∙ h))

-- the texts of a path that is written in two ways
tiles_one : (path t z c r t2 z2 c2 r2 : Text) → path ≡ 47 ∷ (codes "tiles/" ++ (t ++ 47 ∷ (z ++ 47 ∷ (c ++ 47 ∷ r))))
    → path ≡ 47 ∷ (codes "tiles/" ++ (t2 ++ 47 ∷ (z2 ++ 47 ∷ (c2 ++ 47 ∷ r2)))) → IsPathPart t → IsPathPart t2 → IsPathPart z → IsPathPart z2 → IsPathPart c → IsPathPart c2
    → (t ≡ t2) × (z ≡ z2) × (c ≡ c2) × (r ≡ r2)
tiles_one path t z c r t2 z2 c2 r2 e f pt pt2 pz pz2 pc pc2 =
    let (a1, b1) = same_front t _ t2 _ pt.0 pt2.0 (ap (drop 7) (sym e ∙ f)) in
    let (a2, b2) = same_front z _ z2 _ pz.0 pz2.0 b1 in
    let (a3, b3) = same_front c r c2 r2 pc.0 pc2.0 b2 in
    (a1, a2, a3, b3)

-- a path asks for one thing
pub asks_one : (path : Text) (w v : Wanted) → IsRouted path w → IsRouted path v → w ≡ v
asks_one path (Tile t n d e) (Tile t2 n2 d2 e2) (z, c, r, is, name, nz, nc, nr) (z2, c2, r2, is2, name2, nz2, nc2, nr2)
    =
    let (a1, a2, a3, a4) = tiles_one path t z c r t2 z2 c2 r2 is is2 (name_part t name) (name_part t2 name2)
    (spelled_part z n nz.0) (spelled_part z2 n2 nz2.0) (spelled_part c d nc.0) (spelled_part c2 d2 nc2.0) in
    let q1 : n ≡ n2 = spells_one z2 n n2 (rw a2 at nz.0) nz2.0 in
    let q2 : d ≡ d2 = spells_one c2 d d2 (rw a3 at nc.0) nc2.0 in
    let q3 : e ≡ e2 = spells_one r2 e e2 (rw a4 at nr.0) nr2.0 in
    same t t2 n n2 d d2 e e2 a1 q1 q2 q3
  where
    same : (t t2 : Text) (n n2 d d2 e e2 : ℤ) → t ≡ t2 → n ≡ n2 → d ≡ d2 → e ≡ e2 → Tile t n d e ≡ Tile t2 n2 d2 e2
    same t t2 n n2 d d2 e e2 p q r s = rw (p, q, r, s) refl
asks_one path (Media t n) (Media t2 n2) (i, is, name, ni) (i2, is2, name2, ni2) =
    let (a1, a2) = same_front t i t2 i2 (name_part t name).0 (name_part t2 name2).0 (ap (drop 7) (sym is ∙ is2)) in
    let q : n ≡ n2 = spells_one i2 n n2 (rw a2 at ni.0) ni2.0 in
    same t t2 n n2 a1 q
  where
    same : (t t2 : Text) (n n2 : ℤ) → t ≡ t2 → n ≡ n2 → Media t n ≡ Media t2 n2
    same t t2 n n2 p q = rw (p, q) refl
asks_one path (Related t n) (Related t2 n2) (i, is, name, ni) (i2, is2, name2, ni2) =
    let (a1, a2) = same_front t i t2 i2 (name_part t name).0 (name_part t2 name2).0 (ap (drop 9) (sym is ∙ is2)) in
    let q : n ≡ n2 = spells_one i2 n n2 (rw a2 at ni.0) ni2.0 in
    same t t2 n n2 a1 q
  where
    same : (t t2 : Text) (n n2 : ℤ) → t ≡ t2 → n ≡ n2 → Related t n ≡ Related t2 n2
    same t t2 n n2 p q = rw (p, q) refl
asks_one path Contents Contents is is2 = refl
asks_one path (Tile t n d e) (Media u m) (z, c, r, is, w1, w2, w3, w4) (i2, is2, v1, v2) = other path _ _ 116 109 is is2
    refl refl (λ q. omega (arith, q))
asks_one path (Tile t n d e) (Related u m) (z, c, r, is, w1, w2, w3, w4) (i2, is2, v1, v2) = other path _ _ 116 114 is
    is2 refl refl (λ q. omega (arith, q))
asks_one path (Tile t n d e) Contents (z, c, r, is, w1, w2, w3, w4) is2 = other path _ _ 116 99 is is2 refl refl
    (λ q. omega (arith, q))
asks_one path (Media u m) (Tile t n d e) (i2, is2, v1, v2) (z, c, r, is, w1, w2, w3, w4) = other path _ _ 109 116 is2 is
    refl refl (λ q. omega (arith, q))
asks_one path (Related u m) (Tile t n d e) (i2, is2, v1, v2) (z, c, r, is, w1, w2, w3, w4) = other path _ _ 114 116 is2
    is refl refl (λ q. omega (arith, q))
asks_one path Contents (Tile t n d e) is2 (z, c, r, is, w1, w2, w3, w4) = other path _ _ 99 116 is2 is refl refl
    (λ q. omega (arith, q))
asks_one path (Media t n) (Related u m) (i, is, w1, w2) (i2, is2, v1, v2) = other path _ _ 109 114 is is2 refl refl
    (λ q. omega (arith, q))
asks_one path (Related t n) (Media u m) (i, is, w1, w2) (i2, is2, v1, v2) = other path _ _ 114 109 is is2 refl refl
    (λ q. omega (arith, q))
asks_one path (Media t n) Contents (i, is, w1, w2) is2 = other path _ _ 109 99 is is2 refl refl (λ q. omega (arith, q))
asks_one path Contents (Media t n) is2 (i, is, w1, w2) = other path _ _ 99 109 is2 is refl refl (λ q. omega (arith, q))
asks_one path (Related t n) Contents (i, is, w1, w2) is2 = other path _ _ 114 99 is is2 refl refl
    (λ q. omega (arith, q))
asks_one path Contents (Related t n) is2 (i, is, w1, w2) = other path _ _ 99 114 is2 is refl refl
    (λ q. omega (arith, q))

writes_to_one : (p : Package) (path a b : Text) → WritesTo p path a → WritesTo p path b → a ≡ b
writes_to_one p path a b (inl (w, h, e)) (inl (v, k, f)) = e
    ∙ ap (λ x. response_of (reply_of p x)) (asks_one path w v h k) ∙ sym f
writes_to_one p path a b (inl (w, h, e)) (inr (none, f)) = absurd (none w h)
writes_to_one p path a b (inr (none, e)) (inl (v, k, f)) = absurd (none v k)
writes_to_one p path a b (inr (none, e)) (inr (none2, f)) = e ∙ sym f

writes_one : (p : Package) (m t a b : Text) → Writes p m t a → Writes p m t b → a ≡ b
writes_one p m t a b (inl (n, e)) (inl (n2, f)) = e ∙ sym f
writes_one p m t a b (inl (n, e)) (inr (g, f)) = absurd (n g)
writes_one p m t a b (inr (g, e)) (inl (n, f)) = absurd (n g)
writes_one p m t a b (inr (g, e)) (inr (g2, f)) = writes_to_one p (path_of t) a b e f

pub page_one : (p : Package) (input a b : Text) → Page p input a → Page p input b → a ≡ b
page_one p input a b (inl (h, is, w)) (inl (k, is2, v)) =
    let same : h ≡ k = (request_unique input h k is.rest is2.rest is.reads is2.reads).0 in
    writes_one p k.method k.target a b (subst (λ x. Writes p x.method x.target a) same w) v
page_one p input a b (inl (h, is, w)) (inr (none, f)) = absurd (none h is)
page_one p input a b (inr (none, e)) (inl (k, is2, v)) = absurd (none k is2)
page_one p input a b (inr (none, e)) (inr (none2, f)) = e ∙ sym f
