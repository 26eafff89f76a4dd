-- Which paths the routes of the page take.
use Rattle.std.proofs.Common.{◌≡◌, ◌∙◌, ◌⊎◌, inl, inr, ℕ, List, [], ◌∷◌, ◌++◌, length, drop, Option, Some, None, Bool}
use Rattle.std.proofs.Common.{true, false, nat_eq, ◌==◌, ltb, refl, sym, ap, subst, arith, codes}
use Rattle.std.specs.List.{list_all, starts_with}
use Rattle.std.proofs.lemmas.Bool.{cases_eq, and_parts, ltb-true, cases_Bool}
use Rattle.std.proofs.lemmas.Bool.Decides.{nat_tests, Decides-eqb}
use Rattle.std.proofs.lemmas.Slice.Eq.{starts_is}
use Rattle.matchit.specs.Rows.{Rows}
use Rattle.matchit.specs.Seek.{step, seek, first, has_slash}
use Rattle.matchit.specs.Level.{IsText}
use Rattle.matchit.proofs.SeekLemmas.{first-prefix, seek-empty}
use Rattle.mm_definitions.specs.Keys.{Text}
use Rattle.mm_page.specs.Routes.{IsPathPart, media_path, numbered_patterns, related_path, tile_path}
use Rattle.mm_page.proofs.SeekFacts.{byte_step, cut, last-goes, last-none-slash, mid-empty, mid-goes, mid-none}

pub low_text : (w : List ℕ) → list_all (λ b. ltb b 256) w ≡ true → IsText w
low_text [] h = tt
low_text (b ∷ w) h = let p = and_parts (ltb b 256) (list_all (λ b. ltb b 256) w) h in
    (ltb-true b 256 p.0, low_text w p.1)

pub text_parts : (a b : List ℕ) → IsText (a ++ b) → IsText a × IsText b
text_parts [] b h = (tt, h)
text_parts (x ∷ a) b h = let p = text_parts a b h.1 in ((h.0, p.0), p.1)

-- a path of a route's form leads to it

pub tile_goes : (t z c r : Text) → IsText (tile_path t z c r) → IsPathPart t → IsPathPart z → IsPathPart c
    → IsPathPart r → first numbered_patterns (tile_path t z c r) ≡ Some 0
tile_goes t z c r low pt pz pc pr =
    let lt = text_parts t (47 ∷ (z ++ 47 ∷ (c ++ 47 ∷ r))) (text_parts (codes "/tiles/") (t ++ 47 ∷ (z ++ 47 ∷ (c ++ 47 ∷ r))) low).1 in
    let lz = text_parts z (47 ∷ (c ++ 47 ∷ r)) lt.1.1 in
    let lc = text_parts c (47 ∷ r) lz.1.1 in
    byte_step numbered_patterns 47 _ refl refl
    ∙ byte_step (step 47 numbered_patterns) 116 _ refl refl
    ∙ first-prefix (codes "iles/") ((256 ∷ 47 ∷ 256 ∷ 47 ∷ 256 ∷ 47 ∷ 256 ∷ [], 0) ∷ []) (codes "iles/" ++ (t ++ 47 ∷ (z ++ 47 ∷ (c ++ 47 ∷ r)))) (low_text (codes "iles/") refl)
    ∙ mid-goes t (z ++ 47 ∷ (c ++ 47 ∷ r)) (256 ∷ 47 ∷ 256 ∷ 47 ∷ 256 ∷ []) 0 lt.0 pt.0 pt.1
    ∙ mid-goes z (c ++ 47 ∷ r) (256 ∷ 47 ∷ 256 ∷ []) 0 lz.0 pz.0 pz.1
    ∙ mid-goes c r (256 ∷ []) 0 lc.0 pc.0 pc.1
    ∙ last-goes r 0 lc.1.1 pr.0 pr.1

pub media_goes : (t i : Text) → IsText (media_path t i) → IsPathPart t → IsPathPart i
    → first numbered_patterns (media_path t i) ≡ Some 1
media_goes t i low pt pi =
    let lt = text_parts t (47 ∷ i) (text_parts (codes "/media/") (t ++ 47 ∷ i) low).1 in
    byte_step numbered_patterns 47 _ refl refl
    ∙ byte_step (step 47 numbered_patterns) 109 _ refl refl
    ∙ first-prefix (codes "edia/") ((256 ∷ 47 ∷ 256 ∷ [], 1) ∷ []) (codes "edia/" ++ (t ++ 47 ∷ i)) (low_text (codes "edia/") refl)
    ∙ mid-goes t i (256 ∷ []) 1 lt.0 pt.0 pt.1
    ∙ last-goes i 1 lt.1.1 pi.0 pi.1

pub related_goes : (t i : Text) → IsText (related_path t i) → IsPathPart t → IsPathPart i
    → first numbered_patterns (related_path t i) ≡ Some 2
related_goes t i low pt pi =
    let lt = text_parts t (47 ∷ i) (text_parts (codes "/related/") (t ++ 47 ∷ i) low).1 in
    byte_step numbered_patterns 47 _ refl refl
    ∙ byte_step (step 47 numbered_patterns) 114 _ refl refl
    ∙ first-prefix (codes "elated/") ((256 ∷ 47 ∷ 256 ∷ [], 2) ∷ []) (codes "elated/" ++ (t ++ 47 ∷ i)) (low_text (codes "elated/") refl)
    ∙ mid-goes t i (256 ∷ []) 2 lt.0 pt.0 pt.1
    ∙ last-goes i 2 lt.1.1 pi.0 pi.1

at_end : seek {K = ℕ} 0 (([], 3) ∷ []) [] ≡ Some 3
unfolding seek
at_end = refl

pub contents_goes : first numbered_patterns (codes "/contents") ≡ Some 3
contents_goes =
    byte_step numbered_patterns 47 _ refl refl
    ∙ byte_step (step 47 numbered_patterns) 99 _ refl refl
    ∙ first-prefix (codes "ontents") (([], 3) ∷ []) (codes "ontents") (low_text (codes "ontents") refl)
    ∙ at_end

-- and what leads to a route is of its form

no_route : {A : Type 0} (k : ℕ) (o : Option ℕ) → o ≡ None → o ≡ Some k → A
no_route k o e f = absurd (let g : None ≡ Some k = sym e ∙ f in cc)

abbrev pub Goes : Rows → Text → ℕ → Type 0
Goes rs path k = seek 0 rs path ≡ Some k

mid_back : (path t : Text) (key k : ℕ) → IsText path → Goes ((256 ∷ 47 ∷ t, key) ∷ []) path k
    → (v rest : Text) × (path ≡ v ++ 47 ∷ rest) × IsPathPart v × IsText rest × Goes ((t, key) ∷ []) rest k
mid_back path t key k low h = elim (cut path) [
  | inl none ↦ no_route k _ (mid-none path t key low none) h
  | inr ([], rest, none, e) ↦ no_route k _ (mid-empty rest t key) (rw e at h)
  | inr (b ∷ v, rest, none, e) ↦
      let l = text_parts (b ∷ v) (47 ∷ rest) (rw e at low) in (
        b ∷ v,
        rest,
        e,
        (none, omega arith),
        l.1.1,
        sym (mid-goes (b ∷ v) rest t key l.0 none (omega arith))
            ∙ (rw e at h),
      )
]

last_back : (path : Text) (key k : ℕ) → IsText path → Goes ((256 ∷ [], key) ∷ []) path k → IsPathPart path × (k ≡ key)
unfolding seek
last_back [] key k low h = no_route k None refl h
last_back (b ∷ p) key k low h = elim (cases_Bool (has_slash (b ∷ p))) [
  | inl slash ↦ no_route k _ (last-none-slash (b ∷ p) key low slash) h
  | inr none ↦ (
    (none, omega arith),
    (let e : Some key ≡ Some k = sym (last-goes (b ∷ p) key low none (omega arith))
        ∙ h in cc),
  )
]

word_back : (w t path : Text) (key k : ℕ) → IsText w → IsText path → Goes ((w ++ t, key) ∷ []) path k
    → (rest : Text) × (path ≡ w ++ rest) × IsText rest × Goes ((t, key) ∷ []) rest k
word_back w t path key k lw low h = by (starts_with nat_eq path w) refl
  where
    by : (u : Bool) → starts_with nat_eq path w ≡ u → (rest : Text) × (path ≡ w ++ rest) × IsText rest
        × Goes ((t, key) ∷ []) rest k
    by true e =
        let is : path ≡ w ++ drop (length w) path = (starts_is Decides-eqb path w (starts_with nat_eq path w) refl).0
        e in
        let same = first-prefix w ((t, key) ∷ []) path lw in
        (drop (length w) path, is, (text_parts w (drop (length w) path) (rw is at low)).1, sym (rw e at same) ∙ h)
    by false e =
        let same = first-prefix w ((t, key) ∷ []) path lw in
        no_route k _ (rw e at same) h

end_back : (path : Text) (key k : ℕ) → Goes (([], key) ∷ []) path k → (path ≡ []) × (k ≡ key)
unfolding seek
end_back [] key k h = (refl, (let e : Some key ≡ Some k = h in cc))
end_back (b ∷ p) key k h = no_route k _ (byte_step (([], key) ∷ []) b p refl refl ∙ seek-empty 0 p) h

-- the form of a path that leads to a route
abbrev pub Formed : ℕ → Text → Type 0
Formed k path =
    ((k ≡ 0) × (t z c r : Text) × (path ≡ tile_path t z c r) × IsPathPart t × IsPathPart z × IsPathPart c
    × IsPathPart r)
    ⊎ ((k ≡ 1) × (t i : Text) × (path ≡ media_path t i) × IsPathPart t × IsPathPart i)
    ⊎ ((k ≡ 2) × (t i : Text) × (path ≡ related_path t i) × IsPathPart t × IsPathPart i)
    ⊎ ((k ≡ 3) × (path ≡ codes "/contents"))

tile_back : (path : Text) (k : ℕ) → IsText path → Goes ((codes "iles/" ++ 256 ∷ 47 ∷ 256 ∷ 47 ∷ 256 ∷ 47 ∷ 256 ∷ [], 0) ∷ []) path k
    → Formed k (47 ∷ 116 ∷ path)
tile_back path k low h =
    let (p0, e0, l0, h0) = word_back (codes "iles/") (256 ∷ 47 ∷ 256 ∷ 47 ∷ 256 ∷ 47 ∷ 256 ∷ []) path 0 k (low_text (codes "iles/") refl) low h in
    let (t, p1, e1, pt, l1, h1) = mid_back p0 _ 0 k l0 h0 in
    let (z, p2, e2, pz, l2, h2) = mid_back p1 _ 0 k l1 h1 in
    let (c, p3, e3, pc, l3, h3) = mid_back p2 _ 0 k l2 h2 in
    let (pr, n) = last_back p3 0 k l3 h3 in
    let is = e0 ∙ ap (λ x. codes "iles/" ++ x) (e1 ∙ ap (λ x. t ++ 47 ∷ x) (e2 ∙ ap (λ x. z ++ 47 ∷ x) e3)) in
    inl (n, t, z, c, p3, ap (λ x. 47 ∷ 116 ∷ x) is, pt, pz, pc, pr)

pair_back : (w path : Text) (key k : ℕ) → IsText w → IsText path → Goes ((w ++ 256 ∷ 47 ∷ 256 ∷ [], key) ∷ []) path k
    → (k ≡ key) × (t i : Text) × (path ≡ w ++ (t ++ 47 ∷ i)) × IsPathPart t × IsPathPart i
pair_back w path key k lw low h =
    let (p0, e0, l0, h0) = word_back w (256 ∷ 47 ∷ 256 ∷ []) path key k lw low h in
    let (t, p1, e1, pt, l1, h1) = mid_back p0 _ key k l0 h0 in
    let (pi, n) = last_back p1 key k l1 h1 in
    (n, t, p1, e0 ∙ ap (λ x. w ++ x) e1, pt, pi)

cons : (y a : ℕ) (q p : Text) → y ≡ a → q ≡ p → 47 ∷ y ∷ q ≡ 47 ∷ a ∷ p
cons y a q p e f = rw (e, f) refl

-- the second byte of a path tells which route it may take
second_back : (y : ℕ) (q : Text) (k : ℕ) → IsText (y ∷ q) → Goes (step 47 numbered_patterns) (y ∷ q) k
    → Formed k (47 ∷ y ∷ q)
second_back y q k low h =
    let h1 : Goes (step y (step 47 numbered_patterns)) q k = sym (byte_step (step 47 numbered_patterns) y q refl refl)
    ∙ h in
    elim (cases_eq y 99) [
      | inl e ↦
          let (rest, is, lr, hr) = word_back (codes "ontents") [] q 3 k (low_text (codes "ontents") refl) low.1 (rw e at h1) in
          let (nil, n) = end_back rest 3 k hr in
          inr (inr (inr (n, cons y 99 q (codes "ontents") e (is ∙ ap (λ x. codes "ontents" ++ x) nil))))
      | inr no99 ↦ elim (cases_eq y 109) [
        | inl e ↦ let (n, t, i, is, pt, pi) = pair_back (codes "edia/") q 1 k (low_text (codes "edia/") refl) low.1 (rw e at h1) in
            inr (inl (n, t, i, cons y 109 q _ e is, pt, pi))
        | inr no109 ↦ elim (cases_eq y 114) [
          | inl e ↦ let (n, t, i, is, pt, pi) = pair_back (codes "elated/") q 2 k (low_text (codes "elated/") refl) low.1 (rw e at h1) in
              inr (inr (inl (n, t, i, cons y 114 q _ e is, pt, pi)))
          | inr no114 ↦ elim (cases_eq y 116) [
            | inl e ↦ subst (λ x. Formed k (47 ∷ x ∷ q)) (sym e) (tile_back q k low.1 (rw e at h1))
            | inr no116 ↦
                let a : (99 == y) ≡ false = grind (arith, nat_tests) in
                let b : (109 == y) ≡ false = grind (arith, nat_tests) in
                let c : (114 == y) ≡ false = grind (arith, nat_tests) in
                let d : (116 == y) ≡ false = grind (arith, nat_tests) in
                no_route k _ (rw (a, b, c, d) (seek-empty 0 q)) h1
          ]
        ]
      ]
    ]

pub path_back : (path : Text) (k : ℕ) → IsText path → first numbered_patterns path ≡ Some k → Formed k path
unfolding seek
path_back [] k low h = no_route k None refl h
path_back (x ∷ p) k low h = elim (cases_eq x 47) [
  | inl e ↦ by p e low.1 (sym (byte_step numbered_patterns x p refl refl) ∙ h)
  | inr other ↦ no_route k _ (let a : (47 == x) ≡ false = grind (arith, nat_tests) in byte_step numbered_patterns x p
      refl refl ∙ (rw a (seek-empty 0 p))) h
]
  where
    by : (p : Text) → x ≡ 47 → IsText p → Goes (step x numbered_patterns) p k → Formed k (x ∷ p)
    by [] e low h = no_route k None refl (rw e at h)
    by (y ∷ q) e low h = subst (λ z. Formed k (z ∷ y ∷ q)) (sym e) (second_back y q k low (rw e at h))
