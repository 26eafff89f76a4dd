-- From words of a view, a package with how its bytes are kept, to words of the package.
use Rattle.std.proofs.Common.{◌≡◌, refl, Result, Ok, Err, IfOk, IsTrue, ap, sym, subst, ◌∙◌, ℤ, List, true}
use Rattle.std.specs.Prelude.{⊤, IsErrAnd}
use Rattle.sqlite.specs.Held.{state}
use Rattle.sqlite.specs.State.{State}
use Rattle.sqlite.specs.Store.{Ghosts}
use Rattle.sqlite.specs.declared.transaction.Transaction.{Transaction}
use Rattle.mm_definitions.specs.Bounds.{Profile}
use Rattle.mm_definitions.specs.Package.{Package}
use Rattle.mm_definitions.specs.declared.answers.Fault.{Fault}
use Rattle.mm_definitions.specs.Faults.{IsStoreFault}
use Rattle.mm_store.specs.Handed.{IsSame, Goes, Looks, ChangesWhere, Changes}
use Rattle.mm_store.specs.Kept.{no_spare, Kept, Spare}
use Rattle.mm_store.specs.Stands.{Ground, StandsInside}
use Rattle.mm_store.proofs.Going.{failed_where, any_profile}
use Rattle.mm_blobs.specs.Handed.{Finds, Frees, ReleasesOpen}
use Rattle.mm_blobs.specs.Moves.{IsMove}
use Rattle.mm_blobs.specs.Views.{View, IsSeen, spare_each}
use Rattle.mm_blobs.proofs.Moving.{then_moves, moves_less, moves_as, move_untold, then_moves_open}
use Rattle.mm_blobs.proofs.Opening.{opens, closes}
use Rattle.sqlite.specs.Order.{Row}

-- what the package is after a move, and what is told of it
changed : {T : Type 0} (profile : Profile) (s : State) (ground : Ground) (next : Package) (r : Result T Fault)
    → IfOk r (λ t. IsTrue s.is_open × (y : View) × ((y.content ≡ next) × IsSeen no_spare profile s ground y))
    → IfOk r (λ t. IsTrue s.is_open × StandsInside profile s ground next × ⊤)
changed profile s ground next (Ok t) h =
    (h.0, subst (StandsInside profile s ground) h.2.0 (closes no_spare profile s ground h.1 h.2.1), tt)
changed profile s ground next (Err e) h = tt

told : {T : Type 0} (profile : Profile) (s : State) (ground : Ground) (x : View) (Says : Package → T → Type 0)
    (r : Result T Fault)
    → IfOk r (λ t. IsTrue s.is_open × (y : View) × ((y ≡ x) × IsSeen no_spare profile s ground y × Says y.content t))
    → IfOk r (λ t. IsTrue s.is_open × StandsInside profile s ground x.content × Says x.content t)
told profile s ground x Says (Ok t) h =
    let same = ap (λ (v : View). v.content) h.2.0 in (
      h.0,
      subst (StandsInside profile s ground) same (closes no_spare profile s ground h.1 h.2.1),
      subst (λ p. Says p t)
          same h.2.2,
    )
told profile s ground x Says (Err e) h = tt

module _ {S T : Type 0} {g : Ghosts S} {a b : Transaction S} where
  module _ {next : Package → Package} {r : Result T Fault} where
    -- it changes the package so
    pub changes_where : {When : Package → Type 0} → IsSame a b
        → ((profile : Profile) → IsMove (state g a.conn.now) (state g b.conn.now)
        (λ base x. IsSeen no_spare profile (state g a.conn.now) base x × When x.content)
        (λ base x _ y. (y.content ≡ next x.content) × IsSeen no_spare profile (state g b.conn.now) base y) r)
        → ChangesWhere g a b When next r
    changes_where same move = record {
      same = same;
      survives = (move any_profile).survives;
      on = λ clean profile ground p it when. let o = opens no_spare profile (state g a.conn.now) ground p it in
          (move profile).on clean ground (record { content = p; kept = o.0 }) (o.1, when);
      comes = λ clean profile ground p it when.
          let o = opens no_spare profile (state g a.conn.now) ground p it in
          changed profile (state g b.conn.now) ground (next p) r
          ((move profile).moved clean ground (record { content = p; kept = o.0 }) (o.1, when));
      faults = (move any_profile).faults;
    }

    -- it does so wherever it is called
    pub changes_all : IsSame a b
        → ((profile : Profile) → IsMove (state g a.conn.now) (state g b.conn.now)
        (IsSeen no_spare profile (state g a.conn.now))
        (λ base x _ y. (y.content ≡ next x.content) × IsSeen no_spare profile (state g b.conn.now) base y) r)
        → Changes g a b next r
    changes_all same move =
        changes_where same (λ profile. moves_less _ _ _ r (move profile) (λ ground x it. it.0)
        (λ ground x y t it last. last))

  -- it only looks
  pub looks_of : {Says : Package → T → Type 0} {r : Result T Fault} → Finds g a b (λ v. Says v.content) r
      → Looks g a b Says r
  looks_of {Says = Says} {r = r} h = record {
    same = h.same;
    survives = (h.found any_profile no_spare).survives;
    on = λ clean profile ground p it when. let o = opens no_spare profile (state g a.conn.now) ground p it in
        (h.found profile no_spare).on clean ground (record { content = p; kept = o.0 }) o.1;
    comes = λ clean profile ground p it when.
        let o = opens no_spare profile (state g a.conn.now) ground p it in
        told profile (state g b.conn.now) ground (record { content = p; kept = o.0 }) Says r
        ((h.found profile no_spare).moved clean ground (record { content = p; kept = o.0 }) o.1);
    faults = (h.found any_profile no_spare).faults;
  }

  -- the exit of a `?`: whatever the call was to do, where this was known of the package
  pub move_gave_up : {U : Type 0} {Where : Profile → Package → Type 0} {When : Package → Type 0}
      {Last : Profile → Ground → View → T → View → Type 0} {two : Package → U → Package}
      {Less : Profile → Package → U → Type 0} {e : Fault} {r : Result U Fault} → IsSame a b
      → ((profile : Profile) → IsMove (state g a.conn.now) (state g b.conn.now)
      (λ base x. IsSeen no_spare profile (state g a.conn.now) base x × When x.content) (Last profile) (Err e))
      → IsErrAnd r (λ f. f ≡ e) → ((profile : Profile) (p : Package) → Where profile p → When p)
      → Goes g a b Where two Less r
  move_gave_up {When = When} {e = e} same move is leads =
      let one : Goes g a b {T = T} (λ profile. When) (λ p it. p) (λ profile p it. ⊤) (Err e) = record {
        same = same;
        survives = (move any_profile).survives;
        on = λ clean profile ground p it when. let o = opens no_spare profile (state g a.conn.now) ground p it in
            (move profile).on clean ground (record { content = p; kept = o.0 }) (o.1, when);
        comes = λ clean profile ground p it when. tt;
        faults = (move any_profile).faults;
      } in
      failed_where one is leads

  pub move_failed_all : {U : Type 0} {Where : Profile → Package → Type 0}
      {Last : Profile → Ground → View → T → View → Type 0} {two : Package → U → Package}
      {Less : Profile → Package → U → Type 0} {e : Fault} {r : Result U Fault} → IsSame a b
      → ((profile : Profile) → IsMove (state g a.conn.now) (state g b.conn.now)
      (IsSeen no_spare profile (state g a.conn.now)) (Last profile) (Err e))
      → IsErrAnd r (λ f. f ≡ e) → Goes g a b Where two Less r
  move_failed_all {Last = Last} {e = e} same move is =
      move_gave_up {When = λ p. ⊤} {Last = Last} same
      (λ profile. moves_less (Last profile) _ _ (Err e) (move profile) (λ ground x it. it.0)
      (λ ground x y t it last. last)) is (λ profile p it. tt)

  pub finds_failed : {U : Type 0} {Where : Profile → Package → Type 0} {Says : View → T → Type 0}
      {two : Package → U → Package} {Less : Profile → Package → U → Type 0} {e : Fault} {r : Result U Fault}
      → Finds g a b Says (Err e)
      → IsErrAnd r (λ f. f ≡ e) → Goes g a b Where two Less r
  finds_failed h is = move_failed_all h.same (λ profile. h.found profile no_spare) is

  -- ---- one look at a view after another

  pub finds_then : {U : Type 0} {c : Transaction S} {Says : View → T → Type 0} {More : View → U → Type 0} {x : T}
      {r : Result U Fault} → Finds g a b Says (Ok x) → Finds g b c More r → Finds g a c (λ v y. Says v x × More v y) r
  finds_then {c = c} {Says = Says} {More = More} {x = x} {r = r} h k = record {
    same = k.same ∙ h.same;
    found = λ profile spare.
        then_moves
        (λ base v y w. (w ≡ v) × IsSeen spare profile (state g c.conn.now) base w × (Says w x × More w y)) _ _ _ x r
        (h.found profile spare) (k.found profile spare) (λ base v w it mid. mid.1)
        (λ base v w z y it mid last. (last.0 ∙ mid.0, last.1, (subst (λ u. Says u x) (sym last.0) mid.2, last.2)));
  }

  pub finds_as : {U : Type 0} {Says : View → T → Type 0} {Less : View → U → Type 0} {x : T} {y : U} → Finds g a b Says
      (Ok x) → ((v : View) → Says v x → Less v y) → Finds g a b Less (Ok y)
  finds_as {Less = Less} {x = x} {y = y} h tells = record {
    same = h.same;
    found = λ profile spare. moves_as _ _ x y (h.found profile spare) (λ base v it. it)
        (λ base v w it last. (last.0, last.1, tells w last.2));
  }

  -- what was found is told as a fault
  pub finds_denied : {U : Type 0} {Where : Profile → Package → Type 0} {Says : View → T → Type 0}
      {two : Package → U → Package} {Less : Profile → Package → U → Type 0} {x : T} {e : Fault}
      → Finds g a b Says (Ok x)
      → IsStoreFault e → Goes g a b Where two Less (Err e)
  finds_denied {U = U} {Says = Says} {x = x} {e = e} h is =
      move_failed_all {Last = λ profile base v it w. ⊤} h.same
      (λ profile. move_untold {U = T} _ _ x e (h.found profile no_spare) is) refl

-- ---- rows go, and then the blobs that they named, if nothing else names them

-- it changes the package so, and these blobs may stand unnamed then
pub record Clears {S T : Type 0} (g : Ghosts S) (a b : Transaction S) (spare : Spare) (next : Package → Package)
    (r : Result T Fault) : Type 0 where
  pub same : IsSame a b
  pub move : (profile : Profile) → IsMove (state g a.conn.now) (state g b.conn.now)
      (IsSeen no_spare profile (state g a.conn.now))
      (λ base x _ y. (y.content ≡ next x.content) × IsSeen spare profile (state g b.conn.now) base y) r

module _ {S T U : Type 0} {g : Ghosts S} {a b c : Transaction S} {next : Package → Package} {x : T} where
  -- the blobs that the rows named are among those
  pub frees : {Says : View → T → Type 0} {Freed : Kept → ℤ → Type 0} {r : Result U Fault} → Finds g a b Says (Ok x)
      → Frees g b c Freed next r
      → (more : Spare) → ((v : View) → Says v x → (z : ℤ) → Freed v.kept z → more z ≡ true) → Clears g a c more next r
  frees {r = r} h k more covers = record {
    same = k.same ∙ h.same;
    move = λ profile.
        then_moves (λ base v _ w. (w.content ≡ next v.content) × IsSeen more profile (state g c.conn.now) base w) _ _ _
        x r
        (h.found profile no_spare) (k.gone profile more) (λ base v w it mid. (mid.1, covers w mid.2))
        (λ base v w z u it mid last. (last.0 ∙ ap (λ (o : View). next o.content) mid.0, last.1));
  }

  -- those of these rows are released
  pub releases : {rows slice : List Row} {r : Result U Fault} (spare : Spare)
      → Clears g a b (spare_each rows spare) next (Ok x)
      → slice ≡ rows → ReleasesOpen g b c (spare_each slice) r → Clears g a c spare next r
  releases {r = r} spare h is k = record {
    same = k.same ∙ h.same;
    move = λ profile.
        then_moves_open (λ base v _ w. (w.content ≡ next v.content) × IsSeen spare profile (state g c.conn.now) base w)
        _ _ _ x r
        (h.move profile) (k.released profile spare)
        (λ base v w up it mid. (
          up,
          subst (λ rs. IsSeen (spare_each rs spare) profile (state g b.conn.now) base w)
              (sym is) mid.1,
        ))
        (λ base v w z u it mid last. (ap (λ (o : View). o.content) last.0 ∙ mid.0, last.1));
  }

pub cleared : {S T : Type 0} {g : Ghosts S} {a b : Transaction S} {next : Package → Package} {r : Result T Fault}
    → Clears g a b no_spare next r
    → Changes g a b next r
cleared h = changes_all h.same h.move

pub clears_failed : {S T U : Type 0} {g : Ghosts S} {a b : Transaction S} {spare : Spare}
    {Where : Profile → Package → Type 0}
    {next : Package → Package} {two : Package → U → Package} {Less : Profile → Package → U → Type 0} {e : Fault}
    {r : Result U Fault}
    → Clears {T = T} g a b spare next (Err e) → IsErrAnd r (λ f. f ≡ e) → Goes g a b Where two Less r
clears_failed h is = move_failed_all h.same h.move is
