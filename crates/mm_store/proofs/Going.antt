-- How calls that are lent a transaction on a package make one call. Each lemma speaks of words: of all profiles, and of
-- the transaction itself.
use Rattle.std.proofs.Common.{◌≡◌, pos, false, Result, Ok, Err, IfOk, IfErr, refl, sym, subst, ◌∙◌, arith}
use Rattle.std.specs.Prelude.{⊤, IsErrAnd}
use Rattle.sqlite.specs.Held.{state}
use Rattle.sqlite.specs.Store.{Ghosts}
use Rattle.sqlite.specs.declared.transaction.Transaction.{Transaction}
use Rattle.mm_definitions.specs.Bounds.{Profile}
use Rattle.mm_definitions.specs.Package.{Package}
use Rattle.mm_definitions.specs.declared.answers.Fault.{Fault}
use Rattle.mm_store.specs.Stands.{StandsInside}
use Rattle.mm_definitions.specs.Faults.{IsStoreFault}
use Rattle.mm_store.specs.Handed.{Goes, ChangesWhere, Changes}
use Rattle.mm_store.proofs.Quiet.{quiet_then}

pub parts : {U : Type 0} (A : Type 0) (B C D E : U → Type 0) (r : Result U Fault) → IfOk r (λ y. A × B y × C y)
    → ((y : U) → C y → (B y → D y) × E y) → IfOk r (λ y. A × D y × E y)
parts A B C D E (Ok y) h f = let k = f y h.2 in (h.0, k.0 h.1, k.1)
parts A B C D E (Err e) h f = tt

pub told : {U : Type 0} (A : U → Type 0) (r : Result U Fault) (e : Fault) → IsErrAnd r (λ f. f ≡ e) → IsStoreFault e
    → IfOk r A × IfErr r IsStoreFault
told A (Ok y) e h k = absurd h
told A (Err f) e h k = (tt, subst IsStoreFault (sym h) k)

pub any_profile : Profile
any_profile = record { version = pos 0; coordinate = 0; pixel_size = 0; matrix_pieces = false }

module _ {S : Type 0} {g : Ghosts S} where
  -- ---- one call after another

  pub goes_then : {T U : Type 0} {a b c : Transaction S} {First Second : Profile → Package → Type 0}
      {one : Package → T → Package} {two : Package → U → Package} {Says : Profile → Package → T → Type 0}
      {More : Profile → Package → U → Type 0} {x : T} {r : Result U Fault}
      → Goes g a b First one Says (Ok x) → Goes g b c Second two More r
      → ((profile : Profile) (p : Package) → First profile p → Says profile p x → Second profile (one p x))
      → Goes g a c First (λ p y. two (one p x) y) (λ profile p y. Says profile p x × More profile (one p x) y) r
  goes_then {one = one} {x = x} {r = r} h k leads = record {
    same = k.same ∙ h.same;
    survives = quiet_then _ _ _ h.survives k.survives;
    on = λ clean profile ground p it when.
        let mid = h.comes (omega (arith, k.survives.clean)) profile ground p it when in
        k.on clean profile ground (one p x) mid.1 (leads profile p when mid.2);
    comes = λ clean profile ground p it when.
        let mid = h.comes (omega (arith, k.survives.clean)) profile ground p it when in
        parts _ _ _ _ _ r (k.comes clean profile ground (one p x) mid.1 (leads profile p when mid.2))
        (λ y more. (λ in_it. in_it, (mid.2, more)));
    faults = k.faults;
  }

  -- where nothing is asked of the second
  pub goes_on : {T U : Type 0} {a b c : Transaction S} {First : Profile → Package → Type 0}
      {one : Package → T → Package} {two : Package → U → Package} {Says : Profile → Package → T → Type 0}
      {More : Profile → Package → U → Type 0} {x : T} {r : Result U Fault}
      → Goes g a b First one Says (Ok x) → Goes g b c (λ profile p. ⊤) two More r
      → Goes g a c First (λ p y. two (one p x) y) (λ profile p y. Says profile p x × More profile (one p x) y) r
  goes_on h k = goes_then h k (λ profile p when says. tt)

  -- ---- the same call, told in other words

  -- more is known before
  pub goes_given : {T : Type 0} {a b : Transaction S} {First When : Profile → Package → Type 0}
      {one : Package → T → Package} {Says : Profile → Package → T → Type 0} {r : Result T Fault}
      → Goes g a b First one Says r → ((profile : Profile) (p : Package) → When profile p → First profile p)
      → Goes g a b When one Says r
  goes_given h leads = record {
    same = h.same;
    survives = h.survives;
    on = λ clean profile ground p it when. h.on clean profile ground p it (leads profile p when);
    comes = λ clean profile ground p it when. h.comes clean profile ground p it (leads profile p when);
    faults = h.faults;
  }

  -- whatever it answers
  pub goes_less : {T : Type 0} {a b : Transaction S} {When : Profile → Package → Type 0}
      {one two : Package → T → Package} {Says Less : Profile → Package → T → Type 0} {r : Result T Fault}
      → Goes g a b When one Says r → ((profile : Profile) (p : Package) (it : T) → When profile p → Says profile p it
      → (two p it ≡ one p it) × Less profile p it)
      → Goes g a b When two Less r
  goes_less {b = b} {r = r} h tells = record {
    same = h.same;
    survives = h.survives;
    on = h.on;
    comes = λ clean profile ground p it when.
        parts _ _ _ _ _ r (h.comes clean profile ground p it when)
        (λ y says. let t = tells profile p y when says in
        (λ in_it. subst (StandsInside profile (state g b.conn.now) ground) (sym t.0) in_it, t.1));
    faults = h.faults;
  }

  -- the answer is made of the call's
  pub goes_as : {T U : Type 0} {a b : Transaction S} {When : Profile → Package → Type 0} {one : Package → T → Package}
      {two : Package → U → Package} {Says : Profile → Package → T → Type 0} {Less : Profile → Package → U → Type 0}
      {x : T} {y : U}
      → Goes g a b When one Says (Ok x)
      → ((profile : Profile) (p : Package) → When profile p → Says profile p x → (two p y ≡ one p x) × Less profile p y)
      → Goes g a b When two Less (Ok y)
  goes_as {b = b} h tells = record {
    same = h.same;
    survives = h.survives;
    on = h.on;
    comes = λ clean profile ground p it when.
        let end = h.comes clean profile ground p it when in
        let t = tells profile p when end.2 in
        (end.0, subst (StandsInside profile (state g b.conn.now) ground) (sym t.0) end.1, t.1);
    faults = tt;
  }

  -- a look's answer, made of others'
  pub tells : {T U : Type 0} {a b : Transaction S} {When : Profile → Package → Type 0}
      {Says : Profile → Package → T → Type 0} {Less : Profile → Package → U → Type 0} {x : T} {y : U}
      → Goes g a b When (λ p it. p) Says (Ok x)
      → ((profile : Profile) (p : Package) → Says profile p x → Less profile p y)
      → Goes g a b When (λ p it. p) Less (Ok y)
  tells h says = goes_as h (λ profile p when it. (refl, says profile p it))

  -- ---- a change after another call, which tells nothing more

  pub then_change : {T U : Type 0} {a b c : Transaction S} {First : Profile → Package → Type 0}
      {When : Package → Type 0} {one : Package → T → Package} {two : Package → Package}
      {Says : Profile → Package → T → Type 0} {x : T} {r : Result U Fault}
      → Goes g a b First one Says (Ok x) → ChangesWhere g b c When two r
      → ((profile : Profile) (p : Package) → First profile p → Says profile p x → When (one p x))
      → Goes g a c First (λ p y. two (one p x)) (λ profile p y. Says profile p x) r
  then_change h k leads = goes_less (goes_then h k leads) (λ profile p y when says. (refl, says.0))

  pub next_change : {T U : Type 0} {a b c : Transaction S} {First : Profile → Package → Type 0}
      {one : Package → T → Package} {two : Package → Package} {Says : Profile → Package → T → Type 0} {x : T}
      {r : Result U Fault}
      → Goes g a b First one Says (Ok x) → Changes g b c two r
      → Goes g a c First (λ p y. two (one p x)) (λ profile p y. Says profile p x) r
  next_change h k = then_change h k (λ profile p when says. tt)

  -- one change, then another
  pub changes_then : {T U : Type 0} {a b c : Transaction S} {When More : Package → Type 0} {one two : Package → Package}
      {x : T} {r : Result U Fault} → ChangesWhere g a b When one (Ok x) → ChangesWhere g b c More two r
      → ((p : Package) → When p → More (one p)) → ChangesWhere g a c When (λ p. two (one p)) r
  changes_then h k so = goes_less (goes_then h k (λ profile p when says. so p when))
      (λ profile p y when says. (refl, tt))

  pub change_where : {T : Type 0} {a b : Transaction S} {When : Package → Type 0} {one : Package → Package}
      {r : Result T Fault} (Where : Package → Type 0) → ChangesWhere g a b When one r
      → ((p : Package) → Where p → When p)
      → ChangesWhere g a b Where one r
  change_where Where h so = goes_given h (λ profile p it. so p it)

  -- the look tells that the change may be made
  pub look_changes : {T U : Type 0} {a b c : Transaction S} {Says : Profile → Package → T → Type 0}
      {When Where : Package → Type 0} {one last : Package → Package} {x : T} {r : Result U Fault}
      → Goes g a b (λ profile p. ⊤) (λ p it. p) Says (Ok x) → ChangesWhere g b c When one r
      → ((profile : Profile) (p : Package) → Where p → Says profile p x → When p × (last p ≡ one p))
      → ChangesWhere g a c Where last r
  look_changes {Where = Where} h k so =
      goes_less (goes_then (goes_given {When = λ profile. Where} h (λ profile p it. tt)) k
      (λ profile p it says. (so profile p it says).0)) (λ profile p y it says. ((so profile p it says.0).1, tt))

  -- the exit of a `?`: whatever the call was to do, of which this was known
  pub failed_where : {T U : Type 0} {a b : Transaction S} {When Where : Profile → Package → Type 0}
      {one : Package → T → Package} {two : Package → U → Package} {Says : Profile → Package → T → Type 0}
      {Less : Profile → Package → U → Type 0} {e : Fault} {r : Result U Fault}
      → Goes g a b When one Says (Err e) → IsErrAnd r (λ f. f ≡ e)
      → ((profile : Profile) (p : Package) → Where profile p → When profile p) → Goes g a b Where two Less r
  failed_where {e = e} {r = r} h is leads = record {
    same = h.same;
    survives = h.survives;
    on = λ clean profile ground p it when. h.on clean profile ground p it (leads profile p when);
    comes = λ clean profile ground p it when. (told _ r e is h.faults).0;
    faults = (told (λ _. ⊤) r e is h.faults).1;
  }

  pub failed : {T U : Type 0} {a b : Transaction S} {Where : Profile → Package → Type 0} {one : Package → T → Package}
      {two : Package → U → Package} {Says : Profile → Package → T → Type 0} {Less : Profile → Package → U → Type 0}
      {e : Fault} {r : Result U Fault}
      → Goes g a b (λ profile p. ⊤) one Says (Err e) → IsErrAnd r (λ f. f ≡ e) → Goes g a b Where two Less r
  failed h is = failed_where h is (λ profile p it. tt)

  -- what the call answered is told as a fault
  pub denied : {T U : Type 0} {a b : Transaction S} {Where : Profile → Package → Type 0} {one : Package → T → Package}
      {two : Package → U → Package} {Says : Profile → Package → T → Type 0} {Less : Profile → Package → U → Type 0}
      {x : T} {e : Fault}
      → Goes g a b (λ profile p. ⊤) one Says (Ok x) → IsStoreFault e → Goes g a b Where two Less (Err e)
  denied h is = record {
    same = h.same;
    survives = h.survives;
    on = λ clean profile ground p it when. h.on clean profile ground p it tt;
    comes = λ clean profile ground p it when. tt;
    faults = is;
  }
