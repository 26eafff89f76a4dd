-- How an entry comes to name a blob, and goes: what the calls that find, name and release make together. Each lemma
-- speaks of words.
use Rattle.std.proofs.Common.{◌≡◌, ℕ, ℤ, inr, List, Option, Some, None, Result, Ok, Err, refl, sym, ap, subst, ◌∙◌}
use Rattle.std.specs.Prelude.{IsErrAnd}
use Rattle.std.proofs.lemmas.Result.{err_from_is_err_and}
use Rattle.sqlite.specs.Held.{state}
use Rattle.sqlite.specs.Store.{Ghosts}
use Rattle.sqlite.specs.declared.transaction.Transaction.{Transaction}
use Rattle.mm_definitions.specs.Package.{Package}
use Rattle.mm_definitions.specs.declared.answers.Fault.{Fault}
use Rattle.mm_store.specs.Blobs.{bytes_at}
use Rattle.mm_definitions.specs.Faults.{store}
use Rattle.mm_store.specs.Handed.{Changes}
use Rattle.mm_store.specs.Kept.{no_spare}
use Rattle.mm_blobs.specs.Entries.{spare_freed}
use Rattle.mm_blobs.specs.Handed.{Finds, Names, Renames, Unnames, Gives, Keeps, ReleasesOpen}
use Rattle.mm_blobs.specs.Moves.{IsMove}
use Rattle.mm_blobs.specs.Views.{View, IsSeen, spare_too, spare_but}
use Rattle.mm_blobs.proofs.Moving.{then_moves, then_moves_open, then_failed, moves_where, move_failed}
use Rattle.mm_blobs.proofs.Naming.{named_again}
use Rattle.mm_blobs.proofs.Opening.{seen_looser}
use Rattle.mm_blobs.proofs.Viewing.{changes_all, move_failed_all}
use Rattle.mm_blobs.proofs.Releasing.{commits_nothing}
use Rattle.mm_content.proofs.Writing.{HasNamed, HasDone}

module _ {S : Type 0} {g : Ghosts S} where
  -- ---- an entry names another blob

  -- the entry stands, and names that blob
  pub names_other : {T : Type 0} {a b : Transaction S} {blob was : ℤ} {entry : View → Option ℤ} {stands : Option ℤ}
      {next : List ℕ → View → View} {r : Result T Fault}
      → Renames g a b blob entry next r → stands ≡ Some was → Names g a b blob entry stands next r
  names_other {a = a} {b = b} {blob = blob} {was = was} {entry = entry} {next = next} {r = r} h is = record {
    same = h.same;
    named = λ profile spare bytes.
        subst (λ o. IsMove (state g a.conn.now) (state g b.conn.now)
        (λ base v. IsSeen spare profile (state g a.conn.now) base v
        × ((bytes_at v.kept.shelf blob ≡ Some bytes) × (entry v ≡ o)))
        (λ base v _ w. (w ≡ next bytes v) × IsSeen (spare_freed o (spare_but blob spare)) profile (state g b.conn.now)
        base w) r) (sym is) (h.named profile spare bytes was);
  }

  pub names_new : {T : Type 0} {a b : Transaction S} {blob : ℤ} {entry : View → Option ℤ} {stands : Option ℤ}
      {next : List ℕ → View → View} {r : Result T Fault}
      → Names g a b blob entry None next r → stands ≡ None → Names g a b blob entry stands next r
  names_new {a = a} {b = b} {blob = blob} {entry = entry} {next = next} {r = r} h is =
      subst (λ o. Names g a b blob entry o next r) (sym is) h

  module _ {a b c : Transaction S} {Says : View → Option ℤ → Type 0} {stands : Option ℤ}
      (asked : Finds g a b Says (Ok stands)) (entry : View → Option ℤ)
      (says : (v : View) → Says v stands → entry v ≡ stands) where
    -- the entry names the blob, and the one goes that it named, if nothing else names it
    pub gives : {T U : Type 0} {d : Transaction S} {blob : ℤ} {next : List ℕ → View → View}
        {last : List ℕ → Package → Package} {x : T} {r : Result U Fault}
        → Names g b c blob entry stands next (Ok x) → ReleasesOpen g c d (spare_freed stands) r
        → ((bytes : List ℕ) (v : View) → (next bytes v).content ≡ last bytes v.content) → Gives g a d blob last r
    gives {d = d} {blob = blob} {last = last} {x = x} {r = r} named released content = record {
      same = released.same ∙ named.same ∙ asked.same;
      given = λ profile spare bytes.
          let s0 = state g a.conn.now in
          let s1 = state g b.conn.now in
          let s2 = state g c.conn.now in
          let s3 = state g d.conn.now in
          let rest = spare_but blob spare in
          let found = moves_where (λ base v. IsSeen spare profile s0 base v × (bytes_at v.kept.shelf blob ≡ Some bytes))
          s0 s1 (Ok stands) (asked.found profile spare) (λ base v it. it.0) in
          let names = then_moves (λ base v _ w. (w.content ≡ last bytes v.content)
          × IsSeen (spare_freed stands rest) profile s2 base w) s0 s1 s2 stands (Ok x) found
          (named.named profile spare bytes)
          (λ base v w it mid. (mid.1.1, (ap (λ (u : View). bytes_at u.kept.shelf blob) mid.1.0 ∙ it.1, says w mid.1.2)))
          (λ base v w z u it mid end. (
            ap (λ (o : View). o.content) end.0 ∙ content bytes w
                ∙ ap (λ (o : View). last bytes o.content) mid.1.0,
            end.1,
          )) in
          then_moves_open (λ base v _ w. (w.content ≡ last bytes v.content) × IsSeen rest profile s3 base w) s0 s2 s3 x
          r names (released.released profile rest) (λ base v w up it mid. (up, mid.1))
          (λ base v w z u it mid end. (ap (λ (o : View). o.content) end.0 ∙ mid.0, end.1));
    }

    pub gives_not : {T U : Type 0} {blob : ℤ} {next : List ℕ → View → View} {last : List ℕ → Package → Package}
        {e : Fault} {r : Result U Fault}
        → Names {T = T} g b c blob entry stands next (Err e) → IsErrAnd r (λ f. f ≡ e) → Gives g a c blob last r
    gives_not {blob = blob} {e = e} {r = r} named is = record {
      same = named.same ∙ asked.same;
      given = λ profile spare bytes.
          let s0 = state g a.conn.now in
          let s1 = state g b.conn.now in
          let s2 = state g c.conn.now in
          let p = err_from_is_err_and r is in
          let found = moves_where (λ base v. IsSeen spare profile s0 base v × (bytes_at v.kept.shelf blob ≡ Some bytes))
          s0 s1 (Ok stands) (asked.found profile spare) (λ base v it. it.0) in
          rw (p.1, p.2) (move_failed s0 s2 e
          (then_failed s0 s1 s2 stands e found (named.named profile spare bytes)
          (λ base v w up it mid. (
            mid.1.1,
            (
              ap (λ (u : View). bytes_at u.kept.shelf blob) mid.1.0
                  ∙ it.1,
              says w mid.1.2,
            ),
          )))
          (λ base v it. it));
    }

    -- the entry goes, and the blob that it named, if nothing else names it
    pub removes : {T U : Type 0} {d : Transaction S} {next : View → View} {last : Package → Package} {x : T}
        {r : Result U Fault}
        → Unnames g b c entry next (Ok x) → ReleasesOpen g c d (spare_freed stands) r
        → ((v : View) → (next v).content ≡ last v.content) → Changes g a d last r
    removes {d = d} {last = last} {x = x} {r = r} gone released content =
        changes_all (released.same ∙ gone.same ∙ asked.same) (λ profile.
        let s2 = state g c.conn.now in
        let s3 = state g d.conn.now in
        let went = then_moves (HasNamed profile s2 last stands) _ _ s2 stands (Ok x) (asked.found profile no_spare)
        (gone.gone profile no_spare stands)
        (λ base v w it mid. (mid.1, says w mid.2))
        (λ base v w z u it mid end. (
          ap (λ (o : View). o.content) end.0 ∙ content w
              ∙ ap (λ (o : View). last o.content) mid.0,
          end.1,
        )) in
        then_moves_open (HasDone profile s3 last) _ s2 s3 x r went (released.released profile no_spare)
        (λ base v w up it mid. (up, mid.1))
        (λ base v w z u it mid end. (ap (λ (o : View). o.content) end.0 ∙ mid.0, end.1)))

    pub removes_not : {T U : Type 0} {next : View → View} {last : Package → Package} {e : Fault} {r : Result U Fault}
        → Unnames {T = T} g b c entry next (Err e) → IsErrAnd r (λ f. f ≡ e)
        → Changes g a c last r
    removes_not {e = e} gone is = move_failed_all (gone.same ∙ asked.same)
        (λ profile. then_failed _ _ _ stands e (asked.found profile no_spare) (gone.gone profile no_spare stands)
        (λ base v w up it mid. (mid.1, says w mid.2))) is

  pub gives_unasked : {T U : Type 0} {a b : Transaction S} {Says : View → T → Type 0} {blob : ℤ}
      {last : List ℕ → Package → Package} {e : Fault} {r : Result U Fault} → Finds g a b Says (Err e)
      → IsErrAnd r (λ f. f ≡ e)
      → Gives g a b blob last r
  gives_unasked {e = e} {r = r} h is = record {
    same = h.same;
    given = λ profile spare bytes. let p = err_from_is_err_and r is in rw (p.1, p.2)
        (move_failed _ _ e (h.found profile spare) (λ base v it. it.0));
  }

  -- ---- bytes are written

  -- the bytes are kept, and the entry names their blob
  pub writes : {U : Type 0} {a b c : Transaction S} {bytes : List ℕ} {blob : ℤ} {last : List ℕ → Package → Package}
      {next : Package → Package} {r : Result U Fault} → Keeps g a b bytes (Ok blob) → Gives g b c blob last r
      → ((p : Package) → last bytes p ≡ next p) → Changes g a c next r
  writes {c = c} {bytes = bytes} {blob = blob} {next = next} {r = r} kept given is =
      changes_all (given.same ∙ kept.same) (λ profile.
      let s2 = state g c.conn.now in
      then_moves (λ base v _ w. (w.content ≡ next v.content) × IsSeen no_spare profile s2 base w) _ _ s2 blob r
      (kept.kept profile no_spare) (given.given profile (spare_too blob no_spare) bytes)
      (λ base v w it mid. (mid.1, mid.2))
      (λ base v w z u it mid end. (
        end.0 ∙ is w.content ∙ ap (λ (o : View). next o.content) mid.0,
        seen_looser
            (spare_but blob (spare_too blob no_spare)) no_spare profile s2 base z (named_again no_spare blob) end.1,
      )))

  pub writes_not : {U : Type 0} {a b : Transaction S} {bytes : List ℕ} {next : Package → Package} {e : Fault}
      {r : Result U Fault} → Keeps g a b bytes (Err e) → IsErrAnd r (λ f. f ≡ e) → Changes g a b next r
  writes_not h is = move_failed_all h.same (λ profile. h.kept profile no_spare) is

  -- nothing is called
  pub writes_nothing : {U : Type 0} {a : Transaction S} {next : Package → Package}
      → Changes g a a {T = U} next (Err store)
  writes_nothing = record {
    same = refl;
    survives = commits_nothing _;
    on = λ clean profile ground p it when. it.back;
    comes = λ clean profile ground p it when. tt;
    faults = inr refl;
  }
