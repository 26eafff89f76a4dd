use Rattle.std.proofs.Common.{◌≡◌, ◌∙◌, ◌<ℤ◌, ◌++◌, ◌∷◌, pos, false, true, inl, inr, codes, drop, sym, ap, subst, arith}
use Rattle.std.proofs.Common.{rules, w64}
use Rattle.std.proofs.lemmas.Int.{ints, to_z-of_z}
use mir.Val.{SFits}
use Rattle.mm_definitions.specs.Bounds.{IsName}
use Rattle.mm_definitions.specs.Keys.{Text}
use Rattle.mm_definitions.specs.Numbers.{SpellsNumber}
use Rattle.mm_definitions.proofs.ReadingFacts.{spells_one}
use Rattle.mm_desk.proofs.RowPaths.{word_is, ends_are, is_word, no_word}
use Rattle.mm_desk.proofs.routes.rows_wanted.Goals as goal

pub returns-in_default-at_slash : goal.returns-in_default-at_slash
returns-in_default-at_slash c = λ table first a. c.in_default-at_slash.ensures (codes "rows") (table ++ 47 ∷ a.0) (ap (drop 1) (sym c.in-Some.ensures ∙ a.1))

pub returns-then-ne : goal.returns-then-ne
returns-then-ne c = λ table first a.
    let w = word_is c.args.path.now c.in-Some.parts.now c.in-Some-at_slash.word.now c.in-Some-at_slash.rest.now
    c.in-Some.ensures c.in-Some-at_slash.ensures.0 c.in-Some-at_slash.ensures.1 table first a in
    no_word c.in-Some-at_slash.word.now (codes "rows") c.ne.result c.ne.ensures c.if-ne.true w.0

pub returns-in_default-read : goal.returns-in_default-read
returns-in_default-read c = λ table first a.
    let w = word_is c.args.path.now c.in-Some.parts.now c.in-Some-at_slash.word.now c.in-Some-at_slash.rest.now
    c.in-Some.ensures c.in-Some-at_slash.ensures.0 c.in-Some-at_slash.ensures.1 table first a in
    let e = ends_are c.in-Some-at_slash.rest.now c.in-Some-at_slash-2.front.now c.in-Some-at_slash-2.back.now
    c.in-Some-at_slash-2.ensures.0 c.in-Some-at_slash-2.ensures.1 table a.0 w.1 a.2 in
    let named : IsName c.in-Some-at_slash-2.front.now = subst IsName (sym e.0) a.2 in
    let e : false ≡ true = c.in_default-read.ensures.named.1 named in cc

pub returns-in-Ok : goal.returns-in-Ok
returns-in-Ok c =
    let same = is_word c.in-Some-at_slash.word.now (codes "rows") c.ne.result c.ne.ensures c.if-ne.false in
    let fits : SFits w64 c.in-Ok.first = search rules in
    let path : c.args.path.now ≡ 47 ∷ (codes "rows" ++ 47 ∷ (c.in-Some-at_slash-2.front.now ++ 47 ∷ c.in-Some-at_slash-2.back.now)) =
    c.in-Some.ensures ∙ ap (λ (x : Text). 47 ∷ x)
    (c.in-Some-at_slash.ensures.0 ∙ (λ i. same i ++ 47 ∷ c.in-Some-at_slash-2.ensures.0 i)) in
    rw (to_z-of_z w64 c.in-Ok.first fits, c.in-Some-read.ensures.value)
    (c.in-Some-at_slash-2.back.now, path, c.in-Some-read.ensures.named.0 (search rules), c.in-Ok.ensures.ok)

pub returns-in-Err : goal.returns-in-Err
returns-in-Err c = λ table first a.
    let w = word_is c.args.path.now c.in-Some.parts.now c.in-Some-at_slash.word.now c.in-Some-at_slash.rest.now
    c.in-Some.ensures c.in-Some-at_slash.ensures.0 c.in-Some-at_slash.ensures.1 table first a in
    let e = ends_are c.in-Some-at_slash.rest.now c.in-Some-at_slash-2.front.now c.in-Some-at_slash-2.back.now
    c.in-Some-at_slash-2.ensures.0 c.in-Some-at_slash-2.ensures.1 table a.0 w.1 a.2 in
    let spelled : SpellsNumber c.in-Some-at_slash-2.back.now first = subst (λ t. SpellsNumber t first) (sym e.1)
    a.3.0 in
    elim c.in-Err.ensures.err [
      | inl (why, none) ↦ none first spelled
      | inr (why, x, sx, out) ↦
          let q : x ≡ first = spells_one c.in-Some-at_slash-2.back.now x first sx spelled in
          elim out [
            | inl below ↦ (let b : first <ℤ pos 1 = rw q at below in omega (arith, ints, b, a.3.1))
            | inr above ↦ (let b : pos 9007199254740992 <ℤ first = rw q at above in omega (arith, ints, b, a.3.2))
          ]
    ]
