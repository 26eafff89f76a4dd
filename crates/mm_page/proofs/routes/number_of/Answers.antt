use Rattle.std.proofs.Common.{rules, arith, ◌≡◌, ◌∙◌, ◌<ℤ◌, inl, inr, Some, sym, w64}
use Rattle.std.proofs.lemmas.Int.{ints, to_z-of_z}
use mir.Val.{SFits}
use Rattle.mm_definitions.proofs.ReadingFacts.{spells_one}
use Rattle.mm_page.proofs.routes.number_of.Goals as goal

pub returns-in-Err-clause-number : goal.returns-in-Err-clause-number
returns-in-Err-clause-number c = λ v took z n.
    let is : Some v ≡ Some c.in_ok-text.text.now = sym took.1 ∙ c.in_ok-text.ensures took.0 in
    let same : v ≡ c.in_ok-text.text.now = cc in
    elim c.in-Err.ensures.err [
      | inl (e, none) ↦ none z (rw same at n.0)
      | inr (e, x, sx, out) ↦
          let q : x ≡ z = spells_one c.in_ok-text.text.now x z sx (rw same at n.0) in
          let low = (let f : SFits w64 c.args.least = search rules in to_z-of_z w64 c.args.least f) in
          let high = (let f : SFits w64 c.args.most = search rules in to_z-of_z w64 c.args.most f) in
          elim out [
            | inl below ↦ (let b : z <ℤ c.args.least = rw (low, q) at below in omega (arith, ints, b, n.1))
            | inr above ↦ (let b : c.args.most <ℤ z = rw (high, q) at above in omega (arith, ints, b, n.2))
          ]
    ]
