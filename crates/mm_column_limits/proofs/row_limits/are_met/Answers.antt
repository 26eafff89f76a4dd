use Rattle.std.proofs.Common.{◌≡◌, true, false, subst, sym, arith, rules}
use Rattle.std.proofs.lemmas.List.{drop_all}
use Rattle.mm_definitions.specs.Units.{profile_of}
use Rattle.mm_column_limits.specs.LimitRows.{AreWithin}
use Rattle.mm_column_limits.proofs.Columns.{met, unmet}
use Rattle.mm_column_limits.proofs.row_limits.are_met.Goals as goal

pub columns-init : goal.columns-init
columns-init c = (λ h. h, λ h. h)

pub returns-then-not-is_met : goal.returns-then-not-is_met
returns-then-not-is_met c = (
  λ no. absurd (let e : false ≡ true = no in cc),
  λ all. absurd (unmet (profile_of c.args.unit) c.args.limits.now c.args.row.now c.columns.at c.columns-test.true
      c.columns.invariant (λ is.
      let e : false ≡ true = (let f = c.if-not-is_met.true in let t = c.is_met.ensures.1 is in cc) in cc) all),
)

pub columns-preserved : goal.columns-preserved
columns-preserved c =
    met (profile_of c.args.unit) c.args.limits.now c.args.row.now c.columns.at c.columns-test.true c.columns.invariant
    (c.is_met.ensures.0 c.if-not-is_met.false)

pub returns : goal.returns
returns c = (
  λ _. c.columns.invariant.1 (subst (λ ls. AreWithin (profile_of c.args.unit) ls c.args.row.now c.columns.at)
      (sym (drop_all c.columns.at c.args.limits.now (omega arith))) tt),
  λ _. search rules,
)
