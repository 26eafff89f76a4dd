use Rattle.std.specs.Prelude.{⊤}
use Rattle.std.proofs.Common.{[], ◌∷◌, rules}
use Rattle.sqlite.specs.Held.{state}
use Rattle.mm_definitions.specs.Rules.{GivenSystems}
use Rattle.std.proofs.Common.{pos, negsuc}
use Rattle.sqlite.specs.declared.types.Value.TheVariants.{Int}
use Rattle.mm_rules.specs.Texts as text
use Rattle.mm_rules.specs.SystemRows.{IsGivenRow}
use Rattle.mm_walk.proofs.Checks.{checks}
use Rattle.mm_rules.proofs.SystemQueries as query
use Rattle.mm_rules.proofs.SystemRules as rule
use Rattle.mm_rules.proofs.systems.given_systems.Goals as goal

pub returns : goal.returns
returns g c profile =
    checks text.ask_given_systems (Int (pos 4326) ∷ Int (negsuc 0) ∷ Int (pos 0) ∷ []) IsGivenRow _ _ _ _ _
    query.given_systems query.quiet_given_systems (λ _. ⊤) (λ p. GivenSystems p.systems) rule.given_systems profile
    (state g.S.Store c.args.conn.now) (state g.S.Store c.each_passes.new.conn) _ (search rules) c.each_passes.result
    c.each_passes.ensures
