use Rattle.std.specs.Prelude.{⊤}
use Rattle.sqlite.specs.Held.{state}
use Rattle.mm_definitions.specs.Rules.{Limits, GivenSystems, NamedSystems, DistinctIdentifiers, ProperNames, Registry}
use Rattle.mm_definitions.specs.Rules.{Extents, MatricesFit, HigherIsFiner, NextIsHalved, TilesInside, Items}
use Rattle.mm_definitions.specs.Rules.{RelationsSuited, PairingsJoin, ExactExtensions, Editions}
use Rattle.mm_definitions.specs.Units.{profile_of}
use Rattle.mm_check.specs.Verdict.{rule}
use Rattle.mm_check.proofs.Verdicts.{as_rule}
use Rattle.mm_check.proofs.verdict.one_rule.Goals as goal

pub returns-in-1 : goal.returns-in-1
unfolding rule
returns-in-1 g c = as_rule (profile_of c.args.unit) (state g.S.Store c.args.conn.now)
    (state g.S.Store c.given_systems.new.conn) (λ _. ⊤) (λ p. GivenSystems p.systems) c.args.k 1 c.in-1.is
    (λ p before. tt) (λ p. (λ h. h, λ h. h)) c.given_systems.result (c.given_systems.ensures (profile_of c.args.unit))

pub returns-in-2 : goal.returns-in-2
unfolding rule
returns-in-2 g c = as_rule (profile_of c.args.unit) (state g.S.Store c.args.conn.now)
    (state g.S.Store c.named_systems.new.conn) (λ _. ⊤) (λ p. NamedSystems p.systems p.contents p.kinds p.sets)
    c.args.k 2 c.in-2.is (λ p before. tt) (λ p. (λ h. h, λ h. h)) c.named_systems.result
    (c.named_systems.ensures (profile_of c.args.unit))

pub returns-in-3 : goal.returns-in-3
unfolding rule
returns-in-3 g c = as_rule (profile_of c.args.unit) (state g.S.Store c.args.conn.now)
    (state g.S.Store c.distinct_identifiers.new.conn) (λ _. ⊤)
    (λ p. DistinctIdentifiers p.contents) c.args.k 3 c.in-3.is (λ p before. tt)
    (λ p. (λ h. h, λ h. h)) c.distinct_identifiers.result (c.distinct_identifiers.ensures (profile_of c.args.unit))

pub returns-in-4 : goal.returns-in-4
unfolding rule
returns-in-4 g c = as_rule (profile_of c.args.unit) (state g.S.Store c.args.conn.now)
    (state g.S.Store c.names.new.conn) (λ p. Limits (profile_of c.args.unit) p)
    (λ p. ProperNames p.contents p.relations p.editions) c.args.k 4 c.in-4.is (λ p before. before.0)
    (λ p. (λ h. h, λ h. h)) c.names.result (c.names.ensures (profile_of c.args.unit))

pub returns-in-5 : goal.returns-in-5
unfolding rule
returns-in-5 g c = as_rule (profile_of c.args.unit) (state g.S.Store c.args.conn.now)
    (state g.S.Store c.registry.new.conn) (λ _. ⊤) (λ p. Registry p.contents p.kinds p.sets) c.args.k 5 c.in-5.is
    (λ p before. tt) (λ p. (λ h. h, λ h. h)) c.registry.result (c.registry.ensures (profile_of c.args.unit))

pub returns-in-6 : goal.returns-in-6
unfolding rule
returns-in-6 g c = as_rule (profile_of c.args.unit) (state g.S.Store c.args.conn.now)
    (state g.S.Store c.extents.new.conn) (λ _. ⊤) (λ p. Extents p.contents p.sets) c.args.k 6 c.in-6.is
    (λ p before. tt) (λ p. (λ h. h, λ h. h)) c.extents.result (c.extents.ensures (profile_of c.args.unit))

pub returns-in-7 : goal.returns-in-7
unfolding rule
returns-in-7 g c = as_rule (profile_of c.args.unit) (state g.S.Store c.args.conn.now)
    (state g.S.Store c.matrices_fit.new.conn) (λ _. ⊤) (λ p. MatricesFit p.kinds p.sets p.matrices) c.args.k 7
    c.in-7.is (λ p before. tt) (λ p. (λ h. h, λ h. h)) c.matrices_fit.result
    (c.matrices_fit.ensures (profile_of c.args.unit))

pub returns-in-8 : goal.returns-in-8
unfolding rule
returns-in-8 g c = as_rule (profile_of c.args.unit) (state g.S.Store c.args.conn.now)
    (state g.S.Store c.higher_is_finer.new.conn) (λ _. ⊤) (λ p. HigherIsFiner p.matrices) c.args.k 8 c.in-8.is
    (λ p before. tt) (λ p. (λ h. h, λ h. h)) c.higher_is_finer.result
    (c.higher_is_finer.ensures (profile_of c.args.unit))

pub returns-in-9 : goal.returns-in-9
unfolding rule
returns-in-9 g c = as_rule (profile_of c.args.unit) (state g.S.Store c.args.conn.now)
    (state g.S.Store c.next_is_halved.new.conn) (λ _. ⊤) (λ p. NextIsHalved p.kinds p.matrices) c.args.k 9 c.in-9.is
    (λ p before. tt) (λ p. (λ h. h, λ h. h)) c.next_is_halved.result (c.next_is_halved.ensures (profile_of c.args.unit))

pub returns-in-10 : goal.returns-in-10
unfolding rule
returns-in-10 g c = as_rule (profile_of c.args.unit) (state g.S.Store c.args.conn.now)
    (state g.S.Store c.tiles_inside.new.conn) (λ _. ⊤) (λ p. TilesInside p.matrices p.tiles) c.args.k 10 c.in-10.is
    (λ p before. tt) (λ p. (λ h. h, λ h. h)) c.tiles_inside.result (c.tiles_inside.ensures (profile_of c.args.unit))

pub returns-in-11 : goal.returns-in-11
unfolding rule
returns-in-11 g c = as_rule (profile_of c.args.unit) (state g.S.Store c.args.conn.now)
    (state g.S.Store c.items.new.conn) (λ _. ⊤) (λ p. Items p.kinds p.rows p.media) c.args.k 11 c.in-11.is
    (λ p before. tt) (λ p. (λ h. h, λ h. h)) c.items.result (c.items.ensures (profile_of c.args.unit))

pub returns-in-12 : goal.returns-in-12
unfolding rule
returns-in-12 g c = as_rule (profile_of c.args.unit) (state g.S.Store c.args.conn.now)
    (state g.S.Store c.relations_suited.new.conn) (λ _. ⊤) (λ p. RelationsSuited p.kinds p.relations) c.args.k 12
    c.in-12.is (λ p before. tt) (λ p. (λ h. h, λ h. h)) c.relations_suited.result
    (c.relations_suited.ensures (profile_of c.args.unit))

pub returns-in-13 : goal.returns-in-13
unfolding rule
returns-in-13 g c = as_rule (profile_of c.args.unit) (state g.S.Store c.args.conn.now)
    (state g.S.Store c.pairings_join.new.conn) (λ _. ⊤) (λ p. PairingsJoin p.rows p.media p.relations p.pairings)
    c.args.k 13 c.in-13.is (λ p before. tt) (λ p. (λ h. h, λ h. h)) c.pairings_join.result
    (c.pairings_join.ensures (profile_of c.args.unit))

pub returns-in-14 : goal.returns-in-14
unfolding rule
returns-in-14 g c = as_rule (profile_of c.args.unit) (state g.S.Store c.args.conn.now)
    (state g.S.Store c.extensions.new.conn) (λ _. ⊤) (λ p. ExactExtensions p.kinds p.relations p.extensions) c.args.k
    14 c.in-14.is (λ p before. tt) (λ p. (λ h. h, λ h. h)) c.extensions.result
    (c.extensions.ensures (profile_of c.args.unit))

pub returns-in-15 : goal.returns-in-15
unfolding rule
returns-in-15 g c = as_rule (profile_of c.args.unit) (state g.S.Store c.args.conn.now)
    (state g.S.Store c.editions.new.conn) (λ p. Limits (profile_of c.args.unit) p)
    (λ p. Editions (profile_of c.args.unit) p.editions p.pieces) c.args.k 15 c.in-15.is (λ p before. before.0)
    (λ p. (λ h. h, λ h. h)) c.editions.result c.editions.ensures
