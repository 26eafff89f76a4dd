use Rattle.std.proofs.lemmas.Result.{err_from_is_err_and}
use Rattle.mm_definitions.specs.Units.{profile_of}
use Rattle.sqlite.specs.Held.{state}
use Rattle.mm_column_limits.specs.EditionParts.{EditionStates, PiecesOfOpen, PiecesNumbered, PiecesSpelled}
use Rattle.mm_definitions.specs.Rules.{Limits, Editions}
use Rattle.mm_column_limits.proofs.EditionRules.{all_editions}
use Rattle.mm_walk.proofs.Compose.{goes_on, stops, gives_up}
use Rattle.mm_column_limits.proofs.editions.editions.Goals as goal

pub returns-then-branch : goal.returns-then-branch
returns-then-branch g c =
    goes_on (profile_of c.args.unit) (state g.S.Store c.args.conn.now) (state g.S.Store c.edition_states.new.conn)
    (state g.S.Store c.pieces.new.conn) (λ p. Limits (profile_of c.args.unit) p) (λ p. EditionStates p)
    (λ p. PiecesOfOpen p × (PiecesSpelled (profile_of c.args.unit) p × PiecesNumbered p))
    (λ p. Editions (profile_of c.args.unit) p.editions p.pieces)
    (λ p. ((all_editions (profile_of c.args.unit) p).0, (all_editions (profile_of c.args.unit) p).1))
    c.edition_states.result c.pieces.result c.in_ok-edition_states.was c.if-branch.true
    (c.edition_states.ensures (profile_of c.args.unit)) c.pieces.ensures

pub returns-else-branch : goal.returns-else-branch
returns-else-branch g c =
    stops (profile_of c.args.unit) (state g.S.Store c.args.conn.now) (state g.S.Store c.edition_states.new.conn)
    (λ p. Limits (profile_of c.args.unit) p) (λ p. EditionStates p)
    (λ p. PiecesOfOpen p × (PiecesSpelled (profile_of c.args.unit) p × PiecesNumbered p))
    (λ p. Editions (profile_of c.args.unit) p.editions p.pieces)
    (λ p. ((all_editions (profile_of c.args.unit) p).0, (all_editions (profile_of c.args.unit) p).1))
    c.edition_states.result c.in_ok-edition_states.was c.if-branch.false
    (c.edition_states.ensures (profile_of c.args.unit))

pub returns-in_err-edition_states : goal.returns-in_err-edition_states
returns-in_err-edition_states g c =
    let p = err_from_is_err_and c.from_residual.result c.from_residual.ensures.1 in
    rw (p.1, p.2) (gives_up (profile_of c.args.unit) (state g.S.Store c.args.conn.now)
    (state g.S.Store c.edition_states.new.conn) (λ p. Limits (profile_of c.args.unit) p)
    (λ p. Limits (profile_of c.args.unit) p) (λ p. EditionStates p)
    (λ p. Editions (profile_of c.args.unit) p.editions p.pieces) c.edition_states.result
    c.in_err-edition_states.field-0.0 c.in_err-edition_states.was
    (c.edition_states.ensures (profile_of c.args.unit)))
