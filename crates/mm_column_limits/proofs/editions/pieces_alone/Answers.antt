use Rattle.std.proofs.lemmas.Result.{err_from_is_err_and}
use Rattle.mm_definitions.specs.Units.{profile_of}
use Rattle.sqlite.specs.Held.{state}
use Rattle.mm_column_limits.specs.EditionParts.{PiecesNumbered, PiecesSpelled}
use Rattle.mm_definitions.specs.Rules.{Limits}
use Rattle.mm_walk.proofs.Compose.{goes_on, stops, gives_up}
use Rattle.mm_column_limits.proofs.editions.pieces_alone.Goals as goal

pub returns-then-branch : goal.returns-then-branch
returns-then-branch g c =
    goes_on (profile_of c.args.unit) (state g.S.Store c.args.conn.now) (state g.S.Store c.pieces_spelled.new.conn)
    (state g.S.Store c.pieces_numbered.new.conn) (λ p. Limits (profile_of c.args.unit) p)
    (λ p. PiecesSpelled (profile_of c.args.unit) p) (λ p. PiecesNumbered p)
    (λ p. PiecesSpelled (profile_of c.args.unit) p × PiecesNumbered p)
    (λ p. (λ a. a, λ a. a)) c.pieces_spelled.result c.pieces_numbered.result
    c.in_ok-pieces_spelled.was c.if-branch.true c.pieces_spelled.ensures
    (c.pieces_numbered.ensures (profile_of c.args.unit))

pub returns-else-branch : goal.returns-else-branch
returns-else-branch g c =
    stops (profile_of c.args.unit) (state g.S.Store c.args.conn.now) (state g.S.Store c.pieces_spelled.new.conn)
    (λ p. Limits (profile_of c.args.unit) p) (λ p. PiecesSpelled (profile_of c.args.unit) p)
    (λ p. PiecesNumbered p) (λ p. PiecesSpelled (profile_of c.args.unit) p × PiecesNumbered p)
    (λ p. (λ a. a, λ a. a)) c.pieces_spelled.result c.in_ok-pieces_spelled.was c.if-branch.false
    c.pieces_spelled.ensures

pub returns-in_err-pieces_spelled : goal.returns-in_err-pieces_spelled
returns-in_err-pieces_spelled g c =
    let p = err_from_is_err_and c.from_residual.result c.from_residual.ensures.1 in
    rw (p.1, p.2) (gives_up (profile_of c.args.unit) (state g.S.Store c.args.conn.now)
    (state g.S.Store c.pieces_spelled.new.conn) (λ p. Limits (profile_of c.args.unit) p)
    (λ p. Limits (profile_of c.args.unit) p) (λ p. PiecesSpelled (profile_of c.args.unit) p)
    (λ p. PiecesSpelled (profile_of c.args.unit) p × PiecesNumbered p) c.pieces_spelled.result
    c.in_err-pieces_spelled.field-0.0 c.in_err-pieces_spelled.was c.pieces_spelled.ensures)
