use Rattle.sqlite.specs.Held.{state}
use Rattle.sqlite.specs.Values.{bound}
use Rattle.mm_walk.proofs.Noting.{all_noted, none_noted}
use Rattle.mm_walk.proofs.row_tests.each_noted.Goals as goal

pub returns-in-Ok-true : goal.returns-in-Ok-true
returns-in-Ok-true g c =
    all_noted _ g.T.NotingTest.good g.T.NotingTest.noted (λ it. it.inner) (λ v w row r h. h) c.args.sql.now
    (bound c.args.params.now) (state g.S.Store c.args.conn.now) (state g.S.Store c.walk.new.conn) _ _
    c.in-Ok-true.is c.in-Ok-true.field-0-test c.walk.ensures

pub returns-in-Ok-false : goal.returns-in-Ok-false
returns-in-Ok-false g c =
    none_noted _ g.T.NotingTest.good g.T.NotingTest.noted (λ it. it.inner) (λ v w row r h. h) c.args.sql.now
    (bound c.args.params.now) (state g.S.Store c.args.conn.now) (state g.S.Store c.walk.new.conn) _ _
    c.in-Ok-false.is c.in-Ok-false.field-0-test c.walk.ensures
