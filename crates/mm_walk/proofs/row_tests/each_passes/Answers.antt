use Rattle.sqlite.specs.Held.{state}
use Rattle.sqlite.specs.Values.{bound}
use Rattle.mm_walk.proofs.Testing.{tested_alone}
use Rattle.mm_walk.proofs.row_tests.each_passes.Goals as goal

pub returns : goal.returns
returns g c =
    tested_alone _ (λ v row. g.T.RowTest.good v.test.now row) (λ v w row r h. h) _ c.args.sql.now
    (bound c.args.params.now) (state g.S.Store c.args.conn.now) (state g.S.Store c.walk.new.conn) _ c.walk.result
    c.walk.ensures
