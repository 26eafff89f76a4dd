use Rattle.sqlite.specs.Held.{state}
use Rattle.mm_definitions.specs.Units.{profile_of}
use Rattle.mm_column_limits.proofs.LimitRules.{part_told}
use Rattle.mm_column_limits.proofs.parts.one_limit.Goals as goal

pub returns : goal.returns
returns g c =
    part_told (profile_of c.args.unit) c.args.longest (state g.S.Store c.args.conn.now)
    (state g.S.Store c.each_passes.new.conn)
    c.args.k c.requires.low c.requires.high _ _ c.table_of.ensures.query c.table_of.ensures.limits
    c.each_passes.result c.each_passes.ensures
