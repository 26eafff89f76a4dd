use Rattle.std.proofs.lemmas.Bool.{both_ways}
use Rattle.sqlite.specs.Held.{state}
use Rattle.mm_migrate.proofs.Ends.{adopted, older, refused}
use Rattle.mm_migrate.proofs.migrating.migrate_on.Goals as goal

pub returns-in-Ok-clause-migrated : goal.returns-in-Ok-clause-migrated
returns-in-Ok-clause-migrated g c =
    adopted (state g.S.Store c.args.conn.now) (state g.S.Store c.look.new.conn) (state g.S.Store c.check_whole.new.conn)
    c.check_whole.result c.in-Ok.ensures.looked c.check_whole.ensures

pub returns-then-is_older-clause-migrated : goal.returns-then-is_older-clause-migrated
returns-then-is_older-clause-migrated g c =
    older (state g.S.Store c.args.conn.now) (state g.S.Store c.look.new.conn) (state g.S.Store c.migrate_older.new.conn)
    c.in-Err.why c.migrate_older.result c.in-Err.ensures.looked (c.is_older.ensures.0 c.if-is_older.true)
    c.migrate_older.ensures.older

pub returns-else-is_older-clause-migrated : goal.returns-else-is_older-clause-migrated
returns-else-is_older-clause-migrated g c =
    refused (state g.S.Store c.args.conn.now) (state g.S.Store c.look.new.conn) c.in-Err.why c.in-Err.ensures.looked
    (λ e. both_ways c.is_older.result c.if-is_older.false (c.is_older.ensures.1 e))
