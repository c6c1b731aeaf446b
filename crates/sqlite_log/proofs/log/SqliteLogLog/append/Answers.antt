use Rattle.sqlite.specs.Held.{state}
use Rattle.sqlite_log.proofs.Clauses.{append_ok, append_err, append_cause, append_crash}
use Rattle.sqlite_log.proofs.log.SqliteLogLog.append.Goals as goal

pub returns-clause-ok : goal.returns-clause-ok
returns-clause-ok g c clean =
    append_ok (state g.S.Store c.args.self.now.conn) (state g.S.Store c.write.new.conn) c.args.entry.now c.write.result c.write.ensures.readable c.write.ensures.survives.limit (c.write.ensures.ran clean)

pub returns-clause-err : goal.returns-clause-err
returns-clause-err g c clean = append_err (state g.S.Store c.args.self.now.conn) (state g.S.Store c.write.new.conn) c.args.entry.now c.write.result c.write.ensures.survives.limit (c.write.ensures.ran clean)

pub returns-clause-cause : goal.returns-clause-cause
returns-clause-cause g c clean = append_cause (state g.S.Store c.args.self.now.conn) (state g.S.Store c.write.new.conn) c.args.entry.now c.write.result c.write.ensures.whole (c.write.ensures.ran clean)

pub returns-clause-crash : goal.returns-clause-crash
returns-clause-crash g c clean = append_crash (state g.S.Store c.args.self.now.conn) (state g.S.Store c.write.new.conn) c.args.entry.now c.write.ensures.readable clean c.write.ensures.survives
