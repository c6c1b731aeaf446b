use Rattle.std.proofs.lemmas.Result.{err_from_is_err_and}
use Rattle.sqlite.specs.Held.{state}
use Rattle.sqlite_log.proofs.Clauses.{records_ok, records_same, records_cause, records_crash, select_cause}
use Rattle.sqlite_log.proofs.log.SqliteLogLog.records.Goals as goal

pub returns-clause-ok : goal.returns-clause-ok
returns-clause-ok g c clean =
    records_ok (λ rs. rs.items) (state g.S.Store c.args.self.now.conn) (state g.S.Store c.select.new.conn) c.in_ok-rows.rows.items c.records_in.result (c.in_ok-rows.ensures.shown clean) (rw c.deref.ensures.value at c.records_in.ensures.read)

pub returns-clause-same : goal.returns-clause-same
returns-clause-same g c clean = records_same (state g.S.Store c.args.self.now.conn) (state g.S.Store c.select.new.conn) c.in_ok-rows.rows.items c.records_in.result c.select.ensures.survives.limit (c.in_ok-rows.ensures.shown clean)

pub returns-clause-cause : goal.returns-clause-cause
returns-clause-cause g c clean =
    records_cause (state g.S.Store c.args.self.now.conn) (state g.S.Store c.select.new.conn) c.in_ok-rows.rows.items c.records_in.result (c.in_ok-rows.ensures.shown clean) (rw c.deref.ensures.value at c.records_in.ensures.spoilt)

pub returns-clause-crash : goal.returns-clause-crash
returns-clause-crash g c clean = records_crash (state g.S.Store c.args.self.now.conn) (state g.S.Store c.select.new.conn) clean c.select.ensures.survives

pub returns-in_err-rows-clause-crash : goal.returns-in_err-rows-clause-crash
returns-in_err-rows-clause-crash g c clean = records_crash (state g.S.Store c.args.self.now.conn) (state g.S.Store c.select.new.conn) clean c.select.ensures.survives

pub returns-in_err-rows-clause-cause : goal.returns-in_err-rows-clause-cause
returns-in_err-rows-clause-cause g c clean =
    let p = err_from_is_err_and c.from_residual.result c.from_residual.ensures.1 in
    rw (p.1, p.2) (λ kept held. select_cause (state g.S.Store c.args.self.now.conn) (state g.S.Store c.select.new.conn) kept c.in_err-rows.field-0.0 held (c.in_err-rows.ensures.err clean))
