use Rattle.sqlite.specs.Held.{state}
use Rattle.sqlite_log.proofs.Clauses.{select_cause, spoilt_cause, stays_read, read_kept}
use Rattle.sqlite_log.proofs.Selecting.{finds}
use Rattle.sqlite_log.proofs.opening.over.Goals as goal

pub returns-in-Err-clause-refused : goal.returns-in-Err-clause-refused
returns-in-Err-clause-refused g c clean kept held = select_cause (state g.S.Store c.args.conn) (state g.S.Store c.select.new.conn) kept c.in-Err.why held (c.in-Err.ensures.err clean)

pub returns-in-Ok-records_in-clause-found : goal.returns-in-Ok-records_in-clause-found
returns-in-Ok-records_in-clause-found g c clean kept held =
    let old = state g.S.Store c.args.conn in
    let new = state g.S.Store c.select.new.conn in
    let shown = c.in-Ok.ensures.shown clean in
    record {
      holds = stays_read old new kept c.in-Ok.rows.items c.select.ensures.survives.limit held shown;
      tells = read_kept old new kept c.in-Ok.rows.items c.in-Ok-records_in.records.items held shown (rw c.deref.ensures.value at c.in-Ok-records_in.ensures.read);
    }

pub returns-clause-refused : goal.returns-clause-refused
returns-clause-refused g c clean kept held =
    let old = state g.S.Store c.args.conn in
    let new = state g.S.Store c.select.new.conn in
    let shown = c.in-Ok.ensures.shown clean in
    spoilt_cause old.faults new.faults kept c.in-Ok.rows.items c.in-Err-records_in.why held.stands.readable (finds old new kept c.in-Ok.rows.items held shown) (rw c.deref.ensures.value at c.in-Err-records_in.ensures.spoilt)
