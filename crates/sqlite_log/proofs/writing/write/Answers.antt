use Rattle.std.proofs.Common.{rules, subst}
use Rattle.sqlite.specs.Held.{state}
use Rattle.sqlite_log.specs.Held.{Inserted}
use Rattle.sqlite_log.proofs.writing.write.Goals as goal

pub returns-in-Posted-clause-ran : goal.returns-in-Posted-clause-ran
returns-in-Posted-clause-ran g c clean =
    subst (λ v. Inserted v (state g.S.Store c.args.conn.now) (state g.S.Store c.insert_posted.new.conn) c.insert_posted.result) (search rules) (c.insert_posted.ensures.ran clean)

pub returns-in-Settled-clause-ran : goal.returns-in-Settled-clause-ran
returns-in-Settled-clause-ran g c clean =
    subst (λ v. Inserted v (state g.S.Store c.args.conn.now) (state g.S.Store c.insert_number.new.conn) c.insert_number.result) (search rules) (c.insert_number.ensures.ran clean)

pub returns-in-Stored-clause-ran : goal.returns-in-Stored-clause-ran
returns-in-Stored-clause-ran g c clean =
    subst (λ v. Inserted v (state g.S.Store c.args.conn.now) (state g.S.Store c.insert_stored.new.conn) c.insert_stored.result) (search rules) (c.insert_stored.ensures.ran clean)

pub returns-in-Local-clause-ran : goal.returns-in-Local-clause-ran
returns-in-Local-clause-ran g c clean =
    subst (λ v. Inserted v (state g.S.Store c.args.conn.now) (state g.S.Store c.insert_local.new.conn) c.insert_local.result) (search rules) (c.insert_local.ensures.ran clean)

pub returns-in-Read-clause-ran : goal.returns-in-Read-clause-ran
returns-in-Read-clause-ran g c clean =
    subst (λ v. Inserted v (state g.S.Store c.args.conn.now) (state g.S.Store c.insert_number-in-Read.new.conn) c.insert_number-in-Read.result) (search rules) (c.insert_number-in-Read.ensures.ran clean)

pub returns-in-Killed-clause-ran : goal.returns-in-Killed-clause-ran
returns-in-Killed-clause-ran g c clean =
    subst (λ v. Inserted v (state g.S.Store c.args.conn.now) (state g.S.Store c.insert_number-in-Killed.new.conn) c.insert_number-in-Killed.result) (search rules) (c.insert_number-in-Killed.ensures.ran clean)
