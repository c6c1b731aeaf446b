use Rattle.std.proofs.Common.{[], subst, sym}
use Rattle.mail_records.specs.Logs.{HasCause}
use Rattle.sqlite.specs.Held.{state}
use Rattle.sqlite_log.proofs.Creating.{create_fails}
use Rattle.sqlite_log.proofs.Tables.{creates}
use Rattle.sqlite_log.proofs.statements.create.Goals as goal

pub returns-in-Ok-clause-made : goal.returns-in-Ok-clause-made
returns-in-Ok-clause-made g c clean =
    creates (state g.S.Store c.args.conn.now) (state g.S.Store c.execute-done.new.self) c.in-Ok.field-0 c.execute-done.ensures.survives.limit c.requires.unlimited c.requires.schema c.requires.mode (c.in-Ok.ensures.runs clean)

pub returns-in-Err-clause-cause : goal.returns-in-Err-clause-cause
returns-in-Err-clause-cause g c clean is_open =
    let old = state g.S.Store c.args.conn.now in
    let new = state g.S.Store c.execute-done.new.self in
    subst (HasCause old.faults new.faults []) (sym c.reason.ensures) (create_fails old new c.in-Err.error is_open c.requires.unlimited c.requires.schema (c.in-Err.ensures.runs clean))
