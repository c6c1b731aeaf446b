use Rattle.ax_link.specs.Calls.{view_of}
use Rattle.ax_link.proofs.Standings.{tries_anew}
use Rattle.ax_link.proofs.machine.Machine.release.Goals as goal

pub returns-clause-does : goal.returns-clause-does
returns-clause-does g c = λ part stands.
    c.emit_timed.ensures.does _ (c.to_phase.ensures.does _ (tries_anew _ (view_of c.args.self.now) part stands))
