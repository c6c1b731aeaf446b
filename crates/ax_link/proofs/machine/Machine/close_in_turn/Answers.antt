use Rattle.ax_link.specs.Calls.{view_of}
use Rattle.ax_link.proofs.Standings.{to_be_closed}
use Rattle.ax_link.proofs.machine.Machine.close_in_turn.Goals as goal

pub returns-clause-does : goal.returns-clause-does
returns-clause-does g c = λ part stands. c.finish.ensures.does _ (to_be_closed _ (view_of c.args.self.now) part stands)
