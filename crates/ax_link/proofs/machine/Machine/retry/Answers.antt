use Rattle.ax_link.specs.Calls.{view_of}
use Rattle.ax_link.proofs.Standings.{one_try_more}
use Rattle.ax_link.proofs.machine.Machine.retry.Goals as goal

pub returns-clause-does : goal.returns-clause-does
returns-clause-does g c = λ part stands. c.ask_once_more.ensures.does _ (one_try_more _ (view_of c.args.self.now) part stands)
