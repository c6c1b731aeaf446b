use Rattle.ax_link.specs.Calls.{view_of}
use Rattle.ax_link.proofs.Standings.{asked_no_more}
use Rattle.ax_link.proofs.machine.Machine.take_in.Goals as goal

pub returns-clause-does : goal.returns-clause-does
returns-clause-does g c = λ part stands. asked_no_more _ (view_of c.take_next.new.self) _ (c.take_next.ensures.does part stands)
