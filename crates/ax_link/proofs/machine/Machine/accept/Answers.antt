use Rattle.ax_link.proofs.machine.Machine.accept.Goals as goal

pub returns-clause-does : goal.returns-clause-does
returns-clause-does g c = λ part stands. c.fill.ensures.does _ (c.enqueue.ensures.does _ stands)
