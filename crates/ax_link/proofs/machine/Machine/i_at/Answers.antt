use Rattle.ax_link.proofs.machine.Machine.i_at.Goals as goal

pub returns-clause-does : goal.returns-clause-does
returns-clause-does g c = λ part stands.
    c.fill_and_finish.ensures.does _ (c.text.ensures.does _ (c.acknowledge.ensures.does _ stands))
