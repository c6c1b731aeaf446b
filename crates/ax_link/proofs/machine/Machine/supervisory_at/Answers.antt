use Rattle.ax_link.proofs.machine.Machine.supervisory_at.Goals as goal

pub returns-clause-does : goal.returns-clause-does
returns-clause-does g c = λ part stands.
    let answers = rw c.polls.ensures at c.answer_poll.ensures.does in
    c.fill_and_finish.ensures.does _ (c.supply_again.ensures.does _ (answers _ (c.hold.ensures.does _ (c.acknowledge.ensures.does _ stands))))
