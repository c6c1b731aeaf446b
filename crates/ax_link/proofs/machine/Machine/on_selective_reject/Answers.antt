use Rattle.ax_link.proofs.machine.Machine.on_selective_reject.Goals as goal

pub returns-else-last-clause-does : goal.returns-else-last-clause-does
returns-else-last-clause-does g c = λ part stands. rw c.if-last.false (c.on_plain_selective_reject.ensures.does c.args.now part stands)
