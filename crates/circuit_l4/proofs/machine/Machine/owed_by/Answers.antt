use Rattle.circuit_l4.proofs.machine.Machine.owed_by.Goals as goal

pub returns-then-flags-clause-exact : goal.returns-then-flags-clause-exact
returns-then-flags-clause-exact c = λ s r h. rw c.if-flags.true (c.nothing_owed.ensures.exact s r h)

pub returns-else-flags-2-clause-exact : goal.returns-else-flags-2-clause-exact
returns-else-flags-2-clause-exact c = λ s r h.
    rw (c.if-flags.false, c.if-self.false, c.if-flags-2.false) (c.nothing_owed-else-flags-2.ensures.exact s r h)
