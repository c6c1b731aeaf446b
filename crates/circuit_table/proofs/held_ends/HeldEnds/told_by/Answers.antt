use Rattle.circuit_table.proofs.held_ends.HeldEnds.told_by.Goals as goal

pub invariant_of-self-clause-others : goal.invariant_of-self-clause-others
invariant_of-self-clause-others c =
    c.after-self.ensures c.args.self.now.ends.entries _ c.loud_at-loud.ensures (c.get_mut.follows.holds c.next.new.self).0
