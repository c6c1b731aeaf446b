use Rattle.circuit_table.proofs.Searching.{gives_first}
use Rattle.circuit_table.proofs.Counting.{falls, never_none, told_some}
use Rattle.circuit_table.proofs.held_ends.HeldEnds.next_from.Goals as goal

pub returns-clause-gives : goal.returns-clause-gives
returns-clause-gives c = λ s told st.
    gives_first c.args.self.now c.next_of.new.self s told c.args.id c.next_of.new.untold c.next_of.ensures.same st c.requires.first c.next_of.ensures.next

pub returns-clause-some : goal.returns-clause-some
returns-clause-some c =
    told_some c.next_of.new.untold (never_none c.args.id c.next_of.new.untold c.args.self.now.ends.entries c.next_of.new.self.ends.entries c.next_of.ensures.next c.requires.first)

pub returns-clause-falls : goal.returns-clause-falls
returns-clause-falls c = falls c.args.id c.next_of.new.untold c.args.self.now.ends.entries c.next_of.new.self.ends.entries c.next_of.ensures.next
