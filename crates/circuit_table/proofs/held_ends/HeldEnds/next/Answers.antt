use Rattle.std.proofs.Common.{subst}
use Rattle.circuit_table.specs.Standing.{FirstLoud}
use Rattle.circuit_table.proofs.Searching.{gives_none}
use Rattle.circuit_table.proofs.held_ends.HeldEnds.next.Goals as goal

pub returns-in-None-clause-gives : goal.returns-in-None-clause-gives
returns-in-None-clause-gives c = λ s told st.
    rw c.requires (gives_none c.args.self.now s told st (subst (λ r. FirstLoud r c.args.self.now.ends.entries) c.in-None.is c.first_loud.ensures.first))
