use Rattle.std.proofs.Common.{sym, ◌∙◌}
use Rattle.circuit_table.proofs.Searching.{flip, quiet_all}
use Rattle.circuit_table.proofs.held_ends.HeldEnds.is_quiet.Goals as goal

pub returns-clause-exact : goal.returns-clause-exact
returns-clause-exact c = λ s told st.
    flip c.first_loud.result c.is_none.result (sym c.is_none.ensures) ∙ quiet_all c.args.self.now s told st c.first_loud.result c.first_loud.ensures.first
