use Rattle.circuit_table.proofs.Stillness.{beside_none}
use Rattle.circuit_table.proofs.held_ends.HeldEnds.loud_beside.Goals as goal

pub returns-in-None : goal.returns-in-None
returns-in-None c = beside_none c.args.id c.args.self.now.ends.entries (c.first_loud.ensures.still c.in-None.is)
