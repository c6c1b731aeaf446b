use Rattle.std.proofs.Common.{sym, subst}
use Rattle.circuit_table.specs.Still.{OthersAreStill}
use Rattle.circuit_table.proofs.Stillness.{leaves}
use Rattle.circuit_table.proofs.held_ends.HeldEnds.leave.Goals as goal

pub invariant_of-self-clause-others : goal.invariant_of-self-clause-others
invariant_of-self-clause-others c =
    subst (OthersAreStill c.args.self.now.loud) (sym c.shift_remove.ensures.entries) (leaves c.args.self.now.loud c.args.id c.args.self.now.ends.entries c.args.self.now.others)
