use Rattle.std.proofs.Common.{subst}
use Rattle.circuit_table.specs.Still.{OthersAreStill}
use Rattle.circuit_table.proofs.Stillness.{all_quiet, all_rest}
use Rattle.circuit_table.proofs.held_ends.HeldEnds.first_loud.Goals as goal

pub returns-in-Nobody-clause-first : goal.returns-in-Nobody-clause-first
returns-in-Nobody-clause-first c =
    let es = c.args.self.now.ends.entries in all_quiet es (subst (λ l. OthersAreStill l es) c.in-Nobody.is c.args.self.now.others)

pub returns-in-Nobody-clause-rests : goal.returns-in-Nobody-clause-rests
returns-in-Nobody-clause-rests c =
    let es = c.args.self.now.ends.entries in λ _. all_rest es (subst (λ l. OthersAreStill l es) c.in-Nobody.is c.args.self.now.others)
