use Rattle.link_table.proofs.Widening.{carries_by_weaker, numbered_without_link}
use Rattle.link_table.proofs.laws.carried_by_weaker.Goals as goal

pub returns-clause-weaker : goal.returns-clause-weaker
returns-clause-weaker c = carries_by_weaker

pub returns-clause-numbered : goal.returns-clause-numbered
returns-clause-numbered c = numbered_without_link c.carried.ensures
