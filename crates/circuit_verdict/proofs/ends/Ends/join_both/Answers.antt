use Rattle.indexmap.specs.IndexMap.{get}
use Rattle.circuit_table.specs.Events.{Name, same_name}
use Rattle.circuit_verdict.specs.Lists.{list_in}
use Rattle.circuit_verdict.proofs.Made.{facing_pushed}
use Rattle.circuit_verdict.proofs.ends.Ends.join_both.Goals as goal

pub returns-clause-facing : goal.returns-clause-facing
returns-clause-facing c = λ x.
    facing_pushed c.args.end.now c.args.requester.now x
    (λ (k : Name). list_in (get same_name c.args.self.now.facing.lists k)) (λ (k : Name). list_in (get same_name c.push.new.self.lists k))
    (λ (k : Name). list_in (get same_name c.push-2.new.self.lists k)) c.in_ok-push.ensures c.in_ok-push-2.ensures
