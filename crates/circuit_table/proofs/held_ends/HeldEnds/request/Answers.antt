use Rattle.circuit_table.proofs.Making.{requests_held}
use Rattle.circuit_table.proofs.held_ends.HeldEnds.request.Goals as goal

pub returns-clause-made : goal.returns-clause-made
returns-clause-made c =
    requests_held c.args.self.now c.hold.new.self c.requester-2.result c.in_ok-end.end c.args.user.now c.args.node.now c.args.now.0 c.new_pair-pair.result c.requester-2.ensures c.in_ok-id.ensures.holds c.in_ok-end.ensures.opening c.new_pair-pair.ensures
