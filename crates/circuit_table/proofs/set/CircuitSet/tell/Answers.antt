use Rattle.std.proofs.Common.{◌≡◌, Some, subst}
use Rattle.circuit_table.specs.declared.untold.Untold.{Untold}
use Rattle.circuit_table.specs.Standing.{told_for}
use Rattle.l3_datagram.specs.declared.carrier.Offered.TheVariants.{Taken}
use Rattle.route_table.specs.Table.{next_hop}
use Rattle.circuit_table.proofs.Turning.{tells_event}
use Rattle.circuit_table.proofs.set.CircuitSet.tell.Goals as goal

pub returns-in-Event-clause-tells : goal.returns-in-Event-clause-tells
returns-in-Event-clause-tells g c = (Taken, λ log s t rest stands st e. tells_event g.C.Carrier.made g.met.C.Carrier.none_made (next_hop c.args.self.now.router.table.rules log) c.args.now.0 c.args.self.now log s t rest c.in-Event.event stands st (subst (λ (u : Untold). told_for s.own s.ttl u ≡ Some t) c.in-Event.is e))
