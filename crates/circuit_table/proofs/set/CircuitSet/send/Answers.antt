use Rattle.std.proofs.Common.{◌∙◌}
use Rattle.route_table.specs.Table.{next_hop}
use Rattle.circuit_table.proofs.Pumping.{sends_it}
use Rattle.circuit_table.proofs.set.CircuitSet.send.Goals as goal

pub returns-clause-tells : goal.returns-clause-tells
returns-clause-tells g c =
    let w = c.in_ok-sending.ensures.sends in
    rw (← c.self.view_is) (
      w.0,
      λ log s t rest stands st is.
          sends_it g.C.Carrier.made (next_hop c.self.inside.router.table.rules log) _ c.send.new.self c.in_ok-sending.sending w.0 log s c.args.id c.args.number c.datagram-datagram.result t rest c.args.now.0 c.args.to.now c.args.transport.now c.as_slice.result.now c.as_slice-2.result.now
          st c.in_ok-sending.ensures.same c.in_ok-sending.ensures.table stands
          (c.as_slice.ensures.value ∙ c.write_transport-octets.ensures.exact) (c.as_slice-2.ensures.value ∙ c.write_transport-octets.ensures.exact)
          c.datagram-datagram.ensures.exact (c.datagram_spelling.ensures.read _ _ _ c.datagram-datagram.ensures.spelled).0 is (w.1 log stands) c.came_to_nothing-self-inside.result c.came_to_nothing-self-inside.ensures,
    )
