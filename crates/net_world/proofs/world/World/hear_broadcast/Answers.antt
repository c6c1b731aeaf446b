use Rattle.radio_base.specs.declared.modulus.LinkModulus.TheVariants.{Modulo8}
use Rattle.node_core.specs.Broadcasts.{broadcast_octets}
use Rattle.nodes_broadcast.specs.Nodes.{view}
use Rattle.net_model.specs.Lines.{kiss_bytes}
use Rattle.net_world.specs.Running.{course}
use Rattle.net_model.specs.World.{Bytes, World, put, reach}
use Rattle.net_world.proofs.Answered.{at_number}
use Rattle.net_world.proofs.Runs.{runs_then}
use Rattle.net_world.proofs.world.World.hear_broadcast.Goals as goal

pub returns : goal.returns
returns c =
    let old = course c.args.self.now in
    let mid = course c.broadcast_reaches.new.self in
    let new = course c.put_in_air.new.self in
    let at = c.place_of-at.result in
    let line = c.args.line in
    let bytes = Bytes (kiss_bytes (broadcast_octets c.args.call.now (view c.args.nodes.now))) in
    at_number old new c.args.number at (λ k (w : World). put line k Modulo8 (reach line k bytes w)) c.put_in_air.result c.place_of-at.ensures
    (runs_then old mid new (reach line at bytes) (put line at Modulo8) c.put_in_air.result c.in_ok-broadcast_reaches.ensures c.put_in_air.ensures)
