use Rattle.std.proofs.Common.{◌<◌, ◌≤◌, ◌∙◌, arith, length}
use Rattle.node_core.specs.Broadcasts.{broadcast_octets}
use Rattle.nodes_broadcast.specs.Nodes.{view}
use Rattle.net_model.specs.Lines.{kiss_bytes}
use Rattle.net_world.specs.Running.{course}
use Rattle.net_model.specs.World.{Bytes}
use Rattle.net_world.proofs.Reaching.{reached, stays}
use Rattle.net_world.proofs.world.World.broadcast_reaches.Goals as goal

pub returns-in_ok-tell_entries : goal.returns-in_ok-tell_entries
returns-in_ok-tell_entries c =
    let old = course c.args.self.now in
    let h : c.args.at < length c.args.self.now.members.items = omega (arith, c.if-at-len.true, c.len.ensures) in
    let goes = rw (c.as_slice.ensures.value ∙ c.broadcast_frame-octets.ensures) at c.in_ok-kiss_frame.ensures.goes in
    reached old (course c.tell_entries.new.self) c.args.line c.args.at (Bytes (kiss_bytes (broadcast_octets c.args.call.now (view c.args.nodes.now)))) c.index_mut.result.now c.kiss_frame.new.self h c.index_mut.ensures.value goes
    c.in_ok-tell_entries.ensures

pub returns-else-at-len : goal.returns-else-at-len
returns-else-at-len c =
    let h : length c.args.self.now.members.items ≤ c.args.at = omega (arith, c.if-at-len.false, c.len.ensures) in
    stays (course c.args.self.now) c.args.line c.args.at (Bytes (kiss_bytes (broadcast_octets c.args.call.now (view c.args.nodes.now)))) h
