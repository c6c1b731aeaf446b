use Rattle.std.proofs.Common.{◌<◌, ◌≤◌, length, arith}
use Rattle.station_members.proofs.NodesStand.{stand_past, stand_set}
use Rattle.node_core.specs.Bridged as inputs
use Rattle.kiss_framing.specs.Stream.{framed}
use Rattle.station_members.proofs.nodes.give_frame.Goals as goal

pub returns-in_ok-kiss_frame-clause-goes : goal.returns-in_ok-kiss_frame-clause-goes
returns-in_ok-kiss_frame-clause-goes c = λ ns stand.
    let h : c.args.at < length c.args.nodes.now.items = omega (arith, c.if-at-len.true, c.len.ensures) in
    stand_set c.args.nodes.now.items ns c.args.at c.index_mut.result.now c.kiss_frame.new.self (inputs.after (inputs.Bytes c.args.now.0 (framed 0 0 c.args.octets.now))) h c.index_mut.ensures.value (c.in_ok-kiss_frame.ensures.goes) stand

pub returns-else-at-len-clause-goes : goal.returns-else-at-len-clause-goes
returns-else-at-len-clause-goes c = λ ns stand.
    let h : length c.args.nodes.now.items ≤ c.args.at = omega (arith, c.if-at-len.false, c.len.ensures) in
    stand_past c.args.nodes.now.items ns c.args.at (inputs.after (inputs.Bytes c.args.now.0 (framed 0 0 c.args.octets.now))) h stand
