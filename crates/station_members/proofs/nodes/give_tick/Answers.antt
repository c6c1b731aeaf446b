use Rattle.std.proofs.Common.{◌<◌, ◌≤◌, length, arith}
use Rattle.station_members.proofs.NodesStand.{stand_past, stand_set}
use Rattle.node_core.specs.Bridged as inputs
use Rattle.station_members.proofs.nodes.give_tick.Goals as goal

pub returns-in_ok-tick-clause-goes : goal.returns-in_ok-tick-clause-goes
returns-in_ok-tick-clause-goes c = λ ns stand.
    let h : c.args.at < length c.args.nodes.now.items = omega (arith, c.if-at-len.true, c.len.ensures) in
    stand_set c.args.nodes.now.items ns c.args.at c.index_mut.result.now c.tick.new.self (inputs.after (inputs.Ticks c.args.now.0)) h c.index_mut.ensures.value (c.in_ok-tick.ensures.goes) stand

pub returns-else-at-len-clause-goes : goal.returns-else-at-len-clause-goes
returns-else-at-len-clause-goes c = λ ns stand.
    let h : length c.args.nodes.now.items ≤ c.args.at = omega (arith, c.if-at-len.false, c.len.ensures) in
    stand_past c.args.nodes.now.items ns c.args.at (inputs.after (inputs.Ticks c.args.now.0)) h stand
