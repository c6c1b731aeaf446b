use Rattle.std.proofs.Common.{◌<◌, ◌≤◌, length, arith}
use Rattle.station_members.specs.States.{hear_at}
use Rattle.station_members.proofs.Loops.{each_begin, each_done, each_goes}
use Rattle.station_members.proofs.backplane.Backplane.hear_all.Goals as goal

pub loop-at-init : goal.loop-at-init
loop-at-init c = each_begin (hear_at c.args.port c.args.heading.now c.args.octets.now c.args.now) c.args.self.now

pub loop-at-preserved : goal.loop-at-preserved
loop-at-preserved c =
    let h : c.loop-at.at < length c.args.self.now.nodes.items = omega (arith, c.loop-at-test.true, c.len-at-end.ensures) in
    each_goes (hear_at c.args.port c.args.heading.now c.args.octets.now c.args.now) c.loop-at.at c.args.self.now c.loop-at.self _ h c.loop-at.invariant c.in_ok-hear_at.ensures

pub returns : goal.returns
returns c =
    let h : length c.args.self.now.nodes.items ≤ c.loop-at.at = omega (arith, c.loop-at-test.false, c.len-at-end.ensures) in
    each_done (hear_at c.args.port c.args.heading.now c.args.octets.now c.args.now) c.loop-at.at c.args.self.now c.loop-at.self h c.loop-at.invariant
