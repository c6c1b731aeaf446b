use Rattle.std.proofs.Common.{◌<◌, ◌≤◌, length, arith}
use Rattle.station_members.specs.States.{deliver_to}
use Rattle.station_members.proofs.Loops.{each_begin, each_done, each_goes}
use Rattle.station_members.proofs.backplane.Backplane.deliver_all.Goals as goal

pub loop-to-init : goal.loop-to-init
loop-to-init c = each_begin (deliver_to c.args.now c.args.from c.args.octets.now) c.args.self.now

pub loop-to-preserved : goal.loop-to-preserved
loop-to-preserved c =
    let h : c.loop-to.to < length c.args.self.now.nodes.items = omega (arith, c.loop-to-test.true, c.len-to-end.ensures) in
    each_goes (deliver_to c.args.now c.args.from c.args.octets.now) c.loop-to.to c.args.self.now c.loop-to.self _ h c.loop-to.invariant c.in_ok-deliver_to.ensures

pub returns : goal.returns
returns c =
    let h : length c.args.self.now.nodes.items ≤ c.loop-to.to = omega (arith, c.loop-to-test.false, c.len-to-end.ensures) in
    each_done (deliver_to c.args.now c.args.from c.args.octets.now) c.loop-to.to c.args.self.now c.loop-to.self h c.loop-to.invariant
