use Rattle.std.proofs.Common.{◌<◌, ◌≤◌, length, arith}
use Rattle.station_members.specs.States.{round_at}
use Rattle.station_members.proofs.Loops.{each_begin, each_done, each_goes}
use Rattle.station_members.proofs.backplane.Backplane.round.Goals as goal

pub loop-at-init : goal.loop-at-init
loop-at-init c = each_begin (round_at c.args.now) c.args.self.now

pub loop-at-preserved : goal.loop-at-preserved
loop-at-preserved c =
    let h : c.loop-at.at < length c.args.self.now.nodes.items = omega (arith, c.loop-at-test.true, c.len-at-end.ensures) in
    each_goes (round_at c.args.now) c.loop-at.at c.args.self.now c.loop-at.self _ h c.loop-at.invariant c.in_ok-round_at.ensures

pub returns : goal.returns
returns c =
    let h : length c.args.self.now.nodes.items ≤ c.loop-at.at = omega (arith, c.loop-at-test.false, c.len-at-end.ensures) in
    each_done (round_at c.args.now) c.loop-at.at c.args.self.now c.loop-at.self h c.loop-at.invariant
