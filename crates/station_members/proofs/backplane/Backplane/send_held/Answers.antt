use Rattle.std.proofs.Common.{◌<◌, ◌≤◌, refl, length, arith}
use Rattle.station_members.specs.States.{held_at}
use Rattle.station_members.specs.Waiting.{held_sent}
use Rattle.station_members.proofs.Giving.{works}
use Rattle.station_members.proofs.Loops.{each_begin, each_done, each_goes}
use Rattle.station_members.proofs.backplane.Backplane.send_held.Goals as goal

pub loop-at-init : goal.loop-at-init
loop-at-init c = each_begin (held_at c.args.now) c.args.self.now

pub loop-at-preserved : goal.loop-at-preserved
loop-at-preserved c =
    let h : c.loop-at.at < length c.args.self.now.nodes.items = omega (arith, c.loop-at-test.true, c.len-at-end.ensures) in
    each_goes (held_at c.args.now) c.loop-at.at c.args.self.now c.loop-at.self _ h c.loop-at.invariant (works c.loop-at.self _ (held_sent c.loop-at.at c.args.now) refl c.in_ok-send_held.ensures)

pub returns : goal.returns
returns c =
    let h : length c.args.self.now.nodes.items ≤ c.loop-at.at = omega (arith, c.loop-at-test.false, c.len-at-end.ensures) in
    each_done (held_at c.args.now) c.loop-at.at c.args.self.now c.loop-at.self h c.loop-at.invariant
