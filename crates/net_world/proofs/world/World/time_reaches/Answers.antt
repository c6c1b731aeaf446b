use Rattle.std.proofs.Common.{◌<◌, ◌≤◌, arith, length}
use Rattle.net_world.specs.Running.{course}
use Rattle.net_model.specs.World.{Time}
use Rattle.net_world.proofs.Reaching.{reached, stays}
use Rattle.net_world.proofs.world.World.time_reaches.Goals as goal

pub returns-in_ok-tell_entries : goal.returns-in_ok-tell_entries
returns-in_ok-tell_entries c =
    let old = course c.args.self.now in
    let h : c.args.at < length c.args.self.now.members.items = omega (arith, c.if-at-len.true, c.len.ensures) in
    reached old (course c.tell_entries.new.self) c.args.line c.args.at Time c.index_mut.result.now c.tick.new.self h c.index_mut.ensures.value c.in_ok-tick.ensures.goes
    c.in_ok-tell_entries.ensures

pub returns-else-at-len : goal.returns-else-at-len
returns-else-at-len c =
    let h : length c.args.self.now.members.items ≤ c.args.at = omega (arith, c.if-at-len.false, c.len.ensures) in
    stays (course c.args.self.now) c.args.line c.args.at Time h
