use Rattle.std.proofs.Common.{◌<◌, ◌≤◌, sym, subst, length, arith}
use Rattle.std.specs.Prelude.{Some, None}
use Rattle.station_members.specs.Looks.{LentStands}
use Rattle.station_members.proofs.NodesStand.{stand_get, stand_none}
use Rattle.station_members.proofs.members.Members.node.Goals as goal

pub returns-then-at-len : goal.returns-then-at-len
returns-then-at-len c = λ s t.
    let held = rw (← c.self.view_is) at t in
    let ks = c.self.inside.plane.nodes.items in
    let h : c.args.at < length ks = omega (arith, c.if-at-len.true, c.len.ensures) in
    let one = stand_get ks s.nodes c.args.at c.index.result.now h c.index.ensures held.plane.nodes in
    subst (λ o. LentStands (Some c.index.result.now) o) (sym one.is_in) one.stands

pub returns-else-at-len : goal.returns-else-at-len
returns-else-at-len c = λ s t.
    let held = rw (← c.self.view_is) at t in
    let ks = c.self.inside.plane.nodes.items in
    let h : length ks ≤ c.args.at = omega (arith, c.if-at-len.false, c.len.ensures) in
    subst (λ o. LentStands None o) (sym (stand_none ks s.nodes c.args.at h held.plane.nodes)) tt
