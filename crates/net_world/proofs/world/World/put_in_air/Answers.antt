use Rattle.std.proofs.Common.{◌<◌, ◌≤◌, ◌∙◌, List, ap, sym, subst, arith, length}
use Rattle.network_file.specs.Plan.{is_on_air}
use Rattle.network_file.specs.declared.plan.channels.Channel.{Channel}
use Rattle.net_world.specs.Running.{Stands, course, put_by}
use Rattle.net_model.specs.Starting.{Placed}
use Rattle.net_model.specs.World.{put}
use Rattle.net_model.proofs.LineWalks.{put_none}
use Rattle.net_world.proofs.Airing.{put_is}
use Rattle.net_world.proofs.Placing.{declared_is, past_place}
use Rattle.net_world.proofs.Runs.{runs_as}
use Rattle.net_world.proofs.world.World.put_in_air.Goals as goal
use Rattle.net_model.specs.declared.members.Member.{Member}

pub returns-then-at-len : goal.returns-then-at-len
returns-then-at-len c =
    let old = course c.args.self.now in
    let m : Member = c.index.result.now in
    let d = m.declared in
    let h : c.args.at < length c.args.self.now.members.items = omega (arith, c.if-at-len.true, c.len.ensures) in
    runs_as old (course c.put_frames.new.self) (put_by c.args.line c.args.at d.node c.is_on_air-on_air.result c.args.came) (put c.args.line c.args.at c.args.came)
    c.put_frames.result
    (λ w t. put_is c.args.line c.args.at d.node c.is_on_air-on_air.result c.args.came w (c.is_on_air-on_air.ensures ∙ ap (λ (cs : List Channel). is_on_air cs d.node) t.channels) (λ (p : Placed) is. ap (λ k. k.node) (declared_is old w c.args.at m p h c.index.ensures t is))) c.put_frames.ensures

pub returns-else-at-len : goal.returns-else-at-len
returns-else-at-len c = λ w t.
    let old = course c.args.self.now in
    let h : length c.args.self.now.members.items ≤ c.args.at = omega (arith, c.if-at-len.false, c.len.ensures) in
    subst (λ v. Stands old v) (sym (put_none c.args.line c.args.at c.args.came w (past_place old w c.args.at h t))) t
