use Rattle.std.proofs.Common.{◌≡◌, ◌≤◌, ◌∙◌, ap, sym, subst, arith, length}
use Rattle.std.specs.Prelude.{None, slice_get}
use Rattle.net_world.specs.Running.{Stands, course}
use Rattle.net_model.specs.World.{World, place_of_node}
use Rattle.net_model.proofs.Looks.{restart_of}
use Rattle.net_world.proofs.Placing.{past_place, place_is}
use Rattle.net_world.proofs.Runs.{ok_as}
use Rattle.net_world.proofs.world.World.restart.Goals as goal

pub returns-then-at-len : goal.returns-then-at-len
returns-then-at-len c =
    let old = course c.args.self.now in
    let plan = c.args.network.now in
    let line = c.args.line in
    let pair = c.args.pair in
    let at = c.place_of-at.result in
    ok_as old (course c.restart_at.new.self) (λ (w : World). restart_of plan line at pair (slice_get w.nodes at) w)
    (λ (w : World). restart_of plan line (place_of_node c.args.number w.nodes) pair (slice_get w.nodes (place_of_node c.args.number w.nodes)) w) c.restart_at.result
    (λ w t. ap (λ k. restart_of plan line k pair (slice_get w.nodes k) w) (place_is old w c.args.number at c.place_of-at.ensures t)) c.restart_at.ensures

pub returns-else-at-len : goal.returns-else-at-len
returns-else-at-len c = λ w t.
    let old = course c.args.self.now in
    let plan = c.args.network.now in
    let at = c.place_of-at.result in
    let h : length c.args.self.now.members.items ≤ at = omega (arith, c.if-at-len.false, c.len.ensures) in
    let none : slice_get w.nodes at ≡ None = past_place old w at h t in
    subst (λ v. Stands old v)
    (sym (ap (λ o. restart_of plan c.args.line at c.args.pair o w) none)
    ∙ ap (λ k. restart_of plan c.args.line k c.args.pair (slice_get w.nodes k) w) (place_is old w c.args.number at c.place_of-at.ensures t)) t
