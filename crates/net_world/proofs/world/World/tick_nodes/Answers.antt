use Rattle.std.proofs.Common.{◌≡◌, ◌≤◌, ◌<◌, ◌+◌, ◌-◌, ◌∙◌, sym, subst, length, arith}
use Rattle.std.proofs.lemmas.Result.{err_from_is_err_and}
use Rattle.net_model.specs.Lines.{tick_from, tick_node}
use Rattle.net_world.specs.Running.{Stands, course}
use Rattle.net_model.specs.World.{World}
use Rattle.net_world.proofs.Growing.{tick_end, tick_next, ticks_grow}
use Rattle.net_world.proofs.Placing.{same_length}
use Rattle.net_world.proofs.Runs.{refused_still}
use Rattle.net_world.proofs.world.World.tick_nodes.Goals as goal

pub returns-in_err-tick_node : goal.returns-in_err-tick_node
returns-in_err-tick_node c =
    let p = err_from_is_err_and c.from_residual.result c.from_residual.ensures.1 in
    rw (p.1, p.2) (λ w t.
    let i = c.loop-at.invariant w t in
    let line = c.args.line in
    let at = c.loop-at.at in
    let count = length w.nodes in
    let same = same_length c.args.self.now.members.items w.nodes w.mails t.trace.members in
    let h : at < count = omega (arith, same, c.loop-at-test.true, c.len-at-end.ensures) in
    let once : World = tick_node line at i.0 in
    let whole = sym (tick_next line at count i.0 h) ∙ i.2 in
    let more : length once.air ≤ length (tick_from line 0 count w).air =
    subst (λ (v : World). length once.air ≤ length v.air) whole (ticks_grow line (at + 1) (count - (at + 1)) once) in
    refused_still _ _ _ more (c.in_err-tick_node.ensures i.0 i.1))

pub loop-at-preserved : goal.loop-at-preserved
loop-at-preserved c = λ w t.
    let i = c.loop-at.invariant w t in
    let line = c.args.line in
    let at = c.loop-at.at in
    let count = length w.nodes in
    let same = same_length c.args.self.now.members.items w.nodes w.mails t.trace.members in
    let h : at < count = omega (arith, same, c.loop-at-test.true, c.len-at-end.ensures) in
    (tick_node line at i.0, c.in_ok-tick_node.ensures i.0 i.1, sym (tick_next line at count i.0 h) ∙ i.2)

pub returns : goal.returns
returns c = λ w t.
    let i = c.loop-at.invariant w t in
    let count = length w.nodes in
    let same = same_length c.args.self.now.members.items w.nodes w.mails t.trace.members in
    let none : count - c.loop-at.at ≡ 0 = omega (arith, same, c.loop-at-test.false, c.len-at-end.ensures) in
    subst (λ v. Stands (course c.loop-at.self) v) (sym (tick_end c.args.line c.loop-at.at (count - c.loop-at.at) i.0 none) ∙ i.2) i.1
