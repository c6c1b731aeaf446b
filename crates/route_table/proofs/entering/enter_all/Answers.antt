use Rattle.std.proofs.Common.{◌≡◌, ◌<◌, ◌-◌, ◌+◌, arith, length, subst}
use Rattle.route_table.specs.Table.{all_placed}
use Rattle.route_table.proofs.Waiting.{Entering, enter_step}
use Rattle.route_table.proofs.entering.enter_all.Goals as goal

pub loop-gap-preserved : goal.loop-gap-preserved
loop-gap-preserved c =
    let gap = c.loop-gap.gap - 1 in
    let next : c.loop-gap.gap ≡ gap + 1 = omega (arith, c.loop-gap-test.true) in
    let within : gap < length c.args.routes.now = omega (arith, c.loop-gap-test.true, c.loop-gap.auto.gap) in
    let all = all_placed c.args.routes.now c.args.rows.now.items in
    let before : Entering c.args.routes.now c.loop-gap.rows all c.loop-gap.end (gap + 1) = subst (Entering c.args.routes.now c.loop-gap.rows all c.loop-gap.end) next c.loop-gap.invariant in
    enter_step c.args.routes.now c.loop-gap.rows c.enter_before-end.new.rows all c.loop-gap.end gap c.enter_before-end.result c.index-routes-gap.result c.requires.waiting.waiting.order within c.index-routes-gap.is before c.enter_before-end.ensures.place c.enter_before-end.ensures.bound c.enter_before-end.ensures.rows
