use Rattle.std.proofs.Common.{◌≡◌, ◌∙◌, ◌+◌, ◌-◌, arith, subst}
use Rattle.std.specs.Prelude.{slice_get}
use Rattle.net_world.specs.Running.{Stands, course, loss_at, losses_at}
use Rattle.net_model.specs.World.{tell}
use Rattle.net_world.proofs.Telling.{one_loss}
use Rattle.net_world.proofs.world.World.tell_losses.Goals as goal

pub returns-clause-goes : goal.returns-clause-goes
returns-clause-goes c = λ w t.
    let last : c.loop-id.id - 1 ≡ c.args.made = omega (arith, c.loop-id-test.false, c.loop-id.auto.id-end) in
    subst (λ k. Stands (course c.loop-id.self) (tell c.args.line (losses_at c.args.node k (slice_get w.nodes c.args.at)) w)) last (c.loop-id.invariant.goes w t)

pub loop-id-preserved : goal.loop-id-preserved
loop-id-preserved c = record {
  goes = λ w t.
      let line = c.args.line in
      let node = c.args.node in
      let new = course c.tell_loss.new.self in
      let before = c.loop-id.id - 1 in
      let o = slice_get w.nodes c.args.at in
      let here : c.loop-id.id ≡ before + 1 = omega (arith, c.loop-id.auto.id) in
      let next : before + 1 ≡ c.loop-id.id + 1 - 1 = omega (arith, c.loop-id.auto.id) in
      let told = c.in_ok-tell_loss.ensures.goes (tell line (losses_at node before o) w) (c.loop-id.invariant.goes w t) in
      let one = subst (λ k. Stands new (tell line (loss_at node k o) (tell line (losses_at node before o) w))) here told in
      subst (λ k. Stands new (tell line (losses_at node k o) w)) next (subst (λ v. Stands new v) (one_loss line node before c.args.at w) one);
  members = c.in_ok-tell_loss.ensures.members ∙ c.loop-id.invariant.members;
}
