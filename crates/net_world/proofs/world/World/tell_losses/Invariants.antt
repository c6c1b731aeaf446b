use Rattle.std.proofs.Common.{◌≡◌, ◌-◌}
use Rattle.std.specs.Prelude.{slice_get}
use Rattle.net_world.specs.Running.{Stands, course, losses_at}
use Rattle.net_model.specs.World.{World, tell}
use Rattle.net_world.proofs.world.World.tell_losses.Given as goal

abbrev pub invariant-loop-id : goal.invariant-loop-id
invariant-loop-id l = record {
  goes : (w : World) → Stands (course l.fn.self) w → Stands (course l.self) (tell l.line (losses_at l.node (l.id - 1) (slice_get w.nodes l.at)) w);
  members : l.self.members.items ≡ l.fn.self.members.items;
}
