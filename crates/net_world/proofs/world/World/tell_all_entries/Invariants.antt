use Rattle.std.proofs.Common.{◌≡◌, ◌<◌, length}
use Rattle.net_world.specs.Running.{Stands, all_entries, course, entries_at}
use Rattle.net_model.specs.World.{World}
use Rattle.net_world.proofs.world.World.tell_all_entries.Given as goal

abbrev pub invariant-loop-event : goal.invariant-loop-event
invariant-loop-event l = record {
  within : l.at < length l.self.members.items;
  goes : (w : World) → Stands (course l.fn.self) w → (v : World) × Stands (course l.self) v × (all_entries l.line l.at v ≡ all_entries l.line l.at w);
}

abbrev pub decreases-loop-event : goal.decreases-loop-event
decreases-loop-event l = entries_at l.at l.self.members.items
