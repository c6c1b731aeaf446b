use Rattle.std.proofs.Common.{◌≡◌, ◌<◌, length}
use Rattle.net_world.specs.Running.{Stands, course, frames_at, put_by}
use Rattle.net_model.specs.World.{World}
use Rattle.net_world.proofs.world.World.put_frames.Given as goal

abbrev pub invariant-loop-written : goal.invariant-loop-written
invariant-loop-written l = record {
  within : l.at < length l.self.members.items;
  goes : (w : World) → Stands (course l.fn.self) w
      → (v : World) × Stands (course l.self) v × (put_by l.line l.at l.node l.on_air l.came v ≡ put_by l.line l.at l.node l.on_air l.came w);
}

abbrev pub decreases-loop-written : goal.decreases-loop-written
decreases-loop-written l = frames_at l.at l.self.members.items
