use Rattle.std.proofs.Common.{◌≡◌, ◌-◌, ◌+◌}
use Rattle.net_model.specs.Lines.{burst_from}
use Rattle.net_world.specs.Running.{Stands, course}
use Rattle.net_model.specs.World.{World}
use Rattle.net_world.proofs.world.World.burst_at.Given as goal

abbrev pub invariant-loop-before : goal.invariant-loop-before
invariant-loop-before l = (w : World) → Stands (course l.fn.self) w
    → (v : World) × Stands (course l.self) v
    × (burst_from l.here.line l.here.at l.here.node l.end (l.before + 1) (l.count - l.before) v ≡ burst_from l.here.line l.here.at l.here.node l.end 1 l.count w)
