use Rattle.std.proofs.Common.{◌≡◌, ◌-◌}
use Rattle.net_model.specs.Lines.{flow}
use Rattle.net_world.specs.Running.{Stands, course}
use Rattle.net_model.specs.World.{World}
use Rattle.net_world.proofs.world.World.flow.Given as goal

abbrev pub invariant-loop : goal.invariant-loop
invariant-loop l = (w : World) → Stands (course l.fn.self) w
    → (v : World) × Stands (course l.self) v × (flow l.line (l.count - l.counter) v ≡ flow l.line l.count w)
