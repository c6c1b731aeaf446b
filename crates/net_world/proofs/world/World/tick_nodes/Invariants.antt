use Rattle.std.proofs.Common.{◌≡◌, ◌-◌, length}
use Rattle.net_model.specs.Lines.{tick_from}
use Rattle.net_world.specs.Running.{Stands, course}
use Rattle.net_model.specs.World.{World}
use Rattle.net_world.proofs.world.World.tick_nodes.Given as goal

abbrev pub invariant-loop-at : goal.invariant-loop-at
invariant-loop-at l = (w : World) → Stands (course l.fn.self) w
    → (v : World) × Stands (course l.self) v
    × (tick_from l.line l.at (length w.nodes - l.at) v ≡ tick_from l.line 0 (length w.nodes) w)
