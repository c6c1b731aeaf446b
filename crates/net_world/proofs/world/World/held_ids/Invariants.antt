use Rattle.std.proofs.Common.{◌≡◌, take}
use Rattle.circuit_table.specs.CircuitSets.{held_ids}
use Rattle.net_model.specs.Mailing.{ends_here}
use Rattle.net_world.specs.Running.{Stands, course}
use Rattle.net_model.specs.World.{World}
use Rattle.net_world.proofs.world.World.held_ids.Given as goal

abbrev pub invariant-loop-nth : goal.invariant-loop-nth
invariant-loop-nth l = (w : World) → Stands (course l.self) w → l.ids.items ≡ take l.nth (held_ids (ends_here l.at w))
