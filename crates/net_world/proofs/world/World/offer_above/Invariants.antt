use Rattle.std.proofs.Common.{◌≡◌}
use Rattle.net_world.specs.Agents.{offer_from}
use Rattle.net_world.specs.Running.{Stands, course}
use Rattle.net_model.specs.World.{World}
use Rattle.net_world.proofs.world.World.offer_above.Given as goal

abbrev pub invariant-loop-nth : goal.invariant-loop-nth
invariant-loop-nth l = (w : World) → Stands (course l.fn.self) w
    → (v : World) × Stands (course l.self) v × (v.mails ≡ w.mails)
    × (offer_from l.here.line l.here.node l.here.at l.id l.dest l.last l.nth v ≡ offer_from l.here.line l.here.node l.here.at l.id l.dest l.last 0 w)
