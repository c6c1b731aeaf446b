use Rattle.std.proofs.Common.{◌≡◌, drop}
use Rattle.net_model.specs.Mailing.{offer_at, offer_part}
use Rattle.net_world.specs.Running.{Stands, course}
use Rattle.net_model.specs.World.{World}
use Rattle.net_world.proofs.world.World.offer_at_ends.Given as goal

abbrev pub invariant-loop-id : goal.invariant-loop-id
invariant-loop-id l = (w : World) → Stands (course l.fn.self) w
    → (v : World) × Stands (course l.self) v × (offer_at l.here.line l.here.node l.here.at (drop l.id-index l.id-items) v ≡ offer_part l.here.line l.here.node l.here.at w)
