use Rattle.std.proofs.Common.{◌≡◌, ◌-◌, filter}
use Rattle.std.specs.List.{range_with_len}
use Rattle.network_file.specs.Plan.{can_hear, hearers}
use Rattle.net_model.specs.Lines.{deliver_all}
use Rattle.net_world.specs.Running.{Stands, course}
use Rattle.net_model.specs.World.{World}
use Rattle.net_world.proofs.world.World.spread_from.Given as goal

abbrev pub invariant-loop-number : goal.invariant-loop-number
invariant-loop-number l = (w : World) → Stands (course l.fn.self) w
    → (v : World) × Stands (course l.self) v
    × (deliver_all l.line l.at (filter (can_hear l.fn.self.channels.now l.sender) (range_with_len l.number (17 - l.number))) v
    ≡ deliver_all l.line l.at (hearers l.fn.self.channels.now l.sender) w)
