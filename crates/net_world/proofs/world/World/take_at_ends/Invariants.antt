use Rattle.std.proofs.Common.{◌≡◌, drop}
use Rattle.circuit_table.specs.CircuitSets.{held_ids}
use Rattle.net_world.specs.Agents.{AgentStands}
use Rattle.net_model.specs.Mailing.{Agent, ends_here, take_at}
use Rattle.net_world.specs.Running.{course}
use Rattle.net_world.proofs.world.World.take_at_ends.Given as goal

abbrev pub invariant-loop-id : goal.invariant-loop-id
invariant-loop-id l = (a : Agent) → AgentStands (course l.fn.self) l.fn.answers.items a
    → (b : Agent) × AgentStands (course l.self) l.answers.items b
    × (take_at l.here.line l.here.node l.here.at (drop l.id-index l.id-items) b ≡ take_at l.here.line l.here.node l.here.at (held_ids (ends_here l.here.at a.world)) a)
