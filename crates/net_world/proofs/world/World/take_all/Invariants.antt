use Rattle.std.proofs.Common.{◌≡◌, ◌-◌}
use Rattle.net_world.specs.Agents.{AgentStands}
use Rattle.net_model.specs.Mailing.{Agent, take_from}
use Rattle.net_world.specs.Running.{course}
use Rattle.net_world.proofs.world.World.take_all.Given as goal

abbrev pub invariant-loop : goal.invariant-loop
invariant-loop l = (a : Agent) → AgentStands (course l.fn.self) l.fn.answers.items a
    → (b : Agent) × AgentStands (course l.self) l.answers.items b
    × (take_from l.here.line l.here.node l.here.at l.id (100000 - l.counter) b ≡ take_from l.here.line l.here.node l.here.at l.id 100000 a)
