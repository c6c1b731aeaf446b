use Rattle.std.proofs.Common.{map}
use Rattle.net_model.specs.Events.{event_of}
use Rattle.net_world.specs.Running.{GoesOn, course}
use Rattle.net_model.specs.World.{tell}
use Rattle.net_world.proofs.world.World.tell_each.Given as goal

abbrev pub invariant-loop-event : goal.invariant-loop-event
invariant-loop-event l = GoesOn (course l.fn.self) (course l.self) (tell l.line (map event_of l.yielded))
