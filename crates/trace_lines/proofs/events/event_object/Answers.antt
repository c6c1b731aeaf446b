use Rattle.trace_lines.specs.Json.{object}
use Rattle.trace_lines.proofs.events.event_object.Goals as goal

pub returns-in-Wrote : goal.returns-in-Wrote
unfolding object
returns-in-Wrote c = rw (c.in-Wrote.is) c.format.ensures.ok
