use Rattle.std.proofs.Common.{refl}
use Rattle.trace_lines.specs.Json.{object}
use Rattle.trace_lines.proofs.events.write_lost_frame.Goals as goal

pub returns : goal.returns
unfolding object
returns c = rw (c.in_ok-text.ensures, c.as_str.ensures.value, c.in_ok-object.ensures.ok) refl
