use Rattle.std.proofs.Common.{refl}
use Rattle.trace_lines.specs.Json.{object}
use Rattle.trace_lines.proofs.events.write_delivered.Goals as goal

pub returns : goal.returns
unfolding object
returns c = rw (c.in_ok-text.ensures, c.as_str.ensures.value, c.in_ok-object.ensures.ok, c.truth-again.ensures) refl
