use Rattle.std.proofs.Common.{refl}
use Rattle.trace_lines.proofs.events.message_fields.Goals as goal

pub returns : goal.returns
returns c = rw (c.in_ok-fields.ensures.ok, c.as_str-said.ensures.value, c.in_ok-said.ensures) refl
