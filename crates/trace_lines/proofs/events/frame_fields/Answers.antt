use Rattle.std.proofs.Common.{refl}
use Rattle.trace_lines.proofs.events.frame_fields.Goals as goal

pub returns : goal.returns
returns c = rw (c.in_ok-fields.ensures.ok, c.size_of-modulo.ensures, c.as_str-octets.ensures.value, c.in_ok-octets.ensures) refl
