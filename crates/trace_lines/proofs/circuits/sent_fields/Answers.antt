use Rattle.std.proofs.Common.{refl}
use Rattle.trace_lines.proofs.circuits.sent_fields.Goals as goal

pub returns : goal.returns
returns c = rw (c.in_ok-fields.ensures.ok, c.as_str-fragment.ensures.value, c.in_ok-fragment.ensures, c.as_str-octets.ensures.value, c.in_ok-octets.ensures) refl
