use Rattle.std.proofs.Common.{refl}
use Rattle.trace_lines.proofs.circuits.made_fields.Goals as goal

pub returns : goal.returns
returns c = rw (c.in_ok-fields.ensures.ok, c.as_str-partner.ensures.value, c.show-partner.ensures, c.as_str-request.ensures.value, c.in_ok-request.ensures) refl
