use Rattle.std.proofs.Common.{refl}
use Rattle.trace_lines.specs.Json.{object}
use Rattle.trace_lines.proofs.causes.write_sign.Goals as goal

pub returns : goal.returns
unfolding object
returns c = rw (c.in_ok-text.ensures, c.as_str.ensures.value, c.in_ok-object.ensures.ok, c.as_str-sign.ensures.value, c.in_ok-sign.ensures) refl
