use Rattle.std.proofs.Common.{refl}
use Rattle.trace_lines.proofs.circuits.notice_fields.Goals as goal

pub returns : goal.returns
returns c = rw (c.in_ok-fields.ensures.ok, c.notice_word-what.ensures, c.as_str-window.ensures.value, c.in_ok-window.ensures) refl
