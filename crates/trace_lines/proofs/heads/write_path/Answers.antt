use Rattle.std.proofs.Common.{refl}
use Rattle.trace_lines.specs.Json.{object}
use Rattle.trace_lines.proofs.heads.write_path.Goals as goal

pub returns : goal.returns
unfolding object
returns c = rw (c.in_ok-text.ensures, c.as_str.ensures.value, c.in_ok-object.ensures.ok, c.as_str-peer.ensures.value, c.show-peer.ensures, c.as_str-repeaters.ensures.value, c.in_ok-repeaters.ensures) refl
