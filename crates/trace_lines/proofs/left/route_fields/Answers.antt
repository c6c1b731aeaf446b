use Rattle.std.proofs.Common.{refl}
use Rattle.trace_lines.specs.Left.{route_fields}
use Rattle.trace_lines.proofs.left.route_fields.Goals as goal

pub returns : goal.returns
unfolding route_fields
returns c = rw (c.in_ok-fields.ensures.ok, c.as_str-dest.ensures.value, c.show-dest.ensures, c.as_str-alias.ensures.value, c.in_ok-alias.ensures, c.as_str-neighbour.ensures.value, c.show-neighbour.ensures, c.as_str-count.ensures.value, c.in_ok-count.ensures) refl
