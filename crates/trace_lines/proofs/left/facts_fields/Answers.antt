use Rattle.std.proofs.Common.{refl}
use Rattle.trace_lines.specs.Left.{facts_fields}
use Rattle.trace_lines.proofs.left.facts_fields.Goals as goal

pub returns : goal.returns
unfolding facts_fields
returns c = rw (c.in_ok-fields.ensures.ok, c.phase_word-phase.ensures, c.as_str-counts.ensures.value, c.in_ok-counts.ensures) refl
