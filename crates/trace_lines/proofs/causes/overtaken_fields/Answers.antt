use Rattle.std.proofs.Common.{refl}
use Rattle.trace_lines.proofs.causes.overtaken_fields.Goals as goal

pub returns : goal.returns
returns c = rw c.in_ok-fields.ensures.ok refl
