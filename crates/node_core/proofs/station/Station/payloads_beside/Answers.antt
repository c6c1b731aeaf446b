use Rattle.std.proofs.Common.{refl}
use Rattle.node_core.proofs.station.Station.payloads_beside.Goals as goal

pub returns-then-goes_over : goal.returns-then-goes_over
returns-then-goes_over c = λ n t. rw (← c.goes_over.ensures n t, c.if-goes_over.true) refl

pub returns-else-goes_over : goal.returns-else-goes_over
returns-else-goes_over c = λ n t. rw (← c.goes_over.ensures n t, c.if-goes_over.false) refl
