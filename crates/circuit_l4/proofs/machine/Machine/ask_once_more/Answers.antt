use Rattle.std.proofs.Common.{ap}
use Rattle.circuit_l4.specs.Standing.{EndView}
use Rattle.circuit_l4.proofs.machine.Machine.ask_once_more.Goals as goal

pub returns-in-Connecting-clause-tries : goal.returns-in-Connecting-clause-tries
returns-in-Connecting-clause-tries c = ap (λ (k : EndView). k.tries) c.ask.ensures.rest

pub returns-in-Up-clause-tries : goal.returns-in-Up-clause-tries
returns-in-Up-clause-tries c = ap (λ (k : EndView). k.tries) c.again.ensures.rest

pub returns-in-Closing-clause-tries : goal.returns-in-Closing-clause-tries
returns-in-Closing-clause-tries c = ap (λ (k : EndView). k.tries) c.emit.ensures.rest
