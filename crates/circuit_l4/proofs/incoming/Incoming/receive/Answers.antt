use Rattle.circuit_l4.proofs.Bounds.{few_of}
use Rattle.circuit_l4.proofs.incoming.Incoming.receive.Goals as goal

pub returns-then-not-takes-clause-few : goal.returns-then-not-takes-clause-few
returns-then-not-takes-clause-few c = rw (← c.self.view_is) (few_of c.self.inside c.self.invariant)

pub returns-in-None-clause-few : goal.returns-in-None-clause-few
returns-in-None-clause-few c = rw (← c.self.view_is) (few_of c.self.inside c.self.invariant)
