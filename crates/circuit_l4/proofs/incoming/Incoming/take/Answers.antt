use Rattle.std.proofs.Common.{◌∙◌, sym}
use Rattle.circuit_l4.specs.Inboxes.{inbox_of}
use Rattle.circuit_l4.proofs.Receives.{taken_few, takes_first}
use Rattle.circuit_l4.proofs.incoming.Incoming.take.Goals as goal

pub returns-clause-does : goal.returns-clause-does
returns-clause-does c =
    rw (← c.self.view_is, c.pop.ensures.rest) (λ r h. takes_first (inbox_of c.self.inside) r h (sym c.pop.ensures.answer ∙ c.if-not-pop.false))

pub returns-then-not-pop-clause-few : goal.returns-then-not-pop-clause-few
returns-then-not-pop-clause-few c = taken_few c.self.inside c.pop.new.self c.pop.ensures.rest c.self.invariant

pub returns-clause-few : goal.returns-clause-few
returns-clause-few c = taken_few c.self.inside c.pop.new.self c.pop.ensures.rest c.self.invariant
