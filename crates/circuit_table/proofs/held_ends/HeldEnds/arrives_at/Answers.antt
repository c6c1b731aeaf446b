use Rattle.std.proofs.Common.{arith}
use Rattle.circuit_table.proofs.Arriving.{gives_heard, gives_unheard}
use Rattle.circuit_table.proofs.Counting.{falls_few, hands_few}
use Rattle.circuit_table.proofs.held_ends.HeldEnds.arrives_at.Goals as goal

pub returns-then-hand-clause-gives : goal.returns-then-hand-clause-gives
returns-then-hand-clause-gives c = λ s h st is held number.
    gives_heard c.args.self.now c.hand.new.self c.args.id c.args.transport.now c.args.now.0 c.hand.result c.hand.ensures.same s st h is held c.args.datagram number c.hand.ensures.hands c.if-hand.true

pub returns-clause-gives : goal.returns-clause-gives
returns-clause-gives c = λ s h st is held number.
    gives_unheard c.args.self.now c.hand.new.self c.args.id c.args.transport.now c.args.now.0 c.hand.result c.hand.ensures.same s st h is held c.args.datagram number c.hand.ensures.hands c.if-hand.false
    c.next.new.untold c.next.new.self c.next.ensures.gives

pub returns-then-hand-clause-few : goal.returns-then-hand-clause-few
returns-then-hand-clause-few c =
    omega (arith, hands_few c.args.id c.args.self.now.ends.entries c.hand.new.self.ends.entries c.args.transport.now c.args.now.0 c.hand.result c.hand.ensures.hands)

pub returns-clause-few : goal.returns-clause-few
returns-clause-few c =
    omega (
      arith,
      hands_few c.args.id c.args.self.now.ends.entries c.hand.new.self.ends.entries c.args.transport.now c.args.now.0 c.hand.result c.hand.ensures.hands,
      falls_few c.next.new.untold _ _ c.next.ensures.falls,
    )
