use Rattle.std.proofs.Common.{OnOk, subst, sym}
use Rattle.l3_datagram.specs.declared.routed.Routed.{Routed}
use Rattle.circuit_table.specs.SetTurns.{TakesIn}
use Rattle.circuit_table.proofs.set.CircuitSet.take_in.Goals as goal

pub returns-in-Mine-clause-takes : goal.returns-in-Mine-clause-takes
returns-in-Mine-clause-takes g c =
    subst (λ (r : Routed). OnOk c.hand_up.result (TakesIn g.C.Carrier.made c.args.self.now c.hand_up.new.self r c.args.now.0 c.hand_up.new.told)) (sym c.in-Mine.is) c.hand_up.ensures.takes
