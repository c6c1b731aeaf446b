use Rattle.std.proofs.Common.{arith}
use Rattle.circuit_l4.proofs.Bounds.{early_most}
use Rattle.circuit_l4.proofs.incoming.Incoming.receive_early.Goals as goal

pub returns-clause-few : goal.returns-clause-few
returns-clause-few c =
    record { waits = omega (arith, c.self.invariant.waits, c.self.invariant.most); early = early_most _ (c.keep.ensures.small c.self.invariant.small) }
