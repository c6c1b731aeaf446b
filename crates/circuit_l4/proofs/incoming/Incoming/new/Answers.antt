use Rattle.std.proofs.Common.{ap, arith, length}
use Rattle.circuit_reassembly.specs.Kept.{Gathering}
use Rattle.circuit_l4.specs.Queued.{Queue}
use Rattle.circuit_l4.specs.State.{bytes_of}
use Rattle.circuit_l4.proofs.Bounds.{early_most}
use Rattle.circuit_l4.proofs.incoming.Incoming.new.Goals as goal

pub returns-clause-few : goal.returns-clause-few
returns-clause-few c =
    let gathered = ap (λ (g : Gathering). length g.held) c.in_ok-new.ensures in
    let messages = ap (λ (q : Queue). bytes_of q.messages) c.in_ok-new-2.ensures in
    record { waits = omega (arith, gathered, messages); early = early_most _ c.in_ok-empty_places.ensures.small }
