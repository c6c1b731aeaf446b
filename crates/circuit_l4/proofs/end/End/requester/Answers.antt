use Rattle.circuit_l4.proofs.Bounds.{stands}
use Rattle.circuit_l4.proofs.end.End.requester.Goals as goal

pub returns : goal.returns
returns c =
    let made = c.in_ok-machine.ensures in
    record { opening = rw (← c.of-now.ensures) (stands c.ask.new.self _ (c.ask.ensures.does _ (c.wait.ensures.does _ made.opening))) }
