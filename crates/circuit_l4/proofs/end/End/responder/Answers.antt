use Rattle.circuit_l4.proofs.Bounds.{stands}
use Rattle.circuit_l4.proofs.end.End.responder.Goals as goal

pub returns : goal.returns
returns c =
    let made = c.in_ok-machine.ensures in
    record { opening = rw (← c.of.ensures, ← c.common_window-window.ensures) (stands c.note.new.self _ (c.note.ensures.does _ (c.emit.ensures.does _ made.opening))) }
