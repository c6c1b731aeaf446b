use Rattle.std.proofs.Common.{sym, ◌∙◌}
use Rattle.circuit_l4.specs.State.{Receipt, receive, Effect}
use Rattle.circuit_l4.specs.Moves.{acknowledge, on_state}
use Rattle.circuit_l4.proofs.Answered.{receipt_fails, receipt_fits, texted_fails, texted_fits}
use Rattle.circuit_l4.proofs.machine.Machine.on_info.Goals as goal

pub returns-in-Ok-clause-does : goal.returns-in-Ok-clause-does
returns-in-Ok-clause-does c = λ g h.
    let known : Effect = on_state (λ s. (acknowledge c.args.now c.args.info.now.rx c.args.info.now.flags s).end) g in
    let receipt : Receipt = receive known.end.window c.args.info.now.tx c.args.info.now.piece.now known.end.receiving in
    let acknowledges = c.acknowledge-owed.ensures.does g h in
    let comes = c.receive.ensures.does known acknowledges.0 in
    let fits = receipt_fits receipt c.in-Ok.asks (sym comes.1 ∙ c.in-Ok.is) in
    texted_fits c.args.now _ c.acknowledge-owed.result receipt c.in-Ok.asks _ known fits.0 fits.1 acknowledges.1 (c.answer_all.ensures.does _ comes.0)

pub returns-in-Err-clause-does : goal.returns-in-Err-clause-does
returns-in-Err-clause-does c = λ g h.
    let known : Effect = on_state (λ s. (acknowledge c.args.now c.args.info.now.rx c.args.info.now.flags s).end) g in
    let receipt : Receipt = receive known.end.window c.args.info.now.tx c.args.info.now.piece.now known.end.receiving in
    let comes = c.receive.ensures.does known (c.acknowledge-owed.ensures.does g h).0 in
    texted_fails c.args.now _ receipt _ known (receipt_fails receipt c.in-Err.field-0 (sym comes.1 ∙ c.in-Err.is)) (c.end.ensures.does _ comes.0)
