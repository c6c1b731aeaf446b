use Rattle.std.proofs.Common.{◌∙◌, arith}
use Rattle.circuit_verdict.proofs.Likenesses.{latest_noted}
use Rattle.circuit_verdict.proofs.sendings.Sendings.note_latest.Goals as goal

pub returns-clause-latest : goal.returns-clause-latest
returns-clause-latest c ss before k =
    let updated = c.in_ok-insert.ensures.updates.0 k in
    updated
    ∙ rw (before k)
    (latest_noted c.in_ok-likeness.likeness k c.args.who.now c.args.datagram.now c.args.sending ss c.in_ok-likeness.ensures.who c.in_ok-likeness.ensures.octets (omega arith))
