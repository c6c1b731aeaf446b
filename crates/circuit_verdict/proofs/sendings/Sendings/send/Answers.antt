use Rattle.std.proofs.Common.{◌∙◌, ap, refl, arith}
use Rattle.circuit_verdict.specs.declared.sendings.Sendings.{Sendings}
use Rattle.circuit_verdict.proofs.sendings.Sendings.send.Goals as goal

pub returns : goal.returns
returns c ss hs s =
    let first = c.in_ok-note_latest.ensures.rest in
    let second = c.in_ok-note_number.ensures.rest in
    let sent_first = ap (λ (e : Sendings). e.sent) first in
    let messages_first = ap (λ (e : Sendings). e.messages) first in
    let latest_second = ap (λ (e : Sendings). e.latest) second in
    let heard_second = ap (λ (e : Sendings). e.heard) second ∙ ap (λ (e : Sendings). e.heard) first in
    record {
      latest = λ k. rw latest_second (c.in_ok-note_latest.ensures.latest ss s.latest k);
      messages = λ x. c.in_ok-note_number.ensures.messages ss (λ y n. rw sent_first (s.sent y n)) x ∙ rw (messages_first, s.messages x) refl;
      sent = λ x n. c.in_ok-note_number.ensures.sent x n ∙ rw (sent_first, s.sent x n) refl;
      heard = λ x n. rw heard_second (s.heard x n);
      order = (omega arith, s.order);
      once = s.once;
    }
