use Rattle.std.proofs.Common.{◌≡◌, ◌∙◌, ◌-◌, sym, ap, arith, length, drop, take_all, length-drop}
use Rattle.circuit_set.specs.Books.{is_heard}
use Rattle.indexmap.specs.IndexSet.{contains}
use Rattle.circuit_verdict.specs.Sendings.{Rises, message_name, messages_in, same_message}
use Rattle.circuit_verdict.specs.declared.message.Message.{Message}
use Rattle.circuit_verdict.proofs.Messages.{behind, messages_rise}
use Rattle.circuit_verdict.proofs.Heard.{among, among_same, heard_counted, heard_later}
use Rattle.circuit_verdict.proofs.sendings.Sendings.heard_after.Goals as goal

pub returns-clause-exact : goal.returns-clause-exact
returns-clause-exact c last ss hs s =
    let ms = c.of-messages.result.now in
    let later = c.first_later-later.result in
    let told = c.first_later-later.ensures in
    let x = c.args.heard_by.now in
    let messages : ms ≡ messages_in ss c.args.sender.now = c.of-messages.ensures ∙ s.messages c.args.sender.now in
    let rises : Rises ms = rw messages (messages_rise last ss c.args.sender.now s.order) in
    let heard = rw (take_all (length ms - later) (drop later ms) (omega (arith, length-drop later ms))) at c.heard_among.ensures.exact in
    heard
    ∙ among_same (λ (m : Message). contains same_message c.args.self.now.heard (message_name x m.number)) (λ (m : Message). is_heard x m.number hs) (drop later ms)
    (λ m. s.heard x m.number)
    ∙ sym (behind (λ (m : Message). is_heard x m.number hs) c.args.place later ms (λ i d p q. told.before rises i d p) (told.after rises))
    ∙ ap (among (heard_later x c.args.place hs)) messages
    ∙ sym (heard_counted hs ss c.args.sender.now x c.args.place s.once)
