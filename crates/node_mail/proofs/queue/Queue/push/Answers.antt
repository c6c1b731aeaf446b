use Rattle.std.proofs.Common.{◌≡◌, ◌∙◌, [], ◌∷◌, ◌++◌, ap}
use Rattle.std.proofs.lemmas.List.{map-append}
use Rattle.node_mail.specs.Lists.{new_letter}
use Rattle.node_mail.specs.Queues.{letter_in, letters}
use Rattle.node_mail.proofs.Queues.{in_order_push}
use Rattle.node_mail.proofs.queue.Queue.push.Goals as goal

pub invariant_of-self-2 : goal.invariant_of-self-2
invariant_of-self-2 c =
    let next = rw (← c.self.view_is) at c.requires.next in
    let old = letters c.self.inside.mails.items in
    let letter = new_letter c.args.number c.args.to.now c.args.dest.now c.args.text.now in
    let pushed : letters c.push.new.self.items ≡ old ++ letter ∷ [] =
    ap letters c.in_ok-push.ensures.items ∙ (map-append letter_in c.self.inside.mails.items _ ∙ ap (λ text. old ++ new_letter c.args.number c.args.to.now c.args.dest.now text ∷ []) c.in_ok-text.ensures.items) in
    in_order_push c.self.inside.last old _ letter pushed next (c.requires.is_number, c.requires.is_text) c.self.invariant
