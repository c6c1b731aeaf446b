use Rattle.std.proofs.Common.{◌≡◌, [], ◌∷◌, ◌++◌, true, sym, ◌∙◌, rules}
use Rattle.node_mail.specs.Lists.{mail_of}
use Rattle.mail_box.specs.Boxes.{with_lists}
use Rattle.mail_box.proofs.Keeping.{stored_goes}
use Rattle.mail_box.proofs.mails.Mails.apply_stored.Goals as goal

pub returns : goal.returns
returns c b stands =
    let held = rw (← c.self.view_is) at stands in
    let is_room : c.has_room.result ≡ true = search rules in
    let is_put : c.in_ok-put.field-0 ≡ true = search rules in
    let lists = record b.lists { stored = b.lists.stored ++ mail_of c.args.origin.now c.args.number c.args.user.now c.args.text.now ∷ [] } in
    let put = rw c.as_slice.ensures.octets at (c.in_ok-put.ensures.put is_put b.lists held.store) in
    stored_goes b c.args.origin.now c.args.user.now c.args.number c.args.text.now c.args.self.now c.add_letter.new.self (sym (c.has_room.ensures.room b stands) ∙ is_room)
    (sym (c.in_ok-put.ensures.answer b.lists held.store) ∙ is_put)
    (c.in_ok-add_letter.ensures (with_lists lists b) (record { store = put; letters = held.letters; read = held.read; given = held.given }))
