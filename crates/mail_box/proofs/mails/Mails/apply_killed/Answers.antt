use Rattle.std.proofs.Common.{◌∙◌, sym, ap, refl}
use Rattle.std.specs.Prelude.{length, remove, slice_get}
use Rattle.std.proofs.lemmas.Option.{slice_get_read}
use Rattle.mail_box.specs.Boxes.{place_of}
use Rattle.mail_box.proofs.Killing.{killed_goes}
use Rattle.mail_box.proofs.mails.Mails.apply_killed.Goals as goal

pub returns-in-Some : goal.returns-in-Some
returns-in-Some c b stands =
    let held = rw (← c.self.view_is) at stands in
    let letters = c.self.inside.letters.items in
    let within = rw (c.deref.ensures.value) at c.in-Some.ensures.within in
    let place = rw (c.deref.ensures.value) at c.in-Some.ensures.place in
    let found = slice_get_read letters (length letters) c.in-Some.at c.remove-letter.result refl within c.remove-letter.ensures.value in
    let rest = record b { letters = remove b.letters c.in-Some.at } in
    let left = c.kill_mail.ensures rest (record { store = held.store; letters = c.remove-letter.ensures.items ∙ ap (λ ls. remove ls c.in-Some.at) held.letters; read = held.read; given = held.given }) in
    killed_goes b c.args.self.now c.kill_mail.new.self c.args.letter c.in-Some.at c.remove-letter.result (ap (place_of c.args.letter) (sym held.letters) ∙ sym place)
    (ap (λ ls. slice_get ls c.in-Some.at) (sym held.letters) ∙ found) left
