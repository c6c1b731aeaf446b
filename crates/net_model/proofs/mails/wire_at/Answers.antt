use Rattle.std.proofs.Common.{◌∙◌, ap}
use Rattle.node_mail.specs.Lists.{letter_of, octets_or}
use Rattle.net_model.specs.Mailing.{mail_in}
use Rattle.net_model.proofs.Stores.{none_there, some_here}
use Rattle.net_model.proofs.mails.wire_at.Goals as goal

pub returns-in-Some : goal.returns-in-Some
returns-in-Some c = λ ps ls h.
    let r = some_here c.in-Some.store.now (mail_in c.args.at ls) (c.in-Some.ensures ps ls h) in
    rw (r.there) (c.wire.ensures.message r.lists r.stands ∙ ap (λ octets. octets_or octets (letter_of c.args.number r.lists.queued)) c.new-out.ensures)

pub returns-in-None : goal.returns-in-None
returns-in-None c = λ ps ls h. rw (none_there (mail_in c.args.at ls) (c.in-None.ensures ps ls h)) c.new-out.ensures
