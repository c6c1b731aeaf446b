use Rattle.std.proofs.Common.{ap, refl}
use Rattle.net_model.specs.Mailing.{mail_in}
use Rattle.net_model.proofs.Stores.{none_there, some_here}
use Rattle.net_model.proofs.mails.queued_count.Goals as goal

pub returns-in-Some : goal.returns-in-Some
returns-in-Some c = λ ps ls h.
    let r = some_here c.in-Some.store.now (mail_in c.args.at ls) (c.in-Some.ensures ps ls h) in
    rw (r.there) (ap (λ p. p.0) (c.counts.ensures r.lists r.stands))

pub returns-in-None : goal.returns-in-None
returns-in-None c = λ ps ls h. rw (none_there (mail_in c.args.at ls) (c.in-None.ensures ps ls h)) refl
