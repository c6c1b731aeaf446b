use Rattle.std.proofs.Common.{ap, sym, subst}
use Rattle.node_mail.specs.Lists.{StoreView}
use Rattle.std.specs.Prelude.{Option}
use Rattle.net_model.specs.Mailing.{mail_in}
use Rattle.net_model.specs.Standing.{MailStands}
use Rattle.net_model.specs.declared.members.Member.{Member}
use Rattle.net_model.proofs.Stores.{past, stands_at}
use Rattle.net_model.proofs.mails.store_at.Goals as goal

pub returns-in-Some : goal.returns-in-Some
returns-in-Some c = λ ps ls h.
    let found = c.in-Some.ensures.lookup in
    rw (c.as_ref.ensures.value) (subst (λ (v : Option StoreView). MailStands v (mail_in c.args.at ls)) (ap (λ (m : Member). m.mail) (sym found.1)) (stands_at c.args.members.now ps ls c.args.at c.in-Some.member.now h found.3.0))

pub returns-in-None : goal.returns-in-None
returns-in-None c = λ ps ls h. rw (past c.args.members.now ps ls c.args.at h c.in-None.ensures.lookup.3) tt
