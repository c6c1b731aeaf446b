use Rattle.std.proofs.Common.{ap, ◌∙◌, arith}
use Rattle.node_mail.specs.declared.queued_mails.QueuedMail.{QueuedMail}
use Rattle.node_mail.proofs.Queues.{get_any, none_between}
use Rattle.node_mail.proofs.queued_mails.place_of.Goals as goal
use Rattle.node_mail.proofs.queued_mails.place_of.Goals.{else-at-mails-via-then-at-mails+else-mails-at, else-at-mails-via-else-at-mails}

pub returns-else-at-mails-clause-none : goal.returns-else-at-mails-clause-none
returns-else-at-mails-clause-none c =
    none_between c.args.number c.start_of-at.result c.args.mails.now c.requires c.start_of-at.ensures.before c.start_of-at.ensures.after
    (elim c.else-at-mails.branch [
      | else-at-mails-via-then-at-mails+else-mails-at w ↦ λ d k e. w.if-mails-at.false (ap (λ (q : QueuedMail). q.number) (get_any c.args.mails.now c.start_of-at.result w.index-mails-at.result d k) ∙ e)
      | else-at-mails-via-else-at-mails w ↦ λ d k e. omega (arith, w.if-at-mails.false, k)
    ])
