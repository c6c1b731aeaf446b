use Rattle.std.proofs.Common.{◌≡◌, take}
use Rattle.mail_box.specs.Boxes.{BoxState, MailsStand, after_all}
use Rattle.mail_box.specs.Kept.{AfterAll}
use Rattle.mail_box.proofs.post_mail.apply_all.Given as goal

abbrev pub invariant-loop-entry : goal.invariant-loop-entry
invariant-loop-entry l = record {
  place : l.place ≡ l.entry-index;
  stands : (b : BoxState) → MailsStand l.fn.mails b → AfterAll l.mails (after_all b (take l.entry-index l.records));
}
