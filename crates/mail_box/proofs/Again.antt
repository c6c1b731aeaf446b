-- Posts with the same records are the same.
use Rattle.std.proofs.Common.{◌≡◌, List, Some, length, sym, ap, ◌∙◌}
use Rattle.mail_records.specs.declared.record.Record.{Record}
use Rattle.mail_box.specs.Boxes.{BoxState, MailsView, MailsStand, after_all, new_box}
use Rattle.mail_box.specs.declared.post_mail.MailBox.{MailBox}
use Rattle.mail_box.specs.Kept.{IsKept}

-- what the code keeps of a state
view_of : BoxState → MailsView
view_of b = record {
  store = record { own = b.lists.own; last = length b.lists.posted; queued = b.lists.queued; stored = b.lists.stored };
  letters = b.letters;
  read = b.read;
  given = b.given;
}

view_is : (v : MailsView) (b : BoxState) → MailsStand v b → v ≡ view_of b
unfolding view_of
view_is v b s = λ i. record {
  store = record { own = s.store.own i; last = s.store.last i; queued = s.store.queued i; stored = s.store.stored i };
  letters = s.letters i;
  read = s.read i;
  given = s.given i;
}

pub same_mails : {L K : Type 0} (holds : L → List Record → Type 0) (other_holds : K → List Record → Type 0) (before : MailBox L) (again : MailBox K) (kept : List Record) → IsKept holds before kept
    → IsKept other_holds again kept → before.mails.store.own ≡ again.mails.store.own → again.mails ≡ before.mails
same_mails holds other_holds before again kept k j own =
    let both : Some j.state ≡ Some k.state = sym j.after ∙ ap (λ c. after_all (new_box c) kept) (sym own) ∙ k.after in
    let same : j.state ≡ k.state = cc in
    view_is again.mails j.state j.stands ∙ ap view_of same ∙ sym (view_is before.mails k.state k.stands)
