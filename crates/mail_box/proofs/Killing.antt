-- A letter is killed, and its mail with it.
use Rattle.std.proofs.Common.{◌≡◌, ℕ, Some, true, sym, ap, subst}
use Rattle.std.specs.Prelude.{remove, slice_get}
use Rattle.mail_records.specs.declared.record.Record.TheVariants.{Killed}
use Rattle.mail_box.specs.declared.letter.Letter.{Letter}
use Rattle.mail_box.specs.Boxes.{BoxState, Goes, MailsStand, MailsView, after, killed_at, mail_of_letter, place_of, with_lists, without_mail}

pub killed_goes : (b : BoxState) (old new : MailsView) (letter at : ℕ) (l : Letter) → place_of letter b.letters ≡ Some at → slice_get b.letters at ≡ Some l
    → MailsStand new (with_lists (without_mail b.lists l.mail) (record b { letters = remove b.letters at })) → Goes true old new (after b (Killed letter))
killed_goes b old new letter at l place found stands =
    subst (Goes true old new) (sym (ap (killed_at b) place))
    (subst (λ o. MailsStand new (with_lists (without_mail b.lists (mail_of_letter o)) (record b { letters = remove b.letters at }))) (sym found) stands)
