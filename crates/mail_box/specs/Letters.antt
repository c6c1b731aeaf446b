-- The letters of a post that came from other posts are the mails that it has stored. Own profile.
use Rattle.std.specs.Prelude.{◌≡◌, ℕ, List, [], ◌∷◌, ◌++◌, Option, Some, None}
use Rattle.ax_address.specs.Callsign.{Callsign}
use Rattle.node_mail.specs.Lists.{mail_of, with_texts}
use Rattle.node_mail.specs.declared.mail.Mail.{Mail}
use Rattle.node_mail.specs.declared.mail.MailName.{MailName}
use Rattle.mail_records.specs.declared.record.Record.{Record}
use Rattle.mail_box.specs.declared.letter.Letter.{Letter}
use Rattle.mail_box.specs.Boxes.{BoxState, after_all, new_box}

abbrev pub mail_named : Option MailName → Callsign → List ℕ → List Mail
mail_named (Some name) user text = mail_of name.origin name.number user text ∷ []
mail_named None user text = []

-- the mails as which letters came, with their users and texts
abbrev pub mails_in : List Letter → List Mail
mails_in [] = []
mails_in (l ∷ ls) = mail_named l.mail l.user l.text ++ mails_in ls

-- those that are kept are the mails that are stored and weren't killed, in the same order
abbrev pub LettersAreItsMails : Type 0
LettersAreItsMails =
    (own : Callsign) (b : BoxState) (kept : List Record) → after_all (new_box own) kept ≡ Some b →
    with_texts (mails_in b.letters) ≡ with_texts b.lists.stored
