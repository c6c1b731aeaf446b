-- The mails that are stored, under their names. No public clause cites it: not for the reader of a contract.
use Rattle.std.specs.Prelude.{ℕ, ◌≡◌, List, length}
use Rattle.std.specs.List.{AllByRecursion}
use Rattle.std.specs.Map.{values_of}
use Rattle.node_mail.specs.declared.mail.Mail.{Mail}
use Rattle.node_mail.specs.declared.mail.MailName.{MailName}
use Rattle.node_mail.specs.Lists.{with_texts}

abbrev pub name_of : Mail → MailName
name_of m = record { origin = m.origin; number = m.number }

-- each mail is under its name
abbrev pub AreNamed : List (MailName × Mail) → Type 0
AreNamed entries = AllByRecursion (λ (e : MailName × Mail). e.0 ≡ name_of e.1) entries

-- and so many have their texts
pub record AreCounted (entries : List (MailName × Mail)) (texts : ℕ) : Type 0 where
  pub named : AreNamed entries
  pub counted : texts ≡ length (with_texts (values_of entries))
