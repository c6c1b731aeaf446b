-- Stores at their places. No public clause cites it: not for the reader of a contract.
use Rattle.std.specs.Prelude.{ℕ, ◌≡◌, List, slice_set, Option, Some, None, Result, Ok, Err}
use Rattle.ax_address.specs.Callsign.{Callsign}
use Rattle.node_mail.specs.declared.heard.Heard.{Heard}
use Rattle.node_mail.specs.declared.post_refusal.PostRefusal.{PostRefusal}
use Rattle.node_mail.specs.Lists.{Lists, answer_to, hear_at, hear_step, post_at, post_step, IsPostAnswer, octets_in}
use Rattle.net_model.specs.declared.posting.Posting.{Posting}
use Rattle.net_model.specs.declared.posting.Posting.TheVariants.{NoMail, Posted, Refused}
use Rattle.net_model.specs.Mailing.{mail_in}

abbrev pub posting_of : Posting → Result ℕ PostRefusal → Type 0
posting_of NoMail says = ⊥
posting_of (Posted number) says = IsPostAnswer (Ok number) says
posting_of (Refused why) says = IsPostAnswer (Err why) says

abbrev pub IsNoMail : Posting → Type 0
IsNoMail NoMail = Unit {0}
IsNoMail _ = ⊥

-- what a post at a store is answered, or that there is none
abbrev pub PostsAt : Posting → Option Lists → Callsign → List ℕ → Type 0
PostsAt posting None dest text = IsNoMail posting
PostsAt posting (Some s) dest text = posting_of posting (post_at s dest text)

-- the store at a place, where one is there, does a step
abbrev pub change_mail : ℕ → (Lists → Lists) → Option Lists → List (Option Lists) → List (Option Lists)
change_mail at step None mails = mails
change_mail at step (Some s) mails = slice_set mails at (Some (step s))

abbrev pub posted_at : Posting → ℕ → Callsign → Callsign → List ℕ → List (Option Lists) → List (Option Lists)
posted_at (Posted number) at to dest text mails = change_mail at (λ s. post_step s to dest text) (mail_in at mails) mails
posted_at posting at to dest text mails = mails

abbrev pub heard_at : ℕ → Callsign → List ℕ → List (Option Lists) → List (Option Lists)
heard_at at from octets mails = change_mail at (λ s. hear_step s from octets) (mail_in at mails) mails

-- what a store has heard, and what it answers then; none where there is none
abbrev pub HearsAt : Option Heard → Option Lists → Callsign → List ℕ → Type 0
HearsAt heard None from octets = heard ≡ None
HearsAt heard (Some s) from octets = heard ≡ Some (hear_at s from octets)

abbrev pub answer_octets : Option Heard → List ℕ → List ℕ
answer_octets None out = out
answer_octets (Some heard) out = octets_in (answer_to heard)
