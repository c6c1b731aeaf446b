-- What a post has of letters and mails, and what each record makes of it. Own profile.
use Rattle.std.specs.Prelude.{◌≡◌, ℕ, ◌+◌, ◌^◌, ◌==◌, nat_lt, Bool, true, false, not, ◌&&◌, ◌||◌, if◌then◌else◌, List, [], ◌∷◌, ◌++◌, length, position, remove, slice_get, Option, Some, None, is_some, option_and_then, Result, Ok, Err}
use Rattle.std.specs.List.{list_any}
use Rattle.ax_address.specs.Callsign.{Callsign}
use Rattle.node_mail.specs.Lists.{Lists, StoreView, StandsFor, nothing_kept, post_at, post_step, letter_of, without, is_stored, is_full, kill_step, mail_of}
use Rattle.node_mail.specs.declared.mail.MailName.{MailName}
use Rattle.node_mail.specs.declared.mail.Mail.{Mail}
use Rattle.node_mail.specs.declared.post_refusal.PostRefusal.{PostRefusal}
use Rattle.node_mail.specs.declared.heard.Heard.{Heard}
use Rattle.node_mail.specs.declared.heard.Heard.TheVariants as heard
use Rattle.mail_records.specs.declared.record.Record.{Record}
use Rattle.mail_records.specs.declared.record.Record.TheVariants.{Posted, Settled, Stored, Local, Read, Killed}
use Rattle.mail_box.specs.declared.letter.Letter.{Letter}

-- the mails, the letters that are kept, the numbers of those that were read, and the number of the last that came
pub record BoxState : Type 0 where
  pub lists : Lists
  pub letters : List Letter
  pub read : List ℕ
  pub given : ℕ

abbrev pub new_box : Callsign → BoxState
new_box own = record { lists = nothing_kept own; letters = []; read = []; given = 0 }

-- the place of the letter of a number
abbrev pub place_of : ℕ → List Letter → Option ℕ
place_of n letters = position (λ (l : Letter). l.number == n) letters

abbrev pub letter_at : Option ℕ → List Letter → Option Letter
letter_at (Some at) letters = slice_get letters at
letter_at None letters = None

abbrev pub has_number : ℕ → List ℕ → Bool
has_number n ns = list_any (λ k. k == n) ns

-- fewer than 4,096 letters are kept, and numbers are left
abbrev pub has_room : BoxState → Bool
has_room b = nat_lt (length b.letters) 4096 && nat_lt b.given (2 ^ 62)

abbrev pub as_letter : ℕ → Option MailName → Callsign → List ℕ → Letter
as_letter number mail user text = record { number = number; mail = mail; user = user; text = text }

-- with a letter more, of the next number, which came as that mail, or was posted here
abbrev pub added : Option MailName → Callsign → List ℕ → BoxState → BoxState
added mail user text b =
    record b { letters = b.letters ++ as_letter (b.given + 1) mail user text ∷ []; given = b.given + 1 }

-- a mail isn't stored where there is no room for its letter
abbrev pub with_room : BoxState → Heard → Heard
with_room b (heard.Stored number user) = if has_room b then heard.Stored number user else heard.Full number
with_room b other = other

abbrev pub with_lists : Lists → BoxState → BoxState
with_lists lists b = record b { lists = lists }

abbrev pub with_stored : Mail → BoxState → BoxState
with_stored mail b = with_lists (record b.lists { stored = b.lists.stored ++ mail ∷ [] }) b

-- a mail gets that number
abbrev pub gives : Result ℕ PostRefusal → ℕ → Bool
gives (Ok n) number = n == number
gives (Err why) number = false

abbrev pub name : Callsign → ℕ → MailName
name origin number = record { origin = origin; number = number }

-- the mail as which a letter came is killed
abbrev pub without_mail : Lists → Option MailName → Lists
without_mail s (Some mail) = kill_step s mail.origin mail.number
without_mail s None = s

abbrev pub mail_of_letter : Option Letter → Option MailName
mail_of_letter (Some l) = l.mail
mail_of_letter None = None

-- with the letter at a place its mail goes
abbrev pub killed_at : BoxState → Option ℕ → Option BoxState
killed_at b (Some at) = Some (record b {
  lists = without_mail b.lists (mail_of_letter (slice_get b.letters at));
  letters = remove b.letters at;
})
killed_at b None = None

-- What is there after a record, where it can follow. A mail is posted under the next number, settled where it is queued,
-- stored where it wasn't yet; a letter is read once, and killed where it is kept.
abbrev pub after : BoxState → Record → Option BoxState
after b (Posted number user dest text) =
    if gives (post_at b.lists dest text) number then Some (with_lists (post_step b.lists user dest text) b) else None
after b (Settled number) =
    if is_some (letter_of number b.lists.queued)
    then Some (with_lists (record b.lists { queued = without number b.lists.queued }) b) else None
after b (Stored origin number user text) =
    if has_room b && not (is_stored b.lists.stored origin number || is_full b.lists.stored)
    then Some (added (Some (name origin number)) user text (with_stored (mail_of origin number user text) b)) else None
after b (Local user text) = if has_room b then Some (added None user text b) else None
after b (Read letter) =
    if is_some (place_of letter b.letters) && not (has_number letter b.read)
    then Some (record b { read = b.read ++ letter ∷ [] }) else None
after b (Killed letter) = killed_at b (place_of letter b.letters)

-- and after several
abbrev pub after_all : BoxState → List Record → Option BoxState
after_all b [] = Some b
after_all b (r ∷ rs) = option_and_then (λ x. after_all x rs) (after b r)

-- what the code keeps of it
pub record MailsView : Type 0 where
  pub store : StoreView
  pub letters : List Letter
  pub read : List ℕ
  pub given : ℕ

pub record MailsStand (v : MailsView) (b : BoxState) : Type 0 where
  pub store : StandsFor v.store b.lists
  pub letters : v.letters ≡ b.letters
  pub read : v.read ≡ b.read
  pub given : v.given ≡ b.given

-- it stands for what is there after a record, or the record can't follow and nothing has changed
abbrev pub Goes : Bool → MailsView → MailsView → Option BoxState → Type 0
Goes true old new (Some b) = MailsStand new b
Goes true old new None = ⊥
Goes false old new (Some b) = ⊥
Goes false old new None = new ≡ old
