-- What a node keeps of mail, what each call does to it, and when what a store keeps stands for it. Own profile.
use Rattle.std.specs.Prelude.{ℕ, ◌+◌, List, [], ◌∷◌, ◌++◌, length, drop, filter, Bool, false, ◌&&◌, ◌||◌, ◌==◌, not, nat_lt, nat_le, Option, Some, None, Result, Ok, Err, if◌then◌else◌, ◌≡◌, IsOk}
use Rattle.std.specs.List.{list_any}
use Rattle.radio_base.specs.declared.modulus.TheConstants.{COUNT_MAX}
use Rattle.ax_address.specs.Callsign.{Callsign, same_call}
pub use Rattle.node_mail.specs.declared.mail.Mail.{Mail}
pub use Rattle.node_mail.specs.declared.mail.MailName.{MailName}
pub use Rattle.node_mail.specs.declared.heard.Heard.{Heard}
use Rattle.node_mail.specs.declared.heard.Heard.TheVariants.{Stored, Again, Settled, Stray, Full, Bad}
pub use Rattle.node_mail.specs.declared.post_refusal.PostRefusal.{PostRefusal}
use Rattle.node_mail.specs.declared.post_refusal.PostRefusal.TheVariants as refusal
use Rattle.node_mail.specs.Wires.{Wire, Carries, Receipt, wire_at, Spells, wire_octets, IsNumber, IsText}

-- a mail as it was posted
pub record Letter : Type 0 where
  pub number : ℕ
  pub to : Callsign
  pub dest : Callsign
  pub text : List ℕ

-- all mails that were posted at the node, those of them that aren't settled, and those of other nodes that were stored,
-- in the order of storing: one that was killed stays among them, without its text
pub record Lists : Type 0 where
  pub own : Callsign
  pub posted : List Letter
  pub queued : List Letter
  pub stored : List Mail

abbrev pub new_letter : ℕ → Callsign → Callsign → List ℕ → Letter
new_letter number to dest text = record { number = number; to = to; dest = dest; text = text }

-- the message that offers a mail
abbrev pub offer : Letter → Wire
offer l = Carries l.number l.to l.text

abbrev pub nothing_kept : Callsign → Lists
nothing_kept own = record { own = own; posted = []; queued = []; stored = [] }

-- the mail of a number
abbrev pub letter_of : ℕ → List Letter → Option Letter
letter_of n [] = None
letter_of n (l ∷ ls) = if l.number == n then Some l else letter_of n ls

-- a mail from there with that number is stored
abbrev pub is_stored : List Mail → Callsign → ℕ → Bool
is_stored ms origin number = list_any (λ (m : Mail). same_call m.origin origin && (m.number == number)) ms

-- a mail of that number is queued for that node
abbrev pub is_queued_for : List Letter → Callsign → ℕ → Bool
is_queued_for ls dest number = list_any (λ (l : Letter). (l.number == number) && same_call l.dest dest) ls

-- a mail that is stored has its text until it is killed
abbrev pub has_text : Mail → Bool
has_text m = not (length m.text.items == 0)

-- the mails that have their texts
abbrev pub with_texts : List Mail → List Mail
with_texts ms = filter has_text ms

-- 4,096 have their texts, or 65,536 were ever stored
abbrev pub is_full : List Mail → Bool
is_full ms = nat_le 4096 (length (with_texts ms)) || nat_le 65536 (length ms)

-- the stored mail from there with that number
abbrev pub stored_mail : List Mail → Callsign → ℕ → Option Mail
stored_mail [] origin number = None
stored_mail (m ∷ ms) origin number =
    if same_call m.origin origin && (m.number == number) then Some m else stored_mail ms origin number

abbrev pub is_readable : Option Mail → Bool
is_readable (Some m) = has_text m
is_readable None = false

abbrev pub is_killed : Option Mail → Bool
is_killed (Some m) = not (has_text m)
is_killed None = false

abbrev pub without_text : Mail → Mail
without_text m = record m { text = record { items = [] } }

-- with that mail killed: its text is gone, and what it was called stays
abbrev pub killed_in : List Mail → Callsign → ℕ → List Mail
killed_in [] origin number = []
killed_in (m ∷ ms) origin number =
    if same_call m.origin origin && (m.number == number) then without_text m ∷ ms else m ∷ killed_in ms origin number

abbrev pub without : ℕ → List Letter → List Letter
without number ls = filter (λ (l : Letter). not (l.number == number)) ls

-- the number that a mail of this text gets, or why it isn't posted, where so many are queued and so many were posted
abbrev pub number_for : ℕ → ℕ → List ℕ → Result ℕ PostRefusal
number_for queued posted text =
    if length text == 0 then Err refusal.Empty
    else if nat_lt 1024 (length text) then Err refusal.TooLong
    else if nat_le 1000 queued then Err refusal.Full
    else if nat_le COUNT_MAX posted then Err refusal.Exhausted
    else Ok (posted + 1)

abbrev pub post_at : Lists → Callsign → List ℕ → Result ℕ PostRefusal
post_at s dest text =
    if same_call dest s.own then Err refusal.Own else number_for (length s.queued) (length s.posted) text

abbrev pub with_letter : Lists → Letter → Lists
with_letter s l = record s { posted = s.posted ++ l ∷ []; queued = s.queued ++ l ∷ [] }

abbrev pub posted_by : Lists → Callsign → Callsign → List ℕ → Result ℕ PostRefusal → Lists
posted_by s to dest text (Ok number) = with_letter s (new_letter number to dest text)
posted_by s to dest text (Err why) = s

-- what is kept after a mail is posted, or isn't
abbrev pub post_step : Lists → Callsign → Callsign → List ℕ → Lists
post_step s to dest text = posted_by s to dest text (post_at s dest text)

abbrev pub mail_of : Callsign → ℕ → Callsign → List ℕ → Mail
mail_of origin number to text = record { origin = origin; number = number; to = to; text = record { items = text } }

-- what is kept after a stored mail is killed
abbrev pub kill_step : Lists → Callsign → ℕ → Lists
kill_step s origin number = record s { stored = killed_in s.stored origin number }

-- what is heard of a mail, where these are stored, and of a receipt, where these are queued
abbrev pub mail_heard : List Mail → Callsign → ℕ → Callsign → Heard
mail_heard stored from number to =
    if is_stored stored from number then Again number
    else (if is_full stored then Full number else Stored number to)

abbrev pub receipt_heard : List Letter → Callsign → ℕ → Heard
receipt_heard queued from number = if is_queued_for queued from number then Settled number else Stray number

-- what is heard, by the message
abbrev pub heard_by : List Letter → List Mail → Callsign → Option Wire → Heard
heard_by queued stored from None = Bad
heard_by queued stored from (Some (Carries number to text)) = mail_heard stored from number to
heard_by queued stored from (Some (Receipt number)) = receipt_heard queued from number

abbrev pub heard_of : Lists → Callsign → Option Wire → Heard
heard_of s from wire = heard_by s.queued s.stored from wire

-- what is queued and what is stored then
abbrev pub queued_after : List Letter → Heard → List Letter
queued_after queued (Settled number) = without number queued
queued_after queued _ = queued

abbrev pub stored_after : List Mail → Callsign → List ℕ → Heard → List Mail
stored_after stored from text (Stored number to) = stored ++ mail_of from number to text ∷ []
stored_after stored from text _ = stored

abbrev pub kept_after : Lists → Callsign → List ℕ → Heard → Lists
kept_after s from text heard =
    record s { queued = queued_after s.queued heard; stored = stored_after s.stored from text heard }

-- what is answered
abbrev pub answer_to : Heard → Option Wire
answer_to (Stored number to) = Some (Receipt number)
answer_to (Again number) = Some (Receipt number)
answer_to _ = None

abbrev pub text_of : Option Wire → List ℕ
text_of (Some (Carries number to text)) = text
text_of _ = []

-- what is heard of octets that another node has written, and what is kept after them
abbrev pub hear_at : Lists → Callsign → List ℕ → Heard
hear_at s from octets = heard_of s from (wire_at octets)

abbrev pub hear_step : Lists → Callsign → List ℕ → Lists
hear_step s from octets = kept_after s from (text_of (wire_at octets)) (hear_at s from octets)

-- A mail that would be stored has a number, and its text behind 16 octets; one that is settled has a number.
abbrev pub IsHeardIn : List ℕ → Heard → Type 0
IsHeardIn octets (Stored number to) = IsNumber number × IsText (drop 16 octets)
IsHeardIn octets (Settled number) = IsNumber number
IsHeardIn octets _ = Unit {0}

-- What a store keeps stands for the lists: of the mails that were posted it keeps those that are queued, and the number
-- of the last.

pub record StoreView : Type 0 where
  pub own : Callsign
  pub last : ℕ
  pub queued : List Letter
  pub stored : List Mail

pub record StandsFor (v : StoreView) (s : Lists) : Type 0 where
  pub own : v.own ≡ s.own
  pub last : v.last ≡ length s.posted
  pub queued : v.queued ≡ s.queued
  pub stored : v.stored ≡ s.stored

-- a post is answered as the lists say; memory runs out only where it would have been posted
abbrev pub IsPostAnswer : Result ℕ PostRefusal → Result ℕ PostRefusal → Type 0
IsPostAnswer (Err refusal.NoMemory) says = IsOk says
IsPostAnswer answer says = answer ≡ says

-- what is told of a queued mail
abbrev pub number_and_dest : Letter → ℕ × Callsign
number_and_dest l = (l.number, l.dest)

-- the message that offers a mail; without one, what was there
abbrev pub octets_or : List ℕ → Option Letter → List ℕ
octets_or octets None = octets
octets_or octets (Some l) = wire_octets (offer l)

-- and these octets spell it
abbrev pub SpellsOffer : Option Letter → List ℕ → Type 0
SpellsOffer None octets = Unit {0}
SpellsOffer (Some l) octets = Spells (offer l) octets

-- an answer, or nothing
abbrev pub octets_in : Option Wire → List ℕ
octets_in None = []
octets_in (Some wire) = wire_octets wire

-- Cited by no public clause: what is kept after something was heard.
abbrev pub view_after : StoreView → Callsign → List ℕ → Heard → StoreView
view_after v from text heard =
    record v { queued = queued_after v.queued heard; stored = stored_after v.stored from text heard }
