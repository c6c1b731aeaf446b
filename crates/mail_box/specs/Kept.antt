-- When a post stands for the records that its log has, and what a call leaves of that. Own profile.
use Rattle.std.specs.Prelude.{◌≡◌, ◌⊎◌, ℕ, ◌+◌, ◌<◌, true, false, List, [], ◌∷◌, ◌++◌, take, All, Option, Some, None, IsSome, is_some}
use Rattle.ax_address.specs.Callsign.{Callsign}
use Rattle.mail_records.specs.declared.record.Record.{Record}
use Rattle.mail_records.specs.declared.log_failed.LogFailed.{LogFailed}
use Rattle.mail_records.specs.declared.log_failed.LogFailed.TheVariants.{Memory, Disk, Full, Spoilt}
use Rattle.mail_box.specs.declared.post_mail.MailBox.{MailBox}
use Rattle.mail_box.specs.declared.letter.Letter.{Letter}
use Rattle.mail_box.specs.Boxes.{BoxState, MailsView, MailsStand, new_box, as_letter, after, after_all}
use Rattle.mail_box.specs.Inputs.{Input, record_of, with_record}

-- the log has these records, and what the post has is what they say
pub record IsKept {L : Type 0} (holds : L → List Record → Type 0) (post : MailBox L) (kept : List Record) : Type 0 where
  pub log : holds post.log kept
  pub is_up : post.is_behind ≡ false
  pub state : BoxState
  pub after : after_all (new_box post.mails.store.own) kept ≡ Some state
  pub stands : MailsStand post.mails state

-- an input was done: its record is kept behind the others, where there is one
abbrev pub Keeps : {L : Type 0} → (L → List Record → Type 0) → MailBox L → MailBox L → Input → Type 0
Keeps holds old new input =
    (kept : List Record) (k : IsKept holds old kept) → IsKept holds new (with_record kept (record_of k.state input))

-- An input wasn't done: nothing has changed, unless the post has to be opened again.
abbrev pub Stays : {L : Type 0} → (L → List Record → Type 0) → (L → Type 0) → MailBox L → MailBox L → Type 0
Stays holds is_open old new =
    is_open new.log → new.is_behind ≡ false → (kept : List Record) → IsKept holds old kept → IsKept holds new kept

-- there is a record, and it is found behind those
abbrev pub IsFoundToo : List Record → Option Record → List Record → Type 0
IsFoundToo kept None found = ⊥
IsFoundToo kept (Some r) found = found ≡ kept ++ r ∷ []

-- Where the program ends within an input, an opening finds what it could have found before, or the record of this one too.
abbrev pub FindsAtMost : {L : Type 0} → (L → List Record → Type 0) → (L → List Record → Type 0) → MailBox L → MailBox L →
    Input → Type 0
FindsAtMost holds may_find old new input =
    (b : BoxState) (kept found : List Record) → MailsStand old.mails b → holds old.log kept → may_find new.log found →
    may_find old.log found ⊎ IsFoundToo kept (record_of b input) found

-- it is the record of this input
abbrev pub IsRecordOf : MailsView → Input → Record → Type 0
IsRecordOf mails input r = (b : BoxState) → MailsStand mails b → record_of b input ≡ Some r

-- the record can follow
abbrev pub MayFollow : MailsView → Record → Type 0
MayFollow mails r = (b : BoxState) → MailsStand mails b → IsSome (after b r)

-- it stands for what is there after all records, which all can follow
abbrev pub AfterAll : MailsView → Option BoxState → Type 0
AfterAll mails (Some b) = MailsStand mails b
AfterAll mails None = ⊥

-- The letter stands behind the others, under the next number: no letter had it.
pub record IsNewLetter (old new : MailsView) (number : ℕ) (user : Callsign) (text : List ℕ) : Type 0 where
  pub next : number ≡ old.given + 1
  pub above : All (λ (l : Letter). l.number < number) old.letters
  pub last : new.letters ≡ old.letters ++ as_letter number None user text ∷ []

-- the record behind the first n ones is the first that can't follow
pub record StopsBehind (b : BoxState) (records : List Record) (n : ℕ) : Type 0 where
  pub follow : is_some (after_all b (take n records)) ≡ true
  pub stop : after_all b (take (n + 1) records) ≡ None

-- why records aren't a post's: that there is no memory needs no cause; else the one at this place, from 1, is the first that
-- can't follow
abbrev pub IsStopped : BoxState → List Record → LogFailed → Type 0
IsStopped b records Memory = Unit {0}
IsStopped b records Disk = ⊥
IsStopped b records Full = ⊥
IsStopped b records (Spoilt place) = (n : ℕ) × (place ≡ n + 1) × StopsBehind b records n
