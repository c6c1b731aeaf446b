-- Why a post refuses what it is asked for. Own profile.
use Rattle.std.specs.Prelude.{◌≡◌, ℕ, true, false, List, None, Err}
use Rattle.ax_address.specs.Callsign.{Callsign}
use Rattle.node_mail.specs.Lists.{post_at}
use Rattle.mail_records.specs.declared.record.Record.{Record}
use Rattle.mail_records.specs.Logs.{HasCause}
use Rattle.mail_box.specs.declared.box_refusal.BoxRefusal.{BoxRefusal}
use Rattle.mail_box.specs.declared.box_refusal.BoxRefusal.TheVariants.{Post, NoRoom, NoLetter, NotKept, Behind}
use Rattle.mail_box.specs.declared.post_mail.MailBox.{MailBox}
use Rattle.mail_box.specs.Boxes.{BoxState, has_room, place_of}

-- a mail
abbrev pub IsPostRefused : BoxState → Callsign → List ℕ → BoxRefusal → Type 0
IsPostRefused b dest text (Post why) = post_at b.lists dest text ≡ Err why
IsPostRefused b dest text NoRoom = ⊥
IsPostRefused b dest text NoLetter = ⊥
IsPostRefused b dest text _ = Unit {0}

-- a letter for a user here
abbrev pub IsLetterRefused : BoxState → BoxRefusal → Type 0
IsLetterRefused b (Post why) = ⊥
IsLetterRefused b NoRoom = has_room b ≡ false
IsLetterRefused b NoLetter = ⊥
IsLetterRefused b _ = Unit {0}

-- what is asked for of a letter by its number
abbrev pub IsNumberRefused : BoxState → ℕ → BoxRefusal → Type 0
IsNumberRefused b number (Post why) = ⊥
IsNumberRefused b number NoRoom = ⊥
IsNumberRefused b number NoLetter = place_of number b.letters ≡ None
IsNumberRefused b number _ = Unit {0}

-- nothing but that it isn't kept
abbrev pub IsUnkept : BoxRefusal → Type 0
IsUnkept (NotKept why) = Unit {0}
IsUnkept Behind = Unit {0}
IsUnkept _ = ⊥

-- Why nothing is kept: the log has failed in that call, as it tells, or a record was written before that wasn't applied.
abbrev pub HasBoxCause : {L : Type 0} → (L → List Record → Type 0) → (L → ℕ) → MailBox L → MailBox L →
    BoxRefusal → Type 0
HasBoxCause holds faults old new (NotKept why) =
    (kept : List Record) → holds old.log kept → HasCause (faults old.log) (faults new.log) kept why
HasBoxCause holds faults old new Behind = old.is_behind ≡ true
HasBoxCause holds faults old new _ = Unit {0}
