-- What a post is asked, and the record that it writes down of it. Own profile.
use Rattle.std.specs.Prelude.{ℕ, ◌&&◌, not, if◌then◌else◌, is_some, List, [], ◌∷◌, ◌++◌, drop, Option, Some, None, Result, Ok, Err}
use Rattle.ax_address.specs.Callsign.{Callsign}
use Rattle.node_mail.specs.Lists.{post_at, hear_at}
use Rattle.node_mail.specs.declared.post_refusal.PostRefusal.{PostRefusal}
use Rattle.node_mail.specs.declared.heard.Heard.{Heard}
use Rattle.node_mail.specs.declared.heard.Heard.TheVariants as heard
use Rattle.mail_records.specs.declared.record.Record.{Record}
use Rattle.mail_records.specs.declared.record.Record.TheVariants.{Posted, Settled, Stored, Local, Read, Killed}
use Rattle.mail_box.specs.Boxes.{BoxState, has_room, has_number, place_of, with_room}

pub data Input : Type 0 where
  -- a mail for a user at another post
  Posts : (user dest : Callsign) → (text : List ℕ) → Input
  -- a letter for a user here
  PostsHere : (user : Callsign) → (text : List ℕ) → Input
  Reads : (letter : ℕ) → Input
  Kills : (letter : ℕ) → Input
  -- a message from another post
  Hears : (from : Callsign) → (octets : List ℕ) → Input

abbrev pub posted_record : Callsign → Callsign → List ℕ → Result ℕ PostRefusal → Option Record
posted_record user dest text (Ok number) = Some (Posted number user dest text)
posted_record user dest text (Err why) = None

-- of a message from that post, with this text behind its head: a mail that is stored, a mail that is settled
abbrev pub heard_record : Callsign → List ℕ → Heard → Option Record
heard_record from text (heard.Stored number user) = Some (Stored from number user text)
heard_record from text (heard.Settled number) = Some (Settled number)
heard_record from text _ = None

-- The record of an input, and None where nothing is to be written: it is refused, the letter was read, or nothing that is
-- heard is new.
abbrev pub record_of : BoxState → Input → Option Record
record_of b (Posts user dest text) = posted_record user dest text (post_at b.lists dest text)
record_of b (PostsHere user text) = if has_room b then Some (Local user text) else None
record_of b (Reads letter) =
    if is_some (place_of letter b.letters) && not (has_number letter b.read) then Some (Read letter) else None
record_of b (Kills letter) = if is_some (place_of letter b.letters) then Some (Killed letter) else None
record_of b (Hears from octets) = heard_record from (drop 16 octets) (with_room b (hear_at b.lists from octets))

-- the records with one more, where there is one
abbrev pub with_record : List Record → Option Record → List Record
with_record kept None = kept
with_record kept (Some r) = kept ++ r ∷ []
