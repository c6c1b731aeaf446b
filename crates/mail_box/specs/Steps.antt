-- What a post does is what is done with mail at a node: so mail is stored once between posts, too. Own profile.
use Rattle.std.specs.Prelude.{◌≡◌, ◌⊎◌, ℕ, List, [], ◌∷◌, ◌++◌, Some}
use Rattle.ax_address.specs.Callsign.{Callsign}
use Rattle.node_mail.specs.Lists.{Letter, Lists, hear_step, kill_step, mail_of, new_letter, post_step, without_text}
use Rattle.node_mail.specs.declared.mail.Mail.{Mail}
use Rattle.mail_records.specs.declared.record.Record.{Record}
use Rattle.mail_records.specs.declared.record.Record.TheVariants.{Posted, Stored}
use Rattle.mail_box.specs.Boxes.{BoxState, after, after_all, new_box}
use Rattle.mail_box.specs.Inputs.{Hears, Kills, Posts, record_of}

-- a message that is heard and written down leaves the mail as a message that is heard
abbrev pub HearsAsMail : Type 0
HearsAsMail =
    (b x : BoxState) (from : Callsign) (octets : List ℕ) (r : Record) → record_of b (Hears from octets) ≡ Some r →
    after b r ≡ Some x → x.lists ≡ hear_step b.lists from octets

-- and a mail that is posted and written down as a mail that is posted
abbrev pub PostsAsMail : Type 0
PostsAsMail =
    (b x : BoxState) (user dest : Callsign) (text : List ℕ) (r : Record) → record_of b (Posts user dest text) ≡ Some r →
    after b r ≡ Some x → x.lists ≡ post_step b.lists user dest text

-- the mails that the records say were posted, and those that were stored
abbrev pub posted_of : Record → List Letter
posted_of (Posted number user dest text) = new_letter number user dest text ∷ []
posted_of _ = []

abbrev pub stored_of : Record → List Mail
stored_of (Stored origin number user text) = mail_of origin number user text ∷ []
stored_of _ = []

abbrev pub posted_in : List Record → List Letter
posted_in [] = []
posted_in (r ∷ rs) = posted_of r ++ posted_in rs

abbrev pub stored_in : List Record → List Mail
stored_in [] = []
stored_in (r ∷ rs) = stored_of r ++ stored_in rs

-- each of these is that of the others which stands at its place, or it was killed
abbrev pub AreLeftOf : List Mail → List Mail → Type 0
AreLeftOf [] [] = Unit {0}
AreLeftOf [] (s ∷ ss) = ⊥
AreLeftOf (m ∷ ms) [] = ⊥
AreLeftOf (m ∷ ms) (s ∷ ss) = ((m ≡ s) ⊎ (m ≡ without_text s)) × AreLeftOf ms ss

-- they are the mails of the post that is opened over the records
abbrev pub HasItsMails : Type 0
HasItsMails =
    (own : Callsign) (b : BoxState) (kept : List Record) → after_all (new_box own) kept ≡ Some b →
    (b.lists.posted ≡ posted_in kept) × AreLeftOf b.lists.stored (stored_in kept)

-- a letter that is killed leaves the mail as it is, where it was posted here, or as a mail that is killed
abbrev pub IsKilledIn : Lists → Lists → Type 0
IsKilledIn old new = (new ≡ old) ⊎ ((origin : Callsign) × (number : ℕ) × (new ≡ kill_step old origin number))

abbrev pub KillsAsMail : Type 0
KillsAsMail =
    (b x : BoxState) (letter : ℕ) (r : Record) → record_of b (Kills letter) ≡ Some r →
    after b r ≡ Some x → IsKilledIn b.lists x.lists
