-- Mail is stored once: what holds of it where nothing is killed, and where stored mails may be killed. Own profile.
use Rattle.std.specs.Prelude.{ℕ, ◌≡◌, ◌⊎◌, List, [], ◌∷◌, map, filter, true, false, ◌==◌, Some}
use Rattle.std.specs.List.{list_any, AllByRecursion}
use Rattle.ax_address.specs.Callsign.{Callsign, same_call}
use Rattle.node_mail.specs.Lists.{Lists, Letter, Mail, letter_of, is_stored, has_text, stored_mail, is_readable, is_killed}

abbrev pub AllDiffer : List ℕ → Type 0
AllDiffer [] = Unit {0}
AllDiffer (n ∷ ns) = (list_any (λ k. k == n) ns ≡ false) × AllDiffer ns

-- the numbers of the mails that are stored from a node
abbrev pub numbers_from : Callsign → List Mail → List ℕ
numbers_from origin ms = map (λ (m : Mail). m.number) (filter (λ (m : Mail). same_call m.origin origin) ms)

-- a stored mail as it was posted for the node where it is stored, with that text
abbrev pub posted_with : List ℕ → Mail → Callsign → Letter
posted_with text m dest = record { number = m.number; to = m.to; dest = dest; text = text }

abbrev pub posted_as : Mail → Callsign → Letter
posted_as m dest = posted_with m.text.items m dest

-- where the stored mail is from `origin`, it was posted there so, for `dest`
abbrev pub WasPosted : Callsign → Callsign → Lists → Mail → Type 0
WasPosted origin dest from m = m.origin ≡ origin → letter_of m.number from.posted ≡ Some (posted_as m dest)

-- it is queued, or stored
abbrev pub IsKept : Callsign → Lists → Lists → Letter → Type 0
IsKept origin from at l = (letter_of l.number from.queued ≡ Some l) ⊎ (is_stored at.stored origin l.number ≡ true)

-- between the node `origin`, which keeps `from`, and the node `dest`, which keeps `at` and has killed nothing
pub record MailOnce (origin dest : Callsign) (from at : Lists) : Type 0 where
  -- the mails that `dest` has stored from `origin` have different numbers,
  pub different : AllDiffer (numbers_from origin at.stored)
  -- and each has the user and the text of the mail that `origin` has posted under that number for `dest`
  pub as_posted : AllByRecursion (WasPosted origin dest from) at.stored
  -- each mail that `origin` has posted for `dest` is queued there or stored here
  pub kept : AllByRecursion (λ (l : Letter). l.dest ≡ dest → IsKept origin from at l) from.posted

-- where the stored mail is from `origin`, it was posted there so, for `dest`, with the text that it has, unless it was killed
abbrev pub WasPostedOrKilled : Callsign → Callsign → Lists → Mail → Type 0
WasPostedOrKilled origin dest from m =
    m.origin ≡ origin →
    (text : List ℕ) × (letter_of m.number from.posted ≡ Some (posted_with text m dest)) ×
    ((m.text.items ≡ text) ⊎ (m.text.items ≡ []))

-- it is queued, or stored with its text, or was stored and killed
abbrev pub IsKeptOrKilled : Callsign → Lists → Lists → Letter → Type 0
IsKeptOrKilled origin from at l =
    (letter_of l.number from.queued ≡ Some l) ⊎
    ((is_readable (stored_mail at.stored origin l.number) ≡ true) ⊎ (is_killed (stored_mail at.stored origin l.number) ≡ true))

-- between the node `origin`, which keeps `from`, and the node `dest`, which keeps `at`
pub record MailOnceOrKilled (origin dest : Callsign) (from at : Lists) : Type 0 where
  -- the mails that `dest` has stored from `origin` have different numbers,
  pub different : AllDiffer (numbers_from origin at.stored)
  -- each has the user of the mail that `origin` has posted under that number for `dest`, and its text or none
  pub as_posted : AllByRecursion (WasPostedOrKilled origin dest from) at.stored
  -- each mail that `origin` has posted for `dest` is queued there, or stored here, or was stored here and killed
  pub kept : AllByRecursion (λ (l : Letter). l.dest ≡ dest → IsKeptOrKilled origin from at l) from.posted

-- no mail that is stored was killed
abbrev pub NothingIsKilled : Lists → Type 0
NothingIsKilled at = AllByRecursion (λ (m : Mail). has_text m ≡ true) at.stored
