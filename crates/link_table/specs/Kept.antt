-- What a node's links keep: octets, and payloads that came and weren't taken (this project's profile).
use Rattle.std.specs.Prelude.{ℕ, ◌+◌, ◌*◌, ◌≤◌, List, [], ◌∷◌, length, ◌≡◌, ◌<◌, suc, true, is_some, Option, Some, None}
use Rattle.ax_address.specs.Callsign.{Callsign}
use Rattle.ax_link.specs.Standing as link
use Rattle.ax_link.specs.Standing.{LinkView}
use Rattle.ax_link.specs.State.{State}
use Rattle.ax_segment.specs.Joining as segment
use Rattle.l3_datagram.specs.Datagrams.{Parcel, Datagram}
use Rattle.radio_base.specs.declared.payload.Payload.{Payload}
use Rattle.link_table.specs.declared.entry.LinkEntry.{LinkEntry}
use Rattle.link_table.specs.Standing.{TableStands, TableView, held_of}
use Rattle.link_table.specs.Table.{Table, Linked}
use Rattle.link_table.specs.Calls.{offer}
use Rattle.link_table.specs.Texts.{take_text, text_with}

-- Octets, and the most that there may be (this project's profile). Frames that wait to be fetched are left out.

-- of one link: what the link keeps, and what is joined
abbrev pub entry_kept : LinkEntry → ℕ
entry_kept e = link.kept (held_of e.link) + segment.kept e.joiner

abbrev pub links_kept : List (Callsign × LinkEntry) → ℕ
links_kept [] = 0
links_kept (e ∷ es) = entry_kept e.1 + links_kept es

-- the datagrams that came and weren't collected
abbrev pub waiting_octets : List Parcel → ℕ
waiting_octets [] = 0
waiting_octets (p ∷ ps) = length p.1.items + waiting_octets ps

-- of all links, with the datagrams that wait: a table has no other buffers of octets but its frames
abbrev pub kept : TableView → ℕ
kept k = links_kept k.links + waiting_octets k.waiting

-- The most of it: 98,175 octets for each link, which are 65,536 that the link keeps and 32,639 that are joined, and the datagrams
abbrev pub share : TableView → ℕ
share k = 98175 * length k.links + waiting_octets k.waiting

-- a table that stands for one of the machine keeps no more than its share
abbrev pub KeepsItsShare : Type 0
KeepsItsShare = (k : TableView) (t : Table) → TableStands k t → kept k ≤ share k

-- so a call leaves it that is done
abbrev pub KeepsOn : TableView → TableView → Type 0
KeepsOn old new = (t : Table) → TableStands old t → kept new ≤ share new

-- How many payloads came over a node's links and weren't taken, and what calls leave of them. Own profile.

-- how many of these places are filled
abbrev pub filled : List (Option Payload) → ℕ
filled [] = 0
filled (None ∷ early) = filled early
filled (Some p ∷ early) = suc (filled early)

-- of one link: those in its inbox, and those that came early
abbrev pub link_payloads : State → ℕ
link_payloads s = length s.inbox + filled s.early

abbrev pub all_payloads : List Linked → ℕ
all_payloads [] = 0
all_payloads (l ∷ ls) = link_payloads l.link + all_payloads ls

abbrev pub payloads : Table → ℕ
payloads t = all_payloads t.links

-- the same of what the code keeps
abbrev pub held_payloads : LinkView → ℕ
held_payloads h = length h.inbox + filled h.early

abbrev pub entry_payloads : List (Callsign × LinkEntry) → ℕ
entry_payloads [] = 0
entry_payloads (e ∷ es) = held_payloads (held_of e.1.link) + entry_payloads es

abbrev pub kept_payloads : TableView → ℕ
kept_payloads k = entry_payloads k.links

-- nothing that waits for the node is changed but frames, and no payload that came
pub record Leaves (old new : Table) : Type 0 where
  pub waiting : new.pending.waiting ≡ old.pending.waiting
  pub lost : new.pending.lost ≡ old.pending.lost
  pub notices : new.pending.notices ≡ old.pending.notices
  pub payloads : payloads new ≡ payloads old

abbrev pub OffersLeave : Type 0
OffersLeave = (to : Callsign) (d : Datagram) (now : ℕ) (t : Table) → Leaves t (offer to d now t).table

abbrev pub TakesLower : Type 0
TakesLower = (peer : Callsign) (now : ℕ) (t : Table) → is_some (text_with peer t) ≡ true → payloads (take_text peer now t) < payloads t

abbrev pub CountsPayloads : Type 0
CountsPayloads = (k : TableView) (t : Table) → TableStands k t → kept_payloads k ≡ payloads t
