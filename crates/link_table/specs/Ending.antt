-- A link leaves a node's table only where it is told that it has ended (this project's profile).
use Rattle.std.specs.Prelude.{ℕ, ◌≡◌, ◌≤◌, Bool, true, false, ◌||◌, ◌&&◌, is_some, List, [], ◌∷◌, length, None}
use Rattle.std.specs.List.{AllByRecursion}
use Rattle.arrayvec.specs.ArrayVec.{ArrayVec}
use Rattle.ax_address.specs.Callsign.{Callsign, same_call}
use Rattle.ax_address.specs.declared.address.Address.{Address}
use Rattle.ax_frame.specs.Frames.{Frame as AirFrame}
use Rattle.ax_link.specs.declared.notice.LinkNotice.{LinkNotice}
use Rattle.ax_link.specs.declared.notice.LinkNotice.TheVariants.{Opened, Reset, Closed, Failed, Refused}
use Rattle.l3_datagram.specs.Datagrams.{Datagram}
use Rattle.link_table.specs.Calls.{arrive, break_link, close, offer, open_link, tick}
use Rattle.link_table.specs.Texts.{send_text, take_text, text_peers}
use Rattle.link_table.specs.Table.{Linked, Table, link_with}
use Rattle.link_table.specs.Works.{is_down}

-- the notices by which a link has ended
abbrev pub is_end : LinkNotice → Bool
is_end Opened = false
is_end Reset = false
is_end Closed = true
is_end Failed = true
is_end Refused = true

-- it is told, and wasn't fetched, that the link with a peer has ended
abbrev pub tells_end : Callsign → List (Callsign × LinkNotice) → Bool
tells_end peer [] = false
tells_end peer (told ∷ more) = (same_call peer told.0 && is_end told.1) || tells_end peer more

-- a link stands with a peer
abbrev pub has_link : Callsign → Table → Bool
has_link peer t = is_some (link_with peer t.links)

-- one stands, or it is told that it has ended
abbrev pub stands_or_told : Callsign → Table → Bool
stands_or_told peer t = has_link peer t || tells_end peer t.pending.notices

abbrev pub IsOn : Linked → Type 0
IsOn l = is_down l.link.phase ≡ false

-- each peer has one link
abbrev pub OneEach : List Linked → Type 0
OneEach [] = Unit {0}
OneEach (l ∷ ls) = (link_with l.peer ls ≡ None) × OneEach ls

-- no link is Down, each peer has one, and there are at most 64
pub record IsInOrder (t : Table) : Type 0 where
  pub on : AllByRecursion IsOn t.links
  pub once : OneEach t.links
  pub few : length t.links ≤ 64

-- a call leaves such a table, and where a link stood one stands, or it is told that it has ended
pub record Leaves (old new : Table) : Type 0 where
  pub order : IsInOrder new
  pub told : (peer : Callsign) → stands_or_told peer old ≡ true → stands_or_told peer new ≡ true

abbrev pub LeavesTold : Table → Table → Type 0
LeavesTold old new = IsInOrder old → Leaves old new

-- so does every call
pub record EndsAreTold : Type 0 where
  pub arrives : (t : Table) (f : AirFrame) (now : ℕ) → LeavesTold t (arrive f now t)
  pub ticks : (t : Table) (now : ℕ) → LeavesTold t (tick now t)
  pub opens : (t : Table) (peer : Callsign) (path : ArrayVec Address) (now : ℕ) → LeavesTold t (open_link peer path now t)
  pub closes : (t : Table) (peer : Callsign) (now : ℕ) → LeavesTold t (close peer now t)
  pub breaks : (t : Table) (peer : Callsign) → LeavesTold t (break_link peer t)
  pub takes : (t : Table) (peer : Callsign) (now : ℕ) → LeavesTold t (take_text peer now t)
  pub sends : (t : Table) (peer : Callsign) (text : List ℕ) (now : ℕ) → LeavesTold t (send_text peer text now t)
  pub offers : (t : Table) (to : Callsign) (d : Datagram) (now : ℕ) → LeavesTold t (offer to d now t).table

-- a peer of which a text waits has a link
abbrev pub TextsAreOfLinks : Type 0
TextsAreOfLinks = (t : Table) → AllByRecursion (λ peer. has_link peer t ≡ true) (text_peers t.links)
