-- What is seen of the link of a member with a peer, by the state of its node, if one stands. Own profile.
use Rattle.std.specs.Prelude.{ℕ, Bool, false, Option, Some, None}
use Rattle.std.specs.List.{list_any}
use Rattle.ax_address.specs.Callsign.{Callsign, same_call}
use Rattle.link_table.specs.Calls as calls
use Rattle.link_table.specs.Table.{Linked, link_with}
use Rattle.link_table.specs.Texts as texts
use Rattle.node_model.specs.States.{NodeState}

-- for how many payloads it has room
abbrev pub room : Callsign → Option NodeState → ℕ
room peer None = 0
room peer (Some n) = texts.room peer n.station.links

-- it is one of the links at which a text waits
abbrev pub has_text : Callsign → Option NodeState → Bool
has_text peer None = false
has_text peer (Some n) = list_any (same_call peer) (texts.text_peers n.station.links.links)

-- the peer has set it up
abbrev pub is_called : Callsign → Option NodeState → Bool
is_called peer None = false
is_called peer (Some n) = calls.is_called peer n.station.links

abbrev pub closing_by : Option Linked → Bool
closing_by None = false
closing_by (Some l) = l.link.closing

-- it is being closed from here
abbrev pub is_closing : Callsign → Option NodeState → Bool
is_closing peer None = false
is_closing peer (Some n) = closing_by (link_with peer n.station.links.links)
