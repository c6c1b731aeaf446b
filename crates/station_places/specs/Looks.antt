-- What is seen at a place. Own profile.
use Rattle.std.specs.Prelude.{ℕ, Bool, false, not, nat_le, nat_lt}
use Rattle.ax_address.specs.Callsign.{Callsign}
use Rattle.station_places.specs.Consoles.{octets_for}
use Rattle.station_places.specs.Ends as ends
use Rattle.station_places.specs.Links as links
use Rattle.station_places.specs.Sides.{SidesState, node_at}
use Rattle.station_sessions.specs.declared.place.Place.{Place}
use Rattle.station_sessions.specs.declared.place.Place.TheVariants.{End, Link, Console}

-- for how many payloads the link of a member with a peer has room
abbrev pub link_room : ℕ → Callsign → SidesState → ℕ
link_room member peer s = links.room peer (node_at member s)

-- the peer of a link has set it up
abbrev pub is_called : ℕ → Callsign → SidesState → Bool
is_called member peer s = links.is_called peer (node_at member s)

-- the link is being closed from here
abbrev pub is_closing : ℕ → Callsign → SidesState → Bool
is_closing member peer s = links.is_closing peer (node_at member s)

-- there is room for a text: at a link for 34 payloads, and at a console where fewer than 65,536 octets wait for it
abbrev pub has_room : Place → SidesState → Bool
has_room (End member id) s = ends.has_room id (node_at member s)
has_room (Link member peer) s = nat_le 34 (link_room member peer s)
has_room (Console console) s = nat_lt (octets_for console s.outs) 65536

-- there is room for a piece of a text of which some waits: only at a link does any wait
abbrev pub goes_on : Place → SidesState → Bool
goes_on (End member id) s = false
goes_on (Link member peer) s = nat_lt 0 (link_room member peer s)
goes_on (Console console) s = false

-- a text from there waits: what was typed at a console waits with its session
abbrev pub has_text : Place → SidesState → Bool
has_text (End member id) s = ends.has_message id (node_at member s)
has_text (Link member peer) s = links.has_text peer (node_at member s)
has_text (Console console) s = false

-- it is the end of a circuit that has ended
abbrev pub has_ended : Place → SidesState → Bool
has_ended (End member id) s = ends.has_ended id (node_at member s)
has_ended (Link member peer) s = false
has_ended (Console console) s = false

-- it is an end that isn't held
abbrev pub is_gone : Place → SidesState → Bool
is_gone (End member id) s = not (ends.is_held id (node_at member s))
is_gone (Link member peer) s = false
is_gone (Console console) s = false
