-- The links and the circuits of a node, as the machines of `link_table` and of `circuit_set` have them. Each step stands shut here: no
-- goal about a node sees through it.
use Rattle.std.specs.Prelude.{ℕ, Bool, is_some, List, [], map, unwrap_or, Result, Option}
use Rattle.arrayvec.specs.ArrayVec.{ArrayVec}
use Rattle.ax_address.specs.declared.address.Address.{Address}
use Rattle.ax_address.specs.Callsign.{Callsign}
use Rattle.ax_frame.specs.Frames.{Frame}
use Rattle.l3_datagram.specs.Datagrams.{Datagram, Parcel}
use Rattle.l3_datagram.specs.declared.carrier.Offered.{Offered}
use Rattle.link_table.specs.Calls as calls
use Rattle.link_table.specs.Table as fetching
use Rattle.link_table.specs.Kept as kept
use Rattle.link_table.specs.Texts as texts
use Rattle.link_table.specs.Table.{Table}
use Rattle.link_table.specs.declared.open_refusal.OpenRefusal.{OpenRefusal}
use Rattle.link_table.specs.declared.text_refusal.TextRefusal.{TextRefusal}
use Rattle.link_table.specs.declared.written.Written.{Written}
use Rattle.circuit_table.specs.Pumps as pumps
use Rattle.circuit_table.specs.Pumps.{Turn, Turned, Waiting}
use Rattle.circuit_table.specs.Sets.{Act}

-- The links of a node, as the machine of `link_table` has them.

unfoldable pub arrive : Frame → ℕ → Table → Table
arrive f now t = calls.arrive f now t

unfoldable pub tick_links : ℕ → Table → Table
tick_links now t = calls.tick now t

unfoldable pub break_link : Callsign → Table → Table
break_link peer t = calls.break_link peer t

unfoldable pub offer : Callsign → Datagram → ℕ → Table → Table
offer to d now t = (calls.offer to d now t).table

unfoldable pub offer_answer : Callsign → Datagram → ℕ → Table → Offered
offer_answer to d now t = (calls.offer to d now t).answer

unfoldable pub take_text : Callsign → ℕ → Table → Table
take_text peer now t = texts.take_text peer now t

-- the peers at whose link a text waits, in the order of the links
unfoldable pub text_peers : Table → List Callsign
text_peers t = texts.text_peers t.links

-- the text that waits at the link with a peer; none is where none waits
unfoldable pub text_with : Callsign → Table → List ℕ
text_with peer t = unwrap_or (texts.text_with peer t) []

unfoldable pub room : Callsign → Table → ℕ
room peer t = texts.room peer t

unfoldable pub text_answer : Callsign → List ℕ → Table → Result (Unit {0}) TextRefusal
text_answer peer text t = texts.text_answer peer text t

unfoldable pub send_text : Callsign → List ℕ → ℕ → Table → Table
send_text peer text now t = texts.send_text peer text now t

unfoldable pub open_link : Callsign → ArrayVec Address → ℕ → Table → Table
open_link peer path now t = calls.open_link peer path now t

unfoldable pub open_answer : Callsign → ArrayVec Address → Table → Result (Unit {0}) OpenRefusal
open_answer peer path t = calls.open_answer peer path t

unfoldable pub close : Callsign → ℕ → Table → Table
close peer now t = calls.close peer now t

unfoldable pub has_text : Callsign → Table → Bool
has_text peer t = is_some (texts.text_with peer t)

unfoldable pub is_128 : Callsign → Table → Bool
is_128 peer t = calls.is_128 peer t

-- how many payloads came over the links and weren't taken
unfoldable pub payloads : Table → ℕ
payloads t = kept.payloads t

-- the frames that wait to be sent
abbrev pub sent_frames : Table → List Written
sent_frames t = map fetching.written t.pending.frames

-- all frames were fetched, and all notices
abbrev pub all_fetched : Table → Table
all_fetched t = record t { pending = record t.pending { frames = [] } }

abbrev pub all_noticed : Table → Table
all_noticed t = record t { pending = record t.pending { notices = [] } }

-- The circuits of a node, as the machine of `circuit_set` has them.

-- how much is untold
unfoldable pub pending : Waiting → ℕ
pending w = pumps.untold_weight w

-- the first that is untold is told
unfoldable pub tells : (Callsign → Option Callsign) → Waiting → Turn
tells next_hop w = pumps.tells next_hop w

-- a datagram that waits at the router is taken
unfoldable pub hears : (Callsign → Option Callsign) → ℕ → Parcel → Waiting → Turn
hears next_hop now parcel w = pumps.hears next_hop now parcel w

-- a neighbour was lost
unfoldable pub hears_lost : Callsign → Waiting → Turned
hears_lost neighbour w = pumps.hears_lost neighbour w

unfoldable pub ticks : ℕ → Waiting → Waiting
ticks now w = pumps.ticks now w

-- one input of a user
unfoldable pub acts : Act → Waiting → Waiting
acts act w = pumps.acts act w
