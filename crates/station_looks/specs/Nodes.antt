-- What is seen of the nodes of a station's members: their routes, links and ends. Own profile, of what NET/ROM Appendix B and AX.25 2.2 keep.
use Rattle.std.specs.Prelude.{ℕ, ◌-◌, List, [], length, map, flat_map, slice_get, take, Option, Some, None, Bool, is_some}
use Rattle.std.specs.List.{range_with_len}
use Rattle.arrayvec.specs.ArrayVec.{ArrayVec}
use Rattle.ax_address.specs.Callsign.{Callsign}
use Rattle.ax_address.specs.declared.address.Address.{Address}
use Rattle.ax_link.specs.declared.facts.LinkFacts.{LinkFacts}
use Rattle.ax_link.specs.declared.phase.LinkPhase.{LinkPhase}
use Rattle.circuit_table.specs.CircuitSets.{held_ids}
use Rattle.link_table.specs.Calls as links
use Rattle.link_table.specs.Table.{Linked, link_with}
use Rattle.node_model.specs.States.{NodeState}
use Rattle.route_table.specs.declared.route.Route.{Route}
use Rattle.route_table.specs.Table.{destinations, routes_to}
use Rattle.station_members.specs.Looks.{place_of}
use Rattle.station_members.specs.States.{State}

-- the places of the members, in their order
abbrev pub places : State → List ℕ
places s = range_with_len 0 (length s.nodes)

abbrev pub is_member : Callsign → State → Bool
is_member call s = is_some (place_of call s)

-- Routes (NET/ROM Appendix B).

abbrev pub node_routes : Callsign → NodeState → List Route
node_routes dest n = routes_to n.station.settings.rules n.station.log dest

abbrev pub node_destinations : NodeState → List Callsign
node_destinations n = destinations n.station.settings.rules n.station.log

abbrev pub all_node_routes : NodeState → List Route
all_node_routes n = flat_map (routes_to n.station.settings.rules n.station.log) (node_destinations n)

-- what a node shows, where one stands there
abbrev pub seen_of : {A : Type 0} → (NodeState → List A) → Option NodeState → List A
seen_of look None = []
seen_of look (Some n) = look n

abbrev pub seen_at : {A : Type 0} → (NodeState → List A) → ℕ → State → List A
seen_at look at s = seen_of look (slice_get s.nodes at)

-- the routes of the member at a place to a node: the best three, the best first
unfoldable pub routes_at : ℕ → Callsign → State → List Route
routes_at at dest s = seen_at (node_routes dest) at s

-- the best one
abbrev pub best_at : ℕ → Callsign → State → Option Route
best_at at dest s = slice_get (routes_at at dest s) 0

-- the destinations of the member at a place, in the order of their calls
unfoldable pub destinations_at : ℕ → State → List Callsign
destinations_at at s = seen_at node_destinations at s

-- its routes to each of them
unfoldable pub all_routes_at : ℕ → State → List Route
all_routes_at at s = seen_at all_node_routes at s

-- Links (AX.25 2.2, section 4).

abbrev pub node_peers : NodeState → List Callsign
node_peers n = map (λ (l : Linked). l.peer) n.station.links.links

-- the peers of the links of the member at a place, in the order of their making
unfoldable pub peers_at : ℕ → State → List Callsign
peers_at at s = seen_at node_peers at s

abbrev pub node_link : Callsign → Option NodeState → Option Linked
node_link peer None = None
node_link peer (Some n) = link_with peer n.station.links.links

-- the link of the member at a place with a peer
unfoldable pub link_at : ℕ → Callsign → State → Option Linked
link_at at peer s = node_link peer (slice_get s.nodes at)

-- how many payloads the peer hasn't acknowledged
abbrev pub held : Linked → ℕ
held l = length l.link.given - l.link.acked

-- its phase, and how many those are; and the same of what it tells of itself
abbrev pub seen_link : Linked → LinkPhase × ℕ
seen_link l = (l.link.phase, held l)

abbrev pub told_of : LinkFacts → LinkPhase × ℕ
told_of facts = (facts.phase, facts.held)

abbrev pub node_path : Callsign → Option NodeState → Option (ArrayVec Address)
node_path peer None = None
node_path peer (Some n) = links.link_path peer n.station.links

-- the repeaters over which that link goes
unfoldable pub path_at : ℕ → Callsign → State → Option (ArrayVec Address)
path_at at peer s = node_path peer (slice_get s.nodes at)

-- Ends of circuits (NET/ROM Appendix B).

-- of which a node holds at most 64
abbrev pub node_ends : NodeState → List ℕ
node_ends n = take 64 (held_ids n.station.set.set.ends)

-- the numbers of the ends of the member at a place
unfoldable pub ends_at : ℕ → State → List ℕ
ends_at at s = seen_at node_ends at s
