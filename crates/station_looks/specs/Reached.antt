-- By which port a member reaches another station. Own profile.
use Rattle.std.specs.Prelude.{ℕ, List, [], ◌∷◌, Option, Some, None, if◌then◌else◌}
use Rattle.std.specs.Borrow.{Bor}
use Rattle.arrayvec.specs.ArrayVec.{ArrayVec}
use Rattle.ax_address.specs.Callsign.{Callsign}
use Rattle.ax_address.specs.declared.address.Address.{Address}
use Rattle.station_lists.specs.declared.place.Place.{Place}
use Rattle.station_lists.specs.declared.place.Place.TheVariants.{Unknown, Backplane, Port}
use Rattle.station_members.specs.Looks.{port_of}
use Rattle.station_members.specs.States.{State}
use Rattle.station_looks.specs.Abouts.{port_name}
use Rattle.station_looks.specs.Nodes.{is_member, path_at}
use Rattle.station_looks.specs.declared.about.About.{About}

-- what a row refers to: where that lies doesn't matter to its text
abbrev pub lent : {X : Type 0} → X → Bor X
lent x = record { ref_ptr = (0, 0); now = x }

abbrev pub named_place : Option (List ℕ) → Place
named_place None = Unknown
named_place (Some name) = Port (lent name)

abbrev pub port_place : Option ℕ → About → Place
port_place None about = Unknown
port_place (Some port) about = named_place (port_name port about)

-- by the port that the member at a place remembers for a call, where that is no member
abbrev pub place_over : Callsign → ℕ → Callsign → About → State → Place
place_over hop at call about s = if is_member call s then Backplane else port_place (port_of at hop s) about

-- a neighbour
abbrev pub neighbour_place : ℕ → Callsign → About → State → Place
neighbour_place at call about s = place_over call at call about s

abbrev pub hop_among : Callsign → List Address → Callsign
hop_among peer [] = peer
hop_among peer (repeater ∷ more) = repeater.call

abbrev pub hop_over : Callsign → Option (ArrayVec Address) → Callsign
hop_over peer None = peer
hop_over peer (Some path) = hop_among peer path.items

-- the first repeater of the link of the member at a place with a peer, else the peer
abbrev pub first_hop : ℕ → Callsign → State → Callsign
first_hop at peer s = hop_over peer (path_at at peer s)

-- the peer of a link
abbrev pub link_place : ℕ → Callsign → About → State → Place
link_place at peer about s = place_over (first_hop at peer s) at peer about s
