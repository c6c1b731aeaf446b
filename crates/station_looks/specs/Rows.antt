-- The rows of the lists that a station tells, by what there is to see: which, and in which order. Own profile.
use Rattle.std.specs.Prelude.{ℕ, ◌+◌, ◌-◌, ◌^◌, min, List, [], ◌∷◌, length, map, count_by, filter, flat_map, sum, take, Option, Some, None, Bool, true, false, not, ◌&&◌, ◌||◌, is_some, nat_eq, nat_le, codes, String, string_bytes, unwrap_or, if◌then◌else◌}
use Rattle.std.specs.List.{list_any, range_with_len, starts_with}
use Rattle.std.specs.BTreeSet.{insert_key}
use Rattle.std.specs.Str.{str_eq_ignore_ascii_case}
use Rattle.std.specs.Option.{option_map}
use Rattle.std.specs.Cmp.Lexicographic.{slice_cmp}
use Rattle.std.specs.Ordering.{nat_cmp, ordering_then}
use Rattle.std.specs.declared.alloc.Global.{Global}
use Rattle.std.specs.declared.cmp.Ordering.{Ordering}
use Rattle.std.specs.declared.vec.Vec.{Vec}
use Rattle.radio_base.specs.declared.moment.Moment.{Moment}
use Rattle.ax_address.specs.Alias as aliases
use Rattle.ax_address.specs.declared.alias.Alias.{Alias}
use Rattle.ax_address.specs.Callsign.{Callsign, call_cmp, same_call}
use Rattle.route_table.specs.declared.route.Route.{Route}
use Rattle.link_table.specs.Table.{Linked}
use Rattle.station_lists.specs.declared.destinations.Destination.{Destination}
use Rattle.station_lists.specs.declared.links.LinkRow.{LinkRow}
use Rattle.station_lists.specs.declared.neighbours.NeighbourRow.{NeighbourRow}
use Rattle.station_lists.specs.declared.ports.PortRow.{PortRow}
use Rattle.station_lists.specs.declared.routes.MemberRoute.{MemberRoute}
use Rattle.station_lists.specs.declared.stats.Stats.{Stats}
use Rattle.station_lists.specs.declared.users.Doing.{Doing}
use Rattle.station_lists.specs.declared.users.Doing.TheVariants as doing
use Rattle.station_lists.specs.declared.users.UserRow.{UserRow}
use Rattle.station_lists.specs.declared.users.Where.{Where}
use Rattle.station_lists.specs.declared.users.Where.TheVariants as from
use Rattle.station_members.specs.Looks.{alias_at, call_at, came_at, went_at}
use Rattle.station_members.specs.States.{State}
use Rattle.station_prompt.specs.Commands.{Destinations, Shown, Every, Beginning, Routes_to}
use Rattle.station_sessions.specs.declared.far.Stage.{Stage}
use Rattle.station_sessions.specs.declared.far.Stage.TheVariants as stages
use Rattle.station_sessions.specs.declared.place.Place as at_place
use Rattle.station_sessions.specs.declared.place.Place.TheVariants.{End, Link, Console}
use Rattle.station_sessions.specs.Sessions.{Session}
use Rattle.station_looks.specs.Abouts.{names}
use Rattle.station_looks.specs.Ended.{is_user}
use Rattle.station_looks.specs.Nodes.{all_routes_at, best_at, destinations_at, ends_at, held, is_member, link_at, peers_at, places, routes_at}
use Rattle.station_looks.specs.Ports.{is_on}
use Rattle.station_looks.specs.Reached.{lent, link_place, neighbour_place}
use Rattle.station_looks.specs.declared.about.About.{About}
use Rattle.station_looks.specs.declared.known.Known.{Known}

-- for each member with its alias, in their order
abbrev pub with_alias : {A : Type 0} → (Alias → List A) → Option Alias → List A
with_alias rows None = []
with_alias rows (Some alias) = rows alias

abbrev pub by_member : {A : Type 0} → (ℕ → Alias → List A) → State → ℕ → List A
by_member rows s at = with_alias (rows at) (alias_at at s)

abbrev pub of_members : {A : Type 0} → (ℕ → Alias → List A) → State → List A
of_members rows s = flat_map (by_member rows s) (places s)

-- Destinations: those of all members, each once, by the alias by which the first member that knows it knows it. Members are none.

abbrev pub known_by : Callsign → Option Route → List Known
known_by dest None = []
known_by dest (Some route) = record { alias = route.alias; call = dest } ∷ []

-- a member before this one knows it
abbrev pub is_known_before : ℕ → Callsign → State → Bool
is_known_before at dest s = list_any (λ k. is_some (best_at k dest s)) (range_with_len 0 at)

abbrev pub known_to : State → ℕ → Callsign → List Known
known_to s at dest = if is_member dest s || is_known_before at dest s then [] else known_by dest (best_at at dest s)

abbrev pub known_at : State → ℕ → List Known
known_at s at = flat_map (known_to s at) (destinations_at at s)

abbrev pub known : State → List Known
known s = flat_map (known_at s) (places s)

-- without regard to case
abbrev pub begins_with : List ℕ → List ℕ → Bool
begins_with text front = nat_le (length front) (length text) && str_eq_ignore_ascii_case (take (length front) text) front

-- the alias of a destination is asked for
abbrev pub is_asked : Destinations → Alias → Bool
is_asked Shown alias = not (starts_with nat_eq (aliases.shown alias) (codes "#"))
is_asked Every alias = true
is_asked (Beginning front) alias = begins_with (aliases.shown alias) front
is_asked (Routes_to word) alias = false

abbrev pub by_alias : Known → Known → Ordering
by_alias a b = ordering_then (slice_cmp nat_cmp a.alias b.alias) (call_cmp a.call b.call)

-- each at its place, by alias and then by call
abbrev pub all_placed : List Known → List Known → List Known
all_placed placed [] = placed
all_placed placed (k ∷ ks) = all_placed (insert_key by_alias placed k) ks

abbrev pub in_order : List Known → List Known
in_order ks = all_placed [] ks

abbrev pub destination : Known → Destination
destination k = record { alias = k.alias; call = k.call }

abbrev pub asked_for : Destinations → List Known → List Known
asked_for asked ks = filter (λ (k : Known). is_asked asked k.alias) ks

abbrev pub destinations : Destinations → State → List Destination
destinations asked s = map destination (in_order (asked_for asked (known s)))

-- The routes to a node: those of each member, the best three, the best first.

abbrev pub member_route : Alias → Route → MemberRoute
member_route alias r = record { member = alias; route = r }

abbrev pub route_rows_at : Callsign → State → ℕ → Alias → List MemberRoute
route_rows_at dest s at alias = map (member_route alias) (routes_at at dest s)

abbrev pub route_rows : Callsign → State → List MemberRoute
route_rows dest s = of_members (route_rows_at dest s) s

-- Neighbours: the destinations to which a direct route of a member leads, in the order of their calls.

abbrev pub neighbour_row : About → State → ℕ → Alias → Route → NeighbourRow
neighbour_row about s at alias r =
    record {
      has_link = is_some (link_at at r.dest s);
      member = alias;
      call = r.dest;
      quality = r.quality;
      place = neighbour_place at r.dest about s;
    }

abbrev pub neighbour_by : About → State → ℕ → Alias → Route → List NeighbourRow
neighbour_by about s at alias r = if same_call r.dest r.neighbour then neighbour_row about s at alias r ∷ [] else []

abbrev pub neighbour_rows_at : About → State → ℕ → Alias → List NeighbourRow
neighbour_rows_at about s at alias = flat_map (neighbour_by about s at alias) (all_routes_at at s)

abbrev pub neighbour_rows : About → State → List NeighbourRow
neighbour_rows about s = of_members (neighbour_rows_at about s) s

-- Users: those whose side stands, in the order in which they came.

-- a circuit is shown by the node from which he comes
abbrev pub from_of : About → State → Session → at_place.Place → Where
from_of about s session (End member id) = from.Circuit (unwrap_or session.partner session.user)
from_of about s session (Link member peer) = from.Link (link_place member peer about s)
from_of about s session (Console console) = from.Console

abbrev pub doing_of : Stage → Doing
doing_of stages.AtPrompt = doing.Prompt
doing_of (stages.Trying far) = doing.Trying far.name
doing_of (stages.With far) = doing.With far.name

abbrev pub user_row : About → State → Session → UserRow
user_row about s session =
    record { call = session.user; from = from_of about s session session.place; doing = doing_of session.stage }

abbrev pub user_by : About → State → Session → List UserRow
user_by about s session = if is_user s session then user_row about s session ∷ [] else []

abbrev pub user_rows : About → List Session → State → List UserRow
user_rows about sessions s = flat_map (user_by about s) sessions

-- Ports, in their order, and to each the members on it.

abbrev pub destination_by : Alias → Option Callsign → List Destination
destination_by alias None = []
destination_by alias (Some call) = record { alias = alias; call = call } ∷ []

abbrev pub on_port_at : ℕ → State → ℕ → Alias → List Destination
on_port_at port s at alias = if is_on port s at then destination_by alias (call_at at s) else []

abbrev pub on_port : ℕ → State → List Destination
on_port port s = of_members (on_port_at port s) s

-- the list in it
abbrev pub items_of : Vec Destination Global → List Destination
items_of v = v.items

abbrev pub port_row : State → ℕ → String Global → PortRow
port_row s port name =
    record {
      number = port + 1;
      name = lent (string_bytes name);
      came = came_at port s;
      went = went_at port s;
      members = lent (on_port port s);
    }

abbrev pub port_rows_from : State → ℕ → List (String Global) → List PortRow
port_rows_from s port [] = []
port_rows_from s port (name ∷ more) = port_row s port name ∷ port_rows_from s (port + 1) more

abbrev pub port_rows : About → State → List PortRow
port_rows about s = port_rows_from s 0 (names about)

-- Links, in the order of their making.

abbrev pub link_by : About → State → ℕ → Alias → Callsign → Option Linked → List LinkRow
link_by about s at alias peer None = []
link_by about s at alias peer (Some l) =
    record { member = alias; peer = peer; place = link_place at peer about s; phase = l.link.phase; held = held l } ∷ []

abbrev pub link_to : About → State → ℕ → Alias → Callsign → List LinkRow
link_to about s at alias peer = link_by about s at alias peer (link_at at peer s)

abbrev pub link_rows_at : About → State → ℕ → Alias → List LinkRow
link_rows_at about s at alias = flat_map (link_to about s at alias) (peers_at at s)

abbrev pub link_rows : About → State → List LinkRow
link_rows about s = of_members (link_rows_at about s) s

-- What there is of each, counted.

-- a count stands still at 2^64 - 1
abbrev pub total : List ℕ → ℕ
total counts = min (sum counts) (2 ^ 64 - 1)

abbrev pub came : State → ℕ
came s = total (map (λ port. came_at port s) (range_with_len 0 8))

abbrev pub went : State → ℕ
went s = total (map (λ port. went_at port s) (range_with_len 0 8))

abbrev pub moment_of : Option Moment → Option ℕ
moment_of moment = option_map (λ (m : Moment). m.0) moment

-- since the first tick
abbrev pub up_by : Option ℕ → ℕ → ℕ
up_by None now = 0
up_by (Some started) now = now - started

abbrev pub ends : State → List ℕ
ends s = flat_map (λ at. ends_at at s) (places s)

abbrev pub peers : State → List Callsign
peers s = flat_map (λ at. peers_at at s) (places s)

abbrev pub stats : List Session → Option ℕ → ℕ → State → Stats
stats sessions started now s =
    record {
      up = up_by started now;
      came = came s;
      went = went s;
      users = count_by (is_user s) sessions;
      circuits = length (ends s);
      links = length (peers s);
      destinations = length (known s);
    }
