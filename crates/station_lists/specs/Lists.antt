-- The lists that a station tells at its prompt, each of lines that end with CR. Own profile.
use Rattle.std.specs.Prelude.{ℕ, zero, suc, ◌-◌, List, [], ◌∷◌, ◌++◌, length, take, Option, Some, None, Bool, nat_le, ◌==◌, codes, flat_map, if◌then◌else◌}
use Rattle.std.specs.Borrow.{Bor}
use Rattle.std.specs.Fmt.{decimal}
use Rattle.ax_address.specs.Alias as aliases
use Rattle.ax_address.specs.Callsign as calls
use Rattle.ax_address.specs.Callsign.{Callsign}
use Rattle.ax_address.specs.declared.alias.Alias.{Alias}
use Rattle.ax_link.specs.declared.phase.LinkPhase.{LinkPhase}
use Rattle.ax_link.specs.declared.phase.LinkPhase.TheVariants as phases
use Rattle.node_prompt.specs.Replies.{count_text}
pub use Rattle.node_prompt.specs.Replies.{ended}
use Rattle.route_table.specs.declared.route.Route.{Route}
use Rattle.station_ports.specs.declared.heard_list.Heard.{Heard}
use Rattle.station_prompt.specs.Replies.{name, age}
use Rattle.station_lists.specs.declared.destinations.Destination.{Destination}
use Rattle.station_lists.specs.declared.links.LinkRow.{LinkRow}
use Rattle.station_lists.specs.declared.neighbours.NeighbourRow.{NeighbourRow}
use Rattle.station_lists.specs.declared.place.Place.{Place}
use Rattle.station_lists.specs.declared.place.Place.TheVariants.{Unknown, Backplane, Port}
use Rattle.station_lists.specs.declared.ports.PortRow.{PortRow}
use Rattle.station_lists.specs.declared.routes.MemberRoute.{MemberRoute}
use Rattle.station_lists.specs.declared.shown_node.ShownNode.{ShownNode}
use Rattle.station_lists.specs.declared.stats.Stats.{Stats}
use Rattle.station_lists.specs.declared.users.Doing.{Doing}
use Rattle.station_lists.specs.declared.users.Doing.TheVariants as doing
use Rattle.station_lists.specs.declared.users.UserRow.{UserRow}
use Rattle.station_lists.specs.declared.users.Where.{Where}
use Rattle.station_lists.specs.declared.users.Where.TheVariants as from

-- how many there are beside those that were named
abbrev pub more_text : ℕ → List ℕ
more_text more = if more == 0 then [] else codes "and " ++ (decimal more ++ ended (codes " more"))

-- ALIAS:CALL, or CALL where the alias isn't known
abbrev pub shown : Option Alias → Callsign → List ℕ
shown None call = calls.shown call
shown (Some alias) call = name alias call

-- by which port a station is reached
abbrev pub place : Place → List ℕ
place Unknown = codes "-"
place Backplane = codes "backplane"
place (Port name) = name.now

-- Destinations: four to a line, each but the last of a line 18 wide, at most 200.

abbrev pub destination : Destination → List ℕ
destination d = name d.alias d.call

abbrev pub spaces : ℕ → List ℕ
spaces zero = []
spaces (suc n) = 32 ∷ spaces n

abbrev pub padded : List ℕ → List ℕ
padded text = text ++ spaces (18 - length text)

abbrev pub padded_destination : Destination → List ℕ
padded_destination d = padded (destination d)

abbrev pub last_destination : Destination → List ℕ
last_destination d = ended (destination d)

abbrev pub destination_lines : List Destination → List ℕ
destination_lines [] = []
destination_lines (a ∷ []) = last_destination a
destination_lines (a ∷ b ∷ []) = padded_destination a ++ last_destination b
destination_lines (a ∷ b ∷ c ∷ []) = padded_destination a ++ padded_destination b ++ last_destination c
destination_lines (a ∷ b ∷ c ∷ d ∷ more) =
    padded_destination a ++ padded_destination b ++ padded_destination c ++ last_destination d ++ destination_lines more

abbrev pub destinations_text : List Destination → List ℕ
destinations_text all = ended (codes "Nodes:") ++ destination_lines (take 200 all) ++ more_text (length all - 200)

-- Routes to a node: MEMBER QUALITY COUNT NEIGHBOUR.

abbrev pub routes_head : ShownNode → List ℕ
routes_head dest = codes "Routes to " ++ (shown dest.alias dest.call ++ ended (codes ":"))

abbrev pub route_line : MemberRoute → List ℕ
route_line r =
    aliases.shown r.member ++ (codes " " ++ (decimal r.route.quality ++ (codes " " ++ (count_text r.route.count
    ++ (codes " " ++ (calls.shown r.route.neighbour ++ ended []))))))

abbrev pub routes_text : ShownNode → List MemberRoute → List ℕ
routes_text dest routes = routes_head dest ++ flat_map route_line routes

-- Neighbours: MEMBER CALL QUALITY PORT, behind > where a link stands, at most 100.

abbrev pub link_mark : Bool → List ℕ
link_mark has_link = if has_link then codes "> " else []

abbrev pub neighbour_line : NeighbourRow → List ℕ
neighbour_line n =
    link_mark n.has_link ++ (aliases.shown n.member ++ (codes " " ++ (calls.shown n.call ++ (codes " " ++ (decimal n.quality
    ++ (codes " " ++ (place n.place ++ ended [])))))))

abbrev pub neighbours_text : List NeighbourRow → List ℕ
neighbours_text all = ended (codes "Routes:") ++ flat_map neighbour_line (take 100 all) ++ more_text (length all - 100)

-- Users: CALL WHERE DOING.

-- what he does, and the end of the line
abbrev pub doing_end : Doing → List ℕ
doing_end doing.Prompt = ended (codes "prompt")
doing_end doing.Mail = ended (codes "mail")
doing_end (doing.Trying node) = codes "trying " ++ (shown node.alias node.call ++ ended [])
doing_end (doing.With node) = codes "with " ++ (shown node.alias node.call ++ ended [])

abbrev pub line_from : Callsign → List ℕ → Doing → List ℕ
line_from call place doing = calls.shown call ++ (codes " " ++ (place ++ (codes " " ++ doing_end doing)))

abbrev pub where_text : Where → List ℕ
where_text (from.Link port) = place port
where_text (from.Circuit partner) = calls.shown partner
where_text from.Console = codes "console"

abbrev pub user_line : UserRow → List ℕ
user_line u = line_from u.call (where_text u.from) u.doing

abbrev pub users_text : List UserRow → List ℕ
users_text all = ended (codes "Users:") ++ flat_map user_line all

-- Ports: N NAME heard=H sent=S, and the members on it.

abbrev pub port_front : PortRow → List ℕ
port_front p =
    decimal p.number ++ (codes " " ++ (p.name.now ++ (codes " heard=" ++ (decimal p.came ++ (codes " sent=" ++ decimal p.went)))))

abbrev pub member_on : Destination → List ℕ
member_on m = codes " " ++ name m.alias m.call

abbrev pub port_line : PortRow → List ℕ
port_line p = port_front p ++ (flat_map member_on p.members.now ++ ended [])

abbrev pub ports_text : List PortRow → List ℕ
ports_text all = ended (codes "Ports:") ++ flat_map port_line all

-- Who was heard at a port: CALL COUNT AGE.

abbrev pub heard_head : List ℕ → List ℕ
heard_head port = codes "Heard on " ++ (port ++ ended (codes ":"))

abbrev pub heard_line : ℕ → Heard → List ℕ
heard_line now h = calls.shown h.call ++ (codes " " ++ (decimal h.count ++ (codes " " ++ (age (now - h.last.0) ++ ended []))))

abbrev pub heard_text : List ℕ → ℕ → List Heard → List ℕ
heard_text port now heard = heard_head port ++ flat_map (heard_line now) heard

-- Links: MEMBER CALL PORT PHASE HELD, at most 100.

abbrev pub phase_text : LinkPhase → List ℕ
phase_text phases.Down = codes "down"
phase_text phases.SettingUp = codes "setting up"
phase_text phases.Up = codes "up"
phase_text phases.Releasing = codes "releasing"

abbrev pub link_line : LinkRow → List ℕ
link_line l =
    aliases.shown l.member ++ (codes " " ++ (calls.shown l.peer ++ (codes " " ++ (place l.place ++ (codes " " ++ (phase_text l.phase
    ++ (codes " " ++ (decimal l.held ++ ended []))))))))

abbrev pub links_text : List LinkRow → List ℕ
links_text all = ended (codes "Links:") ++ flat_map link_line (take 100 all) ++ more_text (length all - 100)

-- What there is of each.

abbrev pub stats_front : Stats → List ℕ
stats_front s = codes "Up " ++ (age s.up ++ (codes ", heard " ++ (decimal s.came ++ (codes ", sent " ++ decimal s.went))))

abbrev pub stats_back : Stats → List ℕ
stats_back s =
    codes ", users " ++ (decimal s.users ++ (codes ", circuits " ++ (decimal s.circuits ++ (codes ", links " ++ (decimal s.links
    ++ (codes ", destinations " ++ (decimal s.destinations ++ ended [])))))))

abbrev pub stats_text : Stats → List ℕ
stats_text s = stats_front s ++ stats_back s
