-- The replies of a station that tell what there is to see. Own profile.
use Rattle.std.specs.Prelude.{ℕ, ◌+◌, ◌-◌, List, [], ◌∷◌, ◌++◌, length, map, take, Option, Some, None, nat_eq, ◌==◌, codes, String, string_bytes, if◌then◌else◌}
use Rattle.std.specs.List.{ends_with}
use Rattle.std.specs.declared.alloc.Global.{Global}
use Rattle.ax_address.specs.declared.alias.Alias.{Alias}
use Rattle.ax_address.specs.Callsign.{Callsign}
use Rattle.station_lists.specs.Lists as lists
use Rattle.station_lists.specs.Telling as telling
use Rattle.station_lists.specs.Telling.{told_text}
use Rattle.station_lists.specs.declared.told.Told.{Told}
use Rattle.station_lists.specs.declared.routes.MemberRoute.{MemberRoute}
use Rattle.station_members.specs.Looks.{alias_at, call_at, heard_at}
use Rattle.station_members.specs.States.{State}
use Rattle.station_prompt.specs.Commands.{Asked, Alone, Heard, Known, Destinations, Shown, Every, Beginning, Routes_to}
use Rattle.station_prompt.specs.Replies.{prefix}
use Rattle.station_prompt.specs.declared.verb.Verb.{Verb}
use Rattle.station_prompt.specs.declared.verb.Verb.TheVariants as verbs
use Rattle.station_sessions.specs.Sessions.{Session}
use Rattle.station_looks.specs.Abouts.{names, port_name, port_named}
use Rattle.station_looks.specs.Naming.{named, shown}
use Rattle.station_looks.specs.Rows as rows
use Rattle.station_looks.specs.declared.about.About.{About}
use Rattle.station_looks.specs.declared.looks.Looks.{Looks}
use Rattle.station_looks.specs.declared.naming.Named.{Named}
use Rattle.station_looks.specs.declared.naming.Named.TheVariants.{Member, Node, Nothing}

-- what there is to see
pub record Seen : Type 0 where
  pub members : State
  pub about : About
  pub sessions : List Session
  pub started : Option ℕ  -- the moment of the first tick

abbrev pub seen_by : Looks → State → Seen
seen_by looks s =
    record {
      members = s;
      about = looks.about.now;
      sessions = looks.sessions.now;
      started = rows.moment_of looks.started;
    }

-- How a reply begins that the member at a place gives.

abbrev pub begun_by : Option Alias → Option Callsign → List ℕ
begun_by (Some alias) (Some call) = prefix alias call
begun_by (Some alias) None = []
begun_by None call = []

abbrev pub begun : ℕ → State → List ℕ
begun at s = begun_by (alias_at at s) (call_at at s)

-- a reply of one line
abbrev pub told : ℕ → Told → State → List ℕ
told at what s = begun at s ++ told_text what

-- The routes to what a word names.

abbrev pub bad_call : List ℕ → List ℕ
bad_call word = telling.about (codes "Bad call: ") word

abbrev pub no_route : List ℕ → List ℕ
no_route word = telling.about (codes "No route to ") word

abbrev pub routes_among : List ℕ → Callsign → State → List MemberRoute → List ℕ
routes_among word dest s [] = no_route word
routes_among word dest s (r ∷ rs) = lists.routes_text (shown dest s) (r ∷ rs)

abbrev pub routes_to : List ℕ → State → Option Callsign → List ℕ
routes_to word s None = bad_call word
routes_to word s (Some dest) = routes_among word dest s (rows.route_rows dest s)

abbrev pub call_of : State → Named → Option Callsign
call_of s (Member at) = call_at at s
call_of s (Node call) = Some call
call_of s Nothing = None

abbrev pub routes_named : List ℕ → State → List ℕ
routes_named word s = routes_to word s (call_of s (named None word s))

-- Destinations, or the routes to one.

abbrev pub known_text : Destinations → State → List ℕ
known_text (Routes_to word) s = routes_named word s
known_text Shown s = lists.destinations_text (rows.destinations Shown s)
known_text Every s = lists.destinations_text (rows.destinations Every s)
known_text (Beginning front) s = lists.destinations_text (rows.destinations (Beginning front) s)

-- Who was heard: at a port, or at each.

abbrev pub heard_named : Option (List ℕ) → ℕ → ℕ → State → List ℕ
heard_named None port now s = []
heard_named (Some name) port now s = lists.heard_text name now (heard_at port s)

abbrev pub heard_on : List ℕ → Option ℕ → ℕ → About → State → List ℕ
heard_on word None now about s = telling.about (codes "No such port: ") word
heard_on word (Some port) now about s = heard_named (port_name port about) port now s

abbrev pub heard_from : State → ℕ → ℕ → List (String Global) → List ℕ
heard_from s now port [] = []
heard_from s now port (name ∷ more) = lists.heard_text (string_bytes name) now (heard_at port s) ++ heard_from s now (port + 1) more

abbrev pub heard_reply : Option (List ℕ) → ℕ → About → State → List ℕ
heard_reply (Some word) now about s = heard_on word (port_named word about) now about s
heard_reply None now about s = heard_from s now 0 (names about)

-- What the operator has to say: an LF ends a line, and one at the end makes none.

abbrev pub without_last_lf : List ℕ → List ℕ
without_last_lf info = if ends_with nat_eq info (codes "\n") then take (length info - 1) info else info

abbrev pub cr_for_lf : ℕ → ℕ
cr_for_lf b = if b == 10 then 13 else b

abbrev pub info_text : List ℕ → List ℕ
info_text info = telling.about [] (map cr_for_lf (without_last_lf info))

-- What is told of what a line asks for. A command that asks for nothing of this kind is told what the operator has to say.

abbrev pub alone_text : Verb → ℕ → Seen → List ℕ
alone_text verbs.Routes now seen = lists.neighbours_text (rows.neighbour_rows seen.about seen.members)
alone_text verbs.Users now seen = lists.users_text (rows.user_rows seen.about seen.sessions seen.members)
alone_text verbs.Ports now seen = lists.ports_text (rows.port_rows seen.about seen.members)
alone_text verbs.Links now seen = lists.links_text (rows.link_rows seen.about seen.members)
alone_text verbs.Stats now seen = lists.stats_text (rows.stats seen.sessions seen.started now seen.members)
alone_text _ now seen = info_text seen.about.info.items

abbrev pub seen_text : Asked → ℕ → Seen → List ℕ
seen_text (Known asked) now seen = known_text asked seen.members
seen_text (Heard port) now seen = heard_reply port now seen.about seen.members
seen_text (Alone verb) now seen = alone_text verb now seen
seen_text _ now seen = info_text seen.about.info.items

-- the whole reply, at the prompt of the member at a place
abbrev pub reply : Asked → ℕ → ℕ → Seen → List ℕ
reply asked at now seen = begun at seen.members ++ seen_text asked now seen
