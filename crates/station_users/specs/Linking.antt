-- A user of a station asks for a link: `Connect PORT X Via D D`. Own profile.
use Rattle.std.specs.Prelude.{ℕ, Bool, false, is_some, List, [], ◌∷◌, map, codes, slice_get, Option, Some, None, Result, Ok, Err, if◌then◌else◌}
use Rattle.std.specs.Borrow.{Bor}
use Rattle.arrayvec.specs.ArrayVec.{ArrayVec}
use Rattle.radio_base.specs.declared.moment.Moment.{Moment}
use Rattle.ax_address.specs.Callsign.{Callsign, call_at}
use Rattle.ax_address.specs.Octets.{address_of}
use Rattle.ax_address.specs.declared.address.Address.{Address}
use Rattle.ax_address.specs.declared.call.CallRefusal.{CallRefusal}
use Rattle.node_core.specs.Acts.{OpenLink}
use Rattle.node_core.specs.declared.acts.ActDone.{ActDone}
use Rattle.node_core.specs.declared.acts.ActRefusal.{ActRefusal}
use Rattle.node_core.specs.declared.acts.ActRefusal.TheVariants as refusal
use Rattle.station_lists.specs.Telling.{about, told_text}
use Rattle.station_lists.specs.declared.shown_node.ShownNode.{ShownNode}
use Rattle.station_lists.specs.declared.told.Told.TheVariants as told
use Rattle.station_looks.specs.Abouts.{port_name, port_named}
use Rattle.station_looks.specs.Ports.{member_on}
use Rattle.station_looks.specs.declared.about.About.{About}
use Rattle.station_members.specs.Looks.{place_of}
use Rattle.station_members.specs.States.{act, act_answer, remember}
use Rattle.station_prompt.specs.Commands.{capital}
use Rattle.station_sessions.specs.declared.place.Place.TheVariants.{Link}
use Rattle.station_users.specs.Connecting.{try_at}
use Rattle.station_users.specs.declared.linking.SetUp.{SetUp}
use Rattle.station_users.specs.declared.linking.SetUp.TheVariants.{Tried, Full, Busy}
use Rattle.station_users.specs.Steps.{At, at_members}
use Rattle.station_users.specs.Telling.{answer}

-- ---- the path

abbrev pub repeater_by : List ℕ → Result Callsign CallRefusal → Result Address (List ℕ)
repeater_by word (Ok call) = Ok (address_of call false)
repeater_by word (Err why) = Err word

-- a word that is no call is told
abbrev pub read_repeater : List ℕ → Result Address (List ℕ)
read_repeater word = repeater_by word (call_at word)

abbrev pub over_one : Result Address (List ℕ) → Result (ArrayVec Address) (List ℕ)
over_one (Ok a) = Ok (record { items = a ∷ [] })
over_one (Err word) = Err word

abbrev pub over_two : Result Address (List ℕ) → Result Address (List ℕ) → Result (ArrayVec Address) (List ℕ)
over_two (Ok a) (Ok b) = Ok (record { items = a ∷ b ∷ [] })
over_two (Ok a) (Err word) = Err word
over_two (Err word) other = Err word

-- over none, one or two repeaters, or the first word that is no call
abbrev pub path_over : List (List ℕ) → Result (ArrayVec Address) (List ℕ)
path_over [] = Ok (record { items = [] })
path_over (a ∷ []) = over_one (read_repeater a)
path_over (a ∷ b ∷ more) = over_two (read_repeater a) (read_repeater b)

-- a word that is no call, as it is lent
abbrev pub path_read : Result (ArrayVec Address) (Bor (List ℕ)) → Result (ArrayVec Address) (List ℕ)
path_read (Ok path) = Ok path
path_read (Err word) = Err word.now

abbrev pub hop_by : Callsign → Option Address → Callsign
hop_by peer None = peer
hop_by peer (Some first) = first.call

-- the first repeater, else the peer
abbrev pub first_hop : Callsign → ArrayVec Address → Callsign
first_hop peer path = hop_by peer (slice_get path.items 0)

-- ---- a try

abbrev pub by_call : Callsign → ShownNode
by_call call = record { alias = None; call = call }

abbrev pub set_up_refused : ActRefusal → SetUp
set_up_refused refusal.Full = Full
set_up_refused why = Busy

abbrev pub set_up : Result ActDone ActRefusal → SetUp
set_up (Ok _) = Tried
set_up (Err why) = set_up_refused why

-- the member remembers the first hop with that port
abbrev pub link_tried : ℕ → ℕ → Callsign → Callsign → Moment → At → At
link_tried member port hop peer now a = try_at (Link member peer) (by_call peer) now (at_members (remember member hop port) a)

abbrev pub say_busy : Callsign → Moment → At → At
say_busy peer now a = answer (told_text (told.Busy (by_call peer))) now a

abbrev pub link_asked : SetUp → ℕ → ℕ → Callsign → Callsign → Moment → At → At
link_asked Tried member port hop peer now a = link_tried member port hop peer now a
link_asked Full member port hop peer now a = answer (told_text told.NoCircuits) now a
link_asked Busy member port hop peer now a = say_busy peer now a

abbrev pub open_answer : Moment → ℕ → Callsign → ArrayVec Address → At → Result ActDone ActRefusal
open_answer now member peer path a = act_answer now member (OpenLink peer path) a.sides.members

-- a member sets up a link on a port
unfoldable pub try_link : ℕ → ℕ → Callsign → ArrayVec Address → Moment → At → At
try_link member port peer path now a =
    link_asked (set_up (open_answer now member peer path a)) member port (first_hop peer path) peer now
    (at_members (act now member (OpenLink peer path)) a)

-- ---- what is asked for

abbrev pub name_by : Option (List ℕ) → List ℕ
name_by None = []
name_by (Some name) = name

-- how a port is told: by its name, in capital letters
abbrev pub port_told : ℕ → About → List ℕ
port_told port who = map capital (name_by (port_name port who))

abbrev pub say_no_port : ℕ → About → Moment → At → At
say_no_port port who now a = answer (about (codes "No such port: ") (port_told port who)) now a

abbrev pub try_by : Option ℕ → ℕ → Callsign → ArrayVec Address → About → Moment → At → At
try_by None port peer path who now a = say_no_port port who now a
try_by (Some member) port peer path who now a = try_link member port peer path now a

-- by the member where the user is, or by the first one on that port
abbrev pub by_member : ℕ → Callsign → ArrayVec Address → About → Moment → At → At
by_member port peer path who now a = try_by (member_on a.session.member port a.sides.members) port peer path who now a

abbrev pub to_peer : ℕ → Callsign → ArrayVec Address → About → Moment → At → At
to_peer port peer path who now a =
    if is_some (place_of peer a.sides.members) then answer (told_text told.ThisNode) now a else by_member port peer path who now a

abbrev pub over : Result (ArrayVec Address) (List ℕ) → ℕ → Callsign → About → Moment → At → At
over (Err word) port peer who now a = answer (about (codes "Bad call: ") word) now a
over (Ok path) port peer who now a = to_peer port peer path who now a

abbrev pub to_call : Result Callsign CallRefusal → ℕ → List ℕ → List (List ℕ) → About → Moment → At → At
to_call (Err why) port to via who now a = answer (about (codes "Bad call: ") to) now a
to_call (Ok peer) port to via who now a = over (path_over via) port peer who now a

abbrev pub at_port : Option ℕ → List ℕ → List ℕ → List (List ℕ) → About → Moment → At → At
at_port None word to via who now a = answer (about (codes "No such port: ") word) now a
at_port (Some port) word to via who now a = to_call (call_at to) port to via who now a

-- the first that fits: no such port; no call; a member; none stands there
unfoldable pub connect_by_port : List ℕ → List ℕ → List (List ℕ) → About → Moment → At → At
connect_by_port word to via who now a = at_port (port_named word who) word to via who now a
