-- What a user sees of a node, and the lines of a user at the prompt. Own profile.
use Rattle.std.specs.Prelude.{ℕ, Bool, true, false, if◌then◌else◌, List, [], Option, Some, None, Result, Ok, Err, ◌-◌, length, take, filter, flat_map}
use Rattle.std.specs.Option.{option_to_list}
pub use Rattle.text_lines.specs.UserLines.{first_line, without_lf, behind_line}
use Rattle.ax_address.specs.Callsign.{Callsign, same_call}
use Rattle.circuit_table.specs.declared.refusal.ConnectRefusal.{ConnectRefusal}
use Rattle.circuit_table.specs.declared.refusal.ConnectRefusal.TheVariants as refusal
use Rattle.circuit_table.specs.Pumps.{connect_answer}
use Rattle.circuit_table.specs.Sets as sets
use Rattle.circuit_table.specs.CircuitSets.{held_ids, partner_at}
use Rattle.circuit_table.specs.Sets.{Holder, end_of}
use Rattle.node_prompt.specs.Replies as texts
use Rattle.node_prompt.specs.declared.action.Action.{Action}
use Rattle.node_prompt.specs.declared.action.Action.TheVariants.{Say, Show, Connect, Bye, Nothing}
use Rattle.node_prompt.specs.declared.sight.Sight.{Sight}
use Rattle.node_prompt.specs.declared.trouble.Trouble.{Trouble}
use Rattle.node_prompt.specs.declared.trouble.Trouble.TheVariants as trouble
use Rattle.node_prompt.specs.declared.sight.Sight.TheVariants as sight
use Rattle.node_prompt.specs.declared.view.View.{View}
use Rattle.node_prompt.specs.declared.view.View.TheVariants as views
use Rattle.route_table.specs.declared.route.Route.{Route}
use Rattle.route_table.specs.Table as table
use Rattle.node_model.specs.declared.circuit.Circuit.{Circuit}
use Rattle.node_model.specs.declared.stage.Stage.TheVariants.{Trying}
use Rattle.node_model.specs.Bridging.{drop_rest, next_text, prompt_of}
use Rattle.node_model.specs.Sessions.{Session, unused}
use Rattle.node_model.specs.States.{State, next_hop}
use Rattle.node_model.specs.Turns.{Turn, done, idle}
use Rattle.node_model.specs.Users.{acts, at_session, close_user, has_room, is_deaf, say, session_at}

-- What a user sees of a node. Own profile.

abbrev pub destinations : State → List Callsign
destinations n = table.destinations n.settings.rules n.log

abbrev pub routes_to : State → Callsign → List Route
routes_to n dest = table.routes_to n.settings.rules n.log dest

abbrev pub best_route : State → Callsign → List Route
best_route n dest = take 1 (routes_to n dest)

-- the destination is the neighbour itself
abbrev pub is_direct : Route → Bool
is_direct r = same_call r.dest r.neighbour

abbrev pub partner : List Holder → ℕ → List Callsign
partner hs id = option_to_list (partner_at (end_of id hs))

abbrev pub partners : List Holder → List Callsign
partners hs = flat_map (partner hs) (take 64 (held_ids hs))

-- the best route to each of the first 64 destinations, and how many there are beside them; the routes to a destination; the first 64
-- neighbours that have a direct route; the partner of each end that is held
abbrev pub view : Sight → State → View
view sight.Nodes n = views.Nodes (record { items = flat_map (best_route n) (take 64 (destinations n)) }) (length (destinations n) - 64)
view (sight.RoutesTo dest) n = views.RoutesTo dest (record { items = routes_to n dest })
view sight.Routes n = views.Routes (record { items = take 64 (filter is_direct (flat_map (routes_to n) (destinations n))) })
view sight.Users n = views.Users (record { items = partners n.set.set.ends })

-- ---- what is left of a text behind its first line

abbrev pub cut_line : Session → Session
cut_line s = record s { rest = behind_line s.rest }

-- ---- what is done for a line

abbrev pub trouble_of : ConnectRefusal → Trouble
trouble_of refusal.Own = trouble.Own
trouble_of refusal.NoRoute = trouble.NoRoute
trouble_of refusal.Full = trouble.Full
trouble_of refusal.NoMemory = trouble.Full

abbrev pub circuit_to : ℕ → Callsign → Circuit
circuit_to id dest = record { id = id; dest = dest; closed = false }

abbrev pub tries : ℕ → Callsign → Session → Session
tries id dest s = record s { stage = Trying (circuit_to id dest); bridge = unused }

-- the request leaves before the user is told that the circuit is tried
abbrev pub try_by : ℕ → ℕ → Callsign → Result ℕ ConnectRefusal → State → State
try_by now nth dest (Ok id) n =
    say now nth (texts.trying (prompt_of n) dest).items (acts now (sets.Connect dest now) (at_session nth (tries id dest) n))
try_by now nth dest (Err why) n = say now nth (texts.refused (prompt_of n) dest (trouble_of why)).items n

abbrev pub try_circuit : ℕ → ℕ → Callsign → State → State
try_circuit now nth dest n = try_by now nth dest (connect_answer (next_hop n) dest n.set.set) n

abbrev pub leaves : Session → Session
leaves s = record s { bye = true; rest = [] }

-- the last text is said, and the user's side is closed
abbrev pub say_bye : ℕ → ℕ → List ℕ → State → State
say_bye now nth text n = close_user now nth (at_session nth leaves (say now nth text n))

-- what there is to see
abbrev pub show : ℕ → ℕ → Sight → State → State
show now nth sight n = say now nth (texts.view_text (prompt_of n) (view sight n)).items n

abbrev pub do_action : ℕ → ℕ → Action → State → State
do_action now nth (Say text) n = say now nth text.items n
do_action now nth (Show sight) n = show now nth sight n
do_action now nth (Bye text) n = say_bye now nth text.items n
do_action now nth (Connect dest) n = try_circuit now nth dest n
do_action now nth Nothing n = n

abbrev pub action_for : List ℕ → State → Action
action_for line n = texts.action_for (prompt_of n) line

abbrev pub action_at : Option Session → State → Action
action_at None n = Nothing
action_at (Some s) n = action_for (first_line s.rest) n

-- the first line of what is left of the text is done
abbrev pub do_line : ℕ → ℕ → State → State
do_line now nth n = do_action now nth (action_at (session_at nth n) n) (at_session nth cut_line n)

-- ---- the next line

abbrev pub if_text : Turn State → (State → State) → Turn State
if_text t step = if t.did then done (step t.after) else idle t.after

abbrev pub drop_text_of : ℕ → ℕ → State → Turn State
drop_text_of now nth n = if_text (next_text now nth n) (at_session nth drop_rest)

abbrev pub do_next_line : ℕ → ℕ → State → Turn State
do_next_line now nth n = if_text (next_text now nth n) (do_line now nth)

abbrev pub is_deaf_at : Option Session → State → Bool
is_deaf_at None n = false
is_deaf_at (Some s) n = is_deaf s n

abbrev pub has_room_at : Option Session → State → Bool
has_room_at None n = false
has_room_at (Some s) n = has_room s n

-- a line of the user is done, where its side has room for the reply; the texts of one that is told nothing more are dropped
abbrev pub take_line : ℕ → ℕ → State → Turn State
take_line now nth n =
    if is_deaf_at (session_at nth n) n then drop_text_of now nth n
    else if has_room_at (session_at nth n) n then do_next_line now nth n
    else idle n
