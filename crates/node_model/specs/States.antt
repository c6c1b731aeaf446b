-- The state of a node: its settings, its parts, and what waits to be fetched. Own profile.
use Rattle.std.specs.Prelude.{ℕ, Bool, List, [], ◌∷◌, ◌++◌, drop, Option}
use Rattle.ax_address.specs.Callsign.{Callsign}
use Rattle.ax_address.specs.declared.alias.Alias.{Alias}
use Rattle.ax_link.specs.declared.notice.LinkNotice.{LinkNotice}
use Rattle.circuit_table.specs.Pumps.{SetTold, Waiting}
use Rattle.link_table.specs.Calls as calls
use Rattle.link_table.specs.Table.{Table}
use Rattle.link_table.specs.declared.written.Written.{Written}
use Rattle.route_table.specs.declared.route.RouteRules.{RouteRules}
use Rattle.route_table.specs.Log.{Item}
use Rattle.route_table.specs.Table as routes
use Rattle.node_model.specs.Links.{all_fetched, sent_frames}
use Rattle.node_model.specs.Sessions.{Session}

pub record Settings : Type 0 where
  pub call : Callsign
  pub alias : Alias
  pub rules : RouteRules
  pub path_quality : ℕ
  pub qualities : List (Callsign × ℕ)  -- of the paths to these neighbours, in its place
  pub prompt : Bool  -- users are served at a prompt
  pub hosts : Bool  -- else whoever holds the node serves them: the texts at its links stay until they are taken
  pub interval : ℕ  -- milliseconds from a round to the next; 0 where none is done by itself

-- what is told: something happened at the circuits or at the link with a peer, or the table had no room for a broadcast
pub data Entry : Type 0 where
  Of_set : SetTold → Entry
  Of_link : Callsign → LinkNotice → Entry
  Overflow : (live would_be : ℕ) → Entry

-- a node above its KISS bytes
pub record State : Type 0 where
  pub settings : Settings
  pub log : List Item  -- all that bears on its routes
  pub links : Table
  pub set : Waiting  -- the circuits
  pub next_round : Option ℕ  -- when the next round is due; none before the first tick
  pub own : List Written  -- what it has put out before what waits at its links
  pub entries : List Entry
  pub sessions : List Session  -- the users at the prompt, in the order of their making

-- a node: that, and all KISS bytes that came
pub record NodeState : Type 0 where
  pub stream : List ℕ
  pub station : State

-- the next hop of the node's routes
abbrev pub next_hop : State → Callsign → Option Callsign
next_hop n dest = routes.next_hop n.settings.rules n.log dest

-- the frames that wait to be fetched
abbrev pub frames : State → List Written
frames n = n.own ++ sent_frames n.links

abbrev pub at_links : (Table → Table) → State → State
at_links step n = record n { links = step n.links }

abbrev pub at_set : (Waiting → Waiting) → State → State
at_set step n = record n { set = step n.set }

abbrev pub with_items : List Item → State → State
with_items items n = record n { log = n.log ++ items }

abbrev pub enter : List Entry → State → State
enter entries n = record n { entries = n.entries ++ entries }

abbrev pub at_sessions : (List Session → List Session) → State → State
at_sessions step n = record n { sessions = step n.sessions }

-- a frame of the node itself goes behind all that its links have put out
abbrev pub put : Written → State → State
put f n = record n { own = (n.own ++ sent_frames n.links) ++ f ∷ []; links = all_fetched n.links }

-- the first frame that waits was fetched
abbrev pub fetch_own : List Written → State → State
fetch_own [] n = at_links calls.fetch n
fetch_own (f ∷ fs) n = record n { own = fs }

abbrev pub fetch_frame : State → State
fetch_frame n = fetch_own n.own n

-- the first entry was fetched
abbrev pub fetch_entry : State → State
fetch_entry n = record n { entries = drop 1 n.entries }
