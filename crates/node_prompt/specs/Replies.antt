-- What a prompt says, and what is done for a line. Own profile.
use Rattle.std.specs.Prelude.{ℕ, List, [], ◌++◌, Option, Some, None, Result, Ok, Err, ◌==◌, codes, if◌then◌else◌, ◌∷◌}
use Rattle.std.specs.Fmt.{decimal}
use Rattle.std.specs.List.{flat_map}
use Rattle.arrayvec.specs.ArrayVec.{ArrayVec}
use Rattle.ax_address.specs.Alias as aliases
use Rattle.ax_address.specs.Callsign as calls
use Rattle.ax_address.specs.Callsign.{Callsign}
use Rattle.ax_address.specs.declared.alias.Alias.{Alias}
use Rattle.route_table.specs.declared.route.Route.{Route}
use Rattle.node_prompt.specs.declared.action.Action.{Action}
use Rattle.node_prompt.specs.declared.action.Action.TheVariants.{Say, Show, Connect, Bye, Nothing}
use Rattle.node_prompt.specs.declared.sight.Sight.TheVariants as sight
use Rattle.node_prompt.specs.declared.trouble.Trouble.{Trouble}
use Rattle.node_prompt.specs.declared.trouble.Trouble.TheVariants.{NoRoute, Own, Full, Busy, Failure}
use Rattle.node_prompt.specs.declared.view.View.{View}
use Rattle.node_prompt.specs.declared.view.View.TheVariants as view
use Rattle.node_prompt.specs.declared.command.Command.{Command}
use Rattle.node_prompt.specs.declared.command.Command.TheVariants as ask
use Rattle.node_prompt.specs.declared.line_refusal.LineRefusal.{LineRefusal}
use Rattle.node_prompt.specs.declared.line_refusal.LineRefusal.TheVariants.{TooLong, UnknownCommand, WrongWords, BadCall}
use Rattle.node_prompt.specs.Commands.{command_at}

-- Who speaks at a prompt, and how each text begins and ends. Own profile.

-- a node by its names
pub record Prompt : Type 0 where
  pub alias : Alias
  pub call : Callsign

-- as `ANODE:N0AAA} `
abbrev pub prefix_of : Prompt → List ℕ
prefix_of p = aliases.shown p.alias ++ codes ":" ++ calls.shown p.call ++ codes "} "

-- a line of a text, with the CR at its end
abbrev pub ended : List ℕ → List ℕ
ended line = line ++ 13 ∷ []

-- ALIAS:CALL
abbrev pub node_line : Route → List ℕ
node_line r = ended (aliases.shown r.alias ++ codes ":" ++ calls.shown r.dest)

abbrev pub more_line : ℕ → List ℕ
more_line more = if more == 0 then [] else ended (codes "and " ++ decimal more ++ codes " more")

abbrev pub nodes_text : List Route → ℕ → List ℕ
nodes_text routes more = ended (codes "Nodes:") ++ flat_map node_line routes ++ more_line more

-- how many rounds a route has left
abbrev pub count_text : Option ℕ → List ℕ
count_text None = codes "locked"
count_text (Some rounds) = decimal rounds

-- QUALITY COUNT NEIGHBOUR
abbrev pub route_line : Route → List ℕ
route_line r = ended (decimal r.quality ++ codes " " ++ count_text r.count ++ codes " " ++ calls.shown r.neighbour)

abbrev pub routes_to_text : Callsign → List Route → List ℕ
routes_to_text dest routes = ended (codes "Routes to " ++ calls.shown dest ++ codes ":") ++ flat_map route_line routes

-- CALL QUALITY
abbrev pub neighbour_line : Route → List ℕ
neighbour_line r = ended (calls.shown r.dest ++ codes " " ++ decimal r.quality)

abbrev pub routes_text : List Route → List ℕ
routes_text routes = ended (codes "Routes:") ++ flat_map neighbour_line routes

abbrev pub user_line : Callsign → List ℕ
user_line user = ended (calls.shown user)

abbrev pub users_text : List Callsign → List ℕ
users_text users = ended (codes "Users:") ++ flat_map user_line users

abbrev pub refusal_text : LineRefusal → List ℕ
refusal_text TooLong = ended (codes "Line too long")
refusal_text UnknownCommand = ended (codes "Unknown command")
refusal_text WrongWords = ended (codes "Wrong words")
refusal_text BadCall = ended (codes "Bad call")

-- a reply is one message; each of its lines ends with CR
abbrev pub reply : Prompt → List ℕ → ArrayVec ℕ
reply p lines = record { items = prefix_of p ++ lines }

-- what is done for a line that asks for this, or for nothing that there is
abbrev pub action_of : Prompt → Result Command LineRefusal → Action
action_of p (Err why) = Say (reply p (refusal_text why))
action_of p (Ok ask.Nothing) = Nothing
action_of p (Ok (ask.Connect dest)) = Connect dest
action_of p (Ok ask.Nodes) = Show sight.Nodes
action_of p (Ok (ask.RoutesTo dest)) = Show (sight.RoutesTo dest)
action_of p (Ok ask.Routes) = Show sight.Routes
action_of p (Ok ask.Users) = Show sight.Users
action_of p (Ok ask.Info) = Say (reply p (ended (codes "NET/ROM node")))
action_of p (Ok ask.Bye) = Bye (reply p (ended (codes "Bye")))
action_of p (Ok ask.Help) = Say (reply p (ended (codes "CONNECT NODES ROUTES USERS INFO BYE HELP")))

abbrev pub action_for : Prompt → List ℕ → Action
action_for p line = action_of p (command_at line)

-- the text that goes to the user
abbrev pub said : Action → Option (List ℕ)
said (Say text) = Some text.items
said (Bye text) = Some text.items
said (Show what) = None
said (Connect dest) = None
said Nothing = None

-- the text for what there is to see
abbrev pub view_text : Prompt → View → ArrayVec ℕ
view_text p (view.Nodes routes more) = reply p (nodes_text routes.items more)
view_text p (view.RoutesTo dest routes) = reply p (routes_to_text dest routes.items)
view_text p (view.Routes neighbours) = reply p (routes_text neighbours.items)
view_text p (view.Users users) = reply p (users_text users.items)

-- what is told of a circuit to a destination
abbrev pub trying : Prompt → Callsign → ArrayVec ℕ
trying p dest = reply p (ended (codes "Trying " ++ calls.shown dest))

abbrev pub connected : Prompt → Callsign → ArrayVec ℕ
connected p dest = reply p (ended (codes "Connected to " ++ calls.shown dest))

abbrev pub refused : Prompt → Callsign → Trouble → ArrayVec ℕ
refused p dest NoRoute = reply p (ended (codes "No route to " ++ calls.shown dest))
refused p dest Own = reply p (ended (codes "That is this node"))
refused p dest Full = reply p (ended (codes "No circuits free"))
refused p dest Busy = reply p (ended (codes "Busy from " ++ calls.shown dest))
refused p dest Failure = reply p (ended (codes "Failure with " ++ calls.shown dest))

abbrev pub disconnected : Prompt → Callsign → ArrayVec ℕ
disconnected p dest = reply p (ended (codes "Disconnected from " ++ calls.shown dest))
