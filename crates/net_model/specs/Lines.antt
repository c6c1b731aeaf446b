-- What each line of a network file does. Own profile.
use Rattle.std.specs.Prelude.{ℕ, zero, suc, ◌+◌, ◌-◌, true, false, List, [], ◌∷◌, length, Option, Some, None, Result, Ok, Err, is_ok, if◌then◌else◌}
use Rattle.std.specs.Fmt.{decimal}
use Rattle.std.specs.List.{flat_map, range_with_len}
use Rattle.radio_base.specs.declared.modulus.LinkModulus.{LinkModulus}
use Rattle.radio_base.specs.declared.modulus.LinkModulus.TheVariants.{Modulo8}
use Rattle.kiss_framing.specs.Stream.{framed}
use Rattle.nodes_broadcast.specs.Nodes.{view}
use Rattle.node_core.specs.Broadcasts.{broadcast_octets}
use Rattle.node_core.specs.declared.acts.ActDone.{ActDone}
use Rattle.node_core.specs.declared.acts.ActDone.TheVariants.{Took}
use Rattle.node_core.specs.declared.acts.ActRefusal.{ActRefusal}
use Rattle.node_core.specs.Acts as acts
use Rattle.node_core.specs.Acts.{UserAct}
use Rattle.circuit_l4.specs.declared.facts.EndFacts.{EndFacts}
use Rattle.circuit_l4.specs.declared.pair.Pair.{Pair}
use Rattle.circuit_table.specs.CircuitSets.{facts_at}
use Rattle.circuit_table.specs.Sets.{Holder, end_of}
use Rattle.network_file.specs.declared.plan.instructions.NumberedInstruction.{NumberedInstruction}
use Rattle.network_file.specs.declared.plan.instructions.Instruction.{Instruction}
use Rattle.network_file.specs.declared.plan.instructions.Instruction.TheVariants as instructions
use Rattle.network_file.specs.Plan.{hearers, Plan}
use Rattle.route_table.specs.Table.{destinations, routes_to}
use Rattle.net_model.specs.declared.refusals.LineRefusal.{LineRefusal}
use Rattle.net_model.specs.World.{delivery_fault, frame_of, lost_fault, oldest, settled_at, Act, Bytes, Time, World, answer, at_frame, at_node, place_of_node, put, reach, start, tell, with_state}
use Rattle.net_model.specs.Ends.{ends_of}
use Rattle.net_model.specs.Events as events
use Rattle.net_model.specs.Events.{Event}
pub use Rattle.net_model.specs.Refused.{refusal_events}
use Rattle.net_model.specs.Mailing.{mail, post, unless_agents}
use Rattle.net_model.specs.Refused.{of_act}
use Rattle.net_model.specs.Starting.{Placed, started}
use Rattle.net_model.specs.Tables.{Table}

-- ---- why something isn't done is told

-- of an act: nothing where it is done
abbrev pub events_of_act : Result ActDone ActRefusal → List Event
events_of_act (Ok _) = []
events_of_act (Err why) = refusal_events (of_act why)

-- of an act that takes a message: the message
abbrev pub took_of : ℕ → ℕ → Result ActDone ActRefusal → List Event
took_of node end (Ok (Took message)) = events.Took node end message ∷ []
took_of node end other = events_of_act other

-- an act is done, or why it isn't is told
abbrev pub unless_refused : ℕ → Option LineRefusal → World → World → World
unless_refused line None done w = done
unless_refused line (Some why) done w = tell line (events.Refused why ∷ []) w

-- ---- writing

-- of the last text of a burst, behind which there are so many more: that all were written
abbrev pub all_wrote : ℕ → ℕ → ℕ → ℕ → List Event
all_wrote node end nth zero = events.Wrote node end nth ∷ []
all_wrote node end nth (suc more) = []

-- of its nth text; of one that is refused, how many were written before, and why
abbrev pub wrote_of : ℕ → ℕ → ℕ → ℕ → Result ActDone ActRefusal → List Event
wrote_of node end nth more (Ok _) = all_wrote node end nth more
wrote_of node end nth more (Err why) = events.Wrote node end (nth - 1) ∷ refusal_events (of_act why)

-- ---- frames

-- a frame as KISS bytes: data on port 0
abbrev pub kiss_bytes : List ℕ → List ℕ
kiss_bytes octets = framed 0 0 octets

-- the frame at a place is settled
abbrev pub settle : ℕ → World → World
settle at w = record w { air = settled_at at w.air }

-- ---- a node's table, and its start

abbrev pub table_of : Placed → Table
table_of p =
    record {
      node = p.declared.node;
      call = p.declared.call;
      alias = p.declared.alias;
      routes = flat_map (routes_to p.state.station.settings.rules p.state.station.log) (destinations p.state.station.settings.rules p.state.station.log);
    }

-- an end is lost with its facts, where it is held
abbrev pub loss_of : ℕ → ℕ → Option EndFacts → List Event
loss_of node id None = []
loss_of node id (Some facts) = events.Lost node id facts ∷ []

-- the ends that a node holds, in the order of their numbers, each lost with its facts: they are among the first so many numbers, as it
-- never made more
abbrev pub losses_of : ℕ → ℕ → List Holder → List Event
losses_of node count ends = flat_map (λ id. loss_of node id (facts_at (end_of id ends))) (range_with_len 1 count)

-- the table of the node of a number is shown
abbrev pub show : ℕ → ℕ → World → World
show line number w = at_node (place_of_node number w.nodes) (λ p. tell line (events.Shown (table_of p) ∷ [])) w

module _ (line : ℕ) where
  -- a user's act reaches the node at a place; this is told of its answer, and the node's frames are put in the air
  abbrev pub act_at : ℕ → UserAct → (Result ActDone ActRefusal → List Event) → World → World
  act_at at act told w = put line at Modulo8 (tell line (told (answer at act w)) (reach line at (Act act) w))

  -- the same at the node of a number
  abbrev pub do_act : ℕ → UserAct → (Result ActDone ActRefusal → List Event) → World → World
  do_act number act told w = act_at (place_of_node number w.nodes) act told w

  -- the node of a number hears KISS bytes, of a frame that was written with this modulus
  abbrev pub hear : ℕ → List ℕ → LinkModulus → World → World
  hear number bytes modulus w =
      let at : ℕ = place_of_node number w.nodes in put line at modulus (reach line at (Bytes bytes) w)

  -- ---- time goes on, and each of so many nodes from a place on is told
  abbrev pub tick_node : ℕ → World → World
  tick_node at w = put line at Modulo8 (reach line at Time w)

  abbrev pub tick_from : ℕ → ℕ → World → World
  tick_from at zero w = w
  tick_from at (suc count) w = tick_from (suc at) count (tick_node at w)

  abbrev pub tick : ℕ → World → World
  tick milliseconds w = tick_from 0 (length w.nodes) (record w { now = w.now + milliseconds })

  -- ---- the decimal texts from `nth` on are written at the node at a place, so many, up to the first that is refused
  unfoldable pub burst_from : ℕ → ℕ → ℕ → ℕ → ℕ → World → World
  burst_from at node end nth zero w = w
  burst_from at node end nth (suc more) w =
      let act : UserAct = acts.Write end (decimal nth) in
      let v : World = act_at at act (wrote_of node end nth more) w in
      if is_ok (answer at act w) then burst_from at node end (nth + 1) more v else v

  abbrev pub burst : ℕ → ℕ → ℕ → World → World
  burst node end count w = burst_from (place_of_node node w.nodes) node end 1 count w

  -- ---- frames go to nodes

  -- the frame at a place goes to a node
  unfoldable pub deliver_at : ℕ → ℕ → World → World
  deliver_at at node w =
      at_frame at (λ f v. hear node (kiss_bytes f.octets.items) f.modulus (tell line (events.Delivered (at + 1) node ∷ []) v)) w

  -- an unsettled frame is settled and goes to a node; a settled one goes there again
  abbrev pub deliver : ℕ → ℕ → World → World
  deliver frame node w =
      unless_refused line (delivery_fault w.channels node false (frame_of w.air frame)) (deliver_at (frame - 1) node (settle (frame - 1) w)) w

  abbrev pub repeat : ℕ → ℕ → World → World
  repeat frame node w = unless_refused line (delivery_fault w.channels node true (frame_of w.air frame)) (deliver_at (frame - 1) node w) w

  -- to these nodes, one after the other
  abbrev pub deliver_all : ℕ → List ℕ → World → World
  deliver_all at [] w = w
  deliver_all at (node ∷ more) w = deliver_all at more (deliver_at at node w)

  -- the frame at a place goes to each node that hears its sender
  abbrev pub spread : ℕ → World → World
  spread at w = at_frame at (λ f. deliver_all at (hearers w.channels f.sender)) w

  -- so many times the oldest unsettled frame is settled and goes to each node that hears its sender
  unfoldable pub flow : ℕ → World → World
  flow zero w = w
  flow (suc count) w = elim (oldest w.air) [ None ↦ w | Some at ↦ flow count (spread at (settle at w)) ]

-- the frame at a place, of this number, is settled and goes nowhere
abbrev pub lose_at : ℕ → ℕ → ℕ → World → World
lose_at line at frame w = tell line (events.Settled frame ∷ []) (settle at w)

-- an unsettled frame is lost
abbrev pub lose : ℕ → ℕ → World → World
lose line frame w = unless_refused line (lost_fault false (frame_of w.air frame)) (lose_at line (frame - 1) frame w) w

-- so many times the oldest unsettled frame is lost
unfoldable pub cut : ℕ → ℕ → World → World
cut line zero w = w
cut line (suc count) w = elim (oldest w.air) [ None ↦ w | Some at ↦ cut line count (lose_at line at (at + 1) w) ]

-- ---- a node starts again, at this pair: its ends are lost, and its next end is numbered behind all that it ever made

abbrev pub restarts : Plan → ℕ → ℕ → Pair → Placed → World → World
restarts plan line at pair p w =
    let made : ℕ = length (ends_of p.declared.node w.told) in
    tell line (events.Restarted p.declared.node pair ∷ losses_of p.declared.node made p.state.station.set.set.ends)
    (with_state at p (started plan p.declared pair (made + 1)) w)

abbrev pub restart : Plan → ℕ → ℕ → Pair → World → World
restart plan line number pair w = let at : ℕ = place_of_node number w.nodes in at_node at (restarts plan line at pair) w

-- ---- each kind of line

abbrev pub do_line : Plan → ℕ → Instruction → World → World
do_line plan line (instructions.Heard node call nodes) = hear line node (kiss_bytes (broadcast_octets call (view nodes))) Modulo8
do_line plan line (instructions.Lock node dest alias neighbour quality) =
    do_act line node (acts.Lock dest alias neighbour quality) events_of_act
do_line plan line (instructions.Round node) = do_act line node acts.Round events_of_act
do_line plan line (instructions.LinkFail node call) = do_act line node (acts.LinkFail call) events_of_act
do_line plan line (instructions.Show node) = show line node
do_line plan line (instructions.Tick milliseconds) = tick line milliseconds
do_line plan line (instructions.Restart node pair) = restart plan line node (record { index = pair.index; ident = pair.ident })
do_line plan line (instructions.Open node dest) = do_act line node (acts.Connect dest) events_of_act
do_line plan line (instructions.Say node end text) = unless_agents line node end [] (do_act line node (acts.Write end text) events_of_act)
do_line plan line (instructions.Burst node end count) =
    unless_agents line node end (events.Wrote node end 0 ∷ []) (burst line node end count)
do_line plan line (instructions.Take node end) = unless_agents line node end [] (do_act line node (acts.Take end) (took_of node end))
do_line plan line (instructions.Close node end) = do_act line node (acts.Close end) events_of_act
do_line plan line (instructions.Post node to dest text) = post line node to dest text
do_line plan line (instructions.Mail node) = mail line node
do_line plan line (instructions.Deliver frame node) = deliver line frame node
do_line plan line (instructions.Again frame node) = repeat line frame node
do_line plan line (instructions.Lose frame) = lose line frame
do_line plan line (instructions.Flow count) = flow line count
do_line plan line (instructions.Cut count) = cut line count

-- one line after another
abbrev pub do_lines : Plan → List NumberedInstruction → World → World
do_lines plan [] w = w
do_lines plan (l ∷ later) w = do_lines plan later (do_line plan l.line l.instruction w)

-- what a network comes to: its lines, one after another, from its start on
unfoldable pub world : Plan → World
world plan = do_lines plan plan.instructions (start plan)
