-- Each node of a network is what inputs have led to from a start of it.
use Rattle.std.proofs.Common.{◌≡◌, ◌∙◌, ◌+◌, ℕ, zero, suc, refl, sym, ap, subst, List, [], ◌∷◌, ◌++◌, length, map, filter}
use Rattle.std.specs.Prelude.{false, slice_get, slice_set, Option, Some, None, Result, Ok, Err}
use Rattle.std.specs.List.{AllByRecursion}
use Rattle.radio_base.specs.declared.modulus.LinkModulus.{LinkModulus}
use Rattle.circuit_l4.specs.declared.pair.Pair.{Pair}
use Rattle.link_table.specs.Calls as links
use Rattle.link_table.specs.Reaching.{IsCall}
use Rattle.link_table.specs.declared.path_refusal.PathRefusal.{PathRefusal}
use Rattle.network_file.specs.declared.plan.instructions.NumberedInstruction.{NumberedInstruction}
use Rattle.network_file.specs.declared.plan.declarations.Declaration.{Declaration}
use Rattle.network_file.specs.declared.plan.vias.Via.{Via}
use Rattle.network_file.specs.Plan.{Plan}
use Rattle.node_core.specs.declared.config.NodeConfig.{NodeConfig}
use Rattle.node_core.specs.Bridged as nodes
use Rattle.node_core.specs.Bridged.{AsksForCall, EverySession, after_all}
use Rattle.node_core.specs.Configs.{new_node}
use Rattle.node_core.specs.Fetching.{FetchesAllEntries, FetchesAllFrames, fetch_entries, fetch_frames}
use Rattle.node_model.specs.Sessions.{Session}
use Rattle.node_model.specs.States.{NodeState, State, fetch_entry, fetch_frame, frames}
use Rattle.node_core.specs.Acts as acts
use Rattle.node_core.specs.Acts.{UserAct}
use Rattle.net_model.specs.SoundPlans.{IsLine, IsSound}
use Rattle.net_model.specs.Ends.{ends_of}
use Rattle.net_model.specs.Lines.{do_lines}
use Rattle.net_model.specs.Starting.{Placed, by_number, new_nodes, new_placed, started}
use Rattle.node_settings.specs.Settings.{config_of, is_via_of, path_of, with_via, with_via_by, with_vias}
use Rattle.net_model.specs.World as worlds
use Rattle.net_model.specs.World.{Input, Time, World, after, all_fetched_of, all_told, place_of_node, put, reach, start}
use Rattle.net_model.proofs.LineWalks.{IsPlain, LineIs, Moves, lines_lead, AnyPair, line_is}
use Rattle.net_laws.proofs.Lists.{both, every, front, one_of, put_each}
use Rattle.net_model.proofs.Looks.{put_of, reaches, restart_of}
use Rattle.net_laws.proofs.SentBefore.{own_calls}
use Rattle.net_model.proofs.MailWalks.{AnyCall}

-- ---- inputs one after another

all_append : (xs ys : List nodes.Input) (n : NodeState) → after_all (xs ++ ys) n ≡ after_all ys (after_all xs n)
all_append [] ys n = refl
all_append (x ∷ xs) ys n = all_append xs ys (nodes.after x n)

-- one input so many times
abbrev times : ℕ → nodes.Input → List nodes.Input
times zero i = []
times (suc more) i = i ∷ times more i

times_ask : (count : ℕ) (i : nodes.Input) → AsksForCall i → AllByRecursion AsksForCall (times count i)
times_ask zero i a = tt
times_ask (suc more) i a = (a, times_ask more i a)

entries_fetched : (count : ℕ) (n : NodeState) → after_all (times count nodes.Fetches_entry) n ≡ record n { station = fetch_entries count n.station }
entries_fetched zero n = refl
entries_fetched (suc more) n = entries_fetched more (record n { station = fetch_entry n.station })

frames_fetched : (count : ℕ) (n : NodeState) → after_all (times count nodes.Fetches_frame) n ≡ record n { station = fetch_frames count n.station }
frames_fetched zero n = refl
frames_fetched (suc more) n = frames_fetched more (record n { station = fetch_frame n.station })

-- ---- a node that inputs have led to from a start of it

pub record Led (p : Placed) : Type 0 where
  pub own : IsCall p.declared.call
  pub config : NodeConfig
  pub call : config.call ≡ p.declared.call
  pub inputs : List nodes.Input
  pub asks : AllByRecursion AsksForCall inputs
  pub is : p.state ≡ after_all inputs (new_node config)

led_on : (p : Placed) (more : List nodes.Input) (n : NodeState) → AllByRecursion AsksForCall more → after_all more p.state ≡ n → Led p → Led (record p { state = n })
led_on p more n a e l = record {
  own = l.own;
  config = l.config;
  call = l.call;
  inputs = l.inputs ++ more;
  asks = both AsksForCall l.inputs more l.asks a;
  is = sym e ∙ (ap (after_all more) l.is ∙ sym (all_append l.inputs more (new_node l.config)));
}

-- its sessions have what all sessions have that inputs lead to
pub sessions_of : (P : State → Session → Type 0) → EverySession P → (p : Placed) → Led p → AllByRecursion (P p.state.station) p.state.station.sessions
sessions_of P all p l =
    subst (λ (n : NodeState). AllByRecursion (P n.station) n.station.sessions) (sym l.is) (all false l.config l.inputs (subst IsCall (sym l.call) l.own) l.asks)

-- ---- a node as it starts

record Reached (n m : NodeState) : Type 0 where
  inputs : List nodes.Input
  asks : AllByRecursion AsksForCall inputs
  is : m ≡ after_all inputs n

via_reached : (r : Result (Unit {0}) PathRefusal) (via : Via) (n : NodeState) → Reached n (with_via_by r via n)
via_reached (Ok done) via n = record { inputs = nodes.Paths via.peer (path_of via) ∷ []; asks = (tt, tt); is = refl }
via_reached (Err why) via n = record { inputs = []; asks = tt; is = refl }

vias_reached : (vias : List Via) (n : NodeState) → Reached n (with_vias vias n)
vias_reached [] n = record { inputs = []; asks = tt; is = refl }
vias_reached (via ∷ vias) n =
    let one : Reached n (with_via via n) = via_reached (links.path_answer via.peer (path_of via) n.station.links) via n in
    let rest : Reached (with_via via n) (with_vias vias (with_via via n)) = vias_reached vias (with_via via n) in
    record {
      inputs = one.inputs ++ rest.inputs;
      asks = both AsksForCall one.inputs rest.inputs one.asks rest.asks;
      is = rest.is ∙ (ap (after_all rest.inputs) one.is ∙ sym (all_append one.inputs rest.inputs n));
    }

started_led : (plan : Plan) (d : Declaration) (pair : Pair) (first : ℕ) → IsCall d.call → Led (record { declared = d; state = started plan d pair first })
started_led plan d pair first own =
    let r : Reached (new_node (config_of plan.settings d pair first)) (started plan d pair first) =
    vias_reached (filter (is_via_of d.node) plan.vias) (new_node (config_of plan.settings d pair first)) in
    record { own = own; config = config_of plan.settings d pair first; call = refl; inputs = r.inputs; asks = r.asks; is = r.is }

starts_led : (plan : Plan) (ds : List Declaration) → AllByRecursion (λ (d : Declaration). IsCall d.call) ds → AllByRecursion Led (map (new_placed plan) ds)
starts_led plan [] a = tt
starts_led plan (d ∷ ds) a = (started_led plan d (record { index = 1; ident = 1 }) 1 a.0, starts_led plan ds a.1)

-- ---- a world's nodes

abbrev pub AllLed : World → Type 0
AllLed w = (at : ℕ) (p : Placed) → slice_get w.nodes at ≡ Some p → Led p

abbrev Keeps : World → World → Type 0
Keeps w v = AllLed w → AllLed v

put_led : (ps : List Placed) (at : ℕ) (p q : Placed) → slice_get ps at ≡ Some p → ((k : ℕ) (r : Placed) → slice_get ps k ≡ Some r → Led r) → Led q → (k : ℕ) (r : Placed) → slice_get (slice_set ps at q) k ≡ Some r → Led r
put_led ps at p q e all l = put_each (λ k r. Led r) ps at p q e all l

-- as an input of the node
abbrev input_of : ℕ → Input → nodes.Input
input_of now (worlds.Bytes bytes) = nodes.Bytes now bytes
input_of now Time = nodes.Ticks now
input_of now (worlds.Act act) = nodes.Acts now act

input_is : (now : ℕ) (i : Input) (n : NodeState) → nodes.after (input_of now i) n ≡ after now i n
input_is now (worlds.Bytes bytes) n = refl
input_is now Time n = refl
input_is now (worlds.Act act) n = refl

plain_asks : (now : ℕ) (act : UserAct) → IsPlain act → AsksForCall (nodes.Acts now act)
plain_asks now (acts.Connect dest) i = absurd i
plain_asks now (acts.ConnectFor user dest) i = absurd i
plain_asks now (acts.TakeText peer) i = absurd i
plain_asks now (acts.SendText to text) i = absurd i
plain_asks now (acts.OpenLink to path) i = absurd i
plain_asks now (acts.CloseLink peer) i = absurd i
plain_asks now other i = tt

module _ (entries : FetchesAllEntries) (sent : FetchesAllFrames) where
  told_is : (n : NodeState) → after_all (times (length n.station.entries) nodes.Fetches_entry) n ≡ all_told n
  told_is n = entries_fetched (length n.station.entries) n ∙ ap (λ x. record n { station = x }) (entries n.station)

  fetched_is : (n : NodeState) → after_all (times (length (frames n.station)) nodes.Fetches_frame) n ≡ all_fetched_of n
  fetched_is n = frames_fetched (length (frames n.station)) n ∙ ap (λ x. record n { station = x }) (sent n.station)

  reach_case : (line at : ℕ) (input : Input) (w : World) (o : Option Placed) → slice_get w.nodes at ≡ o → AsksForCall (input_of w.now input) → Keeps w (reaches line at input o w)
  reach_case line at input w None e a l = l
  reach_case line at input w (Some p) e a l =
      let n : NodeState = after w.now input p.state in
      let fetches : List nodes.Input = times (length n.station.entries) nodes.Fetches_entry in
      put_led w.nodes at p (record p { state = all_told n }) e l
      (led_on p (input_of w.now input ∷ fetches) (all_told n) (a, times_ask (length n.station.entries) nodes.Fetches_entry tt)
      (ap (after_all fetches) (input_is w.now input p.state) ∙ told_is n) (l at p e))

  reach_led : (line at : ℕ) (input : Input) (w : World) → AsksForCall (input_of w.now input) → Keeps w (reach line at input w)
  unfolding reach
  reach_led line at input w a = reach_case line at input w (slice_get w.nodes at) refl a

  sent_case : (line at : ℕ) (came : LinkModulus) (w : World) (o : Option Placed) → slice_get w.nodes at ≡ o → Keeps w (put_of line at came o w)
  sent_case line at came w None e l = l
  sent_case line at came w (Some p) e l =
      let count : ℕ = length (frames p.state.station) in
      put_led w.nodes at p (record p { state = all_fetched_of p.state }) e l
      (led_on p (times count nodes.Fetches_frame) (all_fetched_of p.state) (times_ask count nodes.Fetches_frame tt) (fetched_is p.state) (l at p e))

  sent_led : (line at : ℕ) (came : LinkModulus) (w : World) → Keeps w (put line at came w)
  unfolding put
  sent_led line at came w = sent_case line at came w (slice_get w.nodes at) refl

  restart_case : (plan : Plan) (line at : ℕ) (pair : Pair) (w : World) (o : Option Placed) → slice_get w.nodes at ≡ o → Keeps w (restart_of plan line at pair o w)
  restart_case plan line at pair w None e l = l
  restart_case plan line at pair w (Some p) e l =
      let first : ℕ = length (ends_of p.declared.node w.told) + 1 in
      put_led w.nodes at p (record { declared = p.declared; state = started plan p.declared pair first }) e l (started_led plan p.declared pair first (l at p e).own)

  moves : (plan : Plan) → Moves plan AnyCall AnyCall AnyPair Keeps
  moves plan = record {
    still = λ w l. l;
    follows = λ u v w f g l. g (f l);
    tells = λ line es w quiet l. l;
    does = λ line at act w i. reach_led line at (worlds.Act act) w (plain_asks w.now act i);
    locks = λ line at dest alias neighbour quality w i. reach_led line at (worlds.Act (acts.Lock dest alias neighbour quality)) w tt;
    connects = λ line at dest w i. reach_led line at (worlds.Act (acts.Connect dest)) w i;
    times = λ line at w. reach_led line at Time w tt;
    broadcasts = λ line at call b w i. reach_led line at _ w tt;
    frames = λ line at place f w e. reach_led line at _ w tt;
    puts = sent_led;
    mails = λ at s w l. l;
    restarts = λ line number pair w i. restart_case plan line (place_of_node number w.nodes) pair w (slice_get w.nodes (place_of_node number w.nodes)) refl;
    settles = λ at w l. l;
    later = λ milliseconds w l. l;
  }

  pub lines_led : (plan : Plan) → IsSound plan → (done later : List NumberedInstruction) → plan.instructions ≡ done ++ later → AllLed (do_lines plan done (start plan))
  lines_led plan sound done later is =
      lines_lead plan AnyCall AnyCall AnyPair Keeps (moves plan) done (start plan)
      (every IsLine (λ (l : NumberedInstruction). LineIs AnyCall AnyCall AnyPair l.instruction) (λ l i. line_is l.instruction i) done
      (front IsLine done later (subst (AllByRecursion IsLine) is sound.instructions)))
      (λ at p e. one_of Led (new_nodes plan) at p (starts_led plan (by_number plan.declared 1 16) (own_calls plan (by_number plan.declared 1 16) sound.starts)) e)
