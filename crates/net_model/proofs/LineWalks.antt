-- What is so from one world to another, and behind one another, is so of each line where it is so of each move that lines are made of.
use Rattle.std.proofs.Common.{◌≡◌, ◌∙◌, ◌+◌, ◌-◌, ℕ, zero, suc, refl, sym, ap, List, [], ◌∷◌, length, Bool, true, false, cond, inl, inr}
use Rattle.std.specs.Prelude.{◌⊎◌, ◌&&◌, slice_get, Option, Some, None, is_some, Result, Ok, Err}
use Rattle.std.specs.Fmt.{decimal}
use Rattle.std.specs.List.{AllByRecursion}
use Rattle.radio_base.specs.declared.modulus.LinkModulus.{LinkModulus}
use Rattle.radio_base.specs.declared.modulus.LinkModulus.TheVariants.{Modulo8}
use Rattle.ax_address.specs.Callsign.{Callsign, IsCallsign}
use Rattle.ax_address.specs.declared.alias.Alias.{Alias}
use Rattle.circuit_l4.specs.declared.facts.EndFacts.{EndFacts}
use Rattle.circuit_l4.specs.declared.pair.Pair.{Pair}
use Rattle.circuit_l4.specs.Opening.{facts_of}
use Rattle.circuit_l4.specs.Table as table
use Rattle.circuit_table.specs.CircuitSets.{facts_at}
use Rattle.circuit_table.specs.declared.refusal.SetRefusal.TheVariants as set_refusal
use Rattle.circuit_table.specs.Sets as sets
use Rattle.circuit_table.specs.Sets.{Holder, end_of}
use Rattle.circuit_table.specs.Standing.{by_write, write_answer}
use Rattle.nodes_broadcast.specs.Nodes.{Broadcast, view}
use Rattle.network_file.specs.declared.plan.instructions.NumberedInstruction.{NumberedInstruction}
use Rattle.network_file.specs.declared.plan.instructions.Instruction.{Instruction}
use Rattle.network_file.specs.declared.plan.instructions.Instruction.TheVariants as instructions
use Rattle.network_file.specs.Plan.{hearers, Plan}
use Rattle.node_core.specs.Acts.{refuse, write, write_by, write_refusal, UserAct}
use Rattle.node_core.specs.Broadcasts.{broadcast_octets}
use Rattle.node_core.specs.declared.acts.ActDone.{ActDone}
use Rattle.node_core.specs.declared.acts.ActDone.TheVariants.{Done, Made, Took}
use Rattle.node_core.specs.declared.acts.ActRefusal.{ActRefusal}
use Rattle.node_core.specs.declared.acts.ActRefusal.TheVariants as refusal
use Rattle.node_core.specs.Inputs.{act_answer, moment}
use Rattle.node_model.specs.Serving.{is_served}
use Rattle.node_model.specs.States.{NodeState, State}
use Rattle.node_core.specs.Acts as acts
use Rattle.net_model.specs.declared.air.Aired.{Aired}
use Rattle.net_model.specs.declared.refusals.LineRefusal.{LineRefusal}
use Rattle.net_model.specs.World.{delivery_fault, frame_of, lost_fault, oldest, Bytes, Input, Time, World, answer, place_of_node, put, reach, tell}
use Rattle.net_model.specs.Events as events
use Rattle.net_model.specs.Events.{Event}
use Rattle.net_model.specs.Lines.{act_at, all_wrote, burst, burst_from, cut, deliver_all, deliver_at, do_act, do_line, do_lines, flow, hear, kiss_bytes, lose_at, refusal_events, restart, settle, spread, table_of, tick_from, tick_node, events_of_act, took_of, unless_refused}
use Rattle.net_model.specs.Refused.{of_act}
use Rattle.net_model.specs.Starting.{Placed}
use Rattle.net_model.specs.World as worlds
use Rattle.net_model.specs.Mailing.{ends_here, mail_at, mail_in, unless_agents, with_mail}
use Rattle.node_mail.specs.Lists.{Lists}
use Rattle.net_model.proofs.Containing.{IsQuiet}
use Rattle.net_model.proofs.Looks.{answers, burst_by, deliver_of, ends_of_placed, put_of, reaches, shown_of, spread_of, flow_by, cut_by}
use Rattle.net_model.proofs.MailWalks.{AnyCall, TurnMoves, mail_goes, post_goes, put_mails, quiet_refusal, reach_mails, turns_of, unless_agents_goes}
use Rattle.net_model.specs.SoundPlans.{IsInstruction}

-- ---- what is told of a line itself tells nothing of circuits

quiet_told : (r : Result ActDone ActRefusal) → AllByRecursion IsQuiet (events_of_act r)
quiet_told (Ok d) = tt
quiet_told (Err why) = quiet_refusal (of_act why)

quiet_took : (node end : ℕ) (r : Result ActDone ActRefusal) → AllByRecursion IsQuiet (took_of node end r)
quiet_took node end (Ok Done) = tt
quiet_took node end (Ok (Made id)) = tt
quiet_took node end (Ok (Took message)) = (tt, tt)
quiet_took node end (Err why) = quiet_refusal (of_act why)

quiet_wrote : (node end nth more : ℕ) → AllByRecursion IsQuiet (all_wrote node end nth more)
quiet_wrote node end nth zero = (tt, tt)
quiet_wrote node end nth (suc more) = tt

-- acts of which nothing is asked
abbrev pub IsPlain : UserAct → Type 0
IsPlain (acts.Lock dest alias neighbour quality) = ⊥
IsPlain (acts.Connect dest) = ⊥
IsPlain (acts.ConnectFor user dest) = ⊥
IsPlain (acts.TakeText peer) = ⊥
IsPlain (acts.SendText to text) = ⊥
IsPlain (acts.OpenLink to path) = ⊥
IsPlain (acts.CloseLink peer) = ⊥
IsPlain act = Unit {0}

-- acts that write nothing besides
abbrev pub IsMute : UserAct → Type 0
IsMute (acts.Write id message) = ⊥
IsMute act = IsPlain act

mute_plain : (act : UserAct) → IsMute act → IsPlain act
mute_plain acts.Round i = i
mute_plain (acts.LinkFail peer) i = i
mute_plain (acts.Lock dest alias neighbour quality) i = i
mute_plain (acts.Connect dest) i = i
mute_plain (acts.ConnectFor user dest) i = i
mute_plain (acts.TakeText peer) i = i
mute_plain (acts.SendText to text) i = i
mute_plain (acts.OpenLink to path) i = i
mute_plain (acts.CloseLink peer) i = i
mute_plain (acts.Write id message) i = absurd i
mute_plain (acts.Take id) i = i
mute_plain (acts.Close id) i = i

-- of an instruction: from whom a broadcast may be heard, to whom a route be locked, for which user a mail be posted, and at which pair a node start
-- again; and what is asked of it in any case
abbrev pub LineMay : (heard locks users : Callsign → Type 0) → (again : Pair → Type 0) → Instruction → Type 0
LineMay heard locks users again (instructions.Heard node call nodes) = heard call
LineMay heard locks users again (instructions.Lock node dest alias neighbour quality) = locks neighbour
LineMay heard locks users again (instructions.Open node dest) = IsCallsign dest.letters dest.ssid
LineMay heard locks users again (instructions.Restart node pair) = again (record { index = pair.index; ident = pair.ident })
LineMay heard locks users again (instructions.Post node to dest text) = users to
LineMay heard locks users again i = Unit {0}

-- nothing is asked of the pair at which a node starts again
abbrev pub AnyPair : Pair → Type 0
AnyPair pair = Unit {0}

-- for any user
abbrev pub LineIs : (heard locks : Callsign → Type 0) → (again : Pair → Type 0) → Instruction → Type 0
LineIs heard locks again i = LineMay heard locks AnyCall again i

pub line_is : (i : Instruction) → IsInstruction i → LineIs AnyCall AnyCall AnyPair i
line_is (instructions.Open node dest) i = i
line_is other i = tt

-- what is so of each move
pub record Moves (plan : Plan) (Heard_from Locks : Callsign → Type 0) (Again : Pair → Type 0) (P : World → World → Type 0) : Type 0 where
  pub still : (w : World) → P w w
  pub follows : (u v w : World) → P u v → P v w → P u w
  pub tells : (line : ℕ) (es : List Event) (w : World) → AllByRecursion IsQuiet es → P w (tell line es w)
  pub does : (line at : ℕ) (act : UserAct) (w : World) → IsPlain act → P w (reach line at (worlds.Act act) w)
  pub locks : (line at : ℕ) (dest : Callsign) (alias : Alias) (neighbour : Callsign) (quality : ℕ) (w : World) → Locks neighbour
      → P w (reach line at (worlds.Act (acts.Lock dest alias neighbour quality)) w)
  pub connects : (line at : ℕ) (dest : Callsign) (w : World) → IsCallsign dest.letters dest.ssid → P w (reach line at (worlds.Act (acts.Connect dest)) w)
  pub times : (line at : ℕ) (w : World) → P w (reach line at Time w)
  pub broadcasts : (line at : ℕ) (call : Callsign) (b : Broadcast) (w : World) → Heard_from call → P w (reach line at (Bytes (kiss_bytes (broadcast_octets call b))) w)
  pub frames : (line at place : ℕ) (f : Aired) (w : World) → slice_get w.air place ≡ Some f → P w (reach line at (Bytes (kiss_bytes f.octets.items)) w)
  pub puts : (line at : ℕ) (came : LinkModulus) (w : World) → P w (put line at came w)
  pub mails : (at : ℕ) (s : Lists) (w : World) → P w (with_mail at s w)
  pub restarts : (line number : ℕ) (pair : Pair) (w : World) → Again pair → P w (restart plan line number pair w)
  pub settles : (at : ℕ) (w : World) → P w (settle at w)
  pub later : (milliseconds : ℕ) (w : World) → P w (record w { now = w.now + milliseconds })

-- the node at a place keeps no mail, or holds no end of that number: so the agent of none writes there
abbrev pub IsFree : ℕ → ℕ → World → Type 0
IsFree at id w = (mail_at at w ≡ None) ⊎ (facts_at (end_of id (ends_here at w)) ≡ None)

-- The same of moves that are less small, where a line's own writes are at such ends, and an agent's belong to its turn.
pub record LineMoves (plan : Plan) (Heard_from Locks Users : Callsign → Type 0) (Again : Pair → Type 0) (P : World → World → Type 0) : Type 0 where
  pub turns : TurnMoves Users P
  pub does : (line at : ℕ) (act : UserAct) (w : World) → IsMute act → P w (reach line at (worlds.Act act) w)
  pub writes : (line at id : ℕ) (message : List ℕ) (w : World) → IsFree at id w → P w (reach line at (worlds.Act (acts.Write id message)) w)
  pub locks : (line at : ℕ) (dest : Callsign) (alias : Alias) (neighbour : Callsign) (quality : ℕ) (w : World) → Locks neighbour
      → P w (reach line at (worlds.Act (acts.Lock dest alias neighbour quality)) w)
  pub connects : (line at : ℕ) (dest : Callsign) (w : World) → IsCallsign dest.letters dest.ssid → P w (reach line at (worlds.Act (acts.Connect dest)) w)
  pub times : (line at : ℕ) (w : World) → P w (reach line at Time w)
  pub broadcasts : (line at : ℕ) (call : Callsign) (b : Broadcast) (w : World) → Heard_from call → P w (reach line at (Bytes (kiss_bytes (broadcast_octets call b))) w)
  pub frames : (line at place : ℕ) (f : Aired) (w : World) → slice_get w.air place ≡ Some f → P w (reach line at (Bytes (kiss_bytes f.octets.items)) w)
  pub puts : (line at : ℕ) (came : LinkModulus) (w : World) → P w (put line at came w)
  pub restarts : (line number : ℕ) (pair : Pair) (w : World) → Again pair → P w (restart plan line number pair w)
  pub settles : (at : ℕ) (w : World) → P w (settle at w)
  pub later : (milliseconds : ℕ) (w : World) → P w (record w { now = w.now + milliseconds })

lines_of : (plan : Plan) (Heard_from Locks : Callsign → Type 0) (Again : Pair → Type 0) (P : World → World → Type 0) → Moves plan Heard_from Locks Again P → LineMoves plan Heard_from Locks AnyCall Again P
lines_of plan Heard_from Locks Again P k = record {
  turns = turns_of AnyCall P (record {
    still = k.still;
    follows = k.follows;
    tells = k.tells;
    takes = λ line at id w. k.does line at (acts.Take id) w tt;
    writes = λ line at id message w. k.does line at (acts.Write id message) w tt;
    puts = λ line at w. k.puts line at Modulo8 w;
    mails = k.mails;
  });
  does = λ line at act w i. k.does line at act w (mute_plain act i);
  writes = λ line at id message w free. k.does line at (acts.Write id message) w tt;
  locks = k.locks;
  connects = k.connects;
  times = k.times;
  broadcasts = k.broadcasts;
  frames = k.frames;
  puts = k.puts;
  restarts = k.restarts;
  settles = k.settles;
  later = k.later;
}

-- ---- a write at an end that isn't held is refused

none_written : (o : Option Holder) (message : List ℕ) (act : sets.Act) (n : State) → facts_at o ≡ None → (why : ActRefusal) × ((write_by (write_answer o message) act n).answer ≡ Err why)
none_written None message act n e = (write_refusal set_refusal.NoEnd, refl)
none_written (Some h) message act n e = by h.gone refl
  where
    by : (b : Bool) → h.gone ≡ b → (why : ActRefusal) × ((write_by (write_answer (Some h) message) act n).answer ≡ Err why)
    by true g = (write_refusal set_refusal.NoEnd, ap (λ b. (write_by (cond b (Err set_refusal.NoEnd) (by_write (table.write_answer h.end message))) act n).answer) g)
    by false g = let bad : Some (facts_of h.end) ≡ None = sym (ap (λ b. cond b None (Some (facts_of h.end))) g) ∙ e in absurd (cc bad)

pub write_refused : (now id : ℕ) (message : List ℕ) (n : NodeState) → facts_at (end_of id n.station.set.set.ends) ≡ None → (why : ActRefusal) × (act_answer now (acts.Write id message) n ≡ Err why)
write_refused now id message n e =
    let st : State = n.station in
    let r = none_written (end_of id st.set.set.ends) message (sets.Calls id (sets.Writes message) (moment now)) st e in
    (r.0, ap (λ f. (cond (is_some f && is_served id st.sessions) (refuse refusal.Served st) (write (moment now) id message st)).answer) e ∙ r.1)

-- where it is done at an end that is none of an agent's, that end stays such a one
answered : (act : UserAct) (now : ℕ) (o : Option Placed) (d : ActDone) (why : (p : Placed) → o ≡ Some p → (r : ActRefusal) × (act_answer now act p.state ≡ Err r)) → answers act now o ≡ Ok d → o ≡ None
answered act now None d why e = refl
answered act now (Some p) d why e = let r = why p refl in let bad : Err r.0 ≡ Ok d = sym r.1 ∙ e in absurd (cc bad)

pub reach_none : (line at : ℕ) (x : Input) (w : World) → slice_get w.nodes at ≡ None → reach line at x w ≡ w
unfolding reach
reach_none line at x w e = ap (λ o. reaches line at x o w) e

pub put_none : (line at : ℕ) (came : LinkModulus) (w : World) → slice_get w.nodes at ≡ None → put line at came w ≡ w
unfolding put
put_none line at came w e = ap (λ o. put_of line at came o w) e

absent : (at id : ℕ) (message : List ℕ) (d : ActDone) (w : World) → facts_at (end_of id (ends_here at w)) ≡ None → answer at (acts.Write id message) w ≡ Ok d → slice_get w.nodes at ≡ None
unfolding answer
absent at id message d w none e =
    answered (acts.Write id message) w.now (slice_get w.nodes at) d (λ p here. write_refused w.now id message p.state (sym (ap (λ o. facts_at (end_of id (ends_of_placed o))) here) ∙ none)) e

still_free : (line at id : ℕ) (message : List ℕ) (es : List Event) (d : ActDone) (w : World) → IsFree at id w → answer at (acts.Write id message) w ≡ Ok d
    → IsFree at id (put line at Modulo8 (tell line es (reach line at (worlds.Act (acts.Write id message)) w)))
still_free line at id message es d w (inl none) e =
    let v : World = reach line at (worlds.Act (acts.Write id message)) w in
    inl (ap (mail_in at) (put_mails line at Modulo8 (tell line es v) ∙ reach_mails line at (worlds.Act (acts.Write id message)) w) ∙ none)
still_free line at id message es d w (inr none) e =
    let v : World = reach line at (worlds.Act (acts.Write id message)) w in
    let away : slice_get w.nodes at ≡ None = absent at id message d w none e in
    let gone : slice_get v.nodes at ≡ None = ap (λ (u : World). slice_get u.nodes at) (reach_none line at (worlds.Act (acts.Write id message)) w away) ∙ away in
    inr
    (ap (λ (u : World). facts_at (end_of id (ends_here at u))) (put_none line at Modulo8 (tell line es v) gone) ∙ ap (λ o. facts_at (end_of id (ends_of_placed o))) gone)

free_of : (m : Option Lists) (f : Option EndFacts) → (is_some m && is_some f) ≡ false → (m ≡ None) ⊎ (f ≡ None)
free_of None f e = inl refl
free_of (Some s) None e = inr refl
free_of (Some s) (Some x) e = absurd (cc e)

module _ (plan : Plan) (Heard_from Locks Users : Callsign → Type 0) (Again : Pair → Type 0) (P : World → World → Type 0) (k : LineMoves plan Heard_from Locks Users Again P) where
  stays : (w : World) → P w w
  stays = k.turns.still

  next : (u v w : World) → P u v → P v w → P u w
  next = k.turns.follows

  tells : (line : ℕ) (es : List Event) (w : World) → AllByRecursion IsQuiet es → P w (tell line es w)
  tells = k.turns.tells

  puts : (line at : ℕ) (came : LinkModulus) (w : World) → P w (put line at came w)
  puts = k.puts

  -- at an end of an agent that alone is told
  others_lead : (line node end : ℕ) (first : List Event) (done : World → World) (w : World) → AllByRecursion IsQuiet first → (IsFree (place_of_node node w.nodes) end w → P w (done w)) → P w (unless_agents line node end first done w)
  others_lead line node end first done w quiet f =
      let at : ℕ = place_of_node node w.nodes in
      unless_agents_goes Users P k.turns line node end first done w quiet (λ e. f (free_of (mail_at at w) (facts_at (end_of end (ends_here at w))) e))

  act_leads : (line at : ℕ) (act : UserAct) (told : Result ActDone ActRefusal → List Event) (w : World) → P w (reach line at (worlds.Act act) w)
      → ((r : Result ActDone ActRefusal) → AllByRecursion IsQuiet (told r)) → P w (act_at line at act told w)
  act_leads line at act told w reached quiet =
      let v : World = reach line at (worlds.Act act) w in
      let u : World = tell line (told (answer at act w)) v in
      next w v (put line at Modulo8 u) reached
      (next v u (put line at Modulo8 u) (tells line (told (answer at act w)) v (quiet (answer at act w))) (puts line at Modulo8 u))

  -- an act alone, of which nothing is asked; and that one event is told
  alone_leads : (line at : ℕ) (act : UserAct) (w : World) → IsMute act → P w (act_at line at act events_of_act w)
  alone_leads line at act w mute = act_leads line at act events_of_act w (k.does line at act w mute) quiet_told

  one_told : (line : ℕ) (e : Event) (w : World) → IsQuiet e → P w (tell line (e ∷ []) w)
  one_told line e w quiet = tells line (e ∷ []) w (quiet, tt)

  hear_leads : (line number : ℕ) (octets : List ℕ) (came : LinkModulus) (w : World) → P w (reach line (place_of_node number w.nodes) (Bytes octets) w) → P w (hear line number octets came w)
  hear_leads line number octets came w reached =
      let at : ℕ = place_of_node number w.nodes in
      let v : World = reach line at (Bytes octets) w in
      next w v (put line at came v) reached (puts line at came v)

  tick_leads : (line at : ℕ) (w : World) → P w (tick_node line at w)
  tick_leads line at w =
      let v : World = reach line at Time w in
      next w v (put line at Modulo8 v) (k.times line at w) (puts line at Modulo8 v)

  ticks_lead : (line count at : ℕ) (w : World) → P w (tick_from line at count w)
  ticks_lead line zero at w = stays w
  ticks_lead line (suc count) at w =
      let v : World = tick_node line at w in
      next w v (tick_from line (suc at) count v) (tick_leads line at w) (ticks_lead line count (suc at) v)

  burst_case : (line at node end nth more : ℕ) (r : Result ActDone ActRefusal) (v : World)
      → ((d : ActDone) → r ≡ Ok d → let u : World = put line at Modulo8 (tell line (all_wrote node end nth more) v) in P u (burst_from line at node end (nth + 1) more u))
      → P v (burst_by line at node end nth more r v)
  burst_case line at node end nth more (Ok d) v rest =
      let u : World = tell line (all_wrote node end nth more) v in
      let x : World = put line at Modulo8 u in
      let end_at : World = burst_from line at node end (nth + 1) more x in
      next v u end_at (tells line (all_wrote node end nth more) v (quiet_wrote node end nth more)) (next u x end_at (puts line at Modulo8 u) (rest d refl))
  burst_case line at node end nth more (Err why) v rest =
      let u : World = tell line (events.Wrote node end (nth - 1) ∷ refusal_events (of_act why)) v in
      next v u (put line at Modulo8 u) (tells line (events.Wrote node end (nth - 1) ∷ refusal_events (of_act why)) v (tt, quiet_refusal (of_act why))) (puts line at Modulo8 u)

  burst_leads : (line more at node end nth : ℕ) (w : World) → IsFree at end w → P w (burst_from line at node end nth more w)
  unfolding burst_from
  burst_leads line zero at node end nth w free = stays w
  burst_leads line (suc more) at node end nth w free =
      let act : UserAct = acts.Write end (decimal nth) in
      let v : World = reach line at (worlds.Act act) w in
      next w v (burst_by line at node end nth more (answer at act w) v)
      (k.writes line at end (decimal nth) w free)
      (burst_case line at node end nth more (answer at act w) v
      (λ d e. burst_leads line more at node end (nth + 1) _ (still_free line at end (decimal nth) (all_wrote node end nth more) d w free e)))

  delivered : (line at node : ℕ) (o : Option Aired) (w : World) → slice_get w.air at ≡ o → P w (deliver_of line at node o w)
  delivered line at node None w e = stays w
  delivered line at node (Some f) w e =
      let v : World = tell line (events.Delivered (at + 1) node ∷ []) w in
      next w v (hear line node (kiss_bytes f.octets.items) f.modulus v) (one_told line (events.Delivered (at + 1) node) w tt)
      (hear_leads line node (kiss_bytes f.octets.items) f.modulus v (k.frames line (place_of_node node v.nodes) at f v e))

  deliver_leads : (line at node : ℕ) (w : World) → P w (deliver_at line at node w)
  unfolding deliver_at
  deliver_leads line at node w = delivered line at node (slice_get w.air at) w refl

  unless_leads : (line : ℕ) (o : Option LineRefusal) (done w : World) → P w done → P w (unless_refused line o done w)
  unless_leads line None done w l = l
  unless_leads line (Some why) done w l = one_told line (events.Refused why) w tt

  all_leads : (line at : ℕ) (nodes : List ℕ) (w : World) → P w (deliver_all line at nodes w)
  all_leads line at [] w = stays w
  all_leads line at (node ∷ more) w =
      let v : World = deliver_at line at node w in
      next w v (deliver_all line at more v) (deliver_leads line at node w) (all_leads line at more v)

  spread_leads : (line at : ℕ) (o : Option Aired) (w : World) → P w (spread_of line at o w)
  spread_leads line at None w = stays w
  spread_leads line at (Some f) w = all_leads line at (hearers w.channels f.sender) w

  flow_case : (line count : ℕ) (w : World) (o : Option ℕ) → ((u : World) → P u (flow line count u)) → P w (flow_by line count w o)
  flow_case line count w None rest = stays w
  flow_case line count w (Some at) rest =
      let v : World = spread line at (settle at w) in
      next w v (flow line count v) (next w (settle at w) v (k.settles at w) (spread_leads line at (slice_get (settle at w).air at) (settle at w))) (rest v)

  flow_leads : (line count : ℕ) (w : World) → P w (flow line count w)
  unfolding flow
  flow_leads line zero w = stays w
  flow_leads line (suc count) w = flow_case line count w (oldest w.air) (flow_leads line count)

  lost : (line at frame : ℕ) (w : World) → P w (lose_at line at frame w)
  lost line at frame w = next w (settle at w) (lose_at line at frame w) (k.settles at w) (one_told line (events.Settled frame) (settle at w) tt)

  cut_case : (line count : ℕ) (w : World) (o : Option ℕ) → ((u : World) → P u (cut line count u)) → P w (cut_by line count w o)
  cut_case line count w None rest = stays w
  cut_case line count w (Some at) rest =
      let v : World = lose_at line at (at + 1) w in
      next w v (cut line count v) (lost line at (at + 1) w) (rest v)

  cut_leads : (line count : ℕ) (w : World) → P w (cut line count w)
  unfolding cut
  cut_leads line zero w = stays w
  cut_leads line (suc count) w = cut_case line count w (oldest w.air) (cut_leads line count)

  shows : (line : ℕ) (o : Option Placed) (w : World) → P w (shown_of line o w)
  shows line None w = stays w
  shows line (Some p) w = one_told line (events.Shown (table_of p)) w tt

  pub line_leads : (line : ℕ) (i : Instruction) (w : World) → LineMay Heard_from Locks Users Again i → P w (do_line plan line i w)
  line_leads line (instructions.Heard node call nodes) w i = hear_leads line node (kiss_bytes (broadcast_octets call (view nodes))) Modulo8 w (k.broadcasts line (place_of_node node w.nodes) call (view nodes) w i)
  line_leads line (instructions.Lock node dest alias neighbour quality) w i = act_leads line (place_of_node node w.nodes) (acts.Lock dest alias neighbour quality) events_of_act w (k.locks line (place_of_node node w.nodes) dest alias neighbour quality w i) quiet_told
  line_leads line (instructions.Show node) w i =
      shows line (slice_get w.nodes (place_of_node node w.nodes)) w
  line_leads line (instructions.Tick milliseconds) w i = (let v : World = record w { now = w.now + milliseconds } in next w v _ (k.later milliseconds w) (ticks_lead line (length w.nodes) 0 v))
  line_leads line (instructions.Restart node pair) w i = k.restarts line node (record { index = pair.index; ident = pair.ident }) w i
  line_leads line (instructions.Open node dest) w i = act_leads line (place_of_node node w.nodes) (acts.Connect dest) events_of_act w (k.connects line (place_of_node node w.nodes) dest w i) quiet_told
  line_leads line (instructions.Say node end text) w i =
      others_lead line node end [] (do_act line node (acts.Write end text) events_of_act) w tt
      (λ free. act_leads line (place_of_node node w.nodes) (acts.Write end text) events_of_act w (k.writes line (place_of_node node w.nodes) end text w free) quiet_told)
  line_leads line (instructions.Burst node end count) w i =
      others_lead line node end (events.Wrote node end 0 ∷ []) (burst line node end count) w (tt, tt) (burst_leads line count (place_of_node node w.nodes) node end 1 w)
  line_leads line (instructions.Take node end) w i =
      others_lead line node end [] (do_act line node (acts.Take end) (took_of node end)) w tt
      (λ free. act_leads line (place_of_node node w.nodes) (acts.Take end) (took_of node end) w (k.does line (place_of_node node w.nodes) (acts.Take end) w tt) (quiet_took node end))
  line_leads line (instructions.Post node to dest text) w i = post_goes Users P k.turns line node to dest text w i
  line_leads line (instructions.Mail node) w i = mail_goes Users P k.turns line node w
  line_leads line (instructions.Deliver frame node) w i =
      unless_leads line (delivery_fault w.channels node false (frame_of w.air frame)) _ w (next w (settle (frame - 1) w) _ (k.settles (frame - 1) w) (deliver_leads line (frame - 1) node (settle (frame - 1) w)))
  line_leads line (instructions.Again frame node) w i =
      unless_leads line (delivery_fault w.channels node true (frame_of w.air frame)) _ w (deliver_leads line (frame - 1) node w)
  line_leads line (instructions.Lose frame) w i = unless_leads line (lost_fault false (frame_of w.air frame)) (lose_at line (frame - 1) frame w) w (lost line (frame - 1) frame w)
  line_leads line (instructions.Flow count) w i = flow_leads line count w
  line_leads line (instructions.Cut count) w i = cut_leads line count w
  line_leads line other w i = search (alone_leads, one_told)

  pub lines_go : (ls : List NumberedInstruction) (w : World) → AllByRecursion (λ (l : NumberedInstruction). LineMay Heard_from Locks Users Again l.instruction) ls → P w (do_lines plan ls w)
  lines_go [] w all = stays w
  lines_go (l ∷ ls) w all =
      let v : World = do_line plan l.line l.instruction w in next w v (do_lines plan ls v) (line_leads l.line l.instruction w all.0) (lines_go ls v all.1)

module _ (plan : Plan) (Heard_from Locks : Callsign → Type 0) (Again : Pair → Type 0) (P : World → World → Type 0) (k : Moves plan Heard_from Locks Again P) where
  pub lines_lead : (ls : List NumberedInstruction) (w : World) → AllByRecursion (λ (l : NumberedInstruction). LineIs Heard_from Locks Again l.instruction) ls → P w (do_lines plan ls w)
  lines_lead ls w all = lines_go plan Heard_from Locks AnyCall Again P (lines_of plan Heard_from Locks Again P k) ls w all
