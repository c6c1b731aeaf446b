-- The frames in the air only become more.
use Rattle.std.proofs.Common.{◌≡◌, ◌<◌, ◌≤◌, ◌+◌, ◌-◌, ◌++◌, ℕ, zero, suc, refl, ap, ◌∙◌, List, [], ◌∷◌, length, filter, arith, add-one, Bool, true, false, cond}
use Rattle.std.specs.Prelude.{Option, Some, None, Result, Ok, Err, slice_get}
use Rattle.std.specs.Fmt.{decimal}
use Rattle.std.specs.List.{AllByRecursion, range_with_len}
use Rattle.std.proofs.lemmas.List.{length-append}
use Rattle.radio_base.specs.declared.modulus.LinkModulus.{LinkModulus}
use Rattle.radio_base.specs.declared.modulus.LinkModulus.TheVariants.{Modulo8}
use Rattle.circuit_l4.specs.declared.pair.Pair.{Pair}
use Rattle.network_file.specs.Plan.{hearers, Plan}
use Rattle.network_file.specs.declared.plan.instructions.NumberedInstruction.{NumberedInstruction}
use Rattle.network_file.specs.declared.plan.instructions.Instruction.{Instruction}
use Rattle.network_file.specs.declared.plan.instructions.Instruction.TheVariants as instructions
use Rattle.node_core.specs.declared.acts.ActDone.{ActDone}
use Rattle.node_core.specs.declared.acts.ActRefusal.{ActRefusal}
use Rattle.node_core.specs.Acts.{UserAct}
use Rattle.node_core.specs.Acts as acts
use Rattle.net_model.specs.declared.air.Aired.{Aired}
use Rattle.net_model.specs.World.{oldest, settled_at, Act, Bytes, Input, Time, World, aired, answer, place_of_node, put, reach, tell}
use Rattle.net_model.specs.SoundPlans.{IsLine}
use Rattle.net_model.specs.Events.{Delivered, Event, Wrote}
use Rattle.net_model.specs.Lines.{all_wrote, burst_from, cut, deliver_all, deliver_at, do_act, do_line, do_lines, flow, hear, kiss_bytes, lose_at, refusal_events, settle, spread, tick_from, tick_node, events_of_act}
use Rattle.net_model.specs.Refused.{of_act}
use Rattle.net_model.specs.Starting.{Placed}
use Rattle.net_model.proofs.Looks.{burst_by, deliver_of, put_of, reaches, restart_of, spread_of, flow_by, cut_by}
use Rattle.net_model.proofs.LineWalks.{LineMoves, line_leads, AnyPair}
use Rattle.net_model.proofs.MailWalks.{AgentMoves, AnyCall, turns_of}
use Rattle.net_model.proofs.Oldest.{length-settled_at}

-- ---- the moves

reaches_stays : (line at : ℕ) (input : Input) (o : Option Placed) (w : World) → (reaches line at input o w).air ≡ w.air
reaches_stays line at input None w = refl
reaches_stays line at input (Some p) w = refl

pub reach_stays : (line at : ℕ) (input : Input) (w : World) → (reach line at input w).air ≡ w.air
unfolding reach
reach_stays line at input w = reaches_stays line at input (slice_get w.nodes at) w

put_of_grows : (line at : ℕ) (came : LinkModulus) (o : Option Placed) (w : World) → length w.air ≤ length (put_of line at came o w).air
put_of_grows line at came None w = omega arith
put_of_grows line at came (Some p) w = omega (arith, length-append w.air (aired w.channels came p))

pub put_grows : (line at : ℕ) (came : LinkModulus) (w : World) → length w.air ≤ length (put line at came w).air
unfolding put
put_grows line at came w = put_of_grows line at came (slice_get w.nodes at) w

-- something reaches a node, something is told, and its frames are put in the air
reach_put : (line at : ℕ) (input : Input) (came : LinkModulus) (w v : World) → v.air ≡ (reach line at input w).air
    → length w.air ≤ length (put line at came v).air
reach_put line at input came w v same =
    let air : v.air ≡ w.air = same ∙ reach_stays line at input w in
    let more = put_grows line at came v in
    let count = ap (λ (air : List Aired). length air) air in
    omega (arith, more, count)

-- ---- lines at one node

hear_grows : (line number : ℕ) (bytes : List ℕ) (modulus : LinkModulus) (w : World) → length w.air ≤ length (hear line number bytes modulus w).air
hear_grows line number bytes modulus w =
    reach_put line (place_of_node number w.nodes) (Bytes bytes) modulus w (reach line (place_of_node number w.nodes) (Bytes bytes) w) refl

act_grows : (line number : ℕ) (act : UserAct) (told : Result ActDone ActRefusal → List Event) (w : World)
    → length w.air ≤ length (do_act line number act told w).air
act_grows line number act told w = reach_put line (place_of_node number w.nodes) (Act act) Modulo8 w _ refl

pub tick_node_grows : (line at : ℕ) (w : World) → length w.air ≤ length (tick_node line at w).air
tick_node_grows line at w = reach_put line at Time Modulo8 w (reach line at Time w) refl

pub ticks_grow : (line at count : ℕ) (w : World) → length w.air ≤ length (tick_from line at count w).air
ticks_grow line at zero w = omega arith
ticks_grow line at (suc count) w =
    let first = tick_node_grows line at w in
    let more = ticks_grow line (suc at) count (tick_node line at w) in
    omega (arith, first, more)

burst_by_grows : (line at node end nth more : ℕ) (r : Result ActDone ActRefusal) (w v : World)
    → ((u : World) → length u.air ≤ length (burst_from line at node end (nth + 1) more u).air) → v.air ≡ w.air → length w.air ≤ length (burst_by line at node end nth more r v).air
burst_by_grows line at node end nth more (Ok _) w v grows same =
    let u : World = tell line (all_wrote node end nth more) v in
    let first = put_grows line at Modulo8 u in
    let rest = grows (put line at Modulo8 u) in
    let count = ap (λ (air : List Aired). length air) same in
    omega (arith, first, rest, count)
burst_by_grows line at node end nth more (Err why) w v grows same =
    let first = put_grows line at Modulo8 (tell line (Wrote node end (nth - 1) ∷ refusal_events (of_act why)) v) in
    let count = ap (λ (air : List Aired). length air) same in
    omega (arith, first, count)

pub burst_grows : (line at node end nth more : ℕ) (w : World) → length w.air ≤ length (burst_from line at node end nth more w).air
unfolding burst_from
burst_grows line at node end nth zero w = omega arith
burst_grows line at node end nth (suc more) w =
    let act : UserAct = acts.Write end (decimal nth) in
    burst_by_grows line at node end nth more (answer at act w) w (reach line at (Act act) w)
    (burst_grows line at node end (nth + 1) more) (reach_stays line at (Act act) w)

restart_grows : (plan : Plan) (line at : ℕ) (pair : Pair) (o : Option Placed) (w : World) → length w.air ≤ length (restart_of plan line at pair o w).air
restart_grows plan line at pair None w = omega arith
restart_grows plan line at pair (Some p) w = omega arith

-- ---- lines on frames

deliver_of_grows : (line at node : ℕ) (f : Option Aired) (w : World) → length w.air ≤ length (deliver_of line at node f w).air
deliver_of_grows line at node None w = omega arith
deliver_of_grows line at node (Some f) w = hear_grows line node (kiss_bytes f.octets.items) f.modulus (tell line (Delivered (at + 1) node ∷ []) w)

pub deliver_grows : (line at node : ℕ) (w : World) → length w.air ≤ length (deliver_at line at node w).air
unfolding deliver_at
deliver_grows line at node w = deliver_of_grows line at node (slice_get w.air at) w

pub all_grows : (line at : ℕ) (nodes : List ℕ) (w : World) → length w.air ≤ length (deliver_all line at nodes w).air
all_grows line at [] w = omega arith
all_grows line at (node ∷ more) w =
    let first = deliver_grows line at node w in
    let rest = all_grows line at more (deliver_at line at node w) in
    omega (arith, first, rest)

spread_of_grows : (line at : ℕ) (f : Option Aired) (w : World) → length w.air ≤ length (spread_of line at f w).air
spread_of_grows line at None w = omega arith
spread_of_grows line at (Some f) w = all_grows line at (hearers w.channels f.sender) w

-- the oldest is settled, and goes where it goes
settle_spread : (line at : ℕ) (w : World) → length w.air ≤ length (spread line at (settle at w)).air
settle_spread line at w =
    let more = spread_of_grows line at (slice_get (settled_at at w.air) at) (settle at w) in
    omega (arith, length-settled_at w.air at, more)

flow_from_grows : (line count : ℕ) (w : World) (o : Option ℕ) → ((v : World) → length v.air ≤ length (flow line count v).air)
    → length w.air ≤ length (flow_by line count w o).air
flow_from_grows line count w None rest = omega arith
flow_from_grows line count w (Some at) rest =
    let first = settle_spread line at w in
    let more = rest (spread line at (settle at w)) in
    omega (arith, first, more)

pub flow_grows : (line count : ℕ) (w : World) → length w.air ≤ length (flow line count w).air
unfolding flow
flow_grows line zero w = omega arith
flow_grows line (suc count) w = flow_from_grows line count w (oldest w.air) (flow_grows line count)

-- ---- mail

-- the second world has at least as many frames in the air
abbrev pub Grows : World → World → Type 0
Grows w v = length w.air ≤ length v.air

pub grown : AgentMoves Grows
grown = record {
  still = λ w. omega arith;
  follows = λ u v w f g. omega (arith, f, g);
  tells = λ line es w q. omega arith;
  takes = λ line at id w. (let count = ap (λ (air : List Aired). length air) (reach_stays line at (Act (acts.Take id)) w) in omega (arith, count));
  writes = λ line at id message w. (let count = ap (λ (air : List Aired). length air) (reach_stays line at (Act (acts.Write id message)) w) in omega (arith, count));
  puts = λ line at w. put_grows line at Modulo8 w;
  mails = λ at s w. omega arith;
}

-- ---- each kind of line, as each move lets them grow

reach_grows : (line at : ℕ) (input : Input) (w : World) → Grows w (reach line at input w)
reach_grows line at input w = let count = ap (λ (air : List Aired). length air) (reach_stays line at input w) in omega (arith, count)

growing : (plan : Plan) → LineMoves plan AnyCall AnyCall AnyCall AnyPair Grows
growing plan = record {
  turns = turns_of AnyCall Grows grown;
  does = λ line at act w i. reach_grows line at (Act act) w;
  writes = λ line at id message w free. reach_grows line at (Act (acts.Write id message)) w;
  locks = λ line at dest alias neighbour quality w i. reach_grows line at (Act (acts.Lock dest alias neighbour quality)) w;
  connects = λ line at dest w i. reach_grows line at (Act (acts.Connect dest)) w;
  times = λ line at w. reach_grows line at Time w;
  broadcasts = λ line at call b w i. reach_grows line at _ w;
  frames = λ line at place f w e. reach_grows line at _ w;
  puts = put_grows;
  restarts = λ line number pair w i. restart_grows plan line (place_of_node number w.nodes) pair (slice_get w.nodes (place_of_node number w.nodes)) w;
  settles = λ at w. omega (arith, length-settled_at w.air at);
  later = λ milliseconds w. omega arith;
}

line_grows : (plan : Plan) (line : ℕ) (instruction : Instruction) (w : World) → Grows w (do_line plan line instruction w)
line_grows plan line (instructions.Open node dest) w = act_grows line node (acts.Connect dest) events_of_act w
line_grows plan line other w = line_leads plan AnyCall AnyCall AnyCall AnyPair Grows (growing plan) line other w tt

pub lines_grow : (plan : Plan) (ls : List NumberedInstruction) (w : World) → length w.air ≤ length (do_lines plan ls w).air
lines_grow plan [] w = omega arith
lines_grow plan (l ∷ ls) w =
    let first = line_grows plan l.line l.instruction w in
    let rest = lines_grow plan ls (do_line plan l.line l.instruction w) in
    omega (arith, first, rest)

-- ---- one step more

pub flow_one : (line count at : ℕ) (w : World) → oldest w.air ≡ Some at
    → flow line (suc count) w ≡ flow line count (spread line at (settle at w))
unfolding flow
flow_one line count at w e = ap (flow_by line count w) e

pub flow_none : (line count : ℕ) (w : World) → oldest w.air ≡ None → flow line count w ≡ w
unfolding flow
flow_none line zero w e = refl
flow_none line (suc count) w e = ap (flow_by line count w) e

pub cut_one : (line count at : ℕ) (w : World) → oldest w.air ≡ Some at → cut line (suc count) w ≡ cut line count (lose_at line at (at + 1) w)
unfolding cut
cut_one line count at w e = ap (cut_by line count w) e

pub cut_none : (line count : ℕ) (w : World) → oldest w.air ≡ None → cut line count w ≡ w
unfolding cut
cut_none line zero w e = refl
cut_none line (suc count) w e = ap (cut_by line count w) e

all_case : (line at n : ℕ) (others : List ℕ) (w : World) (b : Bool)
    → deliver_all line at (cond b (n ∷ others) others) w ≡ deliver_all line at others (deliver_all line at (cond b (n ∷ []) []) w)
all_case line at n others w true = refl
all_case line at n others w false = refl

pub all_next : (line at n : ℕ) (p : ℕ → Bool) (w : World) → n < 17
    → deliver_all line at (filter p (range_with_len n (17 - n))) w
    ≡ deliver_all line at (filter p (range_with_len (n + 1) (17 - (n + 1)))) (deliver_all line at (filter p (n ∷ [])) w)
all_next line at n p w h =
    let left : 17 - n ≡ suc (17 - (n + 1)) = omega arith in
    rw left (all_case line at n (filter p (range_with_len (n + 1) (17 - (n + 1)))) w (p n))

pub cut_end : (line n : ℕ) (w : World) → n ≡ 0 → cut line n w ≡ w
unfolding cut
cut_end line n w e = ap (λ k. cut line k w) e

pub flow_end : (line n : ℕ) (w : World) → n ≡ 0 → flow line n w ≡ w
unfolding flow
flow_end line n w e = ap (λ k. flow line k w) e

pub burst_end : (line at node end nth n : ℕ) (w : World) → n ≡ 0 → burst_from line at node end nth n w ≡ w
unfolding burst_from
burst_end line at node end nth n w e = ap (λ k. burst_from line at node end nth k w) e

pub tick_next : (line at count : ℕ) (w : World) → at < count
    → tick_from line at (count - at) w ≡ tick_from line (at + 1) (count - (at + 1)) (tick_node line at w)
tick_next line at count w h = let left : count - at ≡ suc (count - (at + 1)) = omega arith in rw (left, add-one) refl

pub tick_end : (line at n : ℕ) (w : World) → n ≡ 0 → tick_from line at n w ≡ w
tick_end line at n w e = ap (λ k. tick_from line at k w) e

pub line_behind : (ls : List NumberedInstruction) (l : NumberedInstruction) → AllByRecursion IsLine ls → IsLine l → AllByRecursion IsLine (ls ++ l ∷ [])
line_behind [] l all one = (one, tt)
line_behind (m ∷ ls) l all one = (all.0, line_behind ls l all.1 one)
