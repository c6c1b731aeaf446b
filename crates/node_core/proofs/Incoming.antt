-- What comes to a node changes no session by itself, nor does time, an act, or a text that is dropped.
use Rattle.std.proofs.Common.{◌≡◌, ℕ, refl, List, [], ◌∷◌}
use Rattle.std.specs.Prelude.{Bool, true, false, ◌&&◌, ◌==◌, nat_le, nat_lt, if◌then◌else◌, Option, Some, None, Result, Ok, Err}
use Rattle.arrayvec.specs.ArrayVec.{ArrayVec}
use Rattle.ax_address.specs.declared.address.Address.{Address}
use Rattle.ax_address.specs.Callsign.{Callsign, same_call}
use Rattle.ax_frame.specs.declared.head.Head.{Head}
use Rattle.ax_frame.specs.declared.frame.FrameRefusal.{FrameRefusal}
use Rattle.ax_frame.specs.Frames.{Frame, read_head_at, read_at}
use Rattle.circuit_table.specs.Pumps.{connect_answer}
use Rattle.circuit_table.specs.Sets as sets
use Rattle.circuit_table.specs.Standing as answers
use Rattle.circuit_table.specs.declared.refusal.ConnectRefusal.{ConnectRefusal}
use Rattle.circuit_table.specs.declared.refusal.SetRefusal.{SetRefusal}
use Rattle.digi_path.specs.Paths.{Action, For_me, Repeat, Not_yet, Heard}
use Rattle.kiss_framing.specs.Stream as kiss
use Rattle.link_table.specs.declared.open_refusal.OpenRefusal.{OpenRefusal}
use Rattle.link_table.specs.declared.text_refusal.TextRefusal.{TextRefusal}
use Rattle.link_table.specs.declared.written.Written.{Written}
use Rattle.nodes_broadcast.specs.declared.nodes.NodesRefusal.{NodesRefusal}
use Rattle.nodes_broadcast.specs.Nodes.{Broadcast, nodes_at}
use Rattle.route_table.specs.Log as logs
use Rattle.route_table.specs.Log.{Item}
use Rattle.route_table.specs.Table.{to_broadcast}
use Rattle.node_core.specs.Acts as acts
use Rattle.node_core.specs.Acts.{Answered, UserAct}
use Rattle.node_core.specs.declared.acts.ActRefusal.TheVariants as refusal
use Rattle.node_core.specs.Broadcasts as rounds
use Rattle.node_core.specs.Broadcasts.{is_broadcast, round_frames}
use Rattle.node_core.specs.Receiving as receiving
use Rattle.node_model.specs.Links as links
use Rattle.node_model.specs.Serving as serving
use Rattle.node_model.specs.States.{State, at_links, at_set, next_hop, put, with_items}
use Rattle.node_model.proofs.Turns.{kept}

-- ---- what comes in changes no session

either : (n x y : State) (b : Bool) → x.sessions ≡ n.sessions → y.sessions ≡ n.sessions → (if b then x else y).sessions ≡ n.sessions
either n x y true e f = e
either n x y false e f = f

taken_in : (items : List Item) (n : State) → (receiving.take_in items n).sessions ≡ n.sessions
taken_in items n = either n (with_items items n) _ (receiving.has_room items n) refl refl

heard : (source : Callsign) (b : Result Broadcast NodesRefusal) (n : State) → (receiving.hear source b n).sessions ≡ n.sessions
heard source (Ok b) n = taken_in (logs.broadcast n.settings.call source b.alias (receiving.quality_to source n) b.entries) n
heard source (Err e) n = refl

framed : (now : ℕ) (mine : Bool) (r : Result Frame FrameRefusal) (n : State) → (receiving.take_frame now mine r n).sessions ≡ n.sessions
framed now mine (Err e) n = refl
framed now mine (Ok x) n = either n _ _ (is_broadcast x) (heard x.head.source.call (nodes_at x.info) n) (either n (at_links (links.arrive x now) n) n mine refl refl)

by_path : (now : ℕ) (octets : List ℕ) (h : Head) (a : Action) (n : State) → (receiving.take_by_path now octets h a n).sessions ≡ n.sessions
by_path now octets h (Repeat path) n = refl
by_path now octets h Not_yet n = refl
by_path now octets h For_me n = framed now true (read_at (receiving.modulus_with h.source.call n) octets) n
by_path now octets h Heard n = framed now false (read_at (receiving.modulus_with h.source.call n) octets) n

headed : (now : ℕ) (octets : List ℕ) (h : Result (Head × ℕ) FrameRefusal) (n : State) → (receiving.take_head now octets h n).sessions ≡ n.sessions
headed now octets (Err e) n = refl
headed now octets (Ok h) n = either n n _ (same_call h.0.source.call n.settings.call) refl (by_path now octets h.0 _ n)

pub item_stays : (now : ℕ) (item : kiss.Item) (n : State) → (receiving.take_item now item n).sessions ≡ n.sessions
item_stays now (kiss.Frame port command payload) n = either n _ n ((port == 0) && (command == 0)) (headed now payload (read_head_at payload) n) refl
item_stays now kiss.Too_long n = refl

-- ---- nor does time

frames_stay : (fs : List Written) (n : State) → (rounds.put_all fs n).sessions ≡ n.sessions
frames_stay [] n = refl
frames_stay (x ∷ fs) n = frames_stay fs (put x n)

round_stays : (n : State) → (rounds.do_round n).sessions ≡ n.sessions
round_stays n = let m : State = with_items (logs.Round ∷ []) n in frames_stay (round_frames m.settings.call m.settings.alias (to_broadcast m.settings.rules m.log)) m

due_stays : (now : ℕ) (due : Option ℕ) (n : State) → (rounds.round_by now due n).sessions ≡ n.sessions
due_stays now None n = refl
due_stays now (Some due) n = either n _ n (nat_le due now) (round_stays n) refl

pub tick_stays : (now : ℕ) (n : State) → (rounds.tick now n).sessions ≡ n.sessions
tick_stays now n =
    let m : State = at_set (links.ticks now) (at_links (links.tick_links now) n) in
    either n m _ (m.settings.interval == 0) refl (due_stays now m.next_round m)

-- ---- nor does an act

answered : (n : State) (x y : Answered) (b : Bool) → x.node.sessions ≡ n.sessions → y.node.sessions ≡ n.sessions → (if b then x else y).node.sessions ≡ n.sessions
answered n x y true e f = e
answered n x y false e f = f

locked : (dest : Callsign) (item : Item) (quality : ℕ) (n : State) → (acts.lock dest item quality n).node.sessions ≡ n.sessions
locked dest item quality n =
    answered n _ _ (same_call dest n.settings.call) refl
    (answered n _ _ (nat_lt quality n.settings.rules.minq) refl (answered n (acts.answer_done (with_items (item ∷ []) n)) _ (receiving.has_room (item ∷ []) n) refl refl))

connected : (r : Result ℕ ConnectRefusal) (a : sets.Act) (n : State) → (acts.connect_by r a n).node.sessions ≡ n.sessions
connected (Ok id) a n = refl
connected (Err why) a n = refl

wrote : (r : Result (Unit {0}) SetRefusal) (a : sets.Act) (n : State) → (acts.write_by r a n).node.sessions ≡ n.sessions
wrote (Ok _) a n = refl
wrote (Err why) a n = refl

sent : (r : Result (Unit {0}) TextRefusal) (now : ℕ) (to : Callsign) (text : List ℕ) (n : State) → (acts.send_by r now to text n).node.sessions ≡ n.sessions
sent (Ok _) now to text n = refl
sent (Err why) now to text n = refl

opened : (r : Result (Unit {0}) OpenRefusal) (now : ℕ) (to : Callsign) (path : ArrayVec Address) (n : State) → (acts.open_by r now to path n).node.sessions ≡ n.sessions
opened (Ok _) now to path n = refl
opened (Err why) now to path n = refl

pub act_stays : (now : ℕ) (act : UserAct) (n : State) → (acts.do_act now act n).node.sessions ≡ n.sessions
act_stays now acts.Round n = round_stays n
act_stays now (acts.LinkFail peer) n = refl
act_stays now (acts.Lock dest alias neighbour quality) n = locked dest (logs.Lock dest alias neighbour quality) quality n
act_stays now (acts.Connect dest) n = connected (connect_answer (next_hop n) dest n.set.set) (sets.Connect dest now) n
act_stays now (acts.ConnectFor user dest) n = connected (connect_answer (next_hop n) dest n.set.set) (sets.ConnectFor user dest now) n
act_stays now (acts.Write id message) n =
    answered n (acts.refuse refusal.Served n) _ (acts.is_kept id n) refl (wrote (answers.write_answer (sets.end_of id n.set.set.ends) message) (sets.Calls id (sets.Writes message) now) n)
act_stays now (acts.Take id) n = answered n (acts.refuse refusal.Served n) _ (acts.is_kept id n) refl refl
act_stays now (acts.Close id) n = answered n (acts.refuse refusal.Served n) _ (acts.is_kept id n) refl refl
act_stays now (acts.TakeText peer) n = answered n (acts.take_text now peer n) _ n.settings.hosts refl refl
act_stays now (acts.SendText to text) n = answered n (acts.send_text now to text n) _ n.settings.hosts (sent (links.text_answer to text n.links) now to text n) refl
act_stays now (acts.OpenLink to path) n = answered n (acts.open_link now to path n) _ n.settings.hosts (opened (links.open_answer to path n.links) now to path n) refl
act_stays now (acts.CloseLink peer) n = answered n (acts.close_link now peer n) _ n.settings.hosts refl refl

-- ---- nor do texts that are dropped

pub texts_stay : (now : ℕ) (n : State) → (serving.drop_texts now n).sessions ≡ n.sessions
texts_stay now n = kept (serving.drop_text now) serving.payloads (λ m. m.sessions ≡ n.sessions) (λ m e. by m (serving.dropped_peers m) e) n refl
  where
    by : (m : State) (peers : List Callsign) → m.sessions ≡ n.sessions → (serving.drop_first now peers m).after.sessions ≡ n.sessions
    by m [] e = e
    by m (peer ∷ peers) e = e
