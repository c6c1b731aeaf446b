-- What is so from one state of a node to another, and behind one another, is so of each input where it is so of each thing that it is made of.
use Rattle.std.proofs.Common.{◌≡◌, ℕ, refl, List, [], ◌∷◌}
use Rattle.std.specs.Prelude.{Bool, true, false, if◌then◌else◌, ◌+◌, ◌==◌, nat_lt, nat_le, Option, Some, None, Result, Ok, Err}
use Rattle.arrayvec.specs.ArrayVec.{ArrayVec}
use Rattle.ax_address.specs.declared.address.Address.{Address}
use Rattle.link_table.specs.Reaching.{IsWay}
use Rattle.ax_address.specs.Callsign.{Callsign, IsCallsign, same_call, ReadsCallTexts}
use Rattle.circuit_table.specs.declared.refusal.ConnectRefusal.{ConnectRefusal}
use Rattle.circuit_table.specs.declared.refusal.SetRefusal.{SetRefusal}
use Rattle.circuit_table.specs.Pumps.{connect_answer}
use Rattle.circuit_table.specs.Sets as sets
use Rattle.circuit_table.specs.Sets.{Act}
use Rattle.circuit_table.specs.Standing.{write_answer}
use Rattle.link_table.specs.declared.open_refusal.OpenRefusal.{OpenRefusal}
use Rattle.link_table.specs.declared.text_refusal.TextRefusal.{TextRefusal}
use Rattle.route_table.specs.Log as logs
use Rattle.route_table.specs.Log.{Item}
use Rattle.node_core.specs.Acts as acts
use Rattle.node_core.specs.Acts.{Answered, UserAct}
use Rattle.node_model.specs.Links as links
use Rattle.node_model.specs.Pumping as p
use Rattle.node_core.specs.Receiving as receiving
use Rattle.node_core.specs.Broadcasts as rounds
use Rattle.node_core.specs.Runs.{IsUserAct, write_in}
use Rattle.node_model.specs.Serving.{serve_sessions}
use Rattle.node_model.specs.Serving as s
use Rattle.node_model.specs.States.{State, at_links, at_set, next_hop, with_items}
use Rattle.node_core.proofs.Served.{IsAsking, Serves, served_on}
use Rattle.node_core.specs.Inputs.{after_input, turns_settle}
use Rattle.node_model.proofs.Turns.{kept, settled_kept}

-- beside what is done for users: the notices of the links, rounds, time that passes, locks, and links that fail
pub record Others (P : State → State → Type 0) (Q : Item → Type 0) : Type 0 where
  pub notices : (n : State) → P n (s.enter_notices n)
  pub rounds : (n : State) → P n (rounds.do_round n)
  pub next_round : (due : Option ℕ) (n : State) → P n (record n { next_round = due })
  pub ticks : (now : ℕ) (n : State) → P n (at_set (links.ticks now) (at_links (links.tick_links now) n))
  pub items : (item : Item) (n : State) → Q item → P n (with_items (item ∷ []) n)
  pub fails : (peer : Callsign) (n : State) → P n (acts.fail_link peer n)
  pub opens : (peer : Callsign) (path : ArrayVec Address) (now : ℕ) (n : State) → IsCallsign peer.letters peer.ssid → IsWay path → P n (at_links (links.open_link peer path now) n)

-- all that inputs are made of
pub record Walks (P : State → State → Type 0) (Q : Item → Type 0) : Type 0 where
  pub serves : Serves P
  pub others : Others P Q

-- all but what users are served with, and what a user writes
pub record Parts (P : State → State → Type 0) (Q : Item → Type 0) : Type 0 where
  pub still : (n : State) → P n n
  pub follows : (a b c : State) → P a b → P b c → P a c
  pub asks : (a : Act) (n : State) → IsAsking a → write_in a ≡ [] → P n (at_set (links.acts a) n)
  pub pumps : (now : ℕ) (n : State) → P n (p.pump now n)
  pub takes_text : (peer : Callsign) (now : ℕ) (n : State) → P n (at_links (links.take_text peer now) n)
  pub sends_text : (peer : Callsign) (text : List ℕ) (now : ℕ) (n : State) → P n (at_links (links.send_text peer text now) n)
  pub closes_link : (peer : Callsign) (now : ℕ) (n : State) → P n (at_links (links.close peer now) n)
  pub others : Others P Q

-- what users are served with, where they are served
abbrev pub ServesSo : (State → State → Type 0) → Type 0
ServesSo P = (now : ℕ) (n : State) → n.settings.prompt ≡ true → P n (serve_sessions now n).after

-- what a user writes
abbrev pub WritesSo : (State → State → Type 0) → ℕ → UserAct → Type 0
WritesSo P now (acts.Write id message) = (n : State) → P n (at_set (links.acts (sets.Calls id (sets.Writes message) now)) n)
WritesSo P now _ = Unit {0}

-- what is locked has the one property
abbrev pub LocksBy : (Item → Type 0) → UserAct → Type 0
LocksBy Q (acts.Lock dest alias neighbour quality) = Q (logs.Lock dest alias neighbour quality)
LocksBy Q _ = Unit {0}

module _ (P : State → State → Type 0) (Q : Item → Type 0) (w : Parts P Q) where
  either : (n x y : State) (b : Bool) → P n x → P n y → P n (if b then x else y)
  either n x y true f g = f
  either n x y false f g = g

  -- ---- the settling

  drop_on : (now : ℕ) (o n : State) (peers : List Callsign) → P o n → P o (s.drop_first now peers n).after
  drop_on now o n [] x = x
  drop_on now o n (peer ∷ peers) x = w.follows o n (at_links (links.take_text peer now) n) x (w.takes_text peer now n)

  dropped_on : (now : ℕ) (n : State) → P n (s.drop_texts now n)
  dropped_on now n = kept (s.drop_text now) s.payloads (P n) (λ m x. drop_on now n m (s.dropped_peers m) x) n (w.still n)

  users_by : ServesSo P → (now : ℕ) (n : State) (b : Bool) → n.settings.prompt ≡ b → P n (if b then serve_sessions now n else s.drop_turn now n).after
  users_by served now n true e = served now n e
  users_by served now n false e = dropped_on now n

  pub turn_by : ServesSo P → (now : ℕ) (n : State) → P n (s.turn now n).after
  turn_by served now n =
      let a : State = s.enter_notices n in
      let b : State = p.pump now a in
      w.follows n b (s.serve_users now b).after (w.follows n a b (w.others.notices n) (w.pumps now a)) (users_by served now b b.settings.prompt refl)

  pub settled_by : ServesSo P → (now : ℕ) (n : State) → P n (after_input now n)
  unfolding after_input
  settled_by served now n = settled_kept (s.turn now) (turns_settle now) (P n) (λ m x. w.follows n m (s.turn now m).after x (turn_by served now m)) n (w.still n)

  -- ---- ticks

  due_on : (now : ℕ) (due : Option ℕ) (n : State) → P n (rounds.round_by now due n)
  due_on now None n = w.others.next_round (Some (now + n.settings.interval)) n
  due_on now (Some due) n =
      let m : State = rounds.do_round n in
      either n _ _ (nat_le due now) (w.follows n m _ (w.others.rounds n) (w.others.next_round (Some (now + m.settings.interval)) m)) (w.still n)

  pub tick_by : (now : ℕ) (n : State) → P n (rounds.tick now n)
  tick_by now n =
      let m : State = at_set (links.ticks now) (at_links (links.tick_links now) n) in
      w.follows n m _ (w.others.ticks now n) (either m m _ (m.settings.interval == 0) (w.still m) (due_on now m.next_round m))

  -- ---- acts

  either_node : (n : State) (x y : Answered) (b : Bool) → P n x.node → P n y.node → P n (if b then x else y).node
  either_node n x y true f g = f
  either_node n x y false f g = g

  lock_on : (dest : Callsign) (item : Item) (quality : ℕ) (n : State) → Q item → P n (acts.lock dest item quality n).node
  lock_on dest item quality n q =
      either_node n _ _ (same_call dest n.settings.call) (w.still n)
      (either_node n _ _ (nat_lt quality n.settings.rules.minq) (w.still n) (either_node n _ _ (receiving.has_room (item ∷ []) n) (w.others.items item n q) (w.still n)))

  connect_on : (r : Result ℕ ConnectRefusal) (a : Act) (n : State) → IsAsking a → write_in a ≡ [] → P n (acts.connect_by r a n).node
  connect_on (Ok id) a n i e = w.asks a n i e
  connect_on (Err why) a n i e = w.still n

  write_on : (r : Result (Unit {0}) SetRefusal) (a : Act) (n : State) → P n (at_set (links.acts a) n) → P n (acts.write_by r a n).node
  write_on (Ok _) a n x = x
  write_on (Err why) a n x = w.still n

  send_on : (r : Result (Unit {0}) TextRefusal) (now : ℕ) (to : Callsign) (text : List ℕ) (n : State) → P n (acts.send_by r now to text n).node
  send_on (Ok _) now to text n = w.sends_text to text now n
  send_on (Err why) now to text n = w.still n

  open_on : (r : Result (Unit {0}) OpenRefusal) (now : ℕ) (to : Callsign) (path : ArrayVec Address) (n : State) → IsUserAct (acts.OpenLink to path) → P n (acts.open_by r now to path n).node
  open_on (Ok _) now to path n i = w.others.opens to path now n i.0 i.1
  open_on (Err why) now to path n i = w.still n

  pub do_by : (now : ℕ) (act : UserAct) (n : State) → IsUserAct act → LocksBy Q act → WritesSo P now act → P n (acts.do_act now act n).node
  do_by now acts.Round n i q x = w.others.rounds n
  do_by now (acts.LinkFail peer) n i q x = w.others.fails peer n
  do_by now (acts.Lock dest alias neighbour quality) n i q x = lock_on dest (logs.Lock dest alias neighbour quality) quality n q
  do_by now (acts.Connect dest) n i q x = connect_on (connect_answer (next_hop n) dest n.set.set) (sets.Connect dest now) n i refl
  do_by now (acts.ConnectFor user dest) n i q x = connect_on (connect_answer (next_hop n) dest n.set.set) (sets.ConnectFor user dest now) n i refl
  do_by now (acts.Write id message) n i q x =
      either_node n _ _ (acts.is_kept id n) (w.still n) (write_on (write_answer (sets.end_of id n.set.set.ends) message) (sets.Calls id (sets.Writes message) now) n (x n))
  do_by now (acts.Take id) n i q x = either_node n _ _ (acts.is_kept id n) (w.still n) (w.asks (sets.Calls id sets.Takes now) n tt refl)
  do_by now (acts.Close id) n i q x = either_node n _ _ (acts.is_kept id n) (w.still n) (w.asks (sets.Calls id sets.Closes now) n tt refl)
  do_by now (acts.TakeText peer) n i q x = either_node n (acts.take_text now peer n) _ n.settings.hosts (w.takes_text peer now n) (w.still n)
  do_by now (acts.SendText to text) n i q x = either_node n (acts.send_text now to text n) _ n.settings.hosts (send_on (links.text_answer to text n.links) now to text n) (w.still n)
  do_by now (acts.OpenLink to path) n i q x = either_node n (acts.open_link now to path n) _ n.settings.hosts (open_on (links.open_answer to path n.links) now to path n i) (w.still n)
  do_by now (acts.CloseLink peer) n i q x = either_node n (acts.close_link now peer n) _ n.settings.hosts (w.closes_link peer now n) (w.still n)

module _ (P : State → State → Type 0) (Q : Item → Type 0) (w : Walks P Q) where
  parts : Parts P Q
  parts = record {
    still = w.serves.still;
    follows = w.serves.follows;
    asks = λ a n i e. w.serves.acts a n i;
    pumps = w.serves.pumps;
    takes_text = w.serves.takes_text;
    sends_text = w.serves.sends_text;
    closes_link = w.serves.closes_link;
    others = w.others;
  }

  serves_so : ReadsCallTexts → ServesSo P
  serves_so reads now n on = served_on P w.serves reads now n

  writes_so : (now : ℕ) (act : UserAct) → WritesSo P now act
  writes_so now acts.Round = tt
  writes_so now (acts.LinkFail peer) = tt
  writes_so now (acts.Lock dest alias neighbour quality) = tt
  writes_so now (acts.Connect dest) = tt
  writes_so now (acts.ConnectFor user dest) = tt
  writes_so now (acts.Write id message) = λ n. w.serves.acts (sets.Calls id (sets.Writes message) now) n tt
  writes_so now (acts.Take id) = tt
  writes_so now (acts.Close id) = tt
  writes_so now (acts.TakeText peer) = tt
  writes_so now (acts.SendText to text) = tt
  writes_so now (acts.OpenLink to path) = tt
  writes_so now (acts.CloseLink peer) = tt

  pub turn_on : ReadsCallTexts → (now : ℕ) (n : State) → P n (s.turn now n).after
  turn_on reads now n = turn_by P Q parts (serves_so reads) now n

  pub settled_on : ReadsCallTexts → (now : ℕ) (n : State) → P n (after_input now n)
  settled_on reads now n = settled_by P Q parts (serves_so reads) now n

  pub tick_on : (now : ℕ) (n : State) → P n (rounds.tick now n)
  tick_on now n = tick_by P Q parts now n

  pub do_on : (now : ℕ) (act : UserAct) (n : State) → IsUserAct act → LocksBy Q act → P n (acts.do_act now act n).node
  do_on now act n i q = do_by P Q parts now act n i q (writes_so now act)
