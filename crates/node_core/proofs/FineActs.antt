-- A round, and what the user of a node does, keep it fine.
use Rattle.std.proofs.Common.{◌≡◌, ℕ, refl, sym, ap, subst, arith, List, [], ◌∷◌, ◌++◌, append-nil}
use Rattle.std.specs.Prelude.{Bool, true, false, ◌||◌, ◌&&◌, is_some, nat_lt, if◌then◌else◌, Option, Some, None, Result, Ok, Err}
use Rattle.std.proofs.lemmas.Bool.{or_parts}
use Rattle.arrayvec.specs.ArrayVec.{ArrayVec}
use Rattle.ax_address.specs.declared.address.Address.{Address}
use Rattle.ax_address.specs.Callsign.{Callsign, same_call}
use Rattle.circuit_l4.specs.Opening.{facts_of}
use Rattle.circuit_l4.specs.Table.{step}
use Rattle.circuit_table.specs.CircuitSets.{facts_at}
use Rattle.circuit_table.specs.Pumps.{connect_answer}
use Rattle.circuit_table.specs.Sets as sets
use Rattle.circuit_table.specs.Sets.{Holder, SetDone, SetState, CircuitTold}
use Rattle.circuit_table.specs.Standing.{by_write, write_answer}
use Rattle.circuit_l4.specs.Table as ends
use Rattle.circuit_table.specs.declared.refusal.SetRefusal.TheVariants as set_refusal
use Rattle.circuit_table.specs.declared.refusal.ConnectRefusal.{ConnectRefusal}
use Rattle.circuit_table.specs.declared.refusal.SetRefusal.{SetRefusal}
use Rattle.link_table.specs.Reaching.{IsCall}
use Rattle.link_table.specs.declared.written.Written.{Written}
use Rattle.route_table.specs.Table.{to_broadcast}
use Rattle.link_table.specs.declared.open_refusal.OpenRefusal.{OpenRefusal}
use Rattle.link_table.specs.declared.text_refusal.TextRefusal.{TextRefusal}
use Rattle.route_table.specs.Log as logs
use Rattle.route_table.specs.Log.{Item}
use Rattle.node_core.specs.declared.acts.ActRefusal.TheVariants as refusal
use Rattle.node_core.specs.Acts as acts
use Rattle.node_core.specs.Acts.{Answered, UserAct}
use Rattle.node_core.specs.Broadcasts.{round_frames}
use Rattle.node_model.specs.Links as circuits
use Rattle.node_core.specs.Receiving as receiving
use Rattle.node_core.specs.Broadcasts as rounds
use Rattle.node_core.specs.Runs.{IsUserAct}
use Rattle.node_model.specs.Serving.{is_at_end, is_circuit, is_served}
use Rattle.node_model.specs.Sessions.{Session, circuit_of}
use Rattle.node_core.specs.Standing.{IsTold}
use Rattle.node_model.specs.States.{State, at_set, next_hop, put, with_items}
use Rattle.node_model.specs.Users.{facts}
use Rattle.node_core.proofs.Fine.{All, Fine, acted, closes_fine, takes_fine, writes_fine}
use Rattle.node_core.proofs.Holders.{connects_keeps}
use Rattle.node_core.proofs.Soundness.{Every}
use Rattle.node_core.proofs.Making.{connected_ok}
use Rattle.node_core.proofs.Owning.{all_opens, mades, owned_by, total}
use Rattle.node_core.proofs.Others.{NotIts}
use Rattle.node_core.proofs.Wrote.{connects_wrote}
use Rattle.node_core.proofs.Leaving.{connects_leaves}

frames_fine : (fs : List Written) (n : State) → Fine n → Fine (rounds.put_all fs n)
frames_fine [] n f = f
frames_fine (x ∷ fs) n f = frames_fine fs (put x n) f

pub round_fine : (n : State) → Fine n → Fine (rounds.do_round n)
round_fine n f =
    let m : State = with_items (logs.Round ∷ []) n in
    frames_fine (round_frames m.settings.call m.settings.alias (to_broadcast m.settings.rules m.log)) m f

answered : (x y : Answered) (b : Bool) → Fine x.node → Fine y.node → Fine (if b then x else y).node
answered x y true f g = f
answered x y false f g = g

locked : (dest : Callsign) (item : Item) (quality : ℕ) (n : State) → Fine n → Fine (acts.lock dest item quality n).node
locked dest item quality n f =
    answered _ _ (same_call dest n.settings.call) f
    (answered _ _ (nat_lt quality n.settings.rules.minq) f (answered (acts.answer_done (with_items (item ∷ []) n)) _ (receiving.has_room (item ∷ []) n) f f))

connected : (now : ℕ) (user dest : Callsign) (r : Result ℕ ConnectRefusal) (n : State) → IsCall dest → Fine n → Fine (acts.connect_by r (sets.ConnectFor user dest now) n).node
connected now user dest (Ok id) n call f =
    acted (sets.ConnectFor user dest now) n (connects_keeps n.set.set user dest now call) (connects_wrote n.set.set user dest now) (connected_ok n.set.set user dest now).made (connects_leaves n.set.set user dest now) f
connected now user dest (Err why) n call f = f

connected_own : (now : ℕ) (dest : Callsign) (r : Result ℕ ConnectRefusal) (n : State) → IsCall dest → Fine n → Fine (acts.connect_by r (sets.Connect dest now) n).node
connected_own now dest (Ok id) n call f =
    let user : Callsign = n.set.set.user in
    acted (sets.Connect dest now) n (connects_keeps n.set.set user dest now call) (connects_wrote n.set.set user dest now) (connected_ok n.set.set user dest now).made (connects_leaves n.set.set user dest now) f
connected_own now dest (Err why) n call f = f

wrote : (now id : ℕ) (message : List ℕ) (r : Result (Unit {0}) SetRefusal) (n : State) → Every (NotIts id) n.sessions → Fine n → Fine (acts.write_by r (sets.Calls id (sets.Writes message) now) n).node
wrote now id message (Ok _) n none f = writes_fine now id message n none f
wrote now id message (Err why) n none f = f

unserved : (id : ℕ) (ss : List Session) → is_served id ss ≡ false → total (owned_by id) ss ≡ 0
unserved id [] e = refl
unserved id (x ∷ ss) e =
    let parts = or_parts (is_at_end id x.user || is_circuit id (circuit_of x.stage)) (is_served id ss) e in
    let both = or_parts (is_at_end id x.user) (is_circuit id (circuit_of x.stage)) parts.0 in
    let none : owned_by id x ≡ 0 = rw (both.0, both.1) refl in
    let rest = unserved id ss parts.1 in
    omega (arith, none, rest)

unserved_none : (id : ℕ) (ss : List Session) → is_served id ss ≡ false → Every (NotIts id) ss
unserved_none id [] e = tt
unserved_none id (x ∷ ss) e =
    let parts = or_parts (is_at_end id x.user || is_circuit id (circuit_of x.stage)) (is_served id ss) e in
    let both = or_parts (is_at_end id x.user) (is_circuit id (circuit_of x.stage)) parts.0 in
    (both.1, unserved_none id ss parts.1)

-- nothing is written to an end that isn't held
not_written : (now id : ℕ) (message : List ℕ) (n : State) (o : Option Holder) → is_some (facts_at o) ≡ false → Fine n → Fine (acts.write_by (write_answer o message) (sets.Calls id (sets.Writes message) now) n).node
not_written now id message n None e f = f
not_written now id message n (Some h) e f = by h.gone e
  where
    by : (b : Bool) → is_some (if b then None else Some (facts_of h.end)) ≡ false
        → Fine (acts.write_by (if b then Err set_refusal.NoEnd else by_write (ends.write_answer h.end message)) (sets.Calls id (sets.Writes message) now) n).node
    by true g = f
    by false g = absurd (cc g)

written_by : (now id : ℕ) (message : List ℕ) (n : State) (a b : Bool) → is_some (facts id n) ≡ a → is_served id n.sessions ≡ b → (a && b) ≡ false → Fine n → Fine (acts.write now id message n).node
written_by now id message n true true e g h f = absurd (cc h)
written_by now id message n false b e g h f = not_written now id message n (sets.end_of id n.set.set.ends) e f
written_by now id message n true false e g h f = wrote now id message (write_answer (sets.end_of id n.set.set.ends) message) n (unserved_none id n.sessions g) f

writes : (now id : ℕ) (message : List ℕ) (n : State) → Fine n → (b : Bool) → acts.is_kept id n ≡ b → Fine (if b then acts.refuse refusal.Served n else acts.write now id message n).node
writes now id message n f true e = f
writes now id message n f false e = written_by now id message n (is_some (facts id n)) (is_served id n.sessions) refl refl e f

-- an end that isn't held is left as it is
not_held : (set : SetState) (call : sets.Call) (o : Option Holder) (now : ℕ) → is_some (facts_at o) ≡ false → sets.after_call set o call now ≡ sets.does_nothing set
not_held set call None now e = refl
not_held set call (Some h) now e = by h.gone e
  where
    by : (b : Bool) → is_some (if b then None else Some (facts_of h.end)) ≡ false → (if b then sets.does_nothing set else sets.goes_to set h [] (step h.end (sets.input_of call) now)) ≡ sets.does_nothing set
    by true g = refl
    by false g = absurd (cc g)

called_none : (call : sets.Call) (now id : ℕ) (n : State) → is_some (facts id n) ≡ false → Fine n → Fine (at_set (circuits.acts (sets.Calls id call now)) n)
unfolding circuits.acts
called_none call now id n e f =
    let same = not_held n.set.set call (sets.end_of id n.set.set.ends) now e in
    subst (λ (d : SetDone). All d.set (n.set.untold ++ d.told) n.sessions) (sym same) (subst (λ (ts : List CircuitTold). All n.set.set ts n.sessions) (sym (append-nil n.set.untold)) f)

closed_by : (now id : ℕ) (n : State) (a b : Bool) → is_some (facts id n) ≡ a → is_served id n.sessions ≡ b → (a && b) ≡ false → IsTold n → Fine n
    → Fine (at_set (circuits.acts (sets.Calls id sets.Closes now)) n)
closed_by now id n true true e g h t f = absurd (cc h)
closed_by now id n false b e g h t f = called_none sets.Closes now id n e f
closed_by now id n true false e g h t f =
    let none = unserved id n.sessions g in
    let opens = all_opens id n.sessions in
    let told : mades id n.set.untold ≡ 0 = ap (λ w. mades id w.untold) t in
    closes_fine now id n (omega (arith, none, opens, told)) f

closes : (now id : ℕ) (n : State) → IsTold n → Fine n → (b : Bool) → acts.is_kept id n ≡ b → Fine (if b then acts.refuse refusal.Served n else acts.close now id n).node
closes now id n t f true e = f
closes now id n t f false e = closed_by now id n (is_some (facts id n)) (is_served id n.sessions) refl refl e t f

taken_by : (now id : ℕ) (n : State) (a b : Bool) → is_some (facts id n) ≡ a → is_served id n.sessions ≡ b → (a && b) ≡ false → Fine n → Fine (at_set (circuits.acts (sets.Calls id sets.Takes now)) n)
taken_by now id n true true e g h f = absurd (cc h)
taken_by now id n false b e g h f = called_none sets.Takes now id n e f
taken_by now id n true false e g h f = takes_fine now id n (unserved_none id n.sessions g) f

takes_act : (now id : ℕ) (n : State) → Fine n → (b : Bool) → acts.is_kept id n ≡ b → Fine (if b then acts.refuse refusal.Served n else acts.take now id n).node
takes_act now id n f true e = f
takes_act now id n f false e = taken_by now id n (is_some (facts id n)) (is_served id n.sessions) refl refl e f

texts_sent : (r : Result (Unit {0}) TextRefusal) (now : ℕ) (to : Callsign) (text : List ℕ) (n : State) → Fine n → Fine (acts.send_by r now to text n).node
texts_sent (Ok _) now to text n f = f
texts_sent (Err why) now to text n f = f

links_opened : (r : Result (Unit {0}) OpenRefusal) (now : ℕ) (to : Callsign) (path : ArrayVec Address) (n : State) → Fine n → Fine (acts.open_by r now to path n).node
links_opened (Ok _) now to path n f = f
links_opened (Err why) now to path n f = f

pub act_fine : (now : ℕ) (act : UserAct) (n : State) → IsUserAct act → IsTold n → Fine n → Fine (acts.do_act now act n).node
act_fine now acts.Round n call t f = round_fine n f
act_fine now (acts.LinkFail peer) n call t f = f
act_fine now (acts.Lock dest alias neighbour quality) n call t f = locked dest (logs.Lock dest alias neighbour quality) quality n f
act_fine now (acts.Connect dest) n call t f = connected_own now dest (connect_answer (next_hop n) dest n.set.set) n call f
act_fine now (acts.ConnectFor user dest) n call t f = connected now user dest (connect_answer (next_hop n) dest n.set.set) n call.1 f
act_fine now (acts.Write id message) n call t f =
    writes now id message n f (acts.is_kept id n) refl
act_fine now (acts.Take id) n call t f = takes_act now id n f (acts.is_kept id n) refl
act_fine now (acts.Close id) n call t f = closes now id n t f (acts.is_kept id n) refl
act_fine now (acts.TakeText peer) n call t f = answered (acts.take_text now peer n) _ n.settings.hosts f f
act_fine now (acts.SendText to text) n call t f = answered (acts.send_text now to text n) _ n.settings.hosts (texts_sent (circuits.text_answer to text n.links) now to text n f) f
act_fine now (acts.OpenLink to path) n call t f = answered (acts.open_link now to path n) _ n.settings.hosts (links_opened (circuits.open_answer to path n.links) now to path n f) f
act_fine now (acts.CloseLink peer) n call t f = answered (acts.close_link now peer n) _ n.settings.hosts f f
