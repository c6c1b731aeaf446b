-- What a user does at a node, before it settles. Own profile, but for what the layers' own definitions say.
use Rattle.std.specs.Prelude.{ℕ, Bool, true, false, ◌&&◌, is_some, nat_lt, if◌then◌else◌, List, [], ◌∷◌, length, Result, Ok, Err}
use Rattle.arrayvec.specs.ArrayVec.{ArrayVec}
use Rattle.ax_address.specs.declared.address.Address.{Address}
use Rattle.ax_address.specs.Callsign.{Callsign, same_call}
use Rattle.ax_address.specs.declared.alias.Alias.{Alias}
use Rattle.circuit_table.specs.declared.refusal.ConnectRefusal.{ConnectRefusal}
use Rattle.circuit_table.specs.declared.refusal.NoEnd.{NoEnd}
use Rattle.circuit_table.specs.declared.refusal.SetRefusal.{SetRefusal}
use Rattle.circuit_table.specs.Pumps.{connect_answer}
use Rattle.circuit_table.specs.Sets as sets
use Rattle.circuit_table.specs.Standing.{close_answer, message_at, take_answer, write_answer}
use Rattle.circuit_table.specs.declared.refusal.ConnectRefusal.TheVariants as connecting
use Rattle.circuit_table.specs.declared.refusal.SetRefusal.TheVariants as set_refusal
use Rattle.link_table.specs.declared.open_refusal.OpenRefusal.{OpenRefusal}
use Rattle.link_table.specs.declared.open_refusal.OpenRefusal.TheVariants as opening
use Rattle.link_table.specs.declared.text_refusal.TextRefusal.{TextRefusal}
use Rattle.link_table.specs.declared.text_refusal.TextRefusal.TheVariants as sending
use Rattle.route_table.specs.Log as logs
use Rattle.route_table.specs.Log.{Item}
use Rattle.route_table.specs.Table.{usable}
use Rattle.route_table.specs.declared.refusal.LockRefusal.{LockRefusal}
use Rattle.route_table.specs.declared.refusal.LockRefusal.TheVariants as locking
use Rattle.node_model.specs.Links as circuits
use Rattle.node_model.specs.Links.{break_link}
use Rattle.node_model.specs.States.{State, at_links, at_set, next_hop, with_items}
use Rattle.node_model.specs.Serving.{is_served}
use Rattle.node_model.specs.Users.{facts}
use Rattle.node_core.specs.declared.acts.ActDone.{ActDone}
use Rattle.node_core.specs.declared.acts.ActDone.TheVariants.{Done, Made, Took}
use Rattle.node_core.specs.declared.acts.ActRefusal.{ActRefusal}
use Rattle.node_core.specs.declared.acts.ActRefusal.TheVariants as refusal
use Rattle.node_core.specs.Receiving.{has_room, live_with}
use Rattle.node_core.specs.Broadcasts.{do_round}
use Rattle.node_core.specs.declared.acts.UserAct as code
use Rattle.node_core.specs.declared.acts.UserAct.TheVariants as codes

-- What a node's user does, without where a message lies in memory. Own profile.

-- An end of a circuit is named by its number.
pub data UserAct : Type 0 where
  Round : UserAct
  LinkFail : Callsign → UserAct
  Lock : (dest : Callsign) (alias : Alias) (neighbour : Callsign) (quality : ℕ) → UserAct
  Connect : Callsign → UserAct
  ConnectFor : (user dest : Callsign) → UserAct
  Write : (id : ℕ) (message : List ℕ) → UserAct
  Take : (id : ℕ) → UserAct
  Close : (id : ℕ) → UserAct
  TakeText : (peer : Callsign) → UserAct
  SendText : (to : Callsign) (text : List ℕ) → UserAct
  OpenLink : (to : Callsign) (path : ArrayVec Address) → UserAct
  CloseLink : (peer : Callsign) → UserAct

-- the same as it is handed in
abbrev pub act_of : code.UserAct → UserAct
act_of codes.Round = Round
act_of (codes.LinkFail peer) = LinkFail peer
act_of (codes.Lock dest alias neighbour quality) = Lock dest alias neighbour quality
act_of (codes.Connect dest) = Connect dest
act_of (codes.ConnectFor user dest) = ConnectFor user dest
act_of (codes.Write id message) = Write id message.now
act_of (codes.Take id) = Take id
act_of (codes.Close id) = Close id
act_of (codes.TakeText peer) = TakeText peer
act_of (codes.SendText to text) = SendText to text.now
act_of (codes.OpenLink to path) = OpenLink to path
act_of (codes.CloseLink peer) = CloseLink peer

abbrev pub is_no_memory : ActRefusal → Bool
is_no_memory refusal.NoMemory = true
is_no_memory _ = false

-- an act was refused for want of memory
abbrev pub wants_memory : Result ActDone ActRefusal → Bool
wants_memory (Ok _) = false
wants_memory (Err why) = is_no_memory why

-- Why an act isn't done, by what the part answers to which it goes: want of memory stays what it is.

abbrev pub connect_refusal : ConnectRefusal → ActRefusal
connect_refusal connecting.Own = refusal.Own
connect_refusal connecting.NoRoute = refusal.NoRoute
connect_refusal connecting.Full = refusal.Full
connect_refusal connecting.NoMemory = refusal.NoMemory

abbrev pub lock_refusal : LockRefusal → ActRefusal
lock_refusal locking.Own = refusal.Own
lock_refusal locking.TooLow = refusal.TooLow
lock_refusal (locking.TableFull live would_be) = refusal.TableFull live would_be
lock_refusal locking.NoMemory = refusal.NoMemory

abbrev pub write_refusal : SetRefusal → ActRefusal
write_refusal set_refusal.NoEnd = refusal.NoEnd
write_refusal (set_refusal.Write why) = refusal.Write why
write_refusal set_refusal.NoMemory = refusal.NoMemory

abbrev pub text_refusal : TextRefusal → ActRefusal
text_refusal sending.NoLink = refusal.NoLink
text_refusal sending.TooLong = refusal.TooLong
text_refusal sending.Full = refusal.NoRoom
text_refusal sending.NoMemory = refusal.NoMemory

abbrev pub open_refusal : OpenRefusal → ActRefusal
open_refusal opening.Standing = refusal.Standing
open_refusal opening.TooLong = refusal.TooLong
open_refusal opening.Full = refusal.Full
open_refusal opening.NoMemory = refusal.NoMemory

-- what an act comes to: the answer, and the node then
pub record Answered : Type 0 where
  pub answer : Result ActDone ActRefusal
  pub node : State

abbrev pub answer_done : State → Answered
answer_done n = record { answer = Ok Done; node = n }

-- a refused act changes nothing
abbrev pub refuse : ActRefusal → State → Answered
refuse why n = record { answer = Err why; node = n }

-- the link with a neighbour is broken, where one stands, and its reports end
abbrev pub fail_link : Callsign → State → State
fail_link peer n = with_items (logs.Failure peer ∷ []) (at_links (break_link peer) n)

-- a lock is refused of the node itself, of too low a quality, or where there is no room, in this order
abbrev pub lock : Callsign → Item → ℕ → State → Answered
lock dest item quality n =
    if same_call dest n.settings.call then refuse refusal.Own n
    else if nat_lt quality n.settings.rules.minq then refuse refusal.TooLow n
    else if has_room (item ∷ []) n then answer_done (with_items (item ∷ []) n)
    else refuse (refusal.TableFull (length (usable n.settings.rules n.log)) (live_with (item ∷ []) n)) n

-- ---- circuits: what each call answers, and the circuits after it

abbrev pub connect_by : Result ℕ ConnectRefusal → sets.Act → State → Answered
connect_by (Ok id) act n = record { answer = Ok (Made id); node = at_set (circuits.acts act) n }
connect_by (Err why) act n = refuse (connect_refusal why) n

abbrev pub write_by : Result (Unit {0}) SetRefusal → sets.Act → State → Answered
write_by (Ok _) act n = answer_done (at_set (circuits.acts act) n)
write_by (Err why) act n = refuse (write_refusal why) n

-- the message that was taken. Where none waits, or no end of that number is held, the circuits stay as they are
abbrev pub answer_to_take : Result Bool NoEnd → List ℕ → Result ActDone ActRefusal
answer_to_take (Ok true) message = Ok (Took message)
answer_to_take (Ok false) message = Err refusal.Nothing
answer_to_take (Err why) message = Err refusal.NoEnd

-- likewise where no end of that number is held
abbrev pub answer_to_close : Result (Unit {0}) NoEnd → Result ActDone ActRefusal
answer_to_close (Ok _) = Ok Done
answer_to_close (Err why) = Err refusal.NoEnd

abbrev pub write : ℕ → ℕ → List ℕ → State → Answered
write now id message n = write_by (write_answer (sets.end_of id n.set.set.ends) message) (sets.Calls id (sets.Writes message) now) n

abbrev pub take : ℕ → ℕ → State → Answered
take now id n =
    let end = sets.end_of id n.set.set.ends in
    record { answer = answer_to_take (take_answer end) (message_at [] end); node = at_set (circuits.acts (sets.Calls id sets.Takes now)) n }

abbrev pub close : ℕ → ℕ → State → Answered
close now id n =
    record {
      answer = answer_to_close (close_answer (sets.end_of id n.set.set.ends));
      node = at_set (circuits.acts (sets.Calls id sets.Closes now)) n;
    }

-- an end that is held and that a session serves, or has asked for, is none of the node's own user
abbrev pub is_kept : ℕ → State → Bool
is_kept id n = is_some (facts id n) && is_served id n.sessions

abbrev pub unless_kept : ℕ → Answered → State → Answered
unless_kept id a n = if is_kept id n then refuse refusal.Served n else a

-- ---- links, at a node that hosts users: what each call answers, and the links after it

abbrev pub answer_to_take_text : Bool → List ℕ → Result ActDone ActRefusal
answer_to_take_text true text = Ok (Took text)
answer_to_take_text false text = Err refusal.Nothing

abbrev pub take_text : ℕ → Callsign → State → Answered
take_text now peer n =
    record {
      answer = answer_to_take_text (circuits.has_text peer n.links) (circuits.text_with peer n.links);
      node = at_links (circuits.take_text peer now) n;
    }

abbrev pub send_by : Result (Unit {0}) TextRefusal → ℕ → Callsign → List ℕ → State → Answered
send_by (Ok _) now to text n = answer_done (at_links (circuits.send_text to text now) n)
send_by (Err why) now to text n = refuse (text_refusal why) n

abbrev pub send_text : ℕ → Callsign → List ℕ → State → Answered
send_text now to text n = send_by (circuits.text_answer to text n.links) now to text n

abbrev pub open_by : Result (Unit {0}) OpenRefusal → ℕ → Callsign → ArrayVec Address → State → Answered
open_by (Ok _) now to path n = answer_done (at_links (circuits.open_link to path now) n)
open_by (Err why) now to path n = refuse (open_refusal why) n

abbrev pub open_link : ℕ → Callsign → ArrayVec Address → State → Answered
open_link now to path n = open_by (circuits.open_answer to path n.links) now to path n

abbrev pub close_link : ℕ → Callsign → State → Answered
close_link now peer n = answer_done (at_links (circuits.close peer now) n)

abbrev pub where_hosted : Answered → State → Answered
where_hosted a n = if n.settings.hosts then a else refuse refusal.Served n

abbrev pub do_act : ℕ → UserAct → State → Answered
do_act now Round n = answer_done (do_round n)
do_act now (LinkFail peer) n = answer_done (fail_link peer n)
do_act now (Lock dest alias neighbour quality) n = lock dest (logs.Lock dest alias neighbour quality) quality n
do_act now (Connect dest) n = connect_by (connect_answer (next_hop n) dest n.set.set) (sets.Connect dest now) n
do_act now (ConnectFor user dest) n = connect_by (connect_answer (next_hop n) dest n.set.set) (sets.ConnectFor user dest now) n
do_act now (Write id message) n = unless_kept id (write now id message n) n
do_act now (Take id) n = unless_kept id (take now id n) n
do_act now (Close id) n = unless_kept id (close now id n) n
do_act now (TakeText peer) n = where_hosted (take_text now peer n) n
do_act now (SendText to text) n = where_hosted (send_text now to text n) n
do_act now (OpenLink to path) n = where_hosted (open_link now to path n) n
do_act now (CloseLink peer) n = where_hosted (close_link now peer n) n
