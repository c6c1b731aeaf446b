-- How much is left to do, as the circuits are pumped: no more than before.
use Rattle.std.proofs.Common.{◌≡◌, ◌≤◌, ◌+◌, ℕ, zero, suc, refl, ap, arith, length, length-append, List, [], ◌∷◌, ◌++◌, map}
use Rattle.std.specs.Prelude.{Bool, true, false, nat_eq, nat_lt, if◌then◌else◌, Option, Some, None, Result, Ok, Err}
use Rattle.ax_address.specs.Callsign.{Callsign}
use Rattle.ax_link.specs.declared.notice.LinkNotice.{LinkNotice}
use Rattle.circuit_l4.specs.declared.notice.EndNotice.{EndNotice}
use Rattle.circuit_l4.specs.declared.notice.EndNotice.TheVariants as end
use Rattle.circuit_table.specs.Pumps.{OfEach, TellsLess, Of, Offers, Says, SetTold, Turn, Turned, Waiting}
use Rattle.circuit_table.specs.Pumps as pumps
use Rattle.circuit_table.specs.Sets as sets
use Rattle.circuit_table.specs.Sets.{SetState}
use Rattle.l3_datagram.specs.Datagrams.{Parcel, head_at}
use Rattle.l3_datagram.specs.Routers.{Way, Ends, ToNeighbour, forwarded_by, way}
use Rattle.l3_datagram.specs.declared.carrier.Offered.{Offered}
use Rattle.l3_datagram.specs.declared.carrier.Offered.TheVariants.{Taken, Dropped as No_room}
use Rattle.l3_datagram.specs.declared.datagram.DatagramHead.{DatagramHead}
use Rattle.l3_datagram.specs.declared.datagram.DatagramRefusal.{DatagramRefusal}
use Rattle.l3_datagram.specs.declared.routed.Routed.{Routed}
use Rattle.l3_datagram.specs.declared.routed.Routed.TheVariants as routed
use Rattle.link_table.specs.Calls.{collect}
use Rattle.link_table.specs.Kept.{OffersLeave, TakesLower}
use Rattle.node_model.specs.declared.circuit.Circuit.{Circuit}
use Rattle.node_model.specs.declared.stage.Stage.{Stage}
use Rattle.node_model.specs.declared.stage.Stage.TheVariants.{AtPrompt, Trying, Failed, Connected}
use Rattle.node_model.specs.declared.reply.Reply.TheVariants as reply
use Rattle.node_model.specs.declared.user.User.{User}
use Rattle.node_model.specs.declared.user.User.TheVariants.{AtEnd}
use Rattle.node_model.specs.Links as links
use Rattle.node_model.specs.Pumping as p
use Rattle.node_model.specs.Sessions as s
use Rattle.node_model.specs.Sessions.{Session, circuit_of}
use Rattle.node_model.specs.Serving.{payloads}
use Rattle.node_model.specs.States.{State, at_links, next_hop}
use Rattle.node_model.proofs.Heaping.{comes_most}
use Rattle.node_model.proofs.Parts.{collect_payloads, lost_payloads, offer_leaves}
use Rattle.node_model.proofs.Telling.{told_kept}
use Rattle.node_model.proofs.Weights.{is_unclosed, messages, messages_but, session_work, sessions_work, stage_replies}

-- ---- what the sessions hear

less_by : (f : Session → Session) → ((x : Session) → session_work (f x) ≤ session_work x) → (ss : List Session) → sessions_work (map f ss) ≤ sessions_work ss
less_by f few [] = omega arith
less_by f few (x ∷ ss) = omega (arith, few x, less_by f few ss)

pub added : (ss : List Session) (x : Session) → sessions_work (ss ++ x ∷ []) ≡ sessions_work ss + session_work x
added [] x = omega arith
added (y ∷ ss) x = omega (arith, added ss x)

staged : (c : Circuit) (notice : EndNotice) → stage_replies (s.stage_by c notice) + is_unclosed (circuit_of (s.stage_by c notice)) ≤ 1 + is_unclosed (Some c)
staged c (end.Opened window) = omega arith
staged c end.Refused = omega arith
staged c end.Closed = omega arith
staged c end.ClosedByPartner = omega arith
staged c end.FailedRetries = omega arith
staged c end.FailedOversize = omega arith
staged c end.FailedInactive = omega arith

either_less : (x y : Session) (b : Bool) → session_work y ≤ session_work x → session_work (if b then y else x) ≤ session_work x
either_less x y true few = few
either_less x y false few = omega arith

noticed : (id : ℕ) (notice : EndNotice) (x : Session) (stage : Stage) → x.stage ≡ stage → session_work (s.notice_at stage id notice x) ≤ session_work x
noticed id notice x AtPrompt e = omega arith
noticed id notice x (Failed c) e = omega arith
noticed id notice x (Connected c) e = omega arith
noticed id notice x (Trying c) e =
    let stages = ap (λ (t : Stage). stage_replies t + is_unclosed (circuit_of t)) e in
    either_less x (s.hear_tried c notice x) (nat_eq c.id id) (omega (arith, staged c notice, length-append x.replies (s.told_by c.dest notice ∷ []), stages))

went : (id : ℕ) (x : Session) (stage : Stage) → x.stage ≡ stage → session_work (s.gone_at stage id x) ≤ session_work x
went id x AtPrompt e = omega arith
went id x (Trying c) e = either_less x (s.at_prompt x) (nat_eq c.id id) (omega arith)
went id x (Failed c) e = either_less x (s.at_prompt x) (nat_eq c.id id) (omega arith)
went id x (Connected c) e =
    let stages = ap (λ (t : Stage). stage_replies t + is_unclosed (circuit_of t)) e in
    either_less x (s.hear_end c x) (nat_eq c.id id) (omega (arith, length-append x.replies (reply.Ended c.dest ∷ []), stages))

pub greeted_same : (b : Bool) (user : User) (ss : List Session) → sessions_work (s.greet b user ss) ≡ sessions_work ss
greeted_same true user ss = let one = added ss (s.new_session user) in omega (arith, one)
greeted_same false user ss = refl

made_less : (b : Bool) (id : ℕ) (request : Option (List ℕ)) (pair : _) (partner : Callsign) (ss : List Session)
    → sessions_work (s.hear_circuits b (Of (sets.Made id pair partner request)) ss) ≤ sessions_work ss
made_less b id None pair partner ss = omega arith
made_less b id (Some request) pair partner ss = let same = greeted_same b (AtEnd id) ss in omega (arith, same)

hears_less : (b : Bool) (told : SetTold) (ss : List Session) → sessions_work (s.hear_circuits b told ss) ≤ sessions_work ss
hears_less b (Of (sets.Made id pair partner request)) ss = made_less b id request pair partner ss
hears_less b (Of (sets.Sent id number d)) ss = omega arith
hears_less b (Of (sets.Heeded id d)) ss = omega arith
hears_less b (Of (sets.Notice id notice)) ss = less_by (s.hear_notice id notice) (λ x. noticed id notice x x.stage refl) ss
hears_less b (Of (sets.Gone id facts)) ss = less_by (s.hear_gone id) (λ x. went id x x.stage refl) ss
hears_less b (Of (sets.Restarted pair)) ss = omega arith
hears_less b (Of (sets.Lost id facts)) ss = omega arith
hears_less b (pumps.Dropped r) ss = omega arith
hears_less b (pumps.Lost call) ss = omega arith

heard_less : (b : Bool) (told : Option SetTold) (ss : List Session) → sessions_work (s.hear_if b told ss) ≤ sessions_work ss
heard_less b None ss = omega arith
heard_less b (Some told) ss = hears_less b told ss

left_same : (peer : Callsign) (x : Session) → session_work (s.leave peer x) ≡ session_work x
left_same peer x = by (s.is_at_link peer x.user)
  where
    by : (b : Bool) → session_work (if b then s.leaves x else x) ≡ session_work x
    by true = refl
    by false = refl

left_less : (b : Bool) (peer : Callsign) (ss : List Session) → sessions_work (if b then map (s.leave peer) ss else ss) ≤ sessions_work ss
left_less true peer ss = less_by (s.leave peer) (λ x. let same = left_same peer x in omega (arith, same)) ss
left_less false peer ss = omega arith

pub links_less : (ns : List (Callsign × LinkNotice)) (ss : List Session) → sessions_work (s.hear_links ns ss) ≤ sessions_work ss
links_less [] ss = omega arith
links_less (x ∷ ns) ss = omega (arith, links_less ns (s.hear_link x.0 x.1 ss), left_less (s.ends_link x.1) x.0 ss)

-- ---- the circuits

heap : Waiting → ℕ
heap w = messages_but [] w.set.ends

Same : Waiting → Turned → Type 0
Same w t = t.after.set ≡ w.set

to_same : (hop : Callsign → Option Callsign) (set : SetState) (t : sets.CircuitTold) (d : List ℕ) (rest : List sets.CircuitTold) (o : Option Callsign) → OfEach (λ u. u.after.set ≡ set) (pumps.sent_to hop set t d rest o)
to_same hop set t d rest None = refl
to_same hop set t d rest (Some next) = λ answer. refl

head_same : (hop : Callsign → Option Callsign) (set : SetState) (t : sets.CircuitTold) (d : List ℕ) (rest : List sets.CircuitTold) (h : Result DatagramHead DatagramRefusal)
    → OfEach (λ u. u.after.set ≡ set) (pumps.sent_by_head hop set t d rest h)
head_same hop set t d rest (Err e) = to_same hop set t d rest None
head_same hop set t d rest (Ok head) = to_same hop set t d rest (hop head.dest)

first_same : (hop : Callsign → Option Callsign) (set : SetState) (t : sets.CircuitTold) (rest : List sets.CircuitTold) → OfEach (λ u. u.after.set ≡ set) (pumps.tells_first hop set t rest)
first_same hop set (sets.Sent id number d) rest = head_same hop set (sets.Sent id number d) d rest (head_at d)
first_same hop set (sets.Made id pair partner request) rest = refl
first_same hop set (sets.Heeded id d) rest = refl
first_same hop set (sets.Notice id notice) rest = refl
first_same hop set (sets.Gone id facts) rest = refl
first_same hop set (sets.Restarted pair) rest = refl
first_same hop set (sets.Lost id facts) rest = refl

told_same : (hop : Callsign → Option Callsign) (set : SetState) (ts : List sets.CircuitTold) (o : Option Routed) → OfEach (λ u. u.after.set ≡ set) (pumps.tells hop (record { set = set; untold = ts; lost = o }))
told_same hop set ts (Some r) = refl
told_same hop set [] None = refl
told_same hop set (t ∷ ts) None = first_same hop set t ts

tells_same : (hop : Callsign → Option Callsign) (w : Waiting) → OfEach (λ u. u.after.set ≡ w.set) (links.tells hop w)
unfolding links.tells
tells_same hop w = told_same hop w.set w.untold w.lost

heard_most : (now : ℕ) (w : Waiting) (r : Routed) → messages_but [] (pumps.heard_as now w r).after.set.ends ≤ suc (messages_but [] w.set.ends)
heard_most now w (routed.Mine origin d) = comes_most w.set d.items now
heard_most now w routed.Forwarded = omega arith
heard_most now w (routed.Lost call) = omega arith
heard_most now w routed.Expired = omega arith
heard_most now w routed.NoRoute = omega arith
heard_most now w routed.Returned = omega arith
heard_most now w routed.Dropped = omega arith
heard_most now w routed.Bad = omega arith

way_most : (now : ℕ) (w : Waiting) (x : Way) → OfEach (λ u. messages_but [] u.after.set.ends ≤ suc (messages_but [] w.set.ends)) (pumps.hears_by now w x)
way_most now w (Ends r) = heard_most now w r
way_most now w (ToNeighbour to d) = by
  where
    by : (answer : Offered) → messages_but [] (pumps.heard_as now w (forwarded_by answer)).after.set.ends ≤ suc (messages_but [] w.set.ends)
    by Taken = omega arith
    by No_room = omega arith

hears_most : (hop : Callsign → Option Callsign) (now : ℕ) (parcel : Parcel) (w : Waiting) → OfEach (λ u. messages_but [] u.after.set.ends ≤ suc (messages_but [] w.set.ends)) (links.hears hop now parcel w)
unfolding links.hears
hears_most hop now parcel w = way_most now w (way w.set.own hop parcel.1)

-- ---- the pumping

-- payloads, datagrams and messages
abbrev pub units : State → ℕ
units n = payloads n + length n.links.pending.waiting + messages n

pub record Below (old new : State) : Type 0 where
  pub units : units new ≤ units old
  pub sessions : sessions_work new.sessions ≤ sessions_work old.sessions

pub same_below : (n : State) → Below n n
same_below n = record { units = omega arith; sessions = omega arith }

pub then_below : (a b c : State) → Below a b → Below b c → Below a c
then_below a b c x y = record { units = omega (arith, x.units, y.units); sessions = omega (arith, x.sessions, y.sessions) }

module _ (offers : OffersLeave) (takes : TakesLower) (less : TellsLess) where
  -- so many units are at the links, and at most so many messages come of the turn
  turned : (now k : ℕ) (n m : State) (t : Turn) → m.sessions ≡ n.sessions → payloads m + length m.links.pending.waiting + k ≤ units n → OfEach (λ u. messages_but [] u.after.set.ends ≤ k) t
      → Below n (p.take_turn now t m)
  turned now k n m (Says u) same few each = record { units = omega (arith, few, each); sessions = by }
    where
      by : sessions_work (s.hear_if m.settings.prompt u.told m.sessions) ≤ sessions_work n.sessions
      by = rw same (heard_less m.settings.prompt u.told n.sessions)
  turned now k n m (Offers to d by) same few each =
      let answer = links.offer_answer to d now m.links in
      let leaves = offer_leaves offers takes less to d now m.links in
      let waits = ap (λ (xs : List Parcel). length xs) leaves.waiting in
      record { units = omega (arith, few, each answer, leaves.payloads, waits); sessions = rw same (heard_less m.settings.prompt (by answer).told n.sessions) }

  told_below : (now : ℕ) (n : State) → Below n (p.tell_one now n)
  told_below now n =
      turned now (messages n) n n (links.tells (next_hop n) n.set) refl (omega arith) (each (links.tells (next_hop n) n.set) (tells_same (next_hop n) n.set))
    where
      each : (t : Turn) → OfEach (λ u. u.after.set ≡ n.set.set) t → OfEach (λ u. messages_but [] u.after.set.ends ≤ messages n) t
      each (Says u) e = rw e (omega arith)
      each (Offers to d by) e = λ answer. rw (e answer) (omega arith)

  tell_below : (now : ℕ) (o n : State) (b : Bool) → Below o n → Below o (if b then p.tell_one now n else n)
  tell_below now o n true x = then_below o n (p.tell_one now n) x (told_below now n)
  tell_below now o n false x = x

  all_below : (now : ℕ) (n : State) → Below n (p.tell_all now n)
  all_below now n = told_kept now (Below n) (λ m x. tell_below now n m (nat_lt 0 (p.pending m)) x) n (same_below n)

  asked_below : (now : ℕ) (n : State) (lost : List Callsign) (waiting : List Parcel) → n.links.pending.lost ≡ lost → n.links.pending.waiting ≡ waiting → Below n (p.ask_for now lost waiting n)
  unfolding links.hears_lost
  asked_below now n (c ∷ cs) waiting e f =
      let same = lost_payloads n.links in
      record { units = omega (arith, same); sessions = heard_less n.settings.prompt (Some (pumps.Lost c)) n.sessions }
  asked_below now n [] (parcel ∷ parcels) e f =
      let m : State = at_links collect n in
      let same = collect_payloads n.links in
      let fewer : suc (length m.links.pending.waiting) ≡ length n.links.pending.waiting = rw f refl in
      turned now (suc (messages n)) n m (links.hears (next_hop n) now parcel n.set) refl (omega (arith, same, fewer)) (hears_most (next_hop n) now parcel n.set)
  asked_below now n [] [] e f = same_below n

  times_below : (now k : ℕ) (n : State) → Below n (p.ask_times now k n)
  times_below now zero n = same_below n
  times_below now (suc k) n =
      let a : State = p.ask now n in
      let b : State = p.tell_all now a in
      then_below n b _ (then_below n a b (asked_below now n n.links.pending.lost n.links.pending.waiting refl refl) (all_below now a)) (times_below now k b)

  pub pumped_below : (now : ℕ) (n : State) → Below n (p.pump now n)
  unfolding p.pump
  pumped_below now n = then_below n (p.tell_all now n) _ (all_below now n) (times_below now (p.at_router n) (p.tell_all now n))
