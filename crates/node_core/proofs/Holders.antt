-- What an input of a set leaves of its ends: their numbers, no two alike, whether they are closing or have ended, the messages that came to
-- them, and the calls of their partners.
use Rattle.std.proofs.Common.{◌≡◌, ◌≤◌, ◌<◌, ◌+◌, ◌∙◌, ℕ, refl, sym, ap, subst, arith, drop, List, [], ◌∷◌, ◌++◌}
use Rattle.std.specs.Prelude.{Bool, true, false, not, ◌||◌, ◌&&◌, is_none, nat_eq, min, if◌then◌else◌, Option, Some, None, Result, Ok, Err}
use Rattle.std.proofs.lemmas.Bool.Decides.{nat_tests}
use Rattle.radio_base.specs.declared.modulus.TheConstants.{COUNT_MAX}
use Rattle.ax_address.specs.Callsign.{Callsign, same_call}
use Rattle.circuit_l4.specs.Opening.{facts_of, requesting, responding}
use Rattle.circuit_l4.specs.State.{Effect, State}
use Rattle.circuit_l4.specs.Table as end
use Rattle.circuit_l4.specs.Transports.{transport_at}
use Rattle.circuit_l4.specs.declared.pair.Pair.{Pair}
use Rattle.circuit_l4.specs.declared.transport.Transport.{Transport}
use Rattle.circuit_l4.specs.declared.transport.Transport.TheVariants.{Request, Accept, Refuse, Disconnect, Disconnected, Info, InfoAck}
use Rattle.circuit_l4.specs.declared.transport.TransportRefusal.{TransportRefusal}
use Rattle.circuit_table.specs.CircuitSets.{facts_at}
use Rattle.circuit_table.specs.Sets.{heeds, Call, Calls, Comes, ConnectFor, Holder, SetDone, SetState, CircuitTold, Closes, Takes, Ticks, Writes}
use Rattle.circuit_table.specs.Sets as s
use Rattle.circuit_table.proofs.Origins.{origin_read}
use Rattle.l3_datagram.specs.declared.datagram.DatagramHead.{DatagramHead}
use Rattle.l3_datagram.specs.declared.datagram.DatagramRefusal.{DatagramRefusal}
use Rattle.l3_datagram.specs.declared.datagram.TheConstants.{HEAD_SIZE}
use Rattle.l3_datagram.specs.Datagrams.{head_at}
use Rattle.link_table.specs.Reaching.{IsCall}
use Rattle.node_model.specs.Users.{ended_by}
use Rattle.node_core.proofs.Ends.{Every, In, Once, differ, end_before, end_here, end_in, every_in, is_end, number_of, open_in, other_end, push_in, push_once, put_in, put_once, weaker}
use Rattle.node_core.proofs.Growing as grown
use Rattle.node_core.proofs.Growing.{Leaves}
use Rattle.node_core.proofs.Unclosed as one
use Rattle.node_core.proofs.Unclosed.{IsMessage, Messages}

-- ---- what an input leaves

abbrev pub Below : SetState → Type 0
Below set = Every (λ h. h.id < set.number) set.ends

abbrev pub HaveMessages : List Holder → Type 0
HaveMessages hs = Every (λ h. Messages h.end.receiving.received) hs

-- no end of a number is closing
abbrev pub AreOpen : ℕ → List Holder → Type 0
AreOpen id hs = Every (λ h. h.id ≡ id → h.end.closing ≡ false) hs

-- a number that no end has yet
pub none_closing : (number id : ℕ) (hs : List Holder) → Every (λ h. h.id < number) hs → number ≤ id → AreOpen id hs
none_closing number id hs below over = weaker _ _ (λ h low same. absurd (omega (arith, low, over, same))) hs below

-- the end of a number has ended, or is held no longer
abbrev pub is_ended : ℕ → SetState → Bool
is_ended id set = ended_by (facts_at (s.end_of id set.ends))

-- the end of a number is held no longer, or never was
abbrev pub is_away : ℕ → SetState → Bool
is_away id set = is_none (facts_at (s.end_of id set.ends))

-- its node and its partners are calls
abbrev pub AreNamed : SetState → Type 0
AreNamed set = IsCall set.own × Every (λ h. IsCall h.at) set.ends

-- the numbers go up, what has ended or is away stays so, and of each number that `test` admits no end is closing where none was
pub record Keeps (admits : ℕ → Type 0) (old new : SetState) : Type 0 where
  pub number : old.number ≤ new.number
  pub below : Below old → Below new
  pub once : Below old → Once old.ends → Once new.ends
  pub ended : (id : ℕ) → Once old.ends → id < old.number → is_ended id old ≡ true → is_ended id new ≡ true
  pub away : (id : ℕ) → Once old.ends → id < old.number → is_away id old ≡ true → is_away id new ≡ true
  pub messages : HaveMessages old.ends → HaveMessages new.ends
  pub named : AreNamed old → AreNamed new
  pub unshut : (id : ℕ) → admits id → AreOpen id old.ends → AreOpen id new.ends

abbrev pub Any : ℕ → Type 0
Any id = Unit {0}

-- a step of an end that is held, after which one that has ended has
pub record Alive (h : Holder) (g : Effect) : Type 0 where
  pub held : h.gone ≡ false
  pub ended : s.has_ended h.end.phase ≡ true → s.has_ended g.end.phase ≡ true

open_alive : (test : Holder → Bool) (hs : List Holder) (h : Holder) (g : Effect) → s.first_open test hs ≡ Some h → Alive h g
open_alive test [] h g e = absurd (cc e)
open_alive test (x ∷ xs) h g e = by x.gone (s.has_ended x.end.phase) (test x) refl refl e (open_alive test xs h g)
  where
    by : (a b c : Bool) → x.gone ≡ a → s.has_ended x.end.phase ≡ b → (if (not a && not b) && c then Some x else s.first_open test xs) ≡ Some h → (s.first_open test xs ≡ Some h → Alive h g) → Alive h g
    by true b c p q f rest = rest f
    by false true c p q f rest = rest f
    by false false false p q f rest = rest f
    by false false true p q f rest =
        let same : x ≡ h = cc f in
        record { held = subst (λ (k : Holder). k.gone ≡ false) same p; ended = λ t. absurd (cc (t, subst (λ (k : Holder). s.has_ended k.end.phase ≡ false) same q)) }

-- whatever it is of, it is left by each thing that an input may do
module _ (P : SetDone → Type 0) (C : Callsign → Type 0) (set : SetState) (stays : (told : List CircuitTold) → P (record { set = set; told = told }))
    (L : State → State → Type 0) (same : (u : State) → L u u) (arrives : (u : State) (t : Transport) (now : ℕ) → L u (end.step u (end.Arrive t) now).end)
    (steps : (h : Holder) (first : List CircuitTold) (g : Effect) → In h set.ends → Alive h g → L h.end g.end → P (s.goes_to set h first g))
    (makes : (at : Callsign) (asked : Option Pair) (request : Option (List ℕ)) (g : Effect) → C at → g.end.closing ≡ false → g.end.receiving.received ≡ [] → P (s.makes_end set at asked request g)) where
  either : (x y : SetDone) (b : Bool) → P x → P y → P (if b then x else y)
  either x y true p q = p
  either x y false p q = q

  at_by : (d : List ℕ) (t : Transport) (now : ℕ) (o : Option Holder) → ((h : Holder) → o ≡ Some h → In h set.ends) → ((h : Holder) (g : Effect) → o ≡ Some h → Alive h g) → P (elim o as (λ x. SetDone) [ Some h ↦ s.hands_to set h d t now | None ↦ s.does_nothing set ])
  at_by d t now None i a = stays []
  at_by d t now (Some h) i a =
      let g : Effect = end.step h.end (end.Arrive t) now in
      steps h (if heeds h.end.phase t then s.Heeded h.id d ∷ [] else []) g (i h refl) (a h g refl) (arrives h.end t now)

  at_end : (origin : Callsign) (d : List ℕ) (to : Pair) (t : Transport) (now : ℕ) → P (s.arrives_at set origin d to t now)
  at_end origin d to t now = at_by d t now (s.first_open (s.named_by origin to) set.ends) (λ h e. open_in (s.named_by origin to) set.ends h e) (λ h g e. open_alive (s.named_by origin to) set.ends h g e)

  anew : (origin : Callsign) (d : List ℕ) (pair : Pair) (window now : ℕ) → C origin → P (s.after_new_request set origin d pair window now)
  anew origin d pair window now c =
      either (record { set = set; told = s.Sent 0 None (s.datagram_to set origin (Refuse pair)) ∷ [] }) (s.responds set origin d pair window now) (s.is_full set) (stays _)
      (makes origin (Some pair) (Some d) (responding (s.new_pair set) pair window set.config (min now COUNT_MAX)) c refl refl)

  requested_by : (origin : Callsign) (d : List ℕ) (pair : Pair) (window now : ℕ) (o : Option Holder) → ((h : Holder) → o ≡ Some h → In h set.ends) → ((h : Holder) (g : Effect) → o ≡ Some h → Alive h g) → C origin
      → P (elim o as (λ x. SetDone) [ Some h ↦ s.goes_to set h [] (s.accept_again h.end) | None ↦ s.after_new_request set origin d pair window now ])
  requested_by origin d pair window now None i a c = anew origin d pair window now c
  requested_by origin d pair window now (Some h) i a c = steps h [] (s.accept_again h.end) (i h refl) (a h (s.accept_again h.end) refl) (same h.end)

  received : (origin : Callsign) (d : List ℕ) (t : Transport) (now : ℕ) → C origin → P (s.after_transport set origin d t now)
  received origin d (Request pair window user node) now c =
      requested_by origin d pair window now (s.first_open (s.opened_by origin pair) set.ends) (λ h e. open_in (s.opened_by origin pair) set.ends h e)
      (λ h g e. open_alive (s.opened_by origin pair) set.ends h g e) c
  received origin d (Accept to own window) now c = at_end origin d to (Accept to own window) now
  received origin d (Refuse to) now c = at_end origin d to (Refuse to) now
  received origin d (Disconnect to) now c = at_end origin d to (Disconnect to) now
  received origin d (Disconnected to) now c = at_end origin d to (Disconnected to) now
  received origin d (Info to tx rx flags text) now c = at_end origin d to (Info to tx rx flags text) now
  received origin d (InfoAck to rx flags) now c = at_end origin d to (InfoAck to rx flags) now

  read : (origin : Callsign) (d : List ℕ) (r : Result Transport TransportRefusal) (now : ℕ) → C origin → P (s.read_as set origin d r now)
  read origin d (Err e) now c = stays []
  read origin d (Ok t) now c = received origin d t now c

  handed_up : (d : List ℕ) (r : Result DatagramHead DatagramRefusal) (now : ℕ) → ((head : DatagramHead) → r ≡ Ok head → C head.origin) → P (s.after_datagram set d r now)
  handed_up d (Err e) now c = stays []
  handed_up d (Ok head) now c =
      either (s.does_nothing set) (s.read_as set head.origin d (transport_at (drop HEAD_SIZE d)) now) (same_call head.origin set.own || not (same_call head.dest set.own)) (stays [])
      (read head.origin d (transport_at (drop HEAD_SIZE d)) now (c head refl))

  pub comes : (d : List ℕ) (now : ℕ) → ((head : DatagramHead) → head_at d ≡ Ok head → C head.origin) → P (s.set_step set (Comes d now))
  comes d now c = handed_up d (head_at d) now c

  pub connects : (user dest : Callsign) (now : ℕ) → C dest → P (s.set_step set (ConnectFor user dest now))
  connects user dest now c =
      either (s.does_nothing set) (s.requests_for set user dest now) (same_call dest set.own || s.is_full set) (stays [])
      (makes dest None None (requesting (s.new_pair set) user set.own set.config (min now COUNT_MAX)) c refl refl)

  called_by : (h : Holder) (call : Call) (now : ℕ) → In h set.ends → L h.end (end.step h.end (s.input_of call) now).end → P (s.after_call set (Some h) call now)
  called_by h call now i l = by h.gone refl
    where
      g : Effect
      g = end.step h.end (s.input_of call) now

      by : (b : Bool) → h.gone ≡ b → P (if b then s.does_nothing set else s.goes_to set h [] g)
      by true e = stays []
      by false e = steps h [] g i (record { held = e; ended = one.ended_stays h.end (s.input_of call) now }) l

  called : (call : Call) (now : ℕ) (o : Option Holder) → ((h : Holder) → o ≡ Some h → In h set.ends) → ((h : Holder) → L h.end (end.step h.end (s.input_of call) now).end) → P (s.after_call set o call now)
  called call now None i l = stays []
  called call now (Some h) i l = called_by h call now (i h refl) (l h)

  pub calls : (id : ℕ) (call : Call) (now : ℕ) → ((h : Holder) → L h.end (end.step h.end (s.input_of call) now).end) → P (s.set_step set (Calls id call now))
  calls id call now l = called call now (s.end_of id set.ends) (λ h e. end_in id set.ends h e) l

-- ---- each of them leaves that

abbrev AreMessages : List (List ℕ) → ℕ → Type 0
AreMessages ms taken = Messages ms

one_more : (ms : List (List ℕ)) (taken : ℕ) (x : List ℕ) → IsMessage x → AreMessages ms taken → AreMessages (ms ++ x ∷ []) taken
one_more [] taken x i a = (i, tt)
one_more (m ∷ ms) taken x i a = (a.0, one_more ms taken x i a.1)

-- an end is closing where it was, and what it received are messages
abbrev LeavesOne : State → State → Type 0
LeavesOne s u = Leaves AreMessages s u

kept : (set : SetState) → Keeps Any set set
kept set = record { number = omega arith; below = λ p. p; once = λ b o. o; ended = λ id o low e. e; away = λ id o low e. e; messages = λ p. p; named = λ p. p; unshut = λ id a p. p }

-- what has ended stays so where one end goes on
over_held : (o : Option Holder) (h : Holder) → o ≡ Some h → h.gone ≡ false → ended_by (facts_at o) ≡ true → s.has_ended h.end.phase ≡ true
over_held None h e held f = absurd (cc e)
over_held (Some x) h e held f =
    let same : x ≡ h = cc e in
    let gone : x.gone ≡ false = subst (λ (k : Holder). k.gone ≡ false) (sym same) held in
    subst (λ (k : Holder). s.has_ended k.end.phase ≡ true) same (sym (ap (λ b. ended_by (if b then None else Some (facts_of x.end))) gone) ∙ f)

over_settled : (o : Option Holder) (k : Holder) → o ≡ Some k → s.has_ended k.end.phase ≡ true → ended_by (facts_at o) ≡ true
over_settled o k e f = ap (λ (x : Option Holder). ended_by (facts_at x)) e ∙ by k.gone
  where
    by : (b : Bool) → ended_by (if b then None else Some (facts_of k.end)) ≡ true
    by true = refl
    by false = f

ended_at : (set : SetState) (h : Holder) (first : List CircuitTold) (g : Effect) (id : ℕ) → In h set.ends → Alive h g → Once set.ends → is_ended id set ≡ true → is_ended id (s.goes_to set h first g).set ≡ true
ended_at set h first g id i a o e = by (nat_eq h.id id) refl
  where
    k : Holder
    k = s.after_effect h g

    by : (b : Bool) → nat_eq h.id id ≡ b → ended_by (facts_at (s.end_of id (s.with_end k set.ends))) ≡ true
    by true f =
        let was = is_end id h set.ends o i f in
        over_settled (s.end_of id (s.with_end k set.ends)) k (end_here id k h set.ends was f) (a.ended (over_held (s.end_of id set.ends) h was a.held e))
    by false f = ap (λ (x : Option Holder). ended_by (facts_at x)) (other_end id k set.ends f) ∙ e

not_away : (o : Option Holder) (h : Holder) → o ≡ Some h → h.gone ≡ false → is_none (facts_at o) ≡ true → ⊥
not_away None h e held f = absurd (cc e)
not_away (Some x) h e held f =
    let same : x ≡ h = cc e in
    let gone : x.gone ≡ false = subst (λ (k : Holder). k.gone ≡ false) (sym same) held in
    absurd (cc (sym (ap (λ b. is_none (if b then None else Some (facts_of x.end))) gone) ∙ f))

away_at : (set : SetState) (h : Holder) (first : List CircuitTold) (g : Effect) (id : ℕ) → In h set.ends → Alive h g → Once set.ends → is_away id set ≡ true → is_away id (s.goes_to set h first g).set ≡ true
away_at set h first g id i a o e = by (nat_eq h.id id) refl
  where
    by : (b : Bool) → nat_eq h.id id ≡ b → is_none (facts_at (s.end_of id (s.with_end (s.after_effect h g) set.ends))) ≡ true
    by true f = absurd (not_away (s.end_of id set.ends) h (is_end id h set.ends o i f) a.held e)
    by false f = ap (λ (x : Option Holder). is_none (facts_at x)) (other_end id (s.after_effect h g) set.ends f) ∙ e

kept_at : (set : SetState) (h : Holder) (first : List CircuitTold) (g : Effect) → In h set.ends → Alive h g → LeavesOne h.end g.end → Keeps Any set (s.goes_to set h first g).set
kept_at set h first g i v l =
    let k : Holder = s.after_effect h g in
    record {
      number = omega arith;
      once = λ b o. put_once k set.ends o;
      ended = λ id o low e. ended_at set h first g id i v o e;
      away = λ id o low e. away_at set h first g id i v o e;
      below = λ p. put_in (λ x. x.id < set.number) k set.ends (every_in (λ x. x.id < set.number) h set.ends p i) p;
      messages = λ p. put_in (λ x. Messages x.end.receiving.received) k set.ends (l.received (every_in (λ x. Messages x.end.receiving.received) h set.ends p i)) p;
      named = λ p. (p.0, put_in (λ x. IsCall x.at) k set.ends (every_in (λ x. IsCall x.at) h set.ends p.1 i) p.1);
      unshut = λ id a p. put_in (λ x. x.id ≡ id → x.end.closing ≡ false) k set.ends (λ e. l.closing ∙ every_in (λ x. x.id ≡ id → x.end.closing ≡ false) h set.ends p i e) p;
    }

kept_made : (set : SetState) (at : Callsign) (asked : Option Pair) (request : Option (List ℕ)) (g : Effect) → IsCall at → g.end.closing ≡ false → g.end.receiving.received ≡ [] → Keeps Any set (s.makes_end set at asked request g).set
kept_made set at asked request g call shut none =
    let k : Holder = s.holder_of set at asked g in
    record {
      number = omega arith;
      once = λ b o. push_once k set.ends (weaker (λ x. x.id < set.number) (λ x. nat_eq set.number x.id ≡ false) (λ x low. differ set.number x.id low) set.ends b) o;
      ended = λ id o low e. ap (λ (x : Option Holder). ended_by (facts_at x)) (end_before id k set.ends (differ set.number id low)) ∙ e;
      away = λ id o low e. ap (λ (x : Option Holder). is_none (facts_at x)) (end_before id k set.ends (differ set.number id low)) ∙ e;
      below = λ p. push_in (λ x. x.id < set.number + 1) k set.ends (omega arith) (weaker (λ x. x.id < set.number) (λ x. x.id < set.number + 1) (λ x low. omega (arith, low)) set.ends p);
      messages = λ p. push_in (λ x. Messages x.end.receiving.received) k set.ends (rw none tt) p;
      named = λ p. (p.0, push_in (λ x. IsCall x.at) k set.ends call p.1);
      unshut = λ id a p. push_in (λ x. x.id ≡ id → x.end.closing ≡ false) k set.ends (λ e. shut) p;
    }

pub comes_keeps : (set : SetState) (d : List ℕ) (now : ℕ) → Keeps Any set (s.set_step set (Comes d now)).set
comes_keeps set d now = comes (λ d. Keeps Any set d.set) IsCall set (λ told. kept set) LeavesOne (grown.itself AreMessages one_more) (grown.arrives AreMessages one_more) (kept_at set) (kept_made set) d now (origin_read d)

pub connects_keeps : (set : SetState) (user dest : Callsign) (now : ℕ) → IsCall dest → Keeps Any set (s.set_step set (ConnectFor user dest now)).set
connects_keeps set user dest now c = connects (λ d. Keeps Any set d.set) IsCall set (λ told. kept set) LeavesOne (grown.itself AreMessages one_more) (grown.arrives AreMessages one_more) (kept_at set) (kept_made set) user dest now c

calls_keep : (set : SetState) (id : ℕ) (call : Call) (now : ℕ) → ((h : Holder) → LeavesOne h.end (end.step h.end (s.input_of call) now).end) → Keeps Any set (s.set_step set (Calls id call now)).set
calls_keep set id call now l = calls (λ d. Keeps Any set d.set) IsCall set (λ told. kept set) LeavesOne (grown.itself AreMessages one_more) (grown.arrives AreMessages one_more) (kept_at set) (kept_made set) id call now l

pub writes_keep : (set : SetState) (text : List ℕ) (now id : ℕ) → Keeps Any set (s.set_step set (Calls id (Writes text) now)).set
writes_keep set text now id = calls_keep set id (Writes text) now (λ h. grown.writes AreMessages one_more h.end text now)

pub ticks_keep : (set : SetState) (now id : ℕ) → Keeps Any set (s.set_step set (Calls id Ticks now)).set
ticks_keep set now id = calls_keep set id Ticks now (λ h. grown.ticks AreMessages one_more h.end now)

pub takes_keep : (set : SetState) (now id : ℕ) → Keeps Any set (s.set_step set (Calls id Takes now)).set
takes_keep set now id = calls_keep set id Takes now (λ h. grown.takes AreMessages one_more h.end now (λ p. p))

-- a close leaves the ends of other numbers
abbrev pub Differs : ℕ → ℕ → Type 0
Differs id k = nat_eq id k ≡ false

shut_by : (set : SetState) (now id : ℕ) (o : Option Holder) → s.end_of id set.ends ≡ o → Keeps (Differs id) set (s.after_call set o Closes now).set
shut_by set now id None e = record { number = omega arith; below = λ p. p; once = λ b o. o; ended = λ k o low f. f; away = λ k o low f. f; messages = λ p. p; named = λ p. p; unshut = λ k a p. p }
shut_by set now id (Some h) e = by h.gone refl
  where
    g : Effect
    g = end.step h.end end.Close now

    i : In h set.ends
    i = end_in id set.ends h e

    by : (b : Bool) → h.gone ≡ b → Keeps (Differs id) set (if b then s.does_nothing set else s.goes_to set h [] g).set
    by true held = record { number = omega arith; below = λ p. p; once = λ b o. o; ended = λ k o low f. f; away = λ k o low f. f; messages = λ p. p; named = λ p. p; unshut = λ k a p. p }
    by false held =
        let k : Holder = s.after_effect h g in
        let mine = number_of id set.ends h e in
        let half = one.closes h.end now in
        record {
          number = omega arith;
          once = λ b o. put_once k set.ends o;
          ended = λ other o low f. ended_at set h [] g other i (record { held = held; ended = one.ended_stays h.end end.Close now }) o f;
          away = λ other o low f. away_at set h [] g other i (record { held = held; ended = one.ended_stays h.end end.Close now }) o f;
          below = λ p. put_in (λ x. x.id < set.number) k set.ends (every_in (λ x. x.id < set.number) h set.ends p i) p;
          messages = λ p. put_in (λ x. Messages x.end.receiving.received) k set.ends (rw half (every_in (λ x. Messages x.end.receiving.received) h set.ends p i)) p;
          named = λ p. (p.0, put_in (λ x. IsCall x.at) k set.ends (every_in (λ x. IsCall x.at) h set.ends p.1 i) p.1);
          unshut = λ other a p. put_in (λ x. x.id ≡ other → x.end.closing ≡ false) k set.ends (λ f. let same : id ≡ other = sym mine ∙ f in absurd (grind (arith, nat_tests, a, same))) p;
        }

pub closes_keep : (set : SetState) (now id : ℕ) → Keeps (Differs id) set (s.set_step set (Calls id Closes now)).set
closes_keep set now id = shut_by set now id (s.end_of id set.ends) refl

-- ---- a call of another end leaves this one

called_other : (set : SetState) (id at : ℕ) (call : Call) (now : ℕ) (o : Option Holder) → s.end_of at set.ends ≡ o → nat_eq at id ≡ false
    → s.end_of id (s.after_call set o call now).set.ends ≡ s.end_of id set.ends
called_other set id at call now None e f = refl
called_other set id at call now (Some h) e f = by h.gone
  where
    by : (b : Bool) → s.end_of id (if b then s.does_nothing set else s.goes_to set h [] (end.step h.end (s.input_of call) now)).set.ends ≡ s.end_of id set.ends
    by true = refl
    by false =
        let mine = number_of at set.ends h e in
        let other : nat_eq h.id id ≡ false = rw mine f in
        other_end id (s.after_effect h (end.step h.end (s.input_of call) now)) set.ends other

pub others_stay : (set : SetState) (id at : ℕ) (call : Call) (now : ℕ) → nat_eq at id ≡ false → s.end_of id (s.set_step set (Calls at call now)).set.ends ≡ s.end_of id set.ends
others_stay set id at call now f = called_other set id at call now (s.end_of at set.ends) refl f
