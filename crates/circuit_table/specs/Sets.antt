-- The ends of a node's circuits: what they heed, how they are made and found, and what the set of them tells.
use Rattle.std.specs.Prelude.{ℕ, ◌+◌, min, Bool, true, false, not, ◌&&◌, ◌||◌, nat_eq, nat_lt, nat_le, if◌then◌else◌, List, [], ◌∷◌, ◌++◌, length, drop, Option, Some, None, Result, Ok, Err}
use Rattle.radio_base.specs.declared.modulus.TheConstants.{COUNT_MAX}
use Rattle.ax_address.specs.Callsign.{Callsign, same_call}
use Rattle.l3_datagram.specs.declared.datagram.DatagramHead.{DatagramHead}
use Rattle.l3_datagram.specs.declared.datagram.DatagramRefusal.{DatagramRefusal}
use Rattle.l3_datagram.specs.declared.datagram.TheConstants.{HEAD_SIZE}
use Rattle.l3_datagram.specs.Datagrams.{head_at, octets_with}
use Rattle.circuit_l4.specs.declared.pair.Pair.{Pair}
use Rattle.circuit_l4.specs.declared.transport.Transport.{Transport}
use Rattle.circuit_l4.specs.declared.transport.Transport.TheVariants.{Request, Accept, Refuse, Disconnect, Disconnected, Info, InfoAck}
use Rattle.circuit_l4.specs.declared.transport.TransportRefusal.{TransportRefusal}
use Rattle.circuit_l4.specs.declared.config.EndConfig.{EndConfig}
use Rattle.circuit_l4.specs.declared.facts.EndFacts.{EndFacts}
use Rattle.circuit_l4.specs.declared.phase.EndPhase.{EndPhase}
use Rattle.circuit_l4.specs.declared.phase.EndPhase.TheVariants.{Ended, Connecting, Up, Closing}
use Rattle.circuit_l4.specs.declared.notice.EndNotice.{EndNotice}
use Rattle.circuit_l4.specs.Transports.{transport_at, transport_octets}
use Rattle.circuit_l4.specs.State.{Effect, Out, State, inbox}
use Rattle.circuit_l4.specs.Table.{Input, Write, Arrive, Tick, Close, Take, step}
use Rattle.circuit_l4.specs.Opening.{facts_of, requesting, responding}
use Rattle.circuit_table.specs.Pairs.{pair_after, next_free}

-- What an end heeds of what comes from its partner's node (this project's profile).

-- an end in this phase heeds this transport, where it comes from its partner node
abbrev pub heeds : EndPhase → Transport → Bool
heeds Connecting (Accept to own window) = true
heeds Connecting _ = false
heeds Up (Disconnect to) = true
heeds Up (Info to tx rx flags text) = true
heeds Up (InfoAck to rx flags) = true
heeds Up _ = false
heeds Closing (Disconnect to) = true
heeds Closing (Disconnected to) = true
heeds Closing _ = false
heeds Ended _ = false

-- an end of a set, also one that is held no longer
pub record Holder : Type 0 where
  pub id : ℕ  -- its number
  pub at : Callsign  -- the partner's node
  pub asked : Option Pair  -- the pair of the request that opened it; a requester has none
  pub end : State
  pub gone : Bool  -- it is held no longer

pub record SetState : Type 0 where
  pub own : Callsign  -- the router's node
  pub ttl : ℕ
  pub user : Callsign
  pub config : EndConfig
  pub next : Pair  -- from which on the next pair is looked for
  pub number : ℕ  -- of the next end
  pub ends : List Holder  -- all that were ever made, by number

-- what is told, in order. Number 0 is that of the set itself, which sends refusals
pub data CircuitTold : Type 0 where
  Made : (id : ℕ) (pair : Pair) (partner : Callsign) (request : Option (List ℕ)) → CircuitTold
  Sent : (id : ℕ) (number : Option ℕ) (datagram : List ℕ) → CircuitTold
  Heeded : (id : ℕ) (datagram : List ℕ) → CircuitTold
  Notice : (id : ℕ) (notice : EndNotice) → CircuitTold
  Gone : (id : ℕ) (facts : EndFacts) → CircuitTold
  Restarted : (pair : Pair) → CircuitTold
  Lost : (id : ℕ) (facts : EndFacts) → CircuitTold

pub record SetDone : Type 0 where
  pub set : SetState
  pub told : List CircuitTold

abbrev pub does_nothing : SetState → SetDone
does_nothing s = record { set = s; told = [] }

-- ---- ends by number ----
abbrev pub end_of : ℕ → List Holder → Option Holder
end_of id [] = None
end_of id (h ∷ hs) = if nat_eq h.id id then Some h else end_of id hs

abbrev pub with_end : Holder → List Holder → List Holder
with_end h [] = []
with_end h (x ∷ xs) = (if nat_eq x.id h.id then h else x) ∷ with_end h xs

abbrev pub held_pairs : List Holder → List Pair
held_pairs [] = []
held_pairs (h ∷ hs) = if h.gone then held_pairs hs else h.end.pair ∷ held_pairs hs

abbrev pub has_ended : EndPhase → Bool
has_ended Ended = true
has_ended _ = false

abbrev pub is_open : Holder → Bool
is_open h = not h.gone && not (has_ended h.end.phase)

-- ---- a step of one end ----
abbrev pub datagram_to : SetState → Callsign → Transport → List ℕ
datagram_to s at t = octets_with (record { origin = s.own; dest = at; ttl = s.ttl }) (transport_octets t)

abbrev pub sendings : SetState → ℕ → Callsign → List Out → List CircuitTold
sendings s id at [] = []
sendings s id at (o ∷ os) = Sent id o.1 (datagram_to s at o.0) ∷ sendings s id at os

abbrev pub notices : ℕ → List EndNotice → List CircuitTold
notices id [] = []
notices id (n ∷ ns) = Notice id n ∷ notices id ns

-- an ended end is held until its inbox is empty
abbrev pub is_over : State → Bool
is_over e = has_ended e.phase && nat_eq (length (inbox e.receiving)) 0

-- what an end tells that has come to g
abbrev pub told_by : SetState → Holder → Effect → List CircuitTold
told_by s h g = sendings s h.id h.at g.outs ++ notices h.id g.notes ++ (if is_over g.end then Gone h.id (facts_of g.end) ∷ [] else [])

abbrev pub after_effect : Holder → Effect → Holder
after_effect h g = record h { end = g.end; gone = is_over g.end }

abbrev pub goes_to : SetState → Holder → List CircuitTold → Effect → SetDone
goes_to s h first g = record { set = record s { ends = with_end (after_effect h g) s.ends }; told = first ++ told_by s h g }

-- ---- a new end ----
abbrev pub new_pair : SetState → Pair
new_pair s = next_free 255 (held_pairs s.ends) s.next

abbrev pub is_full : SetState → Bool
is_full s = nat_le 64 (length (held_pairs s.ends)) || nat_lt COUNT_MAX s.number

abbrev pub holder_of : SetState → Callsign → Option Pair → Effect → Holder
holder_of s at asked g = record { id = s.number; at = at; asked = asked; end = g.end; gone = is_over g.end }

abbrev pub makes_end : SetState → Callsign → Option Pair → Option (List ℕ) → Effect → SetDone
makes_end s at asked request g =
    let h : Holder = holder_of s at asked g in
    record {
      set = record s { next = pair_after (new_pair s); number = s.number + 1; ends = s.ends ++ h ∷ [] };
      told = Made s.number (new_pair s) at request ∷ told_by s h g;
    }

-- ---- a datagram for this node ----
abbrev pub same_pair : Pair → Pair → Bool
same_pair p q = nat_eq p.index q.index && nat_eq p.ident q.ident

abbrev pub asked_with : Option Pair → Pair → Bool
asked_with None p = false
asked_with (Some q) p = same_pair q p

abbrev pub first_open : (Holder → Bool) → List Holder → Option Holder
first_open test [] = None
first_open test (h ∷ hs) = if is_open h && test h then Some h else first_open test hs

-- the end that a request from this node with this pair has opened
abbrev pub opened_by : Callsign → Pair → Holder → Bool
opened_by origin pair h = asked_with h.asked pair && same_call h.at origin

-- the end with this pair, whose partner is at this node
abbrev pub named_by : Callsign → Pair → Holder → Bool
named_by origin pair h = same_pair h.end.pair pair && same_call h.at origin

abbrev pub accept_again : State → Effect
accept_again e = record { end = e; outs = (Accept e.to e.pair e.window, None) ∷ []; notes = [] }

-- an end is made by a request that came from a node
abbrev pub responds : SetState → Callsign → List ℕ → Pair → ℕ → ℕ → SetDone
responds s origin d pair window now =
    makes_end s origin (Some pair) (Some d) (responding (new_pair s) pair window s.config (min now COUNT_MAX))

-- it is refused where no end can be made
abbrev pub after_new_request : SetState → Callsign → List ℕ → Pair → ℕ → ℕ → SetDone
after_new_request s origin d pair window now =
    if is_full s then record { set = s; told = Sent 0 None (datagram_to s origin (Refuse pair)) ∷ [] }
    else responds s origin d pair window now

abbrev pub after_request : SetState → Callsign → List ℕ → Pair → ℕ → ℕ → SetDone
after_request s origin d pair window now =
    elim (first_open (opened_by origin pair) s.ends) as (λ x. SetDone) [
      | Some h ↦ goes_to s h [] (accept_again h.end)
      | None ↦ after_new_request s origin d pair window now
    ]

-- an end takes in a transport, in this datagram
abbrev pub hands_to : SetState → Holder → List ℕ → Transport → ℕ → SetDone
hands_to s h d t now = goes_to s h (if heeds h.end.phase t then Heeded h.id d ∷ [] else []) (step h.end (Arrive t) now)

abbrev pub arrives_at : SetState → Callsign → List ℕ → Pair → Transport → ℕ → SetDone
arrives_at s origin d to t now =
    elim (first_open (named_by origin to) s.ends) as (λ x. SetDone) [
      | Some h ↦ hands_to s h d t now
      | None ↦ does_nothing s
    ]

abbrev pub after_transport : SetState → Callsign → List ℕ → Transport → ℕ → SetDone
after_transport s origin d (Request pair window user node) now = after_request s origin d pair window now
after_transport s origin d (Accept to own window) now = arrives_at s origin d to (Accept to own window) now
after_transport s origin d (Refuse to) now = arrives_at s origin d to (Refuse to) now
after_transport s origin d (Disconnect to) now = arrives_at s origin d to (Disconnect to) now
after_transport s origin d (Disconnected to) now = arrives_at s origin d to (Disconnected to) now
after_transport s origin d (Info to tx rx flags text) now = arrives_at s origin d to (Info to tx rx flags text) now
after_transport s origin d (InfoAck to rx flags) now = arrives_at s origin d to (InfoAck to rx flags) now

abbrev pub read_as : SetState → Callsign → List ℕ → Result Transport TransportRefusal → ℕ → SetDone
read_as s origin d (Err e) now = does_nothing s
read_as s origin d (Ok t) now = after_transport s origin d t now

-- the router hands up what is for this node, and comes from another one
abbrev pub after_datagram : SetState → List ℕ → Result DatagramHead DatagramRefusal → ℕ → SetDone
after_datagram s d (Err e) now = does_nothing s
after_datagram s d (Ok head) now =
    if same_call head.origin s.own || not (same_call head.dest s.own) then does_nothing s else read_as s head.origin d (transport_at (drop HEAD_SIZE d)) now

-- ---- the steps ----
-- what a user or the time gives an end
pub data Call : Type 0 where
  Writes : List ℕ → Call
  Ticks : Call
  Closes : Call
  Takes : Call

abbrev pub input_of : Call → Input
input_of (Writes m) = Write m
input_of Ticks = Tick
input_of Closes = Close
input_of Takes = Take

-- A circuit is asked for by the set's user or by another one, where that is accepted; a datagram is handed up by the router; an end is called, where it is held (a
-- tick of the set is one of each held end, by number); an ended end is discarded; the node starts again at this pair, and its
-- next number is the first one above all earlier ones, or so many more
pub data Act : Type 0 where
  Connect : (dest : Callsign) (now : ℕ) → Act
  ConnectFor : (user dest : Callsign) (now : ℕ) → Act
  Comes : (datagram : List ℕ) (now : ℕ) → Act
  Calls : (id : ℕ) (call : Call) (now : ℕ) → Act
  Discard : (id : ℕ) → Act
  Restart : (pair : Pair) (more : ℕ) → Act

-- an end is made that asks for a circuit with a node, for this user
abbrev pub requests_for : SetState → Callsign → Callsign → ℕ → SetDone
requests_for s user dest now = makes_end s dest None None (requesting (new_pair s) user s.own s.config (min now COUNT_MAX))

-- the same, for the set's user
abbrev pub requests : SetState → Callsign → ℕ → SetDone
requests s dest now = requests_for s s.user dest now

abbrev pub after_connecting_for : SetState → Callsign → Callsign → ℕ → SetDone
after_connecting_for s user dest now =
    if same_call dest s.own || is_full s then does_nothing s
    else requests_for s user dest now

abbrev pub after_connecting : SetState → Callsign → ℕ → SetDone
after_connecting s dest now = after_connecting_for s s.user dest now

abbrev pub after_call : SetState → Option Holder → Call → ℕ → SetDone
after_call s None call now = does_nothing s
after_call s (Some h) call now = if h.gone then does_nothing s else goes_to s h [] (step h.end (input_of call) now)

abbrev pub after_discarding : SetState → Option Holder → SetDone
after_discarding s None = does_nothing s
after_discarding s (Some h) =
    if not h.gone && has_ended h.end.phase
    then record { set = record s { ends = with_end (record h { gone = true }) s.ends }; told = Gone h.id (facts_of h.end) ∷ [] }
    else does_nothing s

-- a node that starts again has lost its ends, which stay as they were
abbrev pub all_gone : List Holder → List Holder
all_gone [] = []
all_gone (h ∷ hs) = record h { gone = true } ∷ all_gone hs

abbrev pub losses : List Holder → List CircuitTold
losses [] = []
losses (h ∷ hs) = if h.gone then losses hs else Lost h.id (facts_of h.end) ∷ losses hs

abbrev pub after_restart : SetState → Pair → ℕ → SetDone
after_restart s pair more =
    record { set = record s { next = pair; number = s.number + more; ends = all_gone s.ends }; told = Restarted pair ∷ losses s.ends }

abbrev pub set_step : SetState → Act → SetDone
set_step s (Connect dest now) = after_connecting s dest now
set_step s (ConnectFor user dest now) = after_connecting_for s user dest now
set_step s (Comes d now) = after_datagram s d (head_at d) now
set_step s (Calls id call now) = after_call s (end_of id s.ends) call now
set_step s (Discard id) = after_discarding s (end_of id s.ends)
set_step s (Restart pair more) = after_restart s pair more

-- a set at its start
abbrev pub new_set : Callsign → ℕ → Callsign → EndConfig → Pair → ℕ → SetState
new_set own ttl user config pair first = record { own = own; ttl = ttl; user = user; config = config; next = pair; number = first; ends = [] }
