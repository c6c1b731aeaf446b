-- How a set is pumped, turn by turn: what is untold is told, one thing a turn, and what is sent is offered to the next hop when it
-- is told; only where nothing is untold is the router asked, for one lost neighbour or one datagram. A call of `pump` is turns
-- until something is told or nothing is left. Each call of the carrier stands here, in its order (this project's profile). And how
-- the calls of a set are inputs of its machine.
use Rattle.std.specs.Prelude.{ℕ, ◌+◌, Bool, true, false, ◌&&◌, List, [], ◌∷◌, ◌++◌, if◌then◌else◌, Option, Some, None, is_none, Result, Ok, Err, ◌≡◌, ◌<◌}
use Rattle.ax_address.specs.Callsign.{Callsign, same_call}
use Rattle.route_table.specs.Log.{Item, Failure}
use Rattle.l3_datagram.specs.declared.carrier.Offered.{Offered}
use Rattle.l3_datagram.specs.declared.carrier.Offered.TheVariants as offered
use Rattle.l3_datagram.specs.declared.datagram.DatagramHead.{DatagramHead}
use Rattle.l3_datagram.specs.declared.datagram.DatagramRefusal.{DatagramRefusal}
use Rattle.l3_datagram.specs.declared.routed.Routed.{Routed}
use Rattle.l3_datagram.specs.declared.routed.Routed.TheVariants as routed
use Rattle.l3_datagram.specs.Datagrams.{CarrierCall, Datagram, Parcel, Collect, Fail, Offer, head_at}
use Rattle.l3_datagram.specs.Routers.{Way, Ends, ToNeighbour, forwarded_by, way}
use Rattle.circuit_table.specs.Sets.{SetDone, SetState, CircuitTold, Sent, Comes, set_step, Act, Calls, Holder, Ticks, is_full, does_nothing}
use Rattle.circuit_table.specs.declared.refusal.ConnectRefusal.{ConnectRefusal}
use Rattle.circuit_table.specs.declared.refusal.ConnectRefusal.TheVariants as refusal

-- a set between its calls: what is untold, and what a sending that was told came to, where it came to nothing
pub record Waiting : Type 0 where
  pub set : SetState
  pub untold : List CircuitTold
  pub lost : Option Routed

-- nothing waits to be told but what lies at the router
abbrev pub at_rest : SetState → Waiting
at_rest s = record { set = s; untold = []; lost = None }

-- its machine has come to this
abbrev pub with_done : Waiting → SetDone → Waiting
with_done w d = record { set = d.set; untold = w.untold ++ d.told; lost = w.lost }

abbrev pub is_empty : List CircuitTold → Bool
is_empty [] = true
is_empty (t ∷ ts) = false

abbrev pub is_drained : Waiting → Bool
is_drained w = is_none w.lost && is_empty w.untold

-- how much is untold: a sending may come to nothing, which is told next
abbrev pub weight : CircuitTold → ℕ
weight (Sent id number d) = 2
weight _ = 1

abbrev pub weights : List CircuitTold → ℕ
weights [] = 0
weights (t ∷ ts) = weight t + weights ts

abbrev pub untold_weight : Waiting → ℕ
untold_weight w = (if is_none w.lost then 0 else 1) + weights w.untold

-- ---- turns ----
-- what a turn tells
pub data SetTold : Type 0 where
  Of : CircuitTold → SetTold
  Dropped : Routed → SetTold
  Lost : Callsign → SetTold

-- what a turn comes to: what is told, if anything is, the set then, and what the routing table takes in
pub record Turned : Type 0 where
  pub told : Option SetTold
  pub after : Waiting
  pub items : List Item

-- a turn comes to this; or a datagram is offered to a neighbour, and it comes to what follows by the answer
pub data Turn : Type 0 where
  Says : Turned → Turn
  Offers : (to : Callsign) (datagram : Datagram) (by : Offered → Turned) → Turn

abbrev pub outcome : Turn → Offered → Turned
outcome (Says t) answer = t
outcome (Offers to d by) answer = by answer

abbrev pub offer_of : Turn → ℕ → Offered → List CarrierCall
offer_of (Says t) now answer = []
offer_of (Offers to d by) now answer = Offer to d now answer ∷ []

-- nothing is told
abbrev pub says_nothing : Waiting → Turned
says_nothing w = record { told = None; after = w; items = [] }

-- this is told, and changes nothing
abbrev pub speaks : SetTold → Waiting → Turned
speaks told w = record { told = Some told; after = w; items = [] }

-- what is told after a sending, by the answer of the carrier
abbrev pub dropped_by : Offered → Option Routed
dropped_by offered.Taken = None
dropped_by offered.Dropped = Some routed.Dropped

-- by what became of a datagram: what was for this node is taken in, and one that was forwarded isn't told
abbrev pub heard_as : ℕ → Waiting → Routed → Turned
heard_as now w (routed.Mine origin d) = says_nothing (with_done w (set_step w.set (Comes d.items now)))
heard_as now w routed.Forwarded = says_nothing w
heard_as now w (routed.Lost call) = speaks (Lost call) w
heard_as now w r = speaks (Dropped r) w

abbrev pub hears_by : ℕ → Waiting → Way → Turn
hears_by now w (Ends told) = Says (heard_as now w told)
hears_by now w (ToNeighbour neighbour d) = Offers neighbour d (λ answer. heard_as now w (forwarded_by answer))

-- a neighbour was lost, so that the routing table knows of it
abbrev pub hears_lost : Callsign → Waiting → Turned
hears_lost neighbour w = record { told = Some (Lost neighbour); after = w; items = Failure neighbour ∷ [] }

-- ---- calls ----
-- what a call of `pump` comes to: what it tells, the set then, the calls of the carrier, and what the routing table takes in
pub record Pumped : Type 0 where
  pub told : Option SetTold
  pub after : Waiting
  pub calls : List CarrierCall
  pub items : List Item

-- the last turn, after these calls
abbrev pub ends_with : List CarrierCall → Turned → Pumped
ends_with calls t = record { told = t.told; after = t.after; calls = calls; items = t.items }

abbrev pub after_calls : List CarrierCall → Pumped → Pumped
after_calls calls p = record { told = p.told; after = p.after; calls = calls ++ p.calls; items = p.items }

abbrev pub turn_step : ℕ → Turn → Offered → Pumped
turn_step now t answer = ends_with (offer_of t now answer) (outcome t answer)

module _ (next_hop : Callsign → Option Callsign) where
  -- a datagram of this node goes to the next hop towards its destination
  abbrev pub sent_to : SetState → CircuitTold → List ℕ → List CircuitTold → Option Callsign → Turn
  sent_to s t d rest None = Says (record { told = Some (Of t); after = record { set = s; untold = rest; lost = Some routed.NoRoute }; items = [] })
  sent_to s t d rest (Some hop) =
      Offers hop (record { items = d }) (λ answer. record { told = Some (Of t); after = record { set = s; untold = rest; lost = dropped_by answer }; items = [] })

  abbrev pub sent_by_head : SetState → CircuitTold → List ℕ → List CircuitTold → Result DatagramHead DatagramRefusal → Turn
  sent_by_head s t d rest (Err e) = sent_to s t d rest None
  sent_by_head s t d rest (Ok head) = sent_to s t d rest (next_hop head.dest)

  -- the first thing that is untold is told
  abbrev pub tells_first : SetState → CircuitTold → List CircuitTold → Turn
  tells_first s (Sent id number d) rest = sent_by_head s (Sent id number d) d rest (head_at d)
  tells_first s t rest = Says (record { told = Some (Of t); after = record { set = s; untold = rest; lost = None }; items = [] })

  abbrev pub tells_of : SetState → List CircuitTold → Turn
  tells_of s [] = Says (says_nothing (at_rest s))
  tells_of s (t ∷ rest) = tells_first s t rest

  -- what a sending came to stands before all else that is untold
  abbrev pub tells : Waiting → Turn
  tells w = elim w.lost as (λ x. Turn) [
    | Some r ↦ Says (record { told = Some (Dropped r); after = record { set = w.set; untold = w.untold; lost = None }; items = [] })
    | None ↦ tells_of w.set w.untold
  ]

  -- a datagram that waits at the router is taken
  abbrev pub hears : ℕ → Parcel → Waiting → Turn
  hears now parcel w = hears_by now w (way w.set.own next_hop parcel.1)

  -- what it has brought is told, the first of it
  abbrev pub tells_on : ℕ → Turned → Offered → Pumped
  tells_on now t answer = elim t.told as (λ x. Pumped) [
    | Some told ↦ ends_with [] t
    | None ↦ (if is_drained t.after then ends_with [] t else turn_step now (tells t.after) answer)
  ]

  -- both turns; `answer` is the carrier's, where it is offered a datagram
  abbrev pub takes : ℕ → SetState → Parcel → Offered → Pumped
  takes now s parcel answer =
      let t : Turn = hears now parcel (at_rest s) in
      after_calls (Fail None ∷ Collect (Some parcel) ∷ offer_of t now answer) (tells_on now (outcome t answer) answer)

  -- one datagram after another is taken, until something is told; where nothing lies at the router it isn't asked
  abbrev pub takes_all : ℕ → SetState → List (Parcel × Offered) → Pumped
  takes_all now s [] = ends_with [] (says_nothing (at_rest s))
  takes_all now s (p ∷ ps) =
      let first : Pumped = takes now s p.0 p.1 in
      elim first.told as (λ x. Pumped) [ Some told ↦ first | None ↦ after_calls first.calls (takes_all now first.after.set ps) ]

  -- the router is asked, by the neighbours that are lost and the datagrams that wait, each with the carrier's answer in its turn
  abbrev pub asks : ℕ → SetState → List Callsign → List (Parcel × Offered) → Pumped
  asks now s [] waiting = takes_all now s waiting
  asks now s (neighbour ∷ _) waiting = ends_with (Fail (Some neighbour) ∷ []) (hears_lost neighbour (at_rest s))

  -- one call of `pump`
  abbrev pub pump_step : ℕ → Waiting → List Callsign → List (Parcel × Offered) → Offered → Pumped
  pump_step now w lost waiting answer = if is_drained w then asks now w.set lost waiting else turn_step now (tells w) answer

-- The calls of a set as inputs of its machine: each call is the inputs that it takes, and what it tells, with what is then untold,
-- is what was untold and what those inputs tell, in their order.

-- one input after another
abbrev pub runs : List Act → SetState → SetDone
runs [] s = does_nothing s
runs (a ∷ acts) s = let r : SetDone = set_step s a in let q : SetDone = runs acts r.set in record { set = q.set; told = r.told ++ q.told }

-- ---- the calls ----
-- one input
abbrev pub acts : Act → Waiting → Waiting
acts a w = with_done w (set_step w.set a)

-- a tick of the set is one of each end that is held, in the order of their numbers
abbrev pub ticks_of : ℕ → List Holder → List Act
ticks_of now [] = []
ticks_of now (h ∷ hs) = if h.gone then ticks_of now hs else Calls h.id Ticks now ∷ ticks_of now hs

abbrev pub after_ticks : ℕ → SetState → SetDone
after_ticks now s = runs (ticks_of now s.ends) s

abbrev pub ticks : ℕ → Waiting → Waiting
ticks now w = with_done w (after_ticks now w.set)

-- A circuit is asked for: the first of these that is so refuses it, and else the end that is made has the next number.
abbrev pub connect_answer : (Callsign → Option Callsign) → Callsign → SetState → Result ℕ ConnectRefusal
connect_answer next_hop node s =
    if same_call node s.own then Err refusal.Own
    else (if is_none (next_hop node) then Err refusal.NoRoute else (if is_full s then Err refusal.Full else Ok s.number))

-- ---- what each comes to ----
-- what is told of circuits: that a datagram came to nothing, or that a neighbour was lost, is none of it
abbrev pub of_circuits : Option SetTold → List CircuitTold
of_circuits None = []
of_circuits (Some (Of t)) = t ∷ []
of_circuits (Some (Dropped r)) = []
of_circuits (Some (Lost call)) = []

-- by some inputs the machine went on; what was told and what is untold are what was untold and what they tell
pub record GoesByInputs (old new : Waiting) (told : List CircuitTold) : Type 0 where
  pub inputs : List Act
  pub set : new.set ≡ (runs inputs old.set).set
  pub given : told ++ new.untold ≡ old.untold ++ (runs inputs old.set).told

abbrev pub TurnGoes : Waiting → Turned → Type 0
TurnGoes w t = GoesByInputs w t.after (of_circuits t.told)

-- to whatever a turn comes
abbrev pub OfEach : (Turned → Type 0) → Turn → Type 0
OfEach P (Says t) = P t
OfEach P (Offers to d by) = (answer : Offered) → P (by answer)

abbrev pub ActsGo : Type 0
ActsGo = (a : Act) (w : Waiting) → GoesByInputs w (acts a w) []

abbrev pub TicksGo : Type 0
TicksGo = (now : ℕ) (w : Waiting) → GoesByInputs w (ticks now w) []

abbrev pub TellsGo : Type 0
TellsGo = (next_hop : Callsign → Option Callsign) (w : Waiting) → OfEach (TurnGoes w) (tells next_hop w)

abbrev pub HearsGo : Type 0
HearsGo = (next_hop : Callsign → Option Callsign) (now : ℕ) (parcel : Parcel) (w : Waiting) → OfEach (TurnGoes w) (hears next_hop now parcel w)

abbrev pub HearsLostGoes : Type 0
HearsLostGoes = (neighbour : Callsign) (w : Waiting) → TurnGoes w (hears_lost neighbour w)

-- what is untold falls with each thing that is told
abbrev pub TellsLess : Type 0
TellsLess = (next_hop : Callsign → Option Callsign) (w : Waiting) → 0 < untold_weight w → OfEach (λ t. untold_weight t.after < untold_weight w) (tells next_hop w)
