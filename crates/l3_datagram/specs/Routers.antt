-- A router, which is a node's routing table over a carrier, and what it does with one datagram (NET/ROM Appendix B).
use Rattle.std.specs.Prelude.{ℕ, ◌≡◌, ◌+◌, ◌<◌, ◌≤◌, List, [], ◌∷◌, ◌++◌, length, drop, Option, Some, None, Bool, true, false, Ok, ◌-◌, slice_set, Result, Err, nat_le, if◌then◌else◌}
use Rattle.ax_address.specs.Callsign.{Callsign, same_call}
use Rattle.route_table.specs.Log.{Item, Failure}
use Rattle.route_table.specs.Table.{next_hop}
use Rattle.route_table.specs.Held.{TableRoutes, StandsFor, SameNode}
use Rattle.l3_datagram.specs.declared.carrier.Offered.{Offered}
use Rattle.l3_datagram.specs.declared.datagram.DatagramHead.{DatagramHead}
use Rattle.l3_datagram.specs.Datagrams.{head_at, CarrierCall, Datagram, Parcel, Offer, Collect, Fail}
use Rattle.l3_datagram.specs.declared.routed.Routed.{Routed}
use Rattle.l3_datagram.specs.declared.routed.Routed.TheVariants.{Lost, Mine, Forwarded, Expired, NoRoute, Returned, Dropped, Bad}
use Rattle.l3_datagram.specs.declared.sending.Sending.{Sending}
use Rattle.l3_datagram.specs.declared.carrier.Offered.TheVariants as offered
use Rattle.l3_datagram.specs.declared.datagram.DatagramRefusal.{DatagramRefusal}
use Rattle.l3_datagram.specs.declared.sending.Sending.TheVariants as sending

-- The routing step: what becomes of one datagram (NET/ROM Appendix B). It knows no carrier, but only what that answers.

-- where a datagram goes: it ends here, with what is told of it, or goes on to a neighbour
pub data Way : Type 0 where
  Ends : (told : Routed) → Way
  ToNeighbour : (neighbour : Callsign) (datagram : Datagram) → Way

-- the datagram with another time to live, and every other octet as it came
abbrev pub with_ttl : Datagram → ℕ → Datagram
with_ttl d ttl = record { items = slice_set d.items 14 ttl }

-- to the next hop, if there is one, with one hop less to go
abbrev pub onward : Datagram → ℕ → Option Callsign → Way
onward d ttl None = Ends NoRoute
onward d ttl (Some neighbour) = ToNeighbour neighbour (with_ttl d (ttl - 1))

-- the first of these that is so: it can't be read, it came from this node, it is for this node, its time to live is
-- used up, no route leads to its destination; else it goes on
abbrev pub way_of : Callsign → (Callsign → Option Callsign) → Datagram → Result DatagramHead DatagramRefusal → Way
way_of own next_hop d (Err _) = Ends Bad
way_of own next_hop d (Ok head) =
    if same_call head.origin own
    then Ends Returned
    else
    (if same_call head.dest own
    then Ends (Mine head.origin d)
    else (if nat_le head.ttl 1 then Ends Expired else onward d head.ttl (next_hop head.dest)))

abbrev pub way : Callsign → (Callsign → Option Callsign) → Datagram → Way
way own next_hop d = way_of own next_hop d (head_at d.items)

-- what is told of the datagram, by the answer of the carrier to which it is offered
abbrev pub forwarded_by : Offered → Routed
forwarded_by offered.Taken = Forwarded
forwarded_by offered.Dropped = Dropped

abbrev pub routed_by : Way → Offered → Routed
routed_by (Ends told) answer = told
routed_by (ToNeighbour neighbour d) answer = forwarded_by answer

-- it is offered once where it goes on, and else not at all
abbrev pub offers_of : Way → ℕ → Offered → List CarrierCall
offers_of (Ends told) now answer = []
offers_of (ToNeighbour neighbour d) now answer = Offer neighbour d now answer ∷ []

-- what a step comes to: what is told, the calls of the carrier in their order, and what the routing table takes in
pub record Pumping : Type 0 where
  pub told : Option Routed
  pub calls : List CarrierCall
  pub items : List Item

-- a datagram came up
abbrev pub hop : Parcel → Way → ℕ → Offered → Pumping
hop parcel w now answer =
    record { told = Some (routed_by w answer); calls = Fail None ∷ Collect (Some parcel) ∷ offers_of w now answer; items = [] }

-- By the neighbours that were lost and the datagrams that wait: a lost neighbour is told first, and ends its reports;
-- else a datagram is taken; else there is nothing.
abbrev pub pumping : Callsign → (Callsign → Option Callsign) → List Callsign → List Parcel → ℕ → Offered → Pumping
pumping own next_hop (neighbour ∷ _) waiting now answer =
    record { told = Some (Lost neighbour); calls = Fail (Some neighbour) ∷ []; items = Failure neighbour ∷ [] }
pumping own next_hop [] [] now answer = record { told = None; calls = Fail None ∷ Collect None ∷ []; items = [] }
pumping own next_hop [] (parcel ∷ _) now answer = hop parcel (way own next_hop parcel.1) now answer

-- what sending comes to, by the next hop towards the destination
pub record Sent : Type 0 where
  pub told : Sending
  pub calls : List CarrierCall

abbrev pub sent_by : Offered → Sending
sent_by offered.Taken = sending.Sent
sent_by offered.Dropped = sending.Dropped

abbrev pub sending_to : Datagram → Option Callsign → ℕ → Offered → Sent
sending_to d None now answer = record { told = sending.NoRoute; calls = [] }
sending_to d (Some neighbour) now answer = record { told = sent_by answer; calls = Offer neighbour d now answer ∷ [] }

-- A router.

-- what contracts see of a router: this node's call, how many hops its datagrams go over, its table and its carrier, and
-- whether it is spent
pub record Routing (C : Type 0) : Type 0 where
  pub own : Callsign
  pub ttl : ℕ
  pub table : TableRoutes
  pub carrier : C
  pub spent : Bool

module _ {C : Type 0} (made : C → List CarrierCall → C → Type 0) where
  -- the step told this, made these calls of the carrier, and the table took these items in
  pub record DoesPump (old new : Routing C) (log : List Item) (result : Option Routed) (p : Pumping) : Type 0 where
    pub told : result ≡ p.told
    pub calls : made old.carrier p.calls new.carrier
    pub table : StandsFor new.table (log ++ p.items)

  -- Whatever log the table stands for, the step is that of the log's next hops, of the lists of the carrier, and of what
  -- the carrier answered where it was offered a datagram.
  abbrev pub Pumps : Routing C → Routing C → List Callsign → List Parcel → ℕ → Option Routed → Type 0
  Pumps old new lost waiting now result =
      (answer : Offered) ×
      ((log : List Item) → StandsFor old.table log →
      DoesPump old new log result (pumping old.own (next_hop old.table.rules log) lost waiting now answer))

  -- of a step that takes a datagram, what comes after it was collected
  pub record DoesRoute (old new : Routing C) (now : ℕ) (result : Routed) (answer : Offered) (w : Way) : Type 0 where
    pub told : result ≡ routed_by w answer
    pub calls : made old.carrier (offers_of w now answer) new.carrier

  abbrev pub Routes : Routing C → Routing C → Datagram → ℕ → Routed → Type 0
  Routes old new d now result =
      (answer : Offered) ×
      ((log : List Item) → StandsFor old.table log →
      DoesRoute old new now result answer (way old.own (next_hop old.table.rules log) d))

  -- the sending told this, and made these calls of the carrier
  pub record DoesSend (old new : Routing C) (result : Sending) (s : Sent) : Type 0 where
    pub told : result ≡ s.told
    pub calls : made old.carrier s.calls new.carrier

  -- Whatever log the table stands for, the datagram is sent to the log's next hop, by what the carrier answered where it
  -- was offered it.
  abbrev pub Sends : Routing C → Routing C → Callsign → Datagram → ℕ → Sending → Type 0
  Sends old new to d now result =
      (answer : Offered) ×
      ((log : List Item) → StandsFor old.table log →
      DoesSend old new result (sending_to d (next_hop old.table.rules log to) now answer))

-- what waits after a step: the first datagram is taken, unless a neighbour was lost
abbrev pub waiting_left : List Callsign → List Parcel → List Parcel
waiting_left [] waiting = drop 1 waiting
waiting_left (neighbour ∷ _) waiting = waiting

-- None exactly where no neighbour is lost and no datagram waits
abbrev pub NoneWhereEmpty : List Callsign → List Parcel → Option Routed → Type 0
NoneWhereEmpty lost waiting None = (lost ≡ []) × (waiting ≡ [])
NoneWhereEmpty lost waiting (Some routed) = 0 < length lost + length waiting

-- a datagram that is handed up could be read, came from another node, and is for this one
pub record IsFor (own origin : Callsign) (d : Datagram) : Type 0 where
  pub head : DatagramHead
  pub read : head_at d.items ≡ Ok head
  pub size : 15 ≤ length d.items
  pub from : head.origin ≡ origin
  pub other : same_call head.origin own ≡ false
  pub mine : same_call head.dest own ≡ true

abbrev pub MineIsFor : Callsign → Routed → Type 0
MineIsFor own (Mine origin d) = IsFor own origin d
MineIsFor own _ = Unit {0}

abbrev pub HandsUp : Callsign → Option Routed → Type 0
HandsUp own None = Unit {0}
HandsUp own (Some routed) = MineIsFor own routed

-- a lost neighbour is told first
abbrev pub TellsLost : List Callsign → Option Routed → Type 0
TellsLost [] told = Unit {0}
TellsLost (neighbour ∷ _) told = told ≡ Some (Lost neighbour)

-- the call, the hops and the rules of the table stay
pub record SameRouter {C : Type 0} (old new : Routing C) : Type 0 where
  pub own : new.own ≡ old.own
  pub ttl : new.ttl ≡ old.ttl
  pub node : SameNode old.table new.table
