-- A network of nodes over carriers in memory: what happened at them, and what each carrier holds by then.
use Rattle.std.specs.Prelude.{ℕ, ◌≡◌, List, [], ◌∷◌, Option, Some, Contains, slice_get, if◌then◌else◌}
use Rattle.ax_address.specs.Callsign.{Callsign, same_call}
use Rattle.l3_datagram.specs.declared.carrier.Offered.TheVariants.{Taken}
use Rattle.l3_datagram.specs.Datagrams.{CarrierCall, Datagram, Parcel, Offer}
use Rattle.l3_datagram.specs.PlainCarriers.{Plain, Answers, after_call, brought, fetched}

-- the router of a node called its carrier; a datagram was brought to the carrier from a neighbour; the first datagram
-- that was offered was fetched, or there was none
pub data Act : Type 0 where
  Called : (call : CarrierCall) → Act
  Brought : (from : Callsign) (datagram : Datagram) → Act
  Fetched : (answer : Option Parcel) → Act

-- what was done at a node
pub record Event : Type 0 where
  pub node : Callsign
  pub act : Act

abbrev pub after_act : Plain → Act → Plain
after_act c (Called call) = after_call c call
after_act c (Brought from datagram) = brought c from datagram
after_act c (Fetched answer) = fetched c

-- What the carrier of a node holds after all that happened, of which the last comes first.
abbrev pub carrier_of : Callsign → List Event → Plain
carrier_of node [] = record { waiting = []; offered = [] }
carrier_of node (e ∷ before) =
    if same_call e.node node then after_act (carrier_of node before) e.act else carrier_of node before

-- the act has the answer that the carrier gives, and a datagram is brought only where it was fetched before at the
-- neighbour, for this node
abbrev pub Happens : List Event → Callsign → Act → Type 0
Happens before node (Called call) = Answers (carrier_of node before) call
Happens before node (Brought from datagram) =
    Contains before (record { node = from; act = Fetched (Some (node, datagram)) })
Happens before node (Fetched answer) = answer ≡ slice_get (carrier_of node before).offered 0

-- all that happened, the last first
abbrev pub History : List Event → Type 0
History [] = Unit {0}
History (e ∷ before) = Happens before e.node e.act × History before

-- the datagram was offered to the node by that neighbour's router, and taken
abbrev pub WasOffered : List Event → Callsign → Parcel → Type 0
WasOffered events node parcel =
    (now : ℕ) × Contains events (record { node = parcel.0; act = Called (Offer node parcel.1 now Taken) })

-- Whatever has happened: each pair that waits at a node was offered to this node by that neighbour before.
abbrev pub WaitingWasOffered : Type 0
WaitingWasOffered =
    (events : List Event) (node : Callsign) (parcel : Parcel) → History events →
    Contains (carrier_of node events).waiting parcel → WasOffered events node parcel
