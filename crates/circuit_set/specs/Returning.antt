-- What alone can break Fresh where no node starts again and none gives a pair twice: a copy of a connect request.
use Rattle.std.specs.Prelude.{◌≡◌, ℕ, ◌≤◌, ◌⊎◌, true, nat_eq, if◌then◌else◌, List, [], ◌∷◌, ◌++◌, length, drop, slice_get, Contains, Option, Some, Ok}
use Rattle.std.specs.List.{AllByRecursion}
use Rattle.ax_address.specs.Callsign.{Callsign}
use Rattle.l3_datagram.specs.Datagrams.{head_at}
use Rattle.l3_datagram.specs.declared.datagram.DatagramHead.{DatagramHead}
use Rattle.l3_datagram.specs.declared.datagram.TheConstants.{HEAD_SIZE}
use Rattle.circuit_l4.specs.Transports.{transport_at}
use Rattle.circuit_l4.specs.declared.pair.Pair.{Pair}
use Rattle.circuit_l4.specs.declared.transport.Transport.TheVariants.{Request}
use Rattle.circuit_set.specs.Books.{Book, FreshTold, MadeNote, any_ends, empty, has_sent, lost_with, made_last, with_event}
use Rattle.circuit_table.specs.Events.{Event, Name, is_copy}
use Rattle.circuit_table.specs.Givings.{IsUp, pairs_made}
use Rattle.circuit_table.specs.Runs.{AreStarts, AreSteps, Step, events_of}
use Rattle.circuit_table.specs.Sets.{Comes, Made, Sent, SetState, CircuitTold}

-- ---- the runs of which it is said

-- what was told at a node
abbrev pub told_at_node : ℕ → List Event → List CircuitTold
told_at_node node [] = []
told_at_node node (e ∷ es) = if nat_eq e.node node then e.told ∷ told_at_node node es else told_at_node node es

-- so many pairs a node has given its ends, as it tells them
abbrev pub given_by : ℕ → List Event → ℕ
given_by node events = length (pairs_made (told_at_node node events))

-- no two nodes have one call
abbrev pub CallsDiffer : List SetState → Type 0
CallsDiffer sets = (i j : ℕ) (s t : SetState) → slice_get sets i ≡ Some s → slice_get sets j ≡ Some t → s.own ≡ t.own → i ≡ j

-- by these events a datagram was sent, as it came but for its time to live
pub record WasSent (events : List Event) (datagram : List ℕ) : Type 0 where
  pub node : ℕ
  pub own : Callsign
  pub id : ℕ
  pub number : Option ℕ
  pub sent : List ℕ
  pub told : Contains events (record { node = node; own = own; told = Sent id number sent })
  pub copy : is_copy datagram sent ≡ true

-- Each node has a call of its own, none starts again, none gives so many pairs that one may stand twice, and nothing comes that wasn't
-- sent before.
pub record IsUnbroken (sets : List SetState) (steps : List Step) : Type 0 where
  pub apart : CallsDiffer sets
  pub up : AllByRecursion (λ (st : Step). IsUp st.act) steps
  pub few : (node : ℕ) → given_by node (events_of sets steps) ≤ 48960
  pub sent : (before after : List Step) (node now : ℕ) (datagram : List ℕ) → steps ≡ before ++ record { node = node; act = Comes datagram now } ∷ after
      → WasSent (events_of sets before) datagram

-- ---- the law

-- A datagram opens an end at this node, though it is a copy of a connect request that has opened one there before: an end of the node
-- that is its origin has sent that request, and the end which was opened for that one earlier was told how it ended.
pub record IsReturn (b : Book) (node : ℕ) (datagram : List ℕ) : Type 0 where
  pub head : DatagramHead
  pub read : head_at datagram ≡ Ok head
  pub pair : Pair
  pub window : ℕ
  pub user : Callsign
  pub at : Callsign
  pub request : transport_at (drop HEAD_SIZE datagram) ≡ Ok (Request pair window user at)
  pub asker : Name
  pub asked : made_last b.made head.origin pair ≡ Some asker
  pub sent : has_sent b.sent asker datagram ≡ true
  pub earlier : MadeNote
  pub made : Contains b.made earlier
  pub here : earlier.who.node ≡ node
  pub opened : earlier.partner ≡ Some asker
  pub ended : any_ends earlier.told ≡ true

abbrev pub ReturnTold : Book → ℕ → CircuitTold → Type 0
ReturnTold b node (Made id pair at (Some datagram)) = IsReturn b node datagram
ReturnTold b node _ = ⊥

-- at each event a run is fresh, but where a copy returns
abbrev pub FreshButFrom : Book → List Name → List Event → Type 0
FreshButFrom b lost [] = Unit {0}
FreshButFrom b lost (e ∷ es) = (FreshTold b lost e.node e.told ⊎ ReturnTold b e.node e.told) × FreshButFrom (with_event b e) (lost_with lost e.node e.told) es

abbrev pub FreshBut : List Event → Type 0
FreshBut es = FreshButFrom empty [] es

abbrev pub CopiesAloneReturn : Type 0
CopiesAloneReturn =
    (sets : List SetState) → AreStarts sets → (steps : List Step) → AreSteps steps → IsUnbroken sets steps → FreshBut (events_of sets steps)
