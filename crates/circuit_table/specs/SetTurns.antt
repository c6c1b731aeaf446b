-- What the inner functions of a set do, of which a call of `pump` is made. No public clause cites it: not for the reader of a contract.
use Rattle.std.specs.Prelude.{◌≡◌, ℕ, ◌+◌, ◌<◌, ◌≤◌, Bool, false, List, [], ◌∷◌, ◌++◌, length, map, Option, Some, None, is_some, true}
use Rattle.ax_address.specs.Callsign.{Callsign}
use Rattle.route_table.specs.Log.{Item}
use Rattle.route_table.specs.Held.{StandsFor}
use Rattle.route_table.specs.Table.{next_hop}
use Rattle.l3_datagram.specs.declared.carrier.Offered.{Offered}
use Rattle.l3_datagram.specs.declared.routed.Routed.{Routed}
use Rattle.l3_datagram.specs.declared.routed.Routed.TheVariants as routed
use Rattle.l3_datagram.specs.declared.sending.Sending.{Sending}
use Rattle.l3_datagram.specs.declared.sending.Sending.TheVariants as sending
use Rattle.l3_datagram.specs.Datagrams.{CarrierCall, Fail, Parcel}
use Rattle.l3_datagram.specs.Routers.{SameRouter}
use Rattle.circuit_table.specs.declared.event.SetEvent.{SetEvent}
use Rattle.circuit_table.specs.declared.untold.Untold.{Untold}
use Rattle.circuit_table.specs.Sets.{SetState, CircuitTold}
use Rattle.circuit_table.specs.Pumps.{Pumped, after_calls, asks, at_rest, ends_with, heard_as, hears_lost, says_nothing, takes, tells_first, tells_on, turn_step}
use Rattle.circuit_table.specs.Standing.{Rests, told_for}
use Rattle.circuit_table.specs.CircuitSets.{Circuits, DoesPump, SetStands, untold_by}

-- what is told after a sending that came to nothing
abbrev pub came_to_nothing : Sending → Option Routed
came_to_nothing sending.Sent = None
came_to_nothing sending.NoRoute = Some routed.NoRoute
came_to_nothing sending.Dropped = Some routed.Dropped

-- the router is asked once
abbrev pub asks_once : (Callsign → Option Callsign) → ℕ → SetState → List Callsign → List Parcel → Offered → Pumped
asks_once next_hop now s (neighbour ∷ _) waiting answer = ends_with (Fail (Some neighbour) ∷ []) (hears_lost neighbour (at_rest s))
asks_once next_hop now s [] [] answer = ends_with [] (says_nothing (at_rest s))
asks_once next_hop now s [] (parcel ∷ _) answer = takes next_hop now s parcel answer

-- a lost neighbour is told
abbrev pub TellsLost : Routed → Option SetEvent → Type 0
TellsLost (routed.Lost call) told = is_some told ≡ true
TellsLost _ told = Unit {0}

-- something lay there where something is told of it; else no neighbour was lost, and a datagram waited where the router was asked
abbrev pub IsAsked : List Callsign → List Parcel → Option SetEvent → Bool → Type 0
IsAsked lost waiting (Some event) asked = 0 < length lost + length waiting
IsAsked lost waiting None true = (lost ≡ []) × (0 < length waiting)
IsAsked lost waiting None false = (lost ≡ []) × (waiting ≡ [])

-- the lists of the carrier, the router's own call, hops and rules, and whether the set is spent stay
pub record SameLists {C : Type 0} (lost : C → List Callsign) (waiting : C → List Parcel) (old new : Circuits C) : Type 0 where
  pub lost_stay : lost new.router.carrier ≡ lost old.router.carrier
  pub waiting_stay : waiting new.router.carrier ≡ waiting old.router.carrier
  pub router : SameRouter old.router new.router
  pub spent : new.spent ≡ old.spent

module _ {C : Type 0} (made : C → List CarrierCall → C → Type 0) where
  -- this is told, which stands before the rest of what is untold
  abbrev pub Tells : Circuits C → Circuits C → Untold → ℕ → Option SetEvent → Type 0
  Tells old new u now result =
      (answer : Offered)
      × ((log : List Item) (s : SetState) (t : CircuitTold) (rest : List CircuitTold) → StandsFor old.router.table log
      → SetStands old (record { set = s; untold = rest; lost = None }) → told_for s.own s.ttl u ≡ Some t
      → DoesPump made old new log result (turn_step now (tells_first (next_hop old.router.table.rules log) s t rest) answer))

  -- what the router has answered is taken in, and what it brings is told, the first of it
  abbrev pub TakesIn : Circuits C → Circuits C → Routed → ℕ → Option SetEvent → Type 0
  TakesIn old new routed now result =
      (answer : Offered)
      × ((log : List Item) (s : SetState) → StandsFor old.router.table log → SetStands old (at_rest s)
      → DoesPump made old new log result (tells_on (next_hop old.router.table.rules log) now (heard_as now (at_rest s) routed) answer))

  abbrev pub AsksOnce : Circuits C → Circuits C → List Callsign → List Parcel → ℕ → Option SetEvent → Type 0
  AsksOnce old new lost waiting now result =
      (answer : Offered)
      × ((log : List Item) (s : SetState) → StandsFor old.router.table log → SetStands old (at_rest s)
      → DoesPump made old new log result (asks_once (next_hop old.router.table.rules log) now s lost waiting answer))

  -- the router is asked until something is told, or nothing is left
  abbrev pub Asks : Circuits C → Circuits C → List Callsign → List Parcel → ℕ → Option SetEvent → Type 0
  Asks old new lost waiting now result =
      (parcels : List (Parcel × Offered))
      × (map (λ p. p.0) parcels ≡ waiting)
      × ((log : List Item) (s : SetState) → StandsFor old.router.table log → SetStands old (at_rest s)
      → DoesPump made old new log result (asks (next_hop old.router.table.rules log) now s lost parcels))

  -- Nothing was told since the old set, from which these parcels were taken: whatever comes then, the call goes on from here.
  pub record Onward (old mid : Circuits C) (log : List Item) (now : ℕ) (s : SetState) (lost : List Callsign) (done : List (Parcel × Offered)) : Type 0 where
    pub state : SetState
    pub calls : List CarrierCall
    pub stands : SetStands mid (at_rest state)
    pub table : StandsFor mid.router.table log
    pub called : made old.router.carrier calls mid.router.carrier
    pub goes : (rest : List (Parcel × Offered)) → asks (next_hop old.router.table.rules log) now s lost (done ++ rest)
        ≡ after_calls calls (asks (next_hop old.router.table.rules log) now state lost rest)

  pub record SoFar (lost : C → List Callsign) (waiting : C → List Parcel) (old mid : Circuits C) (now : ℕ) : Type 0 where
    pub done : List (Parcel × Offered)
    pub taken : waiting old.router.carrier ≡ map (λ p. p.0) done ++ waiting mid.router.carrier
    pub lost_stay : lost mid.router.carrier ≡ lost old.router.carrier
    pub onward : (log : List Item) (s : SetState) → StandsFor old.router.table log → SetStands old (at_rest s) → Onward old mid log now s (lost old.router.carrier) done
    pub rests : Rests mid.held.ends.entries
    pub told : mid.lost ≡ None
    pub router : SameRouter old.router mid.router
    pub spent : mid.spent ≡ old.spent
    pub less : untold_by (lost mid.router.carrier) (waiting mid.router.carrier) mid ≤ untold_by (lost old.router.carrier) (waiting old.router.carrier) old
