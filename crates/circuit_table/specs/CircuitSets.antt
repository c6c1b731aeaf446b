-- What contracts see of a set, for which states of its machine it stands, and what its calls answer.
use Rattle.std.specs.Prelude.{◌≡◌, ℕ, ◌+◌, ◌*◌, ◌<◌, ◌⊎◌, Bool, true, false, nat_eq, List, [], ◌∷◌, ◌++◌, length, map, if◌then◌else◌, Option, Some, None, is_some, is_none}
use Rattle.std.specs.Option.{option_map}
use Rattle.ax_address.specs.Callsign.{Callsign}
use Rattle.route_table.specs.Log.{Item}
use Rattle.route_table.specs.Held.{StandsFor}
use Rattle.route_table.specs.Table.{next_hop}
use Rattle.l3_datagram.specs.declared.carrier.Offered.{Offered}
use Rattle.l3_datagram.specs.declared.routed.Routed.{Routed}
use Rattle.l3_datagram.specs.Datagrams.{CarrierCall, Parcel}
use Rattle.l3_datagram.specs.Routers.{Routing}
use Rattle.circuit_l4.specs.declared.facts.EndFacts.{EndFacts}
use Rattle.circuit_l4.specs.Opening.{facts_of}
use Rattle.circuit_l4.specs.Standing as end
use Rattle.circuit_table.specs.declared.event.SetEvent.{SetEvent}
use Rattle.circuit_table.specs.declared.held_ends.HeldEnds.{HeldEnds}
use Rattle.circuit_table.specs.Sets.{Act, Holder, SetState, CircuitTold, Gone}
use Rattle.circuit_table.specs.Pumps.{Pumped, Waiting, at_rest, pump_step, acts}
use Rattle.circuit_table.specs.Standing.{HeldStands, Rests, SameNode, event_told, untold_in}

-- what contracts see of a set
pub record Circuits (C : Type 0) : Type 0 where
  pub router : Routing C
  pub held : HeldEnds  -- its ends
  pub lost : Option Routed  -- what the last sending came to, where it came to nothing and that is untold
  pub spent : Bool

-- the set stands for this state
pub record SetStands {C : Type 0} (c : Circuits C) (w : Waiting) : Type 0 where
  pub ends : HeldStands c.held w.set w.untold
  pub own : w.set.own ≡ c.router.own
  pub ttl : w.set.ttl ≡ c.router.ttl
  pub lost : w.lost ≡ c.lost
  pub unspent : c.spent ≡ false

-- nothing waits at its ends, and no sending that came to nothing is untold; or it is spent
abbrev pub IsDrained : {C : Type 0} → Circuits C → Type 0
IsDrained c = (c.spent ≡ true) ⊎ (Rests c.held.ends.entries × (c.lost ≡ None))

-- From each state in which nothing is untold, and for which the set stood, it goes to the one to which the input leads. Its
-- router stays, so that no call of its carrier is made.
pub record SetGoes {C : Type 0} (old new : Circuits C) (to : SetState → Waiting) : Type 0 where
  pub stands : (s : SetState) → SetStands old (at_rest s) → SetStands new (to s)
  pub router : new.router ≡ old.router

abbrev pub GoesBy : {C : Type 0} → Act → Circuits C → Circuits C → Type 0
GoesBy a old new = SetGoes old new (λ s. acts a (at_rest s))

-- All that a refusal leaves: the set stands for what it stood for. (How much room its map has isn't said, nor which ends it looks at for
-- something to tell.)
pub record IsUnchanged {C : Type 0} (old new : Circuits C) : Type 0 where
  pub router : new.router ≡ old.router
  pub lost : new.lost ≡ old.lost
  pub spent : new.spent ≡ old.spent
  pub node : SameNode old.held new.held
  pub ends : new.held.ends.entries ≡ old.held.ends.entries
  pub stands : (w : Waiting) → SetStands old w → SetStands new w
  pub drained : IsDrained old → IsDrained new

-- ---- a call of `pump` ----
module _ {C : Type 0} (made : C → List CarrierCall → C → Type 0) where
  -- the call told this and made these calls of the carrier, the routing table took these items in, and the set stands for what
  -- it came to
  pub record DoesPump (old new : Circuits C) (log : List Item) (result : Option SetEvent) (p : Pumped) : Type 0 where
    pub told : option_map event_told result ≡ p.told
    pub calls : made old.router.carrier p.calls new.router.carrier
    pub table : StandsFor new.router.table (log ++ p.items)
    pub stands : SetStands new p.after

  -- Whatever log the table stands for and whatever state the set, the call is that of the log's next hops, of the carrier's two
  -- lists, and of what the carrier answered where it was offered a datagram.
  abbrev pub Pumps : Circuits C → Circuits C → List Callsign → List Parcel → ℕ → Option SetEvent → Type 0
  Pumps old new lost waiting now result =
      (parcels : List (Parcel × Offered))
      × (answer : Offered)
      × (map (λ p. p.0) parcels ≡ waiting)
      × ((log : List Item) (w : Waiting) → StandsFor old.router.table log → SetStands old w →
      DoesPump old new log result (pump_step (next_hop old.router.table.rules log) now w lost parcels answer))

-- A number that falls with each call of `pump` that tells something: by what the set has to tell, and by what lies at the router,
-- one of which brings less than a thousand.
abbrev pub untold_by : {C : Type 0} → List Callsign → List Parcel → Circuits C → ℕ
untold_by lost waiting c = 1000 * (length lost + length waiting) + (if is_some c.lost then 1 else 0) + untold_in c.held.ends.entries

abbrev pub Falls : {C : Type 0} → (C → List Callsign) → (C → List Parcel) → Circuits C → Circuits C → Type 0
Falls lost waiting old new =
    untold_by (lost new.router.carrier) (waiting new.router.carrier) new < untold_by (lost old.router.carrier) (waiting old.router.carrier) old

-- ---- answers ----
-- the end of a number is held still
abbrev pub with_held : ℕ → List Holder → List Holder
with_held id [] = []
with_held id (h ∷ hs) = (if nat_eq h.id id then record h { gone = false } else h) ∷ with_held id hs

-- The ends as they are held while this is untold: one that is gone is held until that is told.
abbrev pub held_by : List CircuitTold → List Holder → List Holder
held_by [] hs = hs
held_by (Gone id facts ∷ ts) hs = held_by ts (with_held id hs)
held_by (t ∷ ts) hs = held_by ts hs

-- what an end tells of itself, where it is held
abbrev pub facts_at : Option Holder → Option EndFacts
facts_at None = None
facts_at (Some h) = if h.gone then None else Some (facts_of h.end)

abbrev pub partner_at : Option Holder → Option Callsign
partner_at None = None
partner_at (Some h) = if h.gone then None else Some h.at

-- whether the node has asked for its circuit
abbrev pub requested_at : Option Holder → Option Bool
requested_at None = None
requested_at (Some h) = if h.gone then None else Some (is_none h.asked)

-- the end that is lent stands for that of the machine; none is where none is held
abbrev pub LentStands : Option end.EndView → Option Holder → Type 0
LentStands None None = Unit {0}
LentStands None (Some h) = h.gone ≡ true
LentStands (Some k) None = ⊥
LentStands (Some k) (Some h) = (h.gone ≡ false) × end.StandsFor k h.end

-- the numbers of the ends that are held, in their order
abbrev pub held_ids : List Holder → List ℕ
held_ids [] = []
held_ids (h ∷ hs) = if h.gone then held_ids hs else h.id ∷ held_ids hs
