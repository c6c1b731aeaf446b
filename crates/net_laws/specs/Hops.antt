-- By how many hops a datagram has come, by the frames in the air of a network whose links are of one modulus: a hop is a node that
-- passed it on, with one less to live. Own profile.
use Rattle.std.specs.Prelude.{ℕ, zero, suc, ◌≡◌, ◌+◌, true, List, [], ◌∷◌, ◌++◌, slice_get, Option, Some}
use Rattle.ax_address.specs.Callsign.{Callsign}
use Rattle.network_file.specs.declared.plan.declarations.Declaration.{Declaration}
use Rattle.network_file.specs.Plan.{Plan}
use Rattle.node_core.specs.Carried.{Borne, borne_in, is_borne, is_hop, ttl_of}
use Rattle.net_model.specs.declared.air.Aired.{Aired}
use Rattle.net_model.specs.Starting.{by_number}

-- what frames in the air carry, each datagram to the node of a call
abbrev pub all_borne : ℕ → List Aired → List Borne
all_borne size [] = []
all_borne size (f ∷ air) = borne_in size f.octets.items ++ all_borne size air

-- the node at a place: a network has its nodes by number
abbrev pub node_at : Plan → ℕ → Option Declaration
node_at plan place = slice_get (by_number plan.declared 1 16) place

-- A frame in the air carries a datagram to the node of a call, and the node of another call has put it there.
pub record Puts (plan : Plan) (size : ℕ) (air : List Aired) (by to : Callsign) (datagram : List ℕ) : Type 0 where
  pub at : ℕ
  pub frame : Aired
  pub there : slice_get air at ≡ Some frame
  pub carries : is_borne (borne_in size frame.octets.items) to datagram ≡ true
  pub place : ℕ
  pub node : Declaration
  pub is : node_at plan place ≡ Some node
  pub call : node.call ≡ by
  pub sender : frame.sender ≡ node.node

-- A datagram has come by so many hops to the node of a call, from the node of `origin`, which sent `sent`. By none: the origin put it
-- in the air for that node, as it was sent. By one more: a node to which it had come by the others passed it on, that is, put it in the
-- air for that node, the same but for the time to live, of which it took one.
module _ (plan : Plan) (size : ℕ) (air : List Aired) (origin : Callsign) (sent : List ℕ) where
  abbrev pub CameBy : ℕ → Callsign → List ℕ → Type 0
  CameBy zero to datagram = (datagram ≡ sent) × Puts plan size air origin to datagram
  CameBy (suc hops) to datagram =
      (via : Callsign) × (came : List ℕ) × CameBy hops via came × (is_hop came datagram ≡ true) × Puts plan size air via to datagram

-- Each hop takes one: with the time to live that it was sent with, a datagram comes only where its origin has put it in the air for
-- that node.
abbrev pub HopsTakeOne : Type 0
HopsTakeOne =
    (plan : Plan) (size : ℕ) (air : List Aired) (origin : Callsign) (sent : List ℕ) (hops : ℕ) (to : Callsign) (datagram : List ℕ)
    → CameBy plan size air origin sent hops to datagram
    → (ttl_of datagram + hops ≡ ttl_of sent) × (ttl_of datagram ≡ ttl_of sent → Puts plan size air origin to datagram)
