-- What a router changes of a datagram that it hands on.
use Rattle.std.specs.Prelude.{ℕ, ◌≡◌, ◌≢◌, ◌+◌, List, length, slice_get, slice_index, Option}
use Rattle.ax_address.specs.Callsign.{Callsign}
use Rattle.l3_datagram.specs.Datagrams.{Datagram}
use Rattle.l3_datagram.specs.Routers.{ToNeighbour, way}

-- the octets are the same but for the time to live, which is one less
pub record IsOneHopOn (old new : List ℕ) : Type 0 where
  pub size : length new ≡ length old
  pub others : (at : ℕ) → at ≢ 14 → slice_get new at ≡ slice_get old at
  pub ttl : slice_index new 14 + 1 ≡ slice_index old 14

-- a datagram that goes on is the one that came, one hop further
abbrev pub GoesOneHopOn : Type 0
GoesOneHopOn =
    (own : Callsign) (next_hop : Callsign → Option Callsign) (d : Datagram) (neighbour : Callsign) (onward : Datagram) →
    way own next_hop d ≡ ToNeighbour neighbour onward → IsOneHopOn d.items onward.items
