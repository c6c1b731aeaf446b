-- Whose datagrams a set sends.
use Rattle.std.specs.Prelude.{ℕ, ◌≡◌, List, [], ◌∷◌}
use Rattle.ax_address.specs.Callsign.{Callsign}
use Rattle.l3_datagram.specs.Datagrams.{octets_with}
use Rattle.circuit_table.specs.Sets.{Act, Sent, SetState, CircuitTold, set_step}

-- a datagram of this node
pub record IsFrom (own : Callsign) (ttl : ℕ) (datagram : List ℕ) : Type 0 where
  pub dest : Callsign
  pub transport : List ℕ
  pub are : datagram ≡ octets_with (record { origin = own; dest = dest; ttl = ttl }) transport

-- all that was sent is
abbrev pub SendsFrom : Callsign → ℕ → List CircuitTold → Type 0
SendsFrom own ttl [] = Unit {0}
SendsFrom own ttl (Sent id number datagram ∷ ts) = IsFrom own ttl datagram × SendsFrom own ttl ts
SendsFrom own ttl (t ∷ ts) = SendsFrom own ttl ts

abbrev pub SetsSendTheirOwn : Type 0
SetsSendTheirOwn = (s : SetState) (a : Act) → SendsFrom s.own s.ttl (set_step s a).told
