-- What a set sends under number 0, which is that of no end: refusals, which no end heeds.
use Rattle.std.specs.Prelude.{ℕ, ◌≡◌, ◌≤◌, List, [], ◌∷◌, drop, Ok}
use Rattle.ax_address.specs.Callsign.{IsCallsign}
use Rattle.circuit_l4.specs.Transports.{transport_at}
use Rattle.circuit_l4.specs.declared.pair.Pair.{Pair}
use Rattle.circuit_l4.specs.declared.transport.Transport.TheVariants.{Refuse}
use Rattle.l3_datagram.specs.declared.datagram.TheConstants.{HEAD_SIZE}
use Rattle.circuit_set.specs.Heedings.{IsFor}
use Rattle.circuit_table.specs.Runs.{IsStart}
use Rattle.circuit_table.specs.Sets.{Act, Holder, Sent, SetState, CircuitTold, set_step}

-- a datagram that carries a refusal, and so does each copy of it
pub record IsRefusal (datagram : List ℕ) : Type 0 where
  pub pair : Pair
  pub carried : transport_at (drop HEAD_SIZE datagram) ≡ Ok (Refuse pair)

-- all that was sent under number 0 is
abbrev pub RefusesUnder0 : List CircuitTold → Type 0
RefusesUnder0 [] = Unit {0}
RefusesUnder0 (Sent id number datagram ∷ ts) = (id ≡ 0 → IsRefusal datagram) × RefusesUnder0 ts
RefusesUnder0 (t ∷ ts) = RefusesUnder0 ts

-- the numbers of ends are 1 and more
abbrev pub FromOne : List Holder → Type 0
FromOne [] = Unit {0}
FromOne (h ∷ hs) = (1 ≤ h.id) × FromOne hs

-- a set that numbers its ends from 1 on, of a node with a call
pub record IsNumbered (s : SetState) : Type 0 where
  pub own : IsCallsign s.own.letters s.own.ssid
  pub next : 1 ≤ s.number
  pub ends : FromOne s.ends

abbrev pub StartsAreNumbered : Type 0
StartsAreNumbered = (s : SetState) → IsStart s → IsNumbered s

-- with each input it stays so, and refuses under number 0
abbrev pub SetsRefuseUnder0 : Type 0
SetsRefuseUnder0 = (s : SetState) → IsNumbered s → (a : Act) → IsNumbered (set_step s a).set × RefusesUnder0 (set_step s a).told

-- what is heeded is no refusal
abbrev pub RefusalsAreUnheeded : Type 0
RefusalsAreUnheeded = (s : SetState) (a : Act) (id : ℕ) (datagram : List ℕ) → IsFor s a id datagram → IsRefusal datagram → ⊥
