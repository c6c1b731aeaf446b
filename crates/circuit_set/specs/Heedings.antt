-- For which end a set heeds a datagram.
use Rattle.std.specs.Prelude.{ℕ, ◌≡◌, true, List, [], ◌∷◌, drop, Option, Some, None, Ok, Contains}
use Rattle.circuit_l4.specs.Transports.{transport_at}
use Rattle.circuit_l4.specs.declared.pair.Pair.{Pair}
use Rattle.circuit_l4.specs.declared.transport.Transport.{Transport}
use Rattle.circuit_l4.specs.declared.transport.Transport.TheVariants.{Request, Accept, Refuse, Disconnect, Disconnected, Info, InfoAck}
use Rattle.l3_datagram.specs.Datagrams.{head_at}
use Rattle.l3_datagram.specs.declared.datagram.DatagramHead.{DatagramHead}
use Rattle.l3_datagram.specs.declared.datagram.TheConstants.{HEAD_SIZE}
use Rattle.circuit_table.specs.Sets.{heeds, Act, Comes, Heeded, Holder, SetState, CircuitTold, named_by, set_step}

-- the pair of the end to which a transport goes: a request goes to none yet
abbrev pub pair_named : Transport → Option Pair
pair_named (Request own window user node) = None
pair_named (Accept to own window) = Some to
pair_named (Refuse to) = Some to
pair_named (Disconnect to) = Some to
pair_named (Disconnected to) = Some to
pair_named (Info to tx rx flags text) = Some to
pair_named (InfoAck to rx flags) = Some to

-- The datagram came with this input. It is from the node of the partner of an end that is held, names that end's pair, and carries what
-- the end takes in in its phase.
pub record IsFor (s : SetState) (a : Act) (id : ℕ) (datagram : List ℕ) : Type 0 where
  pub now : ℕ
  pub came : a ≡ Comes datagram now
  pub end : Holder
  pub held : Contains s.ends end
  pub number : end.id ≡ id
  pub head : DatagramHead
  pub read : head_at datagram ≡ Ok head
  pub transport : Transport
  pub carried : transport_at (drop HEAD_SIZE datagram) ≡ Ok transport
  pub pair : Pair
  pub names : pair_named transport ≡ Some pair
  pub partner : named_by head.origin pair end ≡ true
  pub taken_in : heeds end.end.phase transport ≡ true

-- so it is of all that is heeded
abbrev pub HeedsFor : SetState → Act → List CircuitTold → Type 0
HeedsFor s a [] = Unit {0}
HeedsFor s a (Heeded id datagram ∷ ts) = IsFor s a id datagram × HeedsFor s a ts
HeedsFor s a (t ∷ ts) = HeedsFor s a ts

abbrev pub SetsHeedPartners : Type 0
SetsHeedPartners = (s : SetState) (a : Act) → HeedsFor s a (set_step s a).told
