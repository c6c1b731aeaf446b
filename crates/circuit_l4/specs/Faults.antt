-- The octet that a refusal names is the first that no transport has at its place, or one that must follow, or no
-- transport has so many octets. (NET/ROM, Appendix B.)
use Rattle.std.specs.Prelude.{ℕ, ◌≡◌, ◌+◌, ◌<◌, ◌≤◌, List, ◌++◌, length, take, Ok, Err}
use Rattle.circuit_l4.specs.declared.transport.Transport.{Transport}
use Rattle.circuit_l4.specs.declared.transport.TransportRefusal.{TransportRefusal}
use Rattle.circuit_l4.specs.declared.transport.TransportRefusal.TheVariants.{Short, BadOpcode, BadCall, TooLong}
use Rattle.circuit_l4.specs.Transports.{transport_at}

-- with something behind it, it is read as a transport. What is read is spelled so, by the clauses of `read_transport`.
abbrev pub BeginsTransport : List ℕ → Type 0
BeginsTransport front = (more : List ℕ) × (transport : Transport) × (transport_at (front ++ more) ≡ Ok transport)

-- the octet there is the first that none has there
pub record FirstBad (octets : List ℕ) (at : ℕ) : Type 0 where
  pub within : at < length octets
  pub before : BeginsTransport (take at octets)
  -- with it nothing is a transport
  pub stays : (more : List ℕ) (transport : Transport) → transport_at (take (at + 1) octets ++ more) ≡ Ok transport → ⊥

-- no transport has so many octets
abbrev pub NoneHas : ℕ → Type 0
NoneHas many = (other : List ℕ) (transport : Transport) → length other ≡ many → transport_at other ≡ Ok transport → ⊥

-- the number of octets is judged before them. The opcode stands in octet 4.
abbrev pub FirstFault : List ℕ → TransportRefusal → Type 0
FirstFault octets (Short at) = (at ≡ length octets) × BeginsTransport octets
FirstFault octets BadOpcode = FirstBad octets 4
FirstFault octets (BadCall at) = FirstBad octets at
FirstFault octets TooLong = (many : ℕ) → length octets ≤ many → NoneHas many

abbrev pub FaultIsFirst : Type 0
FaultIsFirst = (octets : List ℕ) (refusal : TransportRefusal) → transport_at octets ≡ Err refusal → FirstFault octets refusal
