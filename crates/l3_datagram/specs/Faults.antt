-- The octet that a refusal names is the first that no datagram has at its place, or no datagram has so many octets.
-- (NET/ROM, Appendix B.)
use Rattle.std.specs.Prelude.{ℕ, ◌≡◌, ◌+◌, ◌<◌, ◌≤◌, List, ◌++◌, length, take, Ok, Err}
use Rattle.l3_datagram.specs.declared.datagram.DatagramHead.{DatagramHead}
use Rattle.l3_datagram.specs.declared.datagram.DatagramRefusal.{DatagramRefusal}
use Rattle.l3_datagram.specs.declared.datagram.DatagramRefusal.TheVariants.{Short, TooLong, BadCall}
use Rattle.l3_datagram.specs.Datagrams.{head_at}

-- the octet there is the first that none has there. What is read is spelled so, by the clauses of `read_datagram`.
pub record FirstBad (octets : List ℕ) (at : ℕ) : Type 0 where
  pub within : at < length octets
  -- what stands before it goes on to a datagram
  pub before : (more : List ℕ) × (head : DatagramHead) × (head_at (take at octets ++ more) ≡ Ok head)
  -- with it nothing does
  pub stays : (more : List ℕ) (head : DatagramHead) → head_at (take (at + 1) octets ++ more) ≡ Ok head → ⊥

-- no datagram has so many octets
abbrev pub NoneHas : ℕ → Type 0
NoneHas many = (other : List ℕ) (head : DatagramHead) → length other ≡ many → head_at other ≡ Ok head → ⊥

-- the number of octets is judged before the calls
abbrev pub FirstFault : List ℕ → DatagramRefusal → Type 0
FirstFault octets (Short at) = (at ≡ length octets) × ((few : ℕ) → few ≤ at → NoneHas few)
FirstFault octets TooLong = (many : ℕ) → length octets ≤ many → NoneHas many
FirstFault octets (BadCall at) = FirstBad octets at

abbrev pub FaultIsFirst : Type 0
FaultIsFirst = (octets : List ℕ) (refusal : DatagramRefusal) → head_at octets ≡ Err refusal → FirstFault octets refusal
