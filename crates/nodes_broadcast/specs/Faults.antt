-- The octet that a refusal names is the first that no broadcast has at its place, or no broadcast has so many octets.
-- (NET/ROM, Appendix B.)
use Rattle.std.specs.Prelude.{ℕ, ◌≡◌, ◌+◌, ◌<◌, ◌≤◌, List, [], ◌++◌, length, take, ◌⊎◌, Ok, Err}
use Rattle.nodes_broadcast.specs.declared.nodes.NodesRefusal.{NodesRefusal}
use Rattle.nodes_broadcast.specs.declared.nodes.NodesRefusal.TheVariants.{NotNodes, BadLength, TooMany, BadCall}
use Rattle.nodes_broadcast.specs.Nodes.{Broadcast, nodes_at}

-- the octet there is the first that none has there. What is read is spelled so, by the clauses of `read_nodes`.
pub record FirstBad (octets : List ℕ) (at : ℕ) : Type 0 where
  pub within : at < length octets
  -- what stands before it goes on to a broadcast
  pub before : (more : List ℕ) × (b : Broadcast) × (nodes_at (take at octets ++ more) ≡ Ok b)
  -- with it nothing does
  pub stays : (more : List ℕ) (b : Broadcast) → nodes_at (take (at + 1) octets ++ more) ≡ Ok b → ⊥

-- no broadcast has so many octets
abbrev pub NoneHas : ℕ → Type 0
NoneHas many = (other : List ℕ) (b : Broadcast) → length other ≡ many → nodes_at other ≡ Ok b → ⊥

-- the first octet is judged before the number of octets, and the calls behind it
abbrev pub FirstFault : List ℕ → NodesRefusal → Type 0
FirstFault octets NotNodes = (octets ≡ []) ⊎ FirstBad octets 0
FirstFault octets (BadLength at) = (at ≡ length octets) × NoneHas at
FirstFault octets TooMany = (many : ℕ) → length octets ≤ many → NoneHas many
FirstFault octets (BadCall at) = FirstBad octets at

abbrev pub FaultIsFirst : Type 0
FaultIsFirst = (octets : List ℕ) (refusal : NodesRefusal) → nodes_at octets ≡ Err refusal → FirstFault octets refusal
