-- Where an event stands. Own profile.
use Prim.Native.String.{String}
use Rattle.std.specs.Prelude.{ℕ, List, ◌∷◌}
use Rattle.trace_lines.specs.declared.stands.AtNode.{AtNode}
use Rattle.trace_lines.specs.declared.stands.Stand.{Stand}
use Rattle.trace_lines.specs.Json.{object, Field, Number}

-- an event of a kind: its number, the number of the line at which it came, and what it tells
abbrev pub event : String → Stand → List Field → List ℕ
event kind s fields = object kind (Number "event" s.event ∷ Number "line" s.line ∷ fields)

-- an event of a node where it stands
abbrev pub at_node : Stand → ℕ → AtNode
at_node s node = record { stand = s; node = node }

-- the same of an event of a node: the node's number comes before what it tells
abbrev pub node_event : String → AtNode → List Field → List ℕ
node_event kind at fields = event kind at.stand (Number "node" at.node ∷ fields)
