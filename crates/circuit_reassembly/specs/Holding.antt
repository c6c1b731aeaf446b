-- What is held, by the buffer.
use Rattle.std.specs.Prelude.{ℕ, Bool, true, false, List, []}
use Rattle.circuit_reassembly.specs.declared.held.Took.{Took}
use Rattle.circuit_reassembly.specs.declared.held.Took.TheVariants as took
use Rattle.circuit_reassembly.specs.Fragments.{Answer, More, Whole, Too_long}
use Rattle.circuit_reassembly.specs.Kept.{Gathering, still}

-- nothing is held of what was handed up
abbrev pub held_at : Bool → List ℕ → List ℕ
held_at true bytes = []
held_at false bytes = bytes

-- so a gather has these bytes
abbrev pub gathering : Bool → List ℕ → Gathering
gathering handed_up bytes = record { held = held_at handed_up bytes; buffer = bytes }

-- what it has once a fragment was answered so: a message that is handed up stays in the buffer
abbrev pub answered : List ℕ × Answer → Gathering
answered (held, More) = still held
answered (held, Whole message) = record { held = held; buffer = message }
answered (held, Too_long) = still held

-- the answer, by the buffer
abbrev pub answer_at : Took → List ℕ → Answer
answer_at took.More bytes = More
answer_at took.Whole bytes = Whole bytes
answer_at took.Nothing bytes = Too_long
