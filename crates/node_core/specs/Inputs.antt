-- The inputs of a node: each KISS item, tick and act is one, and is settled before the next: turns follow it until one does nothing. Own
-- profile.
use Rattle.std.specs.Prelude.{ℕ, min, List, [], ◌∷◌, ◌++◌, length, drop, Result}
use Rattle.kiss_framing.specs.Stream as kiss
use Rattle.node_core.specs.declared.acts.ActDone.{ActDone}
use Rattle.node_core.specs.declared.acts.ActRefusal.{ActRefusal}
use Rattle.node_model.specs.States.{NodeState, State}
use Rattle.node_model.specs.Serving.{turn}
use Rattle.node_core.specs.Receiving.{take_item}
use Rattle.node_core.specs.Broadcasts.{tick}
use Rattle.node_core.specs.Acts.{Answered, do_act, UserAct}
use Rattle.node_model.specs.Turns.{Settled}
use Rattle.node_model.proofs.Settled.{turns_end}

-- from each state turns settle, as is proved
pub turns_settle : (now : ℕ) (n : State) → Settled (turn now) n
turns_settle now n = turns_end now n

-- what follows an input: the state to which turns settle, of which there is one alone (`InputsSettle`)
unfoldable pub after_input : ℕ → State → State
after_input now n = (turns_settle now n).state

-- a moment above 2^62 ms counts as 2^62 ms
abbrev pub moment : ℕ → ℕ
moment now = min now 4611686018427387904

-- the items that bytes give behind a stream
abbrev pub new_items : List ℕ → List ℕ → List kiss.Item
new_items stream bytes = drop (length (kiss.items stream)) (kiss.items (stream ++ bytes))

abbrev pub after_item : ℕ → kiss.Item → State → State
after_item now item n = after_input now (take_item now item n)

abbrev pub after_items : ℕ → List kiss.Item → State → State
after_items now [] n = n
after_items now (item ∷ more) n = after_items now more (after_item now item n)

abbrev pub after_bytes : ℕ → List ℕ → NodeState → NodeState
after_bytes now bytes n =
    record { stream = n.stream ++ bytes; station = after_items (moment now) (new_items n.stream bytes) n.station }

abbrev pub after_tick : ℕ → NodeState → NodeState
after_tick now n = record n { station = after_input (moment now) (tick (moment now) n.station) }

-- a refused act is settled like one that is done
abbrev pub settle_answered : ℕ → Answered → Answered
settle_answered now a = record a { node = after_input now a.node }

abbrev pub settled_act : ℕ → UserAct → State → Answered
settled_act now act n = settle_answered now (do_act now act n)

-- what an act answers
abbrev pub act_answer : ℕ → UserAct → NodeState → Result ActDone ActRefusal
act_answer now act n = (settled_act (moment now) act n.station).answer

abbrev pub after_act : ℕ → UserAct → NodeState → NodeState
after_act now act n = record n { station = (settled_act (moment now) act n.station).node }
