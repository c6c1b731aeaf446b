-- The ends that a node ever made, as the events tell of them. Own profile.
use Rattle.std.specs.Prelude.{ℕ, zero, suc, ◌-◌, ◌==◌, List, [], ◌∷◌, ◌++◌, slice_get, option_map, unwrap_or, if◌then◌else◌}
use Rattle.std.specs.declared.vec.Vec.{Vec}
use Rattle.circuit_table.specs.Pumps.{Of}
use Rattle.circuit_table.specs.Sets as sets
use Rattle.node_model.specs.States as nodes
use Rattle.net_model.specs.declared.ends.EndRecord.{EndRecord}
use Rattle.net_model.specs.declared.outcome.Outcome.{Outcome}
use Rattle.net_model.specs.declared.outcome.Outcome.TheVariants as outcomes
use Rattle.net_model.specs.Events.{Event, Entry, Lost, Offered, NumberedEvent}

-- the records, where the one at a place has come to this
abbrev pub with_outcome : Outcome → ℕ → List EndRecord → List EndRecord
with_outcome outcome at [] = []
with_outcome outcome zero (end ∷ ends) = record end { outcome = outcome } ∷ ends
with_outcome outcome (suc at) (end ∷ ends) = end ∷ with_outcome outcome at ends

-- the records, where the mail of this number was offered last at the one at a place
abbrev pub with_offered : ℕ → ℕ → List EndRecord → List EndRecord
with_offered number at [] = []
with_offered number zero (end ∷ ends) = record end { offered = number } ∷ ends
with_offered number (suc at) (end ∷ ends) = end ∷ with_offered number at ends

-- an end is made, behind those before, or is gone. Ends are numbered from 1
abbrev pub note_told : sets.CircuitTold → List EndRecord → List EndRecord
note_told (sets.Made id pair partner request) ends = ends ++ record { partner = partner; outcome = outcomes.Held; offered = 0 } ∷ []
note_told (sets.Gone id facts) ends = with_outcome (outcomes.Gone facts) (id - 1) ends
note_told told ends = ends

abbrev pub note_entry : nodes.Entry → List EndRecord → List EndRecord
note_entry (nodes.Of_set (Of told)) ends = note_told told ends
note_entry entry ends = ends

-- an event of the node of that number
abbrev pub note_event : ℕ → Event → List EndRecord → List EndRecord
note_event number (Entry node entry) ends = if node == number then note_entry entry ends else ends
note_event number (Lost node end facts) ends = if node == number then with_outcome (outcomes.Lost facts) (end - 1) ends else ends
note_event number (Offered node end mail) ends = if node == number then with_offered mail (end - 1) ends else ends
note_event number event ends = ends

abbrev pub note_events : ℕ → List NumberedEvent → List EndRecord → List EndRecord
note_events number [] ends = ends
note_events number (e ∷ es) ends = note_events number es (note_event number e.event ends)

-- the ends that the node of that number ever made, in the order of their making
abbrev pub ends_of : ℕ → List NumberedEvent → List EndRecord
ends_of number told = note_events number told []

-- the number of the last mail that was offered at an end; 0 where none was
abbrev pub offered_at : ℕ → List EndRecord → ℕ
offered_at id ends = unwrap_or (option_map (λ (end : EndRecord). end.offered) (slice_get ends (id - 1))) 0

-- lists of ends by the numbers of their nodes
abbrev pub ends_at : ℕ → List (List EndRecord) → List EndRecord
ends_at node [] = []
ends_at zero (ends ∷ lists) = ends
ends_at (suc node) (ends ∷ lists) = ends_at node lists

abbrev pub all_items : {V A : Type 0} → List (Vec V A) → List (List V)
all_items [] = []
all_items (v ∷ lists) = v.items ∷ all_items lists
