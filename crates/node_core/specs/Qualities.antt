-- The quality of the path to a single neighbour, in place of the node's.
use Rattle.std.specs.Prelude.{ℕ, ◌&&◌, not, nat_le, is_some, if◌then◌else◌, Bool, List, length, Result, Ok, Err}
use Rattle.std.specs.Map.{lookup}
use Rattle.indexmap.specs.IndexMap.{insert_entry}
use Rattle.ax_address.specs.Callsign.{Callsign, same_call}
use Rattle.node_core.specs.declared.quality_refusal.QualityRefusal.{QualityRefusal}
use Rattle.node_core.specs.declared.quality_refusal.QualityRefusal.TheVariants.{Full, NoMemory}
use Rattle.node_model.specs.States.{State}

-- the most neighbours that have one
abbrev pub most_qualities : ℕ
most_qualities = 16

abbrev pub with_quality : Callsign → ℕ → State → State
with_quality neighbour quality n =
    let qualities : List (Callsign × ℕ) = insert_entry same_call n.settings.qualities neighbour quality in
    record n { settings = record n.settings { qualities = qualities } }

-- so many others have one
abbrev pub is_full : Callsign → List (Callsign × ℕ) → Bool
is_full neighbour qualities = nat_le most_qualities (length qualities) && not (is_some (lookup (same_call neighbour) qualities))

-- then it is refused
abbrev pub quality_answer : Callsign → State → Result (Unit {0}) QualityRefusal
quality_answer neighbour n = if is_full neighbour n.settings.qualities then Err Full else Ok tt

-- a call has an answer other than want of memory
abbrev pub QualityNotNoMemory : Result (Unit {0}) QualityRefusal → Type 0
QualityNotNoMemory (Ok _) = Unit {0}
QualityNotNoMemory (Err NoMemory) = ⊥
QualityNotNoMemory (Err Full) = Unit {0}
