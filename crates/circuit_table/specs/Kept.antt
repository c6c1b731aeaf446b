-- How many ends a set holds, what they keep, in octets, and the most that they may (this project's profile). Its router is left out,
-- and so is what waits to be told.
use Rattle.std.specs.Prelude.{ℕ, ◌+◌, ◌*◌, ◌≤◌, List, [], ◌∷◌, length}
use Rattle.route_table.specs.Held.{StandsFor}
use Rattle.route_table.specs.Log.{Item}
use Rattle.circuit_l4.specs.Standing as end
use Rattle.circuit_table.specs.declared.held_ends.HeldEnds.{HeldEnds}
use Rattle.circuit_table.specs.declared.holder.Holder.{Holder}
use Rattle.circuit_table.specs.CircuitSets.{Circuits, SetStands}
use Rattle.circuit_table.specs.Pumps.{runs, Waiting, at_rest}
use Rattle.circuit_table.specs.Runs.{IsStart}
use Rattle.circuit_table.specs.Sets.{Act, SetState, CircuitTold, held_pairs}
use Rattle.circuit_table.specs.Standing.{HeldStands}

-- whatever a set is given from its start on, it holds at most 64
abbrev pub HoldsFew : Type 0
HoldsFew = (s : SetState) → IsStart s → (acts : List Act) → length (held_pairs (runs acts s).set.ends) ≤ 64

-- what ends keep
abbrev pub ends_kept : List (ℕ × Holder) → ℕ
ends_kept [] = 0
ends_kept (e ∷ es) = end.kept e.1.end + ends_kept es

-- their windows together
abbrev pub windows : List (ℕ × Holder) → ℕ
windows [] = 0
windows (e ∷ es) = e.1.end.config.window + windows es

abbrev pub kept : HeldEnds → ℕ
kept c = ends_kept c.ends.entries

-- the most of it: 90,347 octets for each end, and 236 for each fragment of its window
abbrev pub share : HeldEnds → ℕ
share c = 90347 * length c.ends.entries + 236 * windows c.ends.entries

-- ends that stand for those of the machine keep no more than their share, and each window is at most 127
abbrev pub KeepsItsShare : Type 0
KeepsItsShare = (c : HeldEnds) (s : SetState) (told : List CircuitTold) → HeldStands c s told → kept c ≤ share c

abbrev pub WindowsAreSmall : Type 0
WindowsAreSmall = (c : HeldEnds) (s : SetState) (told : List CircuitTold) → HeldStands c s told → windows c.ends.entries ≤ 127 * length c.ends.entries

-- so an input leaves them that is done
abbrev pub KeepsOn : {C : Type 0} → Circuits C → Circuits C → Type 0
KeepsOn old new = (s : SetState) → SetStands old (at_rest s) → kept new.held ≤ share new.held

-- and so does a call of `pump`, whatever its routing table stands for
abbrev pub PumpKeepsOn : {C : Type 0} → Circuits C → Circuits C → Type 0
PumpKeepsOn old new = (log : List Item) (w : Waiting) → StandsFor old.router.table log → SetStands old w → kept new.held ≤ share new.held
