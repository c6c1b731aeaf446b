-- What makes a plan sound: its nodes' circuits start as circuits do, and each of its instructions is one. Own profile.
use Rattle.std.specs.Prelude.{List, map}
use Rattle.std.specs.List.{AllByRecursion}
use Rattle.circuit_table.specs.Runs.{AreStarts}
use Rattle.circuit_table.specs.Sets.{SetState}
use Rattle.circuit_table.specs.Pairs.{IsPair}
use Rattle.network_file.specs.declared.plan.instructions.NumberedInstruction.{NumberedInstruction}
use Rattle.network_file.specs.Plan.{Plan}
use Rattle.network_file.specs.declared.plan.instructions.Instruction.{Instruction}
use Rattle.network_file.specs.declared.plan.instructions.Instruction.TheVariants.{Open, Restart}
use Rattle.ax_address.specs.Callsign.{IsCallsign}
use Rattle.net_model.specs.Starting.{Placed, new_nodes}

-- the circuits of a node, and of all nodes
abbrev pub set_of : Placed → SetState
set_of p = p.state.station.set.set

abbrev pub sets_of : List Placed → List SetState
sets_of nodes = map set_of nodes

-- the circuits of the nodes as they start
abbrev pub first_sets : Plan → List SetState
first_sets plan = sets_of (new_nodes plan)

-- a circuit is asked for with a callsign, and a node starts again with a pair
abbrev pub IsInstruction : Instruction → Type 0
IsInstruction (Open node dest) = IsCallsign dest.letters dest.ssid
IsInstruction (Restart node pair) = IsPair (record { index = pair.index; ident = pair.ident })
IsInstruction _ = Unit {0}

abbrev pub IsLine : NumberedInstruction → Type 0
IsLine l = IsInstruction l.instruction

-- the nodes' circuits start as circuits do, and each instruction is one
pub record IsSound (plan : Plan) : Type 0 where
  pub starts : AreStarts (first_sets plan)
  pub instructions : AllByRecursion IsLine plan.instructions
