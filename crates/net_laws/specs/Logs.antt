-- That each node's table is that of its log, at each line. Own profile.
use Rattle.std.specs.Prelude.{ℕ, ◌≡◌, List, slice_get, Some}
use Rattle.network_file.specs.declared.plan.instructions.NumberedInstruction.{NumberedInstruction}
use Rattle.network_file.specs.Plan.{Plan}
use Rattle.node_core.specs.Standing.{Kept, circuits_of}
use Rattle.route_table.specs.Held.{StandsFor}
use Rattle.net_model.specs.declared.members.Member.{Member}
use Rattle.net_model.specs.Lines.{do_lines, world}
use Rattle.net_model.specs.Starting.{Placed}
use Rattle.net_model.specs.Standing.{IsTraceOf, Left}
use Rattle.net_model.specs.World.{start}

-- by the rules of the node, its table holds the usable routes of its log, and forgets all else of it
pub record TableIsOf (k : Kept) (p : Placed) : Type 0 where
  pub rules : (circuits_of k).router.table.rules ≡ p.state.station.settings.rules
  pub log : StandsFor (circuits_of k).router.table p.state.station.log

-- so it is of each node that is left
abbrev pub TablesAreOf : List Member → List Placed → Type 0
TablesAreOf members placed =
    (at : ℕ) (m : Member) → slice_get members at ≡ Some m → (p : Placed) × (slice_get placed at ≡ Some p) × TableIsOf m.node p

-- The first lines of a file, by themselves, come to what the file comes to behind them; and what is left of a replay of them has the
-- tables of the logs.
pub record TablesAt (plan : Plan) (done : List NumberedInstruction) : Type 0 where
  pub front : world (record plan { instructions = done }) ≡ do_lines plan done (start plan)
  pub tables : (left : Left) → IsTraceOf left (do_lines plan done (start plan)) → TablesAreOf left.members (do_lines plan done (start plan)).nodes

-- so it is at each line
abbrev pub TablesOfLogs : Type 0
TablesOfLogs = (plan : Plan) (done : List NumberedInstruction) → TablesAt plan done
