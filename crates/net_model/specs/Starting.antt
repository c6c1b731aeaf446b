-- How the nodes of a network start. Own profile.
use Rattle.std.specs.Prelude.{ℕ, zero, suc, Bool, ◌==◌, List, [], ◌++◌, map, filter, Option, Some, None, if◌then◌else◌}
use Rattle.circuit_l4.specs.declared.pair.Pair.{Pair}
use Rattle.network_file.specs.declared.plan.declarations.Declaration.{Declaration}
use Rattle.network_file.specs.declared.plan.keys.Key.TheVariants.{Mail}
use Rattle.network_file.specs.Keys.{Assignment, value_of}
use Rattle.network_file.specs.Plan.{Plan}
use Rattle.node_core.specs.Configs.{new_node}
use Rattle.node_settings.specs.Settings.{config_of, is_via_of, with_vias}
use Rattle.node_model.specs.States.{NodeState}
use Rattle.node_mail.specs.Lists.{Lists, nothing_kept}

-- a node as it starts
abbrev pub started : Plan → Declaration → Pair → ℕ → NodeState
started plan d pair first = with_vias (filter (is_via_of d.node) plan.vias) (new_node (config_of plan.settings d pair first))

-- ---- all nodes of a network

-- a node of a network, and its state
pub record Placed : Type 0 where
  pub declared : Declaration
  pub state : NodeState

-- a node that starts for the first time gives the pair (1, 1) first, and numbers its ends from 1
abbrev pub new_placed : Plan → Declaration → Placed
new_placed plan d = record { declared = d; state = started plan d (record { index = 1; ident = 1 }) 1 }

abbrev pub has_number : ℕ → Declaration → Bool
has_number number d = d.node == number

-- the declarations of so many numbers from `number` on
unfoldable pub by_number : List Declaration → ℕ → ℕ → List Declaration
by_number declared number zero = []
by_number declared number (suc count) = filter (has_number number) declared ++ by_number declared (suc number) count

-- the nodes of a network by number, from 1 to 16, as they start
abbrev pub new_nodes : Plan → List Placed
new_nodes plan = map (new_placed plan) (by_number plan.declared 1 16)

-- ---- their mail: a node keeps none unless its key says so, and nothing at first

abbrev pub new_mail : List Assignment → Declaration → Option Lists
new_mail settings d = if value_of settings d.node Mail == 1 then Some (nothing_kept d.call) else None

abbrev pub new_mails : Plan → List (Option Lists)
new_mails plan = map (new_mail plan.settings) (by_number plan.declared 1 16)
