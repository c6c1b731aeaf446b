-- How a node starts that runs alone. Own profile.
use Rattle.std.specs.Prelude.{◌==◌, filter, Option, Some, None, unwrap_or}
use Rattle.circuit_l4.specs.declared.pair.Pair.{Pair}
use Rattle.network_file.specs.declared.plan.keys.Key.TheVariants.{Interval, Prompt}
use Rattle.network_file.specs.declared.plan.live.LiveNode.{LiveNode}
use Rattle.network_file.specs.Pairs.{PairNumbers}
use Rattle.network_file.specs.Keys.{set_to}
use Rattle.node_settings.specs.Settings.{config_of, is_via_of, with_vias}
use Rattle.node_core.specs.declared.config.NodeConfig.{NodeConfig}
use Rattle.node_core.specs.Configs.{new_node}
use Rattle.node_model.specs.States.{NodeState}

-- its settings as they were declared
abbrev pub said_config : LiveNode → Pair → NodeConfig
said_config live first = config_of live.settings.items live.declared first 1

-- the pair that it gives first: (1, 1) where none is named
abbrev pub first_pair : Option PairNumbers → Pair
first_pair None = record { index = 1; ident = 1 }
first_pair (Some p) = record { index = p.index; ident = p.ident }

-- its settings: its users are served at a prompt, and it does a round each hour, unless it is declared otherwise
abbrev pub live_config : LiveNode → NodeConfig
live_config live =
    record (said_config live (first_pair live.pair)) {
      prompt = unwrap_or (set_to live.settings.items live.declared.node Prompt) 1 == 1;
      interval = unwrap_or (set_to live.settings.items live.declared.node Interval) 3600000;
    }

abbrev pub live_started : LiveNode → NodeState
live_started live = with_vias (filter (is_via_of live.declared.node) live.vias.items) (new_node (live_config live))
