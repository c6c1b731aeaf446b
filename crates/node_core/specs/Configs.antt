-- The settings with which a node starts.
use Rattle.std.specs.Prelude.{◌≤◌, ◌+◌, Bool, true, false, [], None}
use Rattle.ax_link.specs.State.{count_end}
use Rattle.circuit_l4.specs.Opening as ends
use Rattle.circuit_table.specs.Pairs.{IsPair}
use Rattle.circuit_table.specs.Pumps.{at_rest}
use Rattle.circuit_table.specs.Sets as sets
use Rattle.link_table.specs.Calls.{no_links}
use Rattle.radio_base.specs.Modulus.{extended_if, modulus_size}
use Rattle.radio_base.specs.declared.modulus.TheConstants.{COUNT_MAX}
use Rattle.route_table.specs.Held.{AreRules}
use Rattle.node_core.specs.declared.config.NodeConfig.{NodeConfig}
use Rattle.node_model.specs.States.{NodeState, State}

-- what each part asks of its settings
pub record IsConfig (c : NodeConfig) : Type 0 where
  pub routes : AreRules c.routes
  pub ttl : 1 ≤ c.ttl
  pub ends : ends.IsConfig c.ends
  pub t1 : c.link.t1 ≤ count_end
  pub t3 : c.link.t3 ≤ count_end
  pub interval : c.interval ≤ count_end
  pub pair : IsPair c.pair
  pub first : 1 ≤ c.first
  pub last : c.first ≤ COUNT_MAX + 1

-- a node as it starts, above its KISS bytes; one that hosts users, or not
abbrev pub start_of : Bool → NodeConfig → State
start_of hosts c =
    record {
      settings = record {
        call = c.call;
        alias = c.alias;
        rules = c.routes;
        path_quality = c.quality;
        qualities = [];
        prompt = c.prompt;
        hosts = hosts;
        interval = c.interval;
      };
      log = [];
      links = no_links c.call c.links (modulus_size (extended_if c.modulo128)) c.link;
      set = at_rest (sets.new_set c.call c.ttl c.call c.ends c.pair c.first);
      next_round = None;
      own = [];
      entries = [];
      sessions = [];
    }

abbrev pub new_station : NodeConfig → State
new_station c = start_of false c

abbrev pub node_of : Bool → NodeConfig → NodeState
node_of hosts c = record { stream = []; station = start_of hosts c }

abbrev pub new_node : NodeConfig → NodeState
new_node c = node_of false c

-- whoever holds it serves its users
abbrev pub hosting_node : NodeConfig → NodeState
hosting_node c = node_of true c
