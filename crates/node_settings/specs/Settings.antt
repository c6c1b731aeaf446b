-- The settings of a file as a node takes them, and the repeaters over which it reaches its peers. Own profile.
use Rattle.std.specs.Prelude.{ℕ, Bool, false, ◌==◌, List, [], ◌∷◌, map, Result, Ok, Err}
use Rattle.arrayvec.specs.ArrayVec.{ArrayVec}
use Rattle.ax_address.specs.Callsign.{Callsign}
use Rattle.ax_address.specs.declared.address.Address.{Address}
use Rattle.ax_link.specs.declared.config.LinkConfig.{LinkConfig}
use Rattle.circuit_l4.specs.declared.config.EndConfig.{EndConfig}
use Rattle.circuit_l4.specs.declared.pair.Pair.{Pair}
use Rattle.link_table.specs.Calls as links
use Rattle.link_table.specs.declared.path_refusal.PathRefusal.{PathRefusal}
use Rattle.network_file.specs.declared.plan.declarations.Declaration.{Declaration}
use Rattle.network_file.specs.declared.plan.keys.Key.TheVariants.{Window, Timeout, Retries, Busy, Inactive, TimeToLive, Life, Least, MinimumQuality, PathQuality, Links, Modulo, LinkWindow, SelectiveReject, T1, T3, LinkRetries, Prompt, Interval}
use Rattle.network_file.specs.declared.plan.vias.Via.{Via}
use Rattle.network_file.specs.Keys.{Assignment, value_of}
use Rattle.node_core.specs.declared.config.NodeConfig.{NodeConfig}
use Rattle.ax_address.specs.Octets.{address_of}
use Rattle.route_table.specs.declared.route.RouteRules.{RouteRules}
use Rattle.node_model.specs.States.{NodeState, at_links}

-- ---- the settings of a node

abbrev pub route_rules : List Assignment → ℕ → RouteRules
route_rules settings node =
    record { life = value_of settings node Life; least = value_of settings node Least; minq = value_of settings node MinimumQuality }

abbrev pub end_config : List Assignment → ℕ → EndConfig
end_config settings node =
    let v = value_of settings node in
    record { window = v Window; timeout = v Timeout; retries = v Retries; busy = v Busy; inactive = v Inactive }

abbrev pub link_config : List Assignment → ℕ → LinkConfig
link_config settings node =
    let v = value_of settings node in
    record { window = v LinkWindow; srej = v SelectiveReject == 1; t1 = v T1; t3 = v T3; retries = v LinkRetries }

-- with the pair and the number of its first end
abbrev pub config_of : List Assignment → Declaration → Pair → ℕ → NodeConfig
config_of settings d pair first =
    record {
      call = d.call;
      alias = d.alias;
      routes = route_rules settings d.node;
      quality = value_of settings d.node PathQuality;
      ttl = value_of settings d.node TimeToLive;
      ends = end_config settings d.node;
      links = value_of settings d.node Links == 1;
      modulo128 = value_of settings d.node Modulo == 128;
      link = link_config settings d.node;
      prompt = value_of settings d.node Prompt == 1;
      interval = value_of settings d.node Interval;
      pair = pair;
      first = first;
    }

-- ---- the repeaters over which it reaches its peers

-- a repeater that hasn't repeated yet, with the reserved bits 1
abbrev pub repeater : Callsign → Address
repeater call = address_of call false

abbrev pub path_of : Via → ArrayVec Address
path_of via = record { items = map repeater via.repeaters.items }

-- a node reaches a peer over its repeaters; a way that it refuses isn't set, but a file names none of these
abbrev pub with_via_by : Result (Unit {0}) PathRefusal → Via → NodeState → NodeState
with_via_by (Ok _) via n = record n { station = at_links (links.with_path via.peer (path_of via)) n.station }
with_via_by (Err why) via n = n

abbrev pub with_via : Via → NodeState → NodeState
with_via via n = with_via_by (links.path_answer via.peer (path_of via) n.station.links) via n

abbrev pub with_vias : List Via → NodeState → NodeState
with_vias [] n = n
with_vias (via ∷ vias) n = with_vias vias (with_via via n)

abbrev pub is_via_of : ℕ → Via → Bool
is_via_of node via = via.node == node
