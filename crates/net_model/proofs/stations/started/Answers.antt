use Rattle.std.proofs.Common.{subst}
use Rattle.node_core.specs.Configs.{IsConfig, new_node}
use Rattle.node_core.specs.Standing.{NodeStands}
use Rattle.node_settings.specs.Settings.{config_of}
use Rattle.net_model.proofs.Numbers.{starts_well}
use Rattle.net_model.proofs.stations.started.Goals as goal

pub returns-clause-stands : goal.returns-clause-stands
returns-clause-stands c =
    let plan = c.args.network.now in
    let goes = rw c.vias.ensures at c.in_ok-set_paths.ensures in
    let config = rw c.settings.ensures at c.config_of-config.ensures.value in
    goes (new_node (config_of plan.settings c.args.declared.now c.args.pair c.args.first)) (subst (λ k. NodeStands c.in_ok-node.node (new_node k)) config c.in_ok-node.ensures.stands)

pub returns-clause-start : goal.returns-clause-start
returns-clause-start c =
    let plan = c.args.network.now in
    let d = c.args.declared.now in
    let config = rw c.settings.ensures at c.config_of-config.ensures.value in
    starts_well plan d c.args.pair c.args.first c.is_callsign.ensures (subst (λ k. IsConfig k) config c.config_of-config.ensures.good)
