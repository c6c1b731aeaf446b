use Rattle.std.proofs.Common.{subst}
use Rattle.node_core.specs.Configs.{new_node}
use Rattle.node_core.specs.Standing.{NodeStands}
use Rattle.node_cmd.specs.Starting.{live_config}
use Rattle.node_cmd.proofs.starting.live_node.Goals as goal

pub returns : goal.returns
returns c =
    let goes = rw c.as_slice.ensures.value at c.in_ok-set_paths.ensures in
    goes (new_node (live_config c.args.live.now)) (subst (λ k. NodeStands c.in_ok-node.node (new_node k)) c.live_config.ensures.value c.in_ok-node.ensures.stands)
