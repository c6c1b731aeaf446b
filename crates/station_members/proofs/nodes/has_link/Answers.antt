use Rattle.std.proofs.Common.{refl}
use Rattle.std.specs.Prelude.{Some}
use Rattle.node_model.specs.States.{NodeState}
use Rattle.station_members.specs.Nodes.{has_link}
use Rattle.station_members.proofs.NodesStand.{asked, asked_none}
use Rattle.station_members.proofs.nodes.has_link.Goals as goal

pub returns-then-at-nodes : goal.returns-then-at-nodes
returns-then-at-nodes c = λ ns stand.
    asked c.args.nodes.now ns c.args.at c.index-nodes-at.result (λ (n : NodeState). has_link c.args.peer.now (Some n)) (has_link c.args.peer.now) _ (λ n. refl) c.if-at-nodes.true c.index-nodes-at.is c.node_has_link.ensures stand

pub returns-else-at-nodes : goal.returns-else-at-nodes
returns-else-at-nodes c = λ ns stand. asked_none c.args.nodes.now ns c.args.at (has_link c.args.peer.now) c.if-at-nodes.false stand
