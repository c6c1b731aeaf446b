use Rattle.std.specs.Prelude.{Option, slice_get}
use Rattle.std.specs.Option.{option_map}
use Rattle.node_model.specs.States.{NodeState}
use Rattle.station_looks.specs.Nodes.{link_at, node_link, seen_link}
use Rattle.station_looks.proofs.Lent.{shown_by, shown_none}
use Rattle.station_looks.proofs.nodes.link_at.Goals as goal

pub returns-in-Some : goal.returns-in-Some
unfolding link_at
returns-in-Some c = λ s stand.
    shown_by (λ (o : Option NodeState). option_map seen_link (node_link c.args.peer.now o)) c.in-Some.node.now (slice_get s.nodes c.args.at) _
    (c.in-Some.ensures s stand) c.link_of.ensures

pub returns-in-None : goal.returns-in-None
unfolding link_at
returns-in-None c = λ s stand.
    shown_none (λ (o : Option NodeState). option_map seen_link (node_link c.args.peer.now o)) (slice_get s.nodes c.args.at) (c.in-None.ensures s stand)
