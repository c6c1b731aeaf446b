use Rattle.std.proofs.Common.{◌∙◌}
use Rattle.std.specs.Prelude.{slice_get}
use Rattle.station_looks.specs.Nodes.{node_peers, peers_at, seen_of}
use Rattle.station_looks.proofs.Lent.{shown_by, shown_none}
use Rattle.station_looks.proofs.nodes.peers_at.Goals as goal

pub returns-in-Some : goal.returns-in-Some
unfolding peers_at
returns-in-Some c = λ s stand. shown_by (seen_of node_peers) c.in-Some.node.now (slice_get s.nodes c.args.at) _ (c.in-Some.ensures s stand) c.peers_of.ensures

pub returns-in-None : goal.returns-in-None
unfolding peers_at
returns-in-None c = λ s stand. c.new.ensures ∙ shown_none (seen_of node_peers) (slice_get s.nodes c.args.at) (c.in-None.ensures s stand)
