use Rattle.std.specs.Prelude.{slice_get}
use Rattle.station_looks.specs.Nodes.{node_path, path_at}
use Rattle.station_looks.proofs.Lent.{shown_by, shown_none}
use Rattle.station_looks.proofs.nodes.path_at.Goals as goal

pub returns-in-Some : goal.returns-in-Some
unfolding path_at
returns-in-Some c = λ s stand. shown_by (node_path c.args.peer.now) c.in-Some.node.now (slice_get s.nodes c.args.at) _ (c.in-Some.ensures s stand) c.path_of.ensures

pub returns-in-None : goal.returns-in-None
unfolding path_at
returns-in-None c = λ s stand. shown_none (node_path c.args.peer.now) (slice_get s.nodes c.args.at) (c.in-None.ensures s stand)
